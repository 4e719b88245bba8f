use Rattle.odb_words.proofs.Makes.{makes}
use Rattle.odb_words.proofs.steps.make_next.Goals as goal

pub split_seat-requires : goal.split_seat-requires
split_seat-requires c = (c.requires.seat.table_id, c.requires.seat.words, makes _ _ _ c.requires.book)
