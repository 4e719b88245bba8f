use Rattle.odb_words.proofs.Moves.{lends_right}
use Rattle.odb_words.proofs.steps.lend_right.Goals as goal

pub split_seat-requires : goal.split_seat-requires
split_seat-requires c = (c.requires.seat.table_id, c.requires.seat.words, lends_right _ _ _ c.requires.seat.live c.requires.made)
