use Rattle.odb_words.proofs.Moves.{notes}
use Rattle.odb_words.proofs.steps.note_from.Goals as goal

pub split_seat-requires : goal.split_seat-requires
split_seat-requires c = (c.requires.seat.table_id, c.requires.seat.words, notes _ _ _ c.requires.seat.live c.requires.made)
