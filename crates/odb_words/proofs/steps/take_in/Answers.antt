use Rattle.std.proofs.Common.{◌∙◌}
use Rattle.odb_words.proofs.Moves.{meets}
use Rattle.odb_words.proofs.steps.take_in.Goals as goal

pub join_seat-requires : goal.join_seat-requires
join_seat-requires c = (c.requires.seat.table_id, c.requires.names ∙ c.requires.seat.table_id, c.requires.note.0, c.requires.seat.words, meets _ _ _ _ _ c.requires.seat.live c.requires.apart c.requires.note.1 c.requires.pen c.requires.right)
