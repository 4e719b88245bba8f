use Rattle.std.proofs.Common.{refl}
use Rattle.odb_words.proofs.Appends.{appends_at}
use Rattle.odb_words.proofs.steps.write.Goals as goal

pub compare_exchange_with-requires : goal.compare_exchange_with-requires
compare_exchange_with-requires c = (c.requires.seat.table_id, c.requires.seat.words, appends_at _ _ _ _ c.args.entry.now.number c.args.entry.now c.requires.view c.requires.pen c.requires.right.0 c.requires.right.1 c.requires.number refl)
