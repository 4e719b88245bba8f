use mathlib.Core.Option.{none}
use Rattle.atomic_table.specs.Table.{step}
use Rattle.odb_words.proofs.Moves.{looks}
use Rattle.odb_words.proofs.steps.look.Goals as goal

pub load-requires : goal.load-requires
load-requires c = (c.requires.table_id, c.requires.words, looks _ _ _ _ (step c.args.words.now.shared.table_id.slots 0 0 0 none))
