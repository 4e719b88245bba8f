use Rattle.std.proofs.Common.{◌∙◌, ap, sym, is_some, take}
use Rattle.std.specs.FinMap.{get, get-empty}
use Rattle.odb_model.specs.State.{table_key_cmp, after_writes, replay}
use Rattle.odb_plain.proofs.Inside.{replay-item}
use Rattle.odb_plain.proofs.net.has_row.Goals as goal

pub loop-entry-init : goal.loop-entry-init
loop-entry-init c = ap is_some (get-empty table_key_cmp c.args.at.now)

pub loop-entry-preserved : goal.loop-entry-preserved
loop-entry-preserved c =
    let at = c.args.at.now in
    let s = replay (take c.loop-entry.entry-index c.args.history.now) in
    ap (λ t. is_some (get t at)) (replay-item c.args.history.now c.loop-entry.entry-index c.entry-item.result c.loop-entry-test.true c.entry-item.is)
    ∙ ap (λ ws. is_some (get (after_writes s ws) at)) (sym c.as_slice.ensures) ∙ c.is_there_after-there.ensures s c.loop-entry.invariant
