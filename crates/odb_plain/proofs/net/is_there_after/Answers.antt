use Rattle.std.proofs.Common.{◌∙◌, ap, sym, cond, is_some, take}
use Rattle.std.specs.FinMap.{get}
use Rattle.odb_model.specs.State.{after_writes}
use Rattle.odb_plain.proofs.Nets.{get-after_item}
use Rattle.odb_plain.proofs.net.is_there_after.Goals as goal
use Rattle.odb_plain.proofs.net.is_there_after.Goals.{then-is_at, else-is_at}

pub loop-write-preserved : goal.loop-write-preserved
loop-write-preserved c s before =
    let at = c.args.at.now in
    let w = c.write-item.result in
    let row = get (after_writes s (take c.loop-write.write-index c.args.writes.now)) at in
    let step = ap is_some (get-after_item c.args.writes.now c.loop-write.write-index w c.loop-write-test.true c.write-item.is s at) in
    elim c.if-is_at.branch [
      | then-is_at v ↦ step ∙ ap (λ b. is_some (cond b w.row row)) (sym v.if-is_at.ensures) ∙ sym (v.there-is ∙ v.is_some-there.ensures)
      | else-is_at v ↦ step ∙ ap (λ b. is_some (cond b w.row row)) (sym v.if-is_at.ensures) ∙ c.loop-write.invariant s before ∙ sym v.there-is
    ]
