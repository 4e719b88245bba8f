use Rattle.std.proofs.Common.{◌∙◌, ap, sym, drop, ◌+◌}
use Rattle.odb_model.specs.State.{after_writes}
use Rattle.odb_plain.proofs.Inside.{inside, inside-in, inside-out}
use Rattle.odb_plain.proofs.part.put_inside.Goals as goal
use Rattle.odb_plain.proofs.part.put_inside.Goals.{then-contains+in_ok-put, else-contains}

pub loop-write-preserved : goal.loop-write-preserved
loop-write-preserved c =
    let range = c.args.range.now in
    let ws = c.args.writes.now in
    let i = c.loop-write.write-index in
    let rest = inside range (drop (i + 1) ws) in
    elim c.if-contains.branch [
      | then-contains+in_ok-put w ↦ ap (λ m. after_writes m rest) (w.rows-is ∙ w.in_ok-put.ensures.ok)
          ∙ inside-in range c.loop-write.rows ws i c.write-item.result c.loop-write-test.true c.write-item.is (sym w.if-contains.ensures) ∙ c.loop-write.invariant
      | else-contains w ↦ ap (λ m. after_writes m rest) w.rows-is
          ∙ inside-out range c.loop-write.rows ws i c.write-item.result c.loop-write-test.true c.write-item.is (sym w.if-contains.ensures) ∙ c.loop-write.invariant
    ]
