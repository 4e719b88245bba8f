use Rattle.odb_print.proofs.Joins.{joined_more, joined_first}
use Rattle.odb_print.proofs.put.put_joined.Goals as goal
use Rattle.odb_print.proofs.put.put_joined.Goals.{then-at-gt0+in_ok-push_str, else-at-gt0}

pub loop-at-preserved : goal.loop-at-preserved
loop-at-preserved g c =
    let item = c.index-items-at.result in
    elim c.if-at-gt0.branch [
      | then-at-gt0+in_ok-push_str w ↦
          let on = joined_more g.T.Put.text _ _ c.args.items.now c.loop-at.at item c.loop-at-test.true c.index-items-at.is w.if-at-gt0.true c.loop-at.invariant in
          cc (on, w.in_ok-push_str.ensures.bytes, c.in_ok-put.ensures)
      | else-at-gt0 w ↦
          let on = joined_first g.T.Put.text _ _ c.args.items.now c.loop-at.at item c.loop-at-test.true c.index-items-at.is w.if-at-gt0.false c.loop-at.invariant in
          cc (on, c.in_ok-put.ensures)
    ]
