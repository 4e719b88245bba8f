use Rattle.std.proofs.Common.{subst}
use Rattle.std.specs.List.{All}
use Rattle.std.proofs.lemmas.List.{take_all}
use Rattle.std.proofs.lemmas.List.Elements.{All-more}
use Rattle.odb_reply.specs.Unbroken.{IsUnbroken}
use Rattle.odb_reply.proofs.Commas.{values_text_more, values_text_first}
use Rattle.odb_reply.proofs.Lines.{row-no_lf}
use Rattle.odb_reply.proofs.values.put_values.Goals as goal
use Rattle.odb_reply.proofs.values.put_values.Goals.{then-at-gt0+in_ok-push_str, else-at-gt0}

pub loop-at-preserved : goal.loop-at-preserved
loop-at-preserved c =
    let v = c.index-values-at.result in
    record {
      text = elim c.if-at-gt0.branch [
        | then-at-gt0+in_ok-push_str w ↦
            let on = values_text_more _ _ c.args.values.now c.loop-at.at v c.loop-at-test.true c.index-values-at.is w.if-at-gt0.true c.loop-at.invariant.text in
            cc (on, w.in_ok-push_str.ensures.bytes, c.in_ok-put_value.ensures.text)
        | else-at-gt0 w ↦
            let on = values_text_first _ _ c.args.values.now c.loop-at.at v c.loop-at-test.true c.index-values-at.is w.if-at-gt0.false c.loop-at.invariant.text in
            cc (on, c.in_ok-put_value.ensures.text)
      ];
      unbroken = All-more IsUnbroken c.args.values.now c.loop-at.at v c.loop-at-test.true c.loop-at.invariant.unbroken (subst IsUnbroken c.index-values-at.is c.in_ok-put_value.ensures.unbroken);
    }

pub returns-clause-unbroken : goal.returns-clause-unbroken
returns-clause-unbroken c =
    row-no_lf c.args.values.now (subst (All IsUnbroken) (take_all c.loop-at.at c.args.values.now c.loop-at-test.false) c.loop-at.invariant.unbroken)
