use Rattle.std.proofs.Common.{◌≡◌, ◌∙◌, [], ◌∷◌, ◌++◌, take, ap, sym}
use Rattle.std.proofs.lemmas.List.{take_more}
use Rattle.odb_values.specs.Key.{IsKey}
use Rattle.odb_model.specs.declared.write.Write.{Write}
use Rattle.odb_system.proofs.Items.{all-item}
use Rattle.odb_system.proofs.taking.keyed_copies.Goals as goal

pub loop-write-preserved : goal.loop-write-preserved
loop-write-preserved c =
    let ws = c.args.writes.now in
    let i = c.loop-write.write-index in
    let w : Write = c.write-item.result in (
      c.in_ok-push.ensures.items
          ∙ (λ j. c.loop-write.invariant.0 j ++ c.in_ok-copy.ensures j ∷ [])
          ∙ sym (take_more ws i w c.loop-write-test.true ∙ ap (λ (x : Write). take i ws ++ x ∷ []) (sym c.write-item.is)),
      all-item (λ (x : Write). IsKey x.key) ws i w c.loop-write-test.true c.write-item.is c.as_slice-values.ensures.key c.loop-write.invariant.1,
    )
