use Rattle.std.proofs.Common.{◌∙◌, ◌++◌, ap}
use Rattle.odb_values.specs.Listed.{Listed}
use Rattle.odb_model.specs.declared.write.Write.{Write}
use Rattle.odb_model.specs.State.{replay}
use Rattle.odb_plain.proofs.Nets.{kept, kept-all}
use Rattle.odb_plain.proofs.net.net_writes.Goals as goal

pub loop-at-init : goal.loop-at-init
loop-at-init c =
    let s = replay c.args.history.now in
    let gives = c.into_iter-at-iterator.ensures.into_iter_gives in
    record {
      all = ap (λ (l : Listed Write). l.items ++ kept s c.into_iter-at-iterator.result) c.new-net.ensures
          ∙ ap (kept s) gives.0 ∙ kept-all s c.args.write_set.now c.in_ok-items.items gives.5 c.in_ok-items.ensures;
      none_spare = ap (λ (l : Listed Write). l.spare) c.new-net.ensures;
    }
