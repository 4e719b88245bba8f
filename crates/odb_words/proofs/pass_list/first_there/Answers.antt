use Rattle.std.proofs.Common.{sym, ◌∙◌}
use Rattle.odb_words.proofs.Sits.{none_step}
use Rattle.odb_words.proofs.pass_list.first_there.Goals as goal

pub loop-place-preserved : goal.loop-place-preserved
loop-place-preserved c = none_step c.args.passes.now c.loop-place.place _ c.loop-place-test.true c.index-passes-place.is (sym c.is_some.ensures ∙ c.if-is_some.false) c.loop-place.invariant
