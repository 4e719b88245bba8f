use Rattle.std.proofs.Common.{◌≡◌, reverse, ap, ◌∙◌}
use Rattle.std.proofs.lemmas.Result.{IfOk-weaker}
use Rattle.odb_values.specs.declared.range.Range.{Range}
use Rattle.odb_model.specs.Where.{range_by, range_of, tests_of}
use Rattle.odb_plan.proofs.Lists.{twice}
use Rattle.odb_plan.proofs.range.range_of.Goals as goal

pub returns : goal.returns
returns c =
    let t = c.args.table.now in
    let tests = tests_of t.columns c.args.filter.now in
    let same : reverse c.as_slice.result.now ≡ tests = ap reverse (c.as_slice.ensures.value ∙ c.in_ok-backward.ensures) ∙ twice tests in
    IfOk-weaker c.range_by.result (λ (r : Range). r ≡ range_by t (reverse c.as_slice.result.now)) (λ (r : Range). r ≡ range_of t c.args.filter.now)
    (λ r e. e ∙ ap (range_by t) same) c.range_by.ensures
