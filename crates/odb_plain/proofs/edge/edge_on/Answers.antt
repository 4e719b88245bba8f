use Rattle.std.proofs.Common.{◌≡◌, ◌==◌, ◌+◌, ◌-◌, ◌<◌, ◌∷◌, ℕ, List, length, drop, ap, sym, ◌∙◌, arith}
use Rattle.std.specs.List.{filter}
use Rattle.odb_model.specs.Where.{ColumnTest}
use Rattle.odb_plain.specs.Sides.{edge_of}
use Rattle.odb_plain.proofs.Items.{drop-item}
use Rattle.odb_plain.proofs.edge.edge_on.Goals as goal

pub loop-left-preserved : goal.loop-left-preserved
loop-left-preserved c =
    let side = c.args.side in
    let place = c.args.place in
    let tests : List ColumnTest = c.args.tests.now in
    let left = c.loop-left.left in
    let test : ColumnTest = c.index-tests-left.result in
    let within : left - 1 < length tests = omega arith in
    let next : left - 1 + 1 ≡ left = omega arith in
    let here : drop (left - 1) tests ≡ test ∷ drop left tests = drop-item tests (left - 1) test within c.index-tests-left.is ∙ ap (λ (n : ℕ). test ∷ drop n tests) next in
    record {
      edge = c.in_ok-edge.ensures (drop left tests) c.loop-left.invariant.edge ∙ ap (λ (ts : List ColumnTest). edge_of side (filter (λ (one : ColumnTest). one.place == place) ts)) (sym here);
      within = omega arith;
    }
