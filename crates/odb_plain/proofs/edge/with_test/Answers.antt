use Rattle.std.proofs.Common.{◌≡◌, ◌==◌, ◌∷◌, true, false, List, ap, sym, ◌∙◌}
use Rattle.std.specs.List.{filter}
use Rattle.odb_values.specs.declared.edge.Edge.{Edge}
use Rattle.odb_model.specs.declared.predicate.Compare.{Compare}
use Rattle.odb_model.specs.Where.{ColumnTest, tighter}
use Rattle.odb_plain.specs.Sides.{lies_inside, edge_by}
use Rattle.odb_plain.proofs.Edges.{edge-more, edge-passed}
use Rattle.odb_plain.proofs.edge.with_test.Goals as goal

pub returns-then-not-is_at : goal.returns-then-not-is_at
returns-then-not-is_at c = λ rest so.
    let here : (c.args.test.now.place == c.args.place) ≡ false = sym c.is_at.ensures ∙ c.if-not-is_at.true in
    so ∙ sym (edge-passed c.args.side c.args.place c.args.test.now rest here)

pub returns : goal.returns
returns c = λ rest so.
    let side = c.args.side in
    let test = c.args.test.now in
    let here : (test.place == c.args.place) ≡ true = sym c.is_at.ensures ∙ c.if-not-is_at.false in
    let first : c.in_ok-first.first ≡ edge_by side test.op test.value =
    c.in_ok-first.ensures ∙ ap (λ (op : Compare). edge_by side op c.value.result.now) c.op.ensures ∙ ap (edge_by side test.op) c.value.ensures in
    c.tighter.ensures
    ∙ ap (λ (e : Edge). tighter (lies_inside side) e c.args.edge) first
    ∙ ap (tighter (lies_inside side) (edge_by side test.op test.value)) so
    ∙ sym (edge-more side c.args.place test rest here)
