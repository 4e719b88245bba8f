use Rattle.std.proofs.Common.{◌≡◌, sym, subst, rules, arith}
use Rattle.odb_bank.specs.Order.{IsInOrder}
use Rattle.odb_bank.specs.Tree.{items}
use Rattle.std.specs.Prelude.{map}
use Rattle.std.proofs.lemmas.Grind.{common_steps}
use Rattle.odb_bank.specs.Gates.{with_gate}
use Rattle.odb_bank.proofs.InOrder.{order_map, same_at}
use Rattle.odb_bank.proofs.tree.Tree.+note_run.Goals as goal
use Rattle.odb_bank.proofs.tree.Tree.+note_run.Goals.{in-Leaf, in-Fork}

pub invariant_of-self : goal.invariant_of-self
invariant_of-self t c =
    let f = with_gate c.args.run.now c.args.gate in
    let order : IsInOrder c.args.self.now = subst IsInOrder c.self.view_is c.self.invariant in
    let same : items c.match-self.self-inside.root ≡ map f c.args.self.now = first_of (search rules, grind (arith, common_steps)) in
    subst IsInOrder (sym same) (order_map f (same_at c.args.run.now c.args.gate) c.args.self.now order)
