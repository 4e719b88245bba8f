use Rattle.std.proofs.Common.{◌≡◌, ◌∷◌, ◌++◌, sym, ◌∙◌, ap, rules, arith, length-append}
use Rattle.odb_bank.specs.declared.kept.Kept.{Kept}
use Rattle.odb_bank.specs.Tree.{items}
use Rattle.odb_bank.proofs.InOrder.{can_left, can_right}
use Rattle.odb_bank.proofs.tree.Tree.+join.Goals as goal

pub join-requires : goal.join-requires
join-requires t c =
    let v = c.in-Fork.left.value in
    let u = c.in-Fork-root.right.value in
    let first : v.0 ++ v.1 ∷ v.2 ≡ c.args.self = sym (ap items c.in-Fork.is) ∙ c.self.view_is in
    let second : u.0 ++ u.1 ∷ u.2 ≡ c.args.other = sym (ap items c.in-Fork-root.is) ∙ c.other.view_is in
    let middle : c.replace-middle.result ≡ u.0 = cc in
    (first_of (search rules, grind (arith, length-append {A = Kept}), omega (arith, length-append {A = Kept})), can_left c.args.self _ c.args.other u.0 u.2 u.1 (cc) (sym second) c.requires _ middle)

pub join-requires-else-rank : goal.join-requires-else-rank
join-requires-else-rank t c =
    let v = c.in-Fork.left.value in
    let u = c.in-Fork-root.right.value in
    let first : v.0 ++ v.1 ∷ v.2 ≡ c.args.self = sym (ap items c.in-Fork.is) ∙ c.self.view_is in
    let second : u.0 ++ u.1 ∷ u.2 ≡ c.args.other = sym (ap items c.in-Fork-root.is) ∙ c.other.view_is in
    let middle : c.replace-middle-else-rank.result ≡ v.2 = cc in
    (first_of (search rules, grind (arith, length-append {A = Kept}), omega (arith, length-append {A = Kept})), can_right c.args.self _ c.args.other v.0 v.2 v.1 (sym first) (cc) c.requires _ middle)
