use Rattle.std.proofs.Common.{◌≡◌, ◌∷◌, ◌++◌, true, false, List, Some, None, sym, ◌∙◌, ap, subst}
use Rattle.std.specs.Option.{option_copied}
use Rattle.std.specs.Ordering.{is_eq}
use Rattle.odb_bank.specs.declared.kept.Kept.{Kept}
use Rattle.odb_bank.specs.Order.{Each, IsInOrder}
use Rattle.odb_bank.specs.Tree.{items}
use Rattle.std.specs.Prelude.{find}
use Rattle.odb_rowsource.specs.Stand.{stand, is_behind}
use Rattle.odb_bank.specs.Best.{has_row_in, is_reached}
use Rattle.odb_bank.proofs.Searches.{find_none, found_left, found_here, found_right, before_range, not_behind, past_range, reach_past, not_reached, stands_less, stands_greater, stands_inside}
use Rattle.odb_bank.proofs.tree.Tree.+first_reached.Goals as goal
use Rattle.odb_bank.proofs.tree.Tree.+first_reached.Goals.{then-eq-via-then-eq, then-eq-via-else-eq+then-not-is_behind}

pub returns-then-eq : goal.returns-then-eq
returns-then-eq t c =
    let v = c.in-Fork.fork.value in
    let whole : v.0 ++ v.1 ∷ v.2 ≡ c.args.self.now = sym (ap items c.in-Fork.is) ∙ c.self.view_is in
    let order : IsInOrder (v.0 ++ v.1 ∷ v.2) = subst IsInOrder (ap items c.in-Fork.is) c.self.invariant in
    let d = c.deref-node.result.now in
    let node : d ≡ v = c.deref-node.ensures in
    let whole_rows = c.args.whole.now in
    let range = c.args.range.now in
    let after = option_copied c.args.after in
    let p = is_reached whole_rows range after in
    let stands : c.stand-stands.result ≡ stand range v.1.at = c.stand-stands.ensures ∙ ap (λ (q : List Kept × Kept × List Kept). stand range q.1.at) node in
    let none : Each (λ (y : Kept). is_reached whole_rows range after y ≡ false) v.0 × (is_reached whole_rows range after v.1 ≡ false) = elim c.then-eq.branch [
      | then-eq-via-then-eq w ↦ before_range whole_rows range after v.0 v.1 v.2 order (sym stands ∙ stands_less c.stand-stands.result (sym c.eq.ensures ∙ w.if-eq.true))
      | then-eq-via-else-eq+then-not-is_behind w ↦ not_behind whole_rows range after v.0 v.1 v.2 order
          (sym (w.is_behind.ensures ∙ ap (λ (q : List Kept × Kept × List Kept). is_behind range.table after q.1.at) node) ∙ w.if-not-is_behind.true)
    ] in
    c.first_reached.ensures ∙ ap (λ (q : List Kept × Kept × List Kept). find p q.2) node ∙ found_right p v.0 v.1 v.2 (find_none p v.0 none.0) none.1 ∙ ap (find p) whole

pub returns-in-Some : goal.returns-in-Some
returns-in-Some t c =
    let v = c.in-Fork.fork.value in
    let whole : v.0 ++ v.1 ∷ v.2 ≡ c.args.self.now = sym (ap items c.in-Fork.is) ∙ c.self.view_is in
    let order : IsInOrder (v.0 ++ v.1 ∷ v.2) = subst IsInOrder (ap items c.in-Fork.is) c.self.invariant in
    let d = c.deref-node.result.now in
    let node : d ≡ v = c.deref-node.ensures in
    let whole_rows = c.args.whole.now in
    let range = c.args.range.now in
    let after = option_copied c.args.after in
    let p = is_reached whole_rows range after in
    let stands : c.stand-stands.result ≡ stand range v.1.at = c.stand-stands.ensures ∙ ap (λ (q : List Kept × Kept × List Kept). stand range q.1.at) node in
    let found : find p v.0 ≡ Some c.in-Some.found.now = ap (λ (q : List Kept × Kept × List Kept). find p q.0) (sym node) ∙ sym c.in-Some.ensures in
    found_left p v.0 v.1 v.2 c.in-Some.found.now found ∙ ap (find p) whole

pub returns-then-eq-2 : goal.returns-then-eq-2
returns-then-eq-2 t c =
    let v = c.in-Fork.fork.value in
    let whole : v.0 ++ v.1 ∷ v.2 ≡ c.args.self.now = sym (ap items c.in-Fork.is) ∙ c.self.view_is in
    let order : IsInOrder (v.0 ++ v.1 ∷ v.2) = subst IsInOrder (ap items c.in-Fork.is) c.self.invariant in
    let d = c.deref-node.result.now in
    let node : d ≡ v = c.deref-node.ensures in
    let whole_rows = c.args.whole.now in
    let range = c.args.range.now in
    let after = option_copied c.args.after in
    let p = is_reached whole_rows range after in
    let stands : c.stand-stands.result ≡ stand range v.1.at = c.stand-stands.ensures ∙ ap (λ (q : List Kept × Kept × List Kept). stand range q.1.at) node in
    let none_left : find p v.0 ≡ None = ap (λ (q : List Kept × Kept × List Kept). find p q.0) (sym node) ∙ sym c.in_default.ensures in
    let past = past_range whole_rows range after v.0 v.1 v.2 order (sym stands ∙ stands_greater c.stand-stands.result (sym c.eq-in-Fork.ensures ∙ c.if-eq-2.true)) in
    sym (find_none p v.2 past.1) ∙ found_right p v.0 v.1 v.2 none_left past.0 ∙ ap (find p) whole

pub returns-then-has_row : goal.returns-then-has_row
returns-then-has_row t c =
    let v = c.in-Fork.fork.value in
    let whole : v.0 ++ v.1 ∷ v.2 ≡ c.args.self.now = sym (ap items c.in-Fork.is) ∙ c.self.view_is in
    let order : IsInOrder (v.0 ++ v.1 ∷ v.2) = subst IsInOrder (ap items c.in-Fork.is) c.self.invariant in
    let d = c.deref-node.result.now in
    let node : d ≡ v = c.deref-node.ensures in
    let whole_rows = c.args.whole.now in
    let range = c.args.range.now in
    let after = option_copied c.args.after in
    let p = is_reached whole_rows range after in
    let stands : c.stand-stands.result ≡ stand range v.1.at = c.stand-stands.ensures ∙ ap (λ (q : List Kept × Kept × List Kept). stand range q.1.at) node in
    let none_left : find p v.0 ≡ None = ap (λ (q : List Kept × Kept × List Kept). find p q.0) (sym node) ∙ sym c.in_default.ensures in
    let inside : is_eq (stand range v.1.at) ≡ true = ap is_eq (sym stands) ∙ stands_inside c.stand-stands.result (sym c.eq.ensures ∙ c.if-eq.false) (sym c.eq-in-Fork.ensures ∙ c.if-eq-2.false) in
    let behind : is_behind range.table after v.1.at ≡ true = sym (c.is_behind.ensures ∙ ap (λ (q : List Kept × Kept × List Kept). is_behind range.table after q.1.at) node) ∙ c.if-not-is_behind.false in
    let has : has_row_in whole_rows v.1.at ≡ true = ap (λ (q : List Kept × Kept × List Kept). has_row_in whole_rows q.1.at) (sym node) ∙ sym c.has_row.ensures ∙ c.if-has_row.true in
    ap (λ (q : List Kept × Kept × List Kept). Some q.1) node ∙ found_here p v.0 v.1 v.2 none_left (reach_past whole_rows range after v.1 inside behind has) ∙ ap (find p) whole

pub returns-else-has_row : goal.returns-else-has_row
returns-else-has_row t c =
    let v = c.in-Fork.fork.value in
    let whole : v.0 ++ v.1 ∷ v.2 ≡ c.args.self.now = sym (ap items c.in-Fork.is) ∙ c.self.view_is in
    let order : IsInOrder (v.0 ++ v.1 ∷ v.2) = subst IsInOrder (ap items c.in-Fork.is) c.self.invariant in
    let d = c.deref-node.result.now in
    let node : d ≡ v = c.deref-node.ensures in
    let whole_rows = c.args.whole.now in
    let range = c.args.range.now in
    let after = option_copied c.args.after in
    let p = is_reached whole_rows range after in
    let stands : c.stand-stands.result ≡ stand range v.1.at = c.stand-stands.ensures ∙ ap (λ (q : List Kept × Kept × List Kept). stand range q.1.at) node in
    let none_left : find p v.0 ≡ None = ap (λ (q : List Kept × Kept × List Kept). find p q.0) (sym node) ∙ sym c.in_default.ensures in
    let none : has_row_in whole_rows v.1.at ≡ false = ap (λ (q : List Kept × Kept × List Kept). has_row_in whole_rows q.1.at) (sym node) ∙ sym c.has_row.ensures ∙ c.if-has_row.false in
    c.first_reached-in-Fork-2.ensures ∙ ap (λ (q : List Kept × Kept × List Kept). find p q.2) node ∙ found_right p v.0 v.1 v.2 none_left (not_reached whole_rows range after v.1 none) ∙ ap (find p) whole
