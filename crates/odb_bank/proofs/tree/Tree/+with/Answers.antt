use Rattle.std.proofs.Common.{◌≡◌, [], ◌∷◌, ◌++◌, true, false, List, sym, ◌∙◌, ap, subst, Box}
use Rattle.std.specs.declared.alloc.Global.{Global}
use Rattle.std.specs.Ordering.{is_lt}
use Rattle.odb_model.specs.State.{table_key_cmp}
use Rattle.odb_bank.specs.declared.kept.Kept.{Kept}
use Rattle.odb_bank.specs.Order.{IsUpTo, Each, IsInOrder, IsCut, IsPut}
use Rattle.odb_bank.specs.Tree.{items}
use Rattle.odb_bank.proofs.InOrder.{put_first, put_between, put_order, put_left, put_right}
use Rattle.odb_bank.proofs.tree.Tree.+with.Goals as goal
use Rattle.odb_bank.proofs.tree.Tree.+with.Goals.{in-Leaf, in-Fork+else-rank+else-is_before}

pub returns-then-rank : goal.returns-then-rank
returns-then-rank t c =
    let v = c.in-Fork.top.value in
    let n = c.args.new.value in
    let whole : v.0 ++ v.1 ∷ v.2 ≡ c.args.self = sym (ap items c.in-Fork.is) ∙ c.self.view_is in
    let order : IsInOrder (v.0 ++ v.1 ∷ v.2) = subst IsInOrder (ap items c.in-Fork.is) c.self.invariant in
    let d = c.deref_mut-then-rank-2.result.now in
    let f = c.cut-front.result.0 in
    let b = c.cut-front.result.1 in
    let e0 : d.0 ≡ f = ap (λ (p : List Kept × Kept × List Kept). p.0) c.deref_mut-then-rank-2.ensures.value in
    let e1 : d.1 ≡ n.1 = ap (λ (p : List Kept × Kept × List Kept). p.1) (c.deref_mut-then-rank-2.ensures.value) ∙ ap (λ (p : List Kept × Kept × List Kept). p.1) c.deref_mut.ensures.value in
    let all = ap (λ (q : Box (List Kept × Kept × List Kept) Global). q.value.0 ++ q.value.1 ∷ q.value.2) c.in-Fork.top-is in
    let parts = c.cut-front.ensures in
    let cut : IsCut n.1.at c.args.self f b = record {
      was = sym (all ∙ whole) ∙ parts.was;
      low = subst (λ (p : List Kept × Kept × List Kept). Each (λ x. IsUpTo x.at p.1.at) f) c.deref-then-rank.ensures parts.low;
      high = subst (λ (p : List Kept × Kept × List Kept). Each (λ x. IsUpTo p.1.at x.at) b) c.deref-then-rank.ensures parts.high;
    } in
    let same : d.0 ++ d.1 ∷ b ≡ f ++ n.1 ∷ b = ap (λ (l : List Kept). l ++ d.1 ∷ b) e0 ∙ ap (λ (x : Kept). f ++ x ∷ b) e1 in
    let put : IsPut n.1 c.args.self (d.0 ++ d.1 ∷ b) = subst (IsPut n.1 c.args.self) (sym same) (put_between n.1 c.args.self f b cut) in
    put

pub returns-then-is_before : goal.returns-then-is_before
returns-then-is_before t c =
    let v = c.in-Fork.top.value in
    let n = c.args.new.value in
    let whole : v.0 ++ v.1 ∷ v.2 ≡ c.args.self = sym (ap items c.in-Fork.is) ∙ c.self.view_is in
    let order : IsInOrder (v.0 ++ v.1 ∷ v.2) = subst IsInOrder (ap items c.in-Fork.is) c.self.invariant in
    let d = c.deref_mut-then-is_before-2.result.now in
    let top = c.deref_mut-then-is_before.ensures.value ∙ ap (λ (q : Box (List Kept × Kept × List Kept) Global). q.value) c.in-Fork.top-is in
    let e0 : c.replace-front.result ≡ v.0 = c.replace-front.ensures.value ∙ ap (λ (p : List Kept × Kept × List Kept). p.0) top in
    let e1 : d.1 ≡ v.1 = ap (λ (p : List Kept × Kept × List Kept). p.1) c.deref_mut-then-is_before-2.ensures.value ∙ ap (λ (p : List Kept × Kept × List Kept). p.1) top in
    let e2 : d.2 ≡ v.2 = ap (λ (p : List Kept × Kept × List Kept). p.2) c.deref_mut-then-is_before-2.ensures.value ∙ ap (λ (p : List Kept × Kept × List Kept). p.2) top in
    let one : c.deref-in-Fork-2.result.now ≡ n = c.deref-in-Fork-2.ensures in
    let other : c.deref-in-Fork-3.result.now ≡ v = c.deref-in-Fork-3.ensures ∙ ap (λ (q : Box (List Kept × Kept × List Kept) Global). q.value) c.in-Fork.top-is in
    let less : is_lt (table_key_cmp n.1.at v.1.at) ≡ true =
    ap (λ (p : List Kept × Kept × List Kept). is_lt (table_key_cmp p.1.at v.1.at)) (sym one)
    ∙ ap (λ (p : List Kept × Kept × List Kept). is_lt (table_key_cmp c.deref-in-Fork-2.result.now.1.at p.1.at)) (sym other) ∙ sym c.is_before.ensures ∙ c.if-is_before.true in
    let part : IsPut n.1 v.0 c.with.result = subst (λ (l : List Kept). IsPut n.1 l c.with.result) e0 c.with.ensures in
    let same : c.with.result ++ d.1 ∷ d.2 ≡ c.with.result ++ v.1 ∷ v.2 = ap (λ (x : Kept). c.with.result ++ x ∷ d.2) e1 ∙ ap (λ (l : List Kept). c.with.result ++ v.1 ∷ l) e2 in
    let put : IsPut n.1 c.args.self (c.with.result ++ d.1 ∷ d.2) = subst (IsPut n.1 c.args.self) (sym same) (subst (λ (l : List Kept). IsPut n.1 l (c.with.result ++ v.1 ∷ v.2)) whole (put_left n.1 v.0 v.1 v.2 order less c.with.result part)) in
    put

pub invariant_of-result : goal.invariant_of-result
invariant_of-result t c =
    let v = c.in-Fork.top.value in
    let n = c.args.new.value in
    let whole : v.0 ++ v.1 ∷ v.2 ≡ c.args.self = sym (ap items c.in-Fork.is) ∙ c.self.view_is in
    let order : IsInOrder (v.0 ++ v.1 ∷ v.2) = subst IsInOrder (ap items c.in-Fork.is) c.self.invariant in
    let d = c.deref_mut-then-rank-2.result.now in
    let f = c.cut-front.result.0 in
    let b = c.cut-front.result.1 in
    let e0 : d.0 ≡ f = ap (λ (p : List Kept × Kept × List Kept). p.0) c.deref_mut-then-rank-2.ensures.value in
    let e1 : d.1 ≡ n.1 = ap (λ (p : List Kept × Kept × List Kept). p.1) (c.deref_mut-then-rank-2.ensures.value) ∙ ap (λ (p : List Kept × Kept × List Kept). p.1) c.deref_mut.ensures.value in
    let all = ap (λ (q : Box (List Kept × Kept × List Kept) Global). q.value.0 ++ q.value.1 ∷ q.value.2) c.in-Fork.top-is in
    let parts = c.cut-front.ensures in
    let cut : IsCut n.1.at c.args.self f b = record {
      was = sym (all ∙ whole) ∙ parts.was;
      low = subst (λ (p : List Kept × Kept × List Kept). Each (λ x. IsUpTo x.at p.1.at) f) c.deref-then-rank.ensures parts.low;
      high = subst (λ (p : List Kept × Kept × List Kept). Each (λ x. IsUpTo p.1.at x.at) b) c.deref-then-rank.ensures parts.high;
    } in
    let same : d.0 ++ d.1 ∷ b ≡ f ++ n.1 ∷ b = ap (λ (l : List Kept). l ++ d.1 ∷ b) e0 ∙ ap (λ (x : Kept). f ++ x ∷ b) e1 in
    let put : IsPut n.1 c.args.self (d.0 ++ d.1 ∷ b) = subst (IsPut n.1 c.args.self) (sym same) (put_between n.1 c.args.self f b cut) in
    put_order n.1 c.args.self (d.0 ++ d.1 ∷ b) put (subst IsInOrder whole order)

pub invariant_of-result-then-is_before : goal.invariant_of-result-then-is_before
invariant_of-result-then-is_before t c =
    let v = c.in-Fork.top.value in
    let n = c.args.new.value in
    let whole : v.0 ++ v.1 ∷ v.2 ≡ c.args.self = sym (ap items c.in-Fork.is) ∙ c.self.view_is in
    let order : IsInOrder (v.0 ++ v.1 ∷ v.2) = subst IsInOrder (ap items c.in-Fork.is) c.self.invariant in
    let d = c.deref_mut-then-is_before-2.result.now in
    let top = c.deref_mut-then-is_before.ensures.value ∙ ap (λ (q : Box (List Kept × Kept × List Kept) Global). q.value) c.in-Fork.top-is in
    let e0 : c.replace-front.result ≡ v.0 = c.replace-front.ensures.value ∙ ap (λ (p : List Kept × Kept × List Kept). p.0) top in
    let e1 : d.1 ≡ v.1 = ap (λ (p : List Kept × Kept × List Kept). p.1) c.deref_mut-then-is_before-2.ensures.value ∙ ap (λ (p : List Kept × Kept × List Kept). p.1) top in
    let e2 : d.2 ≡ v.2 = ap (λ (p : List Kept × Kept × List Kept). p.2) c.deref_mut-then-is_before-2.ensures.value ∙ ap (λ (p : List Kept × Kept × List Kept). p.2) top in
    let one : c.deref-in-Fork-2.result.now ≡ n = c.deref-in-Fork-2.ensures in
    let other : c.deref-in-Fork-3.result.now ≡ v = c.deref-in-Fork-3.ensures ∙ ap (λ (q : Box (List Kept × Kept × List Kept) Global). q.value) c.in-Fork.top-is in
    let less : is_lt (table_key_cmp n.1.at v.1.at) ≡ true =
    ap (λ (p : List Kept × Kept × List Kept). is_lt (table_key_cmp p.1.at v.1.at)) (sym one)
    ∙ ap (λ (p : List Kept × Kept × List Kept). is_lt (table_key_cmp c.deref-in-Fork-2.result.now.1.at p.1.at)) (sym other) ∙ sym c.is_before.ensures ∙ c.if-is_before.true in
    let part : IsPut n.1 v.0 c.with.result = subst (λ (l : List Kept). IsPut n.1 l c.with.result) e0 c.with.ensures in
    let same : c.with.result ++ d.1 ∷ d.2 ≡ c.with.result ++ v.1 ∷ v.2 = ap (λ (x : Kept). c.with.result ++ x ∷ d.2) e1 ∙ ap (λ (l : List Kept). c.with.result ++ v.1 ∷ l) e2 in
    let put : IsPut n.1 c.args.self (c.with.result ++ d.1 ∷ d.2) = subst (IsPut n.1 c.args.self) (sym same) (subst (λ (l : List Kept). IsPut n.1 l (c.with.result ++ v.1 ∷ v.2)) whole (put_left n.1 v.0 v.1 v.2 order less c.with.result part)) in
    put_order n.1 c.args.self (c.with.result ++ d.1 ∷ d.2) put (subst IsInOrder whole order)

pub invariant_of-result-in-Fork : goal.invariant_of-result-in-Fork
invariant_of-result-in-Fork t c =
    let v = c.in-Fork.top.value in
    let n = c.args.new.value in
    let whole : v.0 ++ v.1 ∷ v.2 ≡ c.args.self = sym (ap items c.in-Fork.is) ∙ c.self.view_is in
    let order : IsInOrder (v.0 ++ v.1 ∷ v.2) = subst IsInOrder (ap items c.in-Fork.is) c.self.invariant in
    let d = c.deref_mut-in-Fork-2.result.now in
    let top = c.deref_mut-in-Fork.ensures.value ∙ ap (λ (q : Box (List Kept × Kept × List Kept) Global). q.value) c.in-Fork.top-is in
    let e0 : c.replace-back.result ≡ v.2 = c.replace-back.ensures.value ∙ ap (λ (p : List Kept × Kept × List Kept). p.2) top in
    let e1 : d.0 ≡ v.0 = ap (λ (p : List Kept × Kept × List Kept). p.0) c.deref_mut-in-Fork-2.ensures.value ∙ ap (λ (p : List Kept × Kept × List Kept). p.0) top in
    let e2 : d.1 ≡ v.1 = ap (λ (p : List Kept × Kept × List Kept). p.1) c.deref_mut-in-Fork-2.ensures.value ∙ ap (λ (p : List Kept × Kept × List Kept). p.1) top in
    let one : c.deref-in-Fork-2.result.now ≡ n = c.deref-in-Fork-2.ensures in
    let other : c.deref-in-Fork-3.result.now ≡ v = c.deref-in-Fork-3.ensures ∙ ap (λ (q : Box (List Kept × Kept × List Kept) Global). q.value) c.in-Fork.top-is in
    let more : is_lt (table_key_cmp n.1.at v.1.at) ≡ false =
    ap (λ (p : List Kept × Kept × List Kept). is_lt (table_key_cmp p.1.at v.1.at)) (sym one)
    ∙ ap (λ (p : List Kept × Kept × List Kept). is_lt (table_key_cmp c.deref-in-Fork-2.result.now.1.at p.1.at)) (sym other) ∙ sym c.is_before.ensures ∙ c.if-is_before.false in
    let part : IsPut n.1 v.2 c.with-in-Fork.result = subst (λ (l : List Kept). IsPut n.1 l c.with-in-Fork.result) e0 c.with-in-Fork.ensures in
    let same : d.0 ++ d.1 ∷ c.with-in-Fork.result ≡ v.0 ++ v.1 ∷ c.with-in-Fork.result = ap (λ (l : List Kept). l ++ d.1 ∷ c.with-in-Fork.result) e1 ∙ ap (λ (x : Kept). v.0 ++ x ∷ c.with-in-Fork.result) e2 in
    let put : IsPut n.1 c.args.self (d.0 ++ d.1 ∷ c.with-in-Fork.result) = subst (IsPut n.1 c.args.self) (sym same) (subst (λ (l : List Kept). IsPut n.1 l (v.0 ++ v.1 ∷ c.with-in-Fork.result)) whole (put_right n.1 v.0 v.1 v.2 order more c.with-in-Fork.result part)) in
    put_order n.1 c.args.self (d.0 ++ d.1 ∷ c.with-in-Fork.result) put (subst IsInOrder whole order)

pub returns : goal.returns
returns t c =
    let new = c.args.new.value in
    let all : IsPut new.1 c.args.self c.match-self.result = elim c.match-self.branch [
      | in-Leaf w ↦
          let none : [] ≡ c.args.self = sym (ap items w.in-Leaf.is) ∙ c.self.view_is in
          subst (IsPut new.1 c.args.self) (sym w.result-is) (subst (λ (l : List Kept). IsPut new.1 l (new.0 ++ new.1 ∷ new.2)) none (put_first new.1 new.0 new.2 c.requires.front c.requires.back))
      | in-Fork+else-rank+else-is_before w ↦
          let v = w.in-Fork.top.value in
          let n = c.args.new.value in
          let whole : v.0 ++ v.1 ∷ v.2 ≡ c.args.self = sym (ap items w.in-Fork.is) ∙ c.self.view_is in
          let order : IsInOrder (v.0 ++ v.1 ∷ v.2) = subst IsInOrder (ap items w.in-Fork.is) c.self.invariant in
          let d = w.deref_mut-in-Fork-2.result.now in
          let top = w.deref_mut-in-Fork.ensures.value ∙ ap (λ (q : Box (List Kept × Kept × List Kept) Global). q.value) w.in-Fork.top-is in
          let e0 : w.replace-back.result ≡ v.2 = w.replace-back.ensures.value ∙ ap (λ (p : List Kept × Kept × List Kept). p.2) top in
          let e1 : d.0 ≡ v.0 = ap (λ (p : List Kept × Kept × List Kept). p.0) w.deref_mut-in-Fork-2.ensures.value ∙ ap (λ (p : List Kept × Kept × List Kept). p.0) top in
          let e2 : d.1 ≡ v.1 = ap (λ (p : List Kept × Kept × List Kept). p.1) w.deref_mut-in-Fork-2.ensures.value ∙ ap (λ (p : List Kept × Kept × List Kept). p.1) top in
          let one : w.deref-in-Fork-2.result.now ≡ n = w.deref-in-Fork-2.ensures in
          let other : w.deref-in-Fork-3.result.now ≡ v = w.deref-in-Fork-3.ensures ∙ ap (λ (q : Box (List Kept × Kept × List Kept) Global). q.value) w.in-Fork.top-is in
          let more : is_lt (table_key_cmp n.1.at v.1.at) ≡ false =
          ap (λ (p : List Kept × Kept × List Kept). is_lt (table_key_cmp p.1.at v.1.at)) (sym one)
          ∙ ap (λ (p : List Kept × Kept × List Kept). is_lt (table_key_cmp w.deref-in-Fork-2.result.now.1.at p.1.at)) (sym other) ∙ sym w.is_before.ensures ∙ w.if-is_before.false in
          let part : IsPut n.1 v.2 w.with-in-Fork.result = subst (λ (l : List Kept). IsPut n.1 l w.with-in-Fork.result) e0 w.with-in-Fork.ensures in
          let same : d.0 ++ d.1 ∷ w.with-in-Fork.result ≡ v.0 ++ v.1 ∷ w.with-in-Fork.result = ap (λ (l : List Kept). l ++ d.1 ∷ w.with-in-Fork.result) e1 ∙ ap (λ (x : Kept). v.0 ++ x ∷ w.with-in-Fork.result) e2 in
          let put : IsPut n.1 c.args.self (d.0 ++ d.1 ∷ w.with-in-Fork.result) = subst (IsPut n.1 c.args.self) (sym same) (subst (λ (l : List Kept). IsPut n.1 l (v.0 ++ v.1 ∷ w.with-in-Fork.result)) whole (put_right n.1 v.0 v.1 v.2 order more w.with-in-Fork.result part)) in
          subst (IsPut n.1 c.args.self) (sym w.result-is) put
    ] in
    subst (IsPut new.1 c.args.self) (sym c.result.view_is) all
