use Rattle.std.proofs.Common.{◌≡◌, ◌∷◌, ◌++◌, List, sym, ◌∙◌, ap, subst, Box}
use Rattle.std.specs.declared.alloc.Global.{Global}
use Rattle.odb_bank.specs.declared.kept.Kept.{Kept}
use Rattle.odb_bank.specs.Order.{IsInOrder}
use Rattle.odb_bank.specs.Tree.{items}
use Rattle.std.specs.Prelude.{not}
use Rattle.std.specs.List.{filter}
use Rattle.odb_bank.specs.Closing.{is_doubtful}
use Rattle.odb_bank.proofs.InOrder.{filter_can, filter_around}
use Rattle.odb_bank.proofs.tree.Tree.+known.Goals as goal

pub join-requires : goal.join-requires
join-requires t c =
    let v = c.in-Fork.fork.value in
    let whole : v.0 ++ v.1 ∷ v.2 ≡ c.args.self = sym (ap items c.in-Fork.is) ∙ c.self.view_is in
    let order : IsInOrder (v.0 ++ v.1 ∷ v.2) = subst IsInOrder (ap items c.in-Fork.is) c.self.invariant in
    let e0 : c.replace.result ≡ v.0 = cc in
    let e2 : c.replace-in-Fork.result ≡ v.2 = cc in
    let front : c.known-front.result ≡ filter (λ (it : Kept). not (is_doubtful it.gate)) v.0 = c.known-front.ensures ∙ ap (filter (λ (it : Kept). not (is_doubtful it.gate))) e0 in
    let back : c.known-back.result ≡ filter (λ (it : Kept). not (is_doubtful it.gate)) v.2 = c.known-back.ensures ∙ ap (filter (λ (it : Kept). not (is_doubtful it.gate))) e2 in
    filter_can (λ (it : Kept). not (is_doubtful it.gate)) v.0 v.1 v.2 order c.known-front.result c.known-back.result front back

pub invariant_of-result : goal.invariant_of-result
invariant_of-result t c =
    let v = c.in-Fork.fork.value in
    let whole : v.0 ++ v.1 ∷ v.2 ≡ c.args.self = sym (ap items c.in-Fork.is) ∙ c.self.view_is in
    let order : IsInOrder (v.0 ++ v.1 ∷ v.2) = subst IsInOrder (ap items c.in-Fork.is) c.self.invariant in
    let d = c.deref_mut-in-Fork-4.result.now in
    let top = c.deref_mut.ensures.value ∙ ap (λ (q : Box (List Kept × Kept × List Kept) Global). q.value) c.in-Fork.fork-is in
    let e0 : c.replace.result ≡ v.0 = c.replace.ensures.value ∙ ap (λ (p : List Kept × Kept × List Kept). p.0) top in
    let e2 : c.replace-in-Fork.result ≡ v.2 = c.replace-in-Fork.ensures.value ∙ ap (λ (p : List Kept × Kept × List Kept). p.2) c.deref_mut-in-Fork.ensures.value ∙ ap (λ (p : List Kept × Kept × List Kept). p.2) top in
    let first : d.0 ≡ c.known-front.result = ap (λ (p : List Kept × Kept × List Kept). p.0) c.deref_mut-in-Fork-4.ensures.value in
    let front : d.0 ≡ filter (λ (it : Kept). not (is_doubtful it.gate)) v.0 = first ∙ c.known-front.ensures ∙ ap (filter (λ (it : Kept). not (is_doubtful it.gate))) e0 in
    let back : c.known-back.result ≡ filter (λ (it : Kept). not (is_doubtful it.gate)) v.2 = c.known-back.ensures ∙ ap (filter (λ (it : Kept). not (is_doubtful it.gate))) e2 in
    let it : d.1 ≡ v.1 = ap (λ (p : List Kept × Kept × List Kept). p.1) c.deref_mut-in-Fork-4.ensures.value ∙ ap (λ (p : List Kept × Kept × List Kept). p.1) c.deref_mut-in-Fork-2.ensures.value ∙ ap (λ (p : List Kept × Kept × List Kept). p.1) c.deref_mut-in-Fork.ensures.value ∙ ap (λ (p : List Kept × Kept × List Kept). p.1) top in
    let same : d.0 ++ d.1 ∷ c.known-back.result ≡ filter (λ (it : Kept). not (is_doubtful it.gate)) v.0 ++ v.1 ∷ filter (λ (it : Kept). not (is_doubtful it.gate)) v.2 =
    ap (λ (l : List Kept). l ++ d.1 ∷ c.known-back.result) front ∙ ap (λ (x : Kept). filter (λ (it : Kept). not (is_doubtful it.gate)) v.0 ++ x ∷ c.known-back.result) it ∙ ap (λ (l : List Kept). filter (λ (it : Kept). not (is_doubtful it.gate)) v.0 ++ v.1 ∷ l) back in
    subst IsInOrder (sym same) (filter_around (λ (it : Kept). not (is_doubtful it.gate)) v.0 v.1 v.2 order)
