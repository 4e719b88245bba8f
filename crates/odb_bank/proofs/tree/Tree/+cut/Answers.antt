use Rattle.std.proofs.Common.{◌≡◌, ◌∷◌, ◌++◌, true, false, List, sym, ◌∙◌, ap, subst}
use Rattle.std.specs.Ordering.{is_lt}
use Rattle.odb_model.specs.State.{table_key_cmp}
use Rattle.odb_bank.specs.declared.kept.Kept.{Kept}
use Rattle.odb_bank.specs.Order.{IsInOrder, IsCut}
use Rattle.odb_bank.specs.Tree.{items}
use Rattle.odb_bank.proofs.InOrder.{cut_left, cut_right, cut_back, cut_front}
use Rattle.odb_bank.proofs.tree.Tree.+cut.Goals as goal

pub invariant_of-rest : goal.invariant_of-rest
invariant_of-rest t c =
    let v = c.in-Fork.top.value in
    let whole : v.0 ++ v.1 ∷ v.2 ≡ c.args.self = sym (ap items c.in-Fork.is) ∙ c.self.view_is in
    let order : IsInOrder (v.0 ++ v.1 ∷ v.2) = subst IsInOrder (ap items c.in-Fork.is) c.self.invariant in
    let d = c.deref_mut-then-is_before.result.now in
    let e0 : c.replace-left.result ≡ v.0 = cc in
    let f = c.cut-front.result.0 in
    let b = c.cut-front.result.1 in
    let e1 : d.1 ≡ v.1 = cc in
    let e2 : d.2 ≡ v.2 = cc in
    let tail : b ++ d.1 ∷ d.2 ≡ b ++ v.1 ∷ v.2 = ap (λ (x : Kept). b ++ x ∷ d.2) e1 ∙ ap (λ (l : List Kept). b ++ v.1 ∷ l) e2 in
    let its : c.deref.result.now ≡ v = cc in
    let less : is_lt (table_key_cmp c.args.at.now v.1.at) ≡ true = ap (λ (p : List Kept × Kept × List Kept). is_lt (table_key_cmp c.args.at.now p.1.at)) (sym its) ∙ sym c.is_before.ensures ∙ c.if-is_before.true in
    let cut : IsCut c.args.at.now v.0 f b = subst (λ (l : List Kept). IsCut c.args.at.now l f b) e0 c.cut-front.ensures in
    subst IsInOrder (sym tail) (cut_back c.args.at.now v.0 v.1 v.2 order f b cut)

pub returns-then-is_before : goal.returns-then-is_before
returns-then-is_before t c =
    let v = c.in-Fork.top.value in
    let whole : v.0 ++ v.1 ∷ v.2 ≡ c.args.self = sym (ap items c.in-Fork.is) ∙ c.self.view_is in
    let order : IsInOrder (v.0 ++ v.1 ∷ v.2) = subst IsInOrder (ap items c.in-Fork.is) c.self.invariant in
    let d = c.deref_mut-then-is_before.result.now in
    let e0 : c.replace-left.result ≡ v.0 = cc in
    let f = c.cut-front.result.0 in
    let b = c.cut-front.result.1 in
    let e1 : d.1 ≡ v.1 = cc in
    let e2 : d.2 ≡ v.2 = cc in
    let tail : b ++ d.1 ∷ d.2 ≡ b ++ v.1 ∷ v.2 = ap (λ (x : Kept). b ++ x ∷ d.2) e1 ∙ ap (λ (l : List Kept). b ++ v.1 ∷ l) e2 in
    let its : c.deref.result.now ≡ v = cc in
    let less : is_lt (table_key_cmp c.args.at.now v.1.at) ≡ true = ap (λ (p : List Kept × Kept × List Kept). is_lt (table_key_cmp c.args.at.now p.1.at)) (sym its) ∙ sym c.is_before.ensures ∙ c.if-is_before.true in
    let cut : IsCut c.args.at.now v.0 f b = subst (λ (l : List Kept). IsCut c.args.at.now l f b) e0 c.cut-front.ensures in
    subst (λ (z : List Kept). IsCut c.args.at.now c.args.self f z) (sym tail)
    (subst (λ (z : List Kept). IsCut c.args.at.now z f (b ++ v.1 ∷ v.2)) whole (cut_left c.args.at.now v.0 v.1 v.2 order less f b cut))

pub invariant_of-rest-else-is_before : goal.invariant_of-rest-else-is_before
invariant_of-rest-else-is_before t c =
    let v = c.in-Fork.top.value in
    let whole : v.0 ++ v.1 ∷ v.2 ≡ c.args.self = sym (ap items c.in-Fork.is) ∙ c.self.view_is in
    let order : IsInOrder (v.0 ++ v.1 ∷ v.2) = subst IsInOrder (ap items c.in-Fork.is) c.self.invariant in
    let d = c.deref_mut-else-is_before-2.result.now in
    let e0 : c.replace-right.result ≡ v.2 = cc in
    let f = c.cut-front-else-is_before.result.0 in
    let b = c.cut-front-else-is_before.result.1 in
    let e1 : d.0 ≡ v.0 = cc in
    let e2 : d.1 ≡ v.1 = cc in
    let head : d.0 ++ d.1 ∷ f ≡ v.0 ++ v.1 ∷ f = ap (λ (l : List Kept). l ++ d.1 ∷ f) e1 ∙ ap (λ (x : Kept). v.0 ++ x ∷ f) e2 in
    let its : c.deref.result.now ≡ v = cc in
    let more : is_lt (table_key_cmp c.args.at.now v.1.at) ≡ false = ap (λ (p : List Kept × Kept × List Kept). is_lt (table_key_cmp c.args.at.now p.1.at)) (sym its) ∙ sym c.is_before.ensures ∙ c.if-is_before.false in
    let cut : IsCut c.args.at.now v.2 f b = subst (λ (l : List Kept). IsCut c.args.at.now l f b) e0 c.cut-front-else-is_before.ensures in
    subst IsInOrder (sym head) (cut_front c.args.at.now v.0 v.1 v.2 order f b cut)

pub returns-else-is_before : goal.returns-else-is_before
returns-else-is_before t c =
    let v = c.in-Fork.top.value in
    let whole : v.0 ++ v.1 ∷ v.2 ≡ c.args.self = sym (ap items c.in-Fork.is) ∙ c.self.view_is in
    let order : IsInOrder (v.0 ++ v.1 ∷ v.2) = subst IsInOrder (ap items c.in-Fork.is) c.self.invariant in
    let d = c.deref_mut-else-is_before-2.result.now in
    let e0 : c.replace-right.result ≡ v.2 = cc in
    let f = c.cut-front-else-is_before.result.0 in
    let b = c.cut-front-else-is_before.result.1 in
    let e1 : d.0 ≡ v.0 = cc in
    let e2 : d.1 ≡ v.1 = cc in
    let head : d.0 ++ d.1 ∷ f ≡ v.0 ++ v.1 ∷ f = ap (λ (l : List Kept). l ++ d.1 ∷ f) e1 ∙ ap (λ (x : Kept). v.0 ++ x ∷ f) e2 in
    let its : c.deref.result.now ≡ v = cc in
    let more : is_lt (table_key_cmp c.args.at.now v.1.at) ≡ false = ap (λ (p : List Kept × Kept × List Kept). is_lt (table_key_cmp c.args.at.now p.1.at)) (sym its) ∙ sym c.is_before.ensures ∙ c.if-is_before.false in
    let cut : IsCut c.args.at.now v.2 f b = subst (λ (l : List Kept). IsCut c.args.at.now l f b) e0 c.cut-front-else-is_before.ensures in
    subst (λ (z : List Kept). IsCut c.args.at.now c.args.self z b) (sym head)
    (subst (λ (z : List Kept). IsCut c.args.at.now z (v.0 ++ v.1 ∷ f) b) whole (cut_right c.args.at.now v.0 v.1 v.2 order more f b cut))
