-- Lists of records in the order of their keys.
use Rattle.std.proofs.Common.{◌≡◌, ℕ, zero, suc, Bool, true, false, cond, List, [], ◌∷◌, ◌++◌, length, Some, Result, Ok, Err, sym, ◌∙◌, ap, subst, refl, append_assoc, arith}
use Rattle.std.specs.Prelude.{slice_get, map, OnOk}
use Rattle.std.specs.List.{filter}
use Rattle.std.specs.List.Sorted.{IsPermutation}
use Rattle.std.proofs.lemmas.List.{append-nil, map-append}
use Rattle.std.proofs.lemmas.List.Elements.{filter-append}
use Rattle.std.proofs.lemmas.List.Sorted.{IsPermutation-sym, IsPermutation-trans, IsPermutation-middle, IsPermutation-to_front, IsPermutation-append_left}
use Rattle.std.specs.declared.cmp.Ordering.{Ordering}
use Rattle.std.specs.declared.cmp.Ordering.TheVariants.{Less, Equal, Greater}
use Rattle.std.specs.Ordering.{is_gt, is_lt, ordering_reverse}
use Rattle.std.proofs.lemmas.Cmp.{upto}
use Rattle.odb_model.specs.State.{table_key_cmp}
use Rattle.odb_model.proofs.Replay.{table_key_cmp_total}
use Rattle.odb_bank.specs.declared.kept.Gate.{Gate}
use Rattle.odb_bank.specs.declared.kept.Kept.{Kept}
use Rattle.odb_bank.specs.Gates.{is_in, with_gate}
use Rattle.odb_bank.specs.History.{Key}
use Rattle.odb_bank.specs.Order.{IsUpTo, Each, IsInOrder, CanJoin, IsCut, IsPut}

pub each_append : (P : Kept → Type 0) (xs ys : List Kept) → Each P xs → Each P ys → Each P (xs ++ ys)
each_append P [] ys one other = other
each_append P (x ∷ xs) ys one other = (one.0, each_append P xs ys one.1 other)

pub each_front : (P : Kept → Type 0) (xs ys : List Kept) → Each P (xs ++ ys) → Each P xs
each_front P [] ys all = tt
each_front P (x ∷ xs) ys all = (all.0, each_front P xs ys all.1)

pub each_back : (P : Kept → Type 0) (xs ys : List Kept) → Each P (xs ++ ys) → Each P ys
each_back P [] ys all = all
each_back P (x ∷ xs) ys all = each_back P xs ys all.1

pub each_map : (P Q : Kept → Type 0) (xs : List Kept) → ((x : Kept) → P x → Q x) → Each P xs → Each Q xs
each_map P Q [] so all = tt
each_map P Q (x ∷ xs) so all = (so x all.0, each_map P Q xs so all.1)

pub each_at : (P : Kept → Type 0) (xs : List Kept) (k : ℕ) (x : Kept) → Each P xs → slice_get xs k ≡ Some x → P x
each_at P [] k x all is = absurd (cc is)
each_at P (y ∷ xs) zero x all is = let same : y ≡ x = cc is in subst P same all.0
each_at P (y ∷ xs) (suc k) x all is = each_at P xs k x all.1 is

pub up_trans : (a b c : Key) → IsUpTo a b → IsUpTo b c → IsUpTo a c
up_trans a b c one other = upto table_key_cmp_total a b c one other

pub order_front : (xs ys : List Kept) → IsInOrder (xs ++ ys) → IsInOrder xs
order_front [] ys all = tt
order_front (x ∷ xs) ys all = (each_front (λ y. IsUpTo x.at y.at) xs ys all.0, order_front xs ys all.1)

pub order_back : (xs ys : List Kept) → IsInOrder (xs ++ ys) → IsInOrder ys
order_back [] ys all = all
order_back (x ∷ xs) ys all = order_back xs ys all.1

-- no record of the one list is behind one of the other
abbrev pub AreUpTo : List Kept → List Kept → Type 0
AreUpTo xs ys = Each (λ x. Each (λ y. IsUpTo x.at y.at) ys) xs

pub order_cross : (xs ys : List Kept) → IsInOrder (xs ++ ys) → AreUpTo xs ys
order_cross [] ys all = tt
order_cross (x ∷ xs) ys all = (each_back (λ y. IsUpTo x.at y.at) xs ys all.0, order_cross xs ys all.1)

pub order_append : (xs ys : List Kept) → IsInOrder xs → IsInOrder ys → AreUpTo xs ys → IsInOrder (xs ++ ys)
order_append [] ys one other below = other
order_append (x ∷ xs) ys one other below = (each_append (λ y. IsUpTo x.at y.at) xs ys one.0 below.0, order_append xs ys one.1 other below.1)

-- what stands before a record, and what behind it
pub record Sides (l : List Kept) (x : Kept) (r : List Kept) : Type 0 where
  pub left : IsInOrder l
  pub right : IsInOrder r
  pub low : Each (λ y. IsUpTo y.at x.at) l
  pub high : Each (λ y. IsUpTo x.at y.at) r

pub sides_of : (l : List Kept) (x : Kept) (r : List Kept) → IsInOrder (l ++ x ∷ r) → Sides l x r
sides_of l x r all = let back = order_back l (x ∷ r) all in record {
  left = order_front l (x ∷ r) all;
  right = back.1;
  low = each_map (λ y. Each (λ z. IsUpTo y.at z.at) (x ∷ r)) (λ y. IsUpTo y.at x.at) l (λ y e. e.0) (order_cross l (x ∷ r) all);
  high = back.0;
}

pub from_sides : (l : List Kept) (x : Kept) (r : List Kept) → Sides l x r → IsInOrder (l ++ x ∷ r)
from_sides l x r s = order_append l (x ∷ r) s.left (s.high, s.right)
    (each_map (λ y. IsUpTo y.at x.at) (λ y. Each (λ z. IsUpTo y.at z.at) (x ∷ r)) l
    (λ y up. (up, each_map (λ z. IsUpTo x.at z.at) (λ z. IsUpTo y.at z.at) r (λ z more. up_trans y.at x.at z.at up more) s.high)) s.low)

lt_not_gt : (o : Ordering) → is_lt o ≡ true → is_gt o ≡ false
lt_not_gt Less e = refl
lt_not_gt Equal e = cc
lt_not_gt Greater e = cc

not_lt_back : (o : Ordering) → is_lt o ≡ false → is_gt (ordering_reverse o) ≡ false
not_lt_back Less e = cc
not_lt_back Equal e = refl
not_lt_back Greater e = refl

pub before_up : (a b : Key) → is_lt (table_key_cmp a b) ≡ true → IsUpTo a b
before_up a b e = lt_not_gt (table_key_cmp a b) e

pub not_before_up : (a b : Key) → is_lt (table_key_cmp a b) ≡ false → IsUpTo b a
not_before_up a b e = ap is_gt (table_key_cmp_total.antisymm b a) ∙ not_lt_back (table_key_cmp a b) e

-- a cut
pub cut_none : (at : Key) → IsCut at [] [] []
cut_none at = record { was = refl; low = tt; high = tt }

module _ (at : Key) (l : List Kept) (x : Kept) (r : List Kept) (all : IsInOrder (l ++ x ∷ r)) where
  pub cut_left : is_lt (table_key_cmp at x.at) ≡ true → (f b : List Kept) → IsCut at l f b → IsCut at (l ++ x ∷ r) f (b ++ x ∷ r)
  cut_left less f b cut = let s = sides_of l x r all in let up = before_up at x.at less in record {
    was = ap (λ (z : List Kept). z ++ x ∷ r) cut.was ∙ append_assoc f b (x ∷ r);
    low = cut.low;
    high = each_append (λ y. IsUpTo at y.at) b (x ∷ r) cut.high (up, each_map (λ y. IsUpTo x.at y.at) (λ y. IsUpTo at y.at) r (λ y more. up_trans at x.at y.at up more) s.high);
  }

  pub cut_right : is_lt (table_key_cmp at x.at) ≡ false → (f b : List Kept) → IsCut at r f b → IsCut at (l ++ x ∷ r) (l ++ x ∷ f) b
  cut_right more f b cut = let s = sides_of l x r all in let up = not_before_up at x.at more in record {
    was = ap (λ (z : List Kept). l ++ x ∷ z) cut.was ∙ sym (append_assoc l (x ∷ f) b);
    low = each_append (λ y. IsUpTo y.at at) l (x ∷ f) (each_map (λ y. IsUpTo y.at x.at) (λ y. IsUpTo y.at at) l (λ y so. up_trans y.at x.at at so up) s.low) (up, cut.low);
    high = cut.high;
  }

  pub cut_back : (f b : List Kept) → IsCut at l f b → IsInOrder (b ++ x ∷ r)
  cut_back f b cut = order_back f (b ++ x ∷ r) (subst IsInOrder (ap (λ (z : List Kept). z ++ x ∷ r) cut.was ∙ append_assoc f b (x ∷ r)) all)

  pub cut_front : (f b : List Kept) → IsCut at r f b → IsInOrder (l ++ x ∷ f)
  cut_front f b cut = order_front (l ++ x ∷ f) b (subst IsInOrder (ap (λ (z : List Kept). l ++ x ∷ z) cut.was ∙ sym (append_assoc l (x ∷ f) b)) all)

-- a record more
pub put_first : (it : Kept) (l r : List Kept) → l ≡ [] → r ≡ [] → IsPut it [] (l ++ it ∷ r)
put_first it l r left right = record {
  front = [];
  back = [];
  cut = cut_none it.at;
  now = ap (λ (z : List Kept). z ++ it ∷ r) left ∙ ap (λ (z : List Kept). it ∷ z) right;
}

pub put_between : (it : Kept) (old f b : List Kept) → IsCut it.at old f b → IsPut it old (f ++ it ∷ b)
put_between it old f b cut = record { front = f; back = b; cut = cut; now = refl }

pub put_order : (it : Kept) (old new : List Kept) → IsPut it old new → IsInOrder old → IsInOrder new
put_order it old new put all =
    let cut = put.cut in
    let parts = subst IsInOrder cut.was all in
    subst IsInOrder (sym put.now) (from_sides put.front it put.back (record {
      left = order_front put.front put.back parts;
      right = order_back put.front put.back parts;
      low = cut.low;
      high = cut.high;
    }))

module _ (it : Kept) (l : List Kept) (x : Kept) (r : List Kept) (all : IsInOrder (l ++ x ∷ r)) where
  pub put_left : is_lt (table_key_cmp it.at x.at) ≡ true → (new : List Kept) → IsPut it l new → IsPut it (l ++ x ∷ r) (new ++ x ∷ r)
  put_left less new put = record {
    front = put.front;
    back = put.back ++ x ∷ r;
    cut = cut_left it.at l x r all less put.front put.back put.cut;
    now = ap (λ (z : List Kept). z ++ x ∷ r) put.now ∙ append_assoc put.front (it ∷ put.back) (x ∷ r);
  }

  pub put_right : is_lt (table_key_cmp it.at x.at) ≡ false → (new : List Kept) → IsPut it r new → IsPut it (l ++ x ∷ r) (l ++ x ∷ new)
  put_right more new put = record {
    front = l ++ x ∷ put.front;
    back = put.back;
    cut = cut_right it.at l x r all more put.front put.back put.cut;
    now = ap (λ (z : List Kept). l ++ x ∷ z) put.now ∙ sym (append_assoc l (x ∷ put.front) (it ∷ put.back));
  }

-- notes of gates
pub same_at : (run : List ℕ) (gate : Gate) (x : Kept) → (with_gate run gate x).at ≡ x.at
same_at run gate x = elim (is_in run x.slot) as (λ (b : Bool). (cond b (record x { gate = gate }) x).at ≡ x.at) [ true ↦ refl | false ↦ refl ]

module _ (f : Kept → Kept) (same : (x : Kept) → (f x).at ≡ x.at) where
  each_noted : (at : Key) (xs : List Kept) → Each (λ y. IsUpTo at y.at) xs → Each (λ y. IsUpTo at y.at) (map f xs)
  each_noted at [] all = tt
  each_noted at (x ∷ xs) all = (subst (IsUpTo at) (sym (same x)) all.0, each_noted at xs all.1)

  pub order_map : (xs : List Kept) → IsInOrder xs → IsInOrder (map f xs)
  order_map [] all = tt
  order_map (x ∷ xs) all = (subst (λ (a : Key). Each (λ y. IsUpTo a y.at) (map f xs)) (sym (same x)) (each_noted x.at xs all.0), order_map xs all.1)

-- what a test leaves
pub each_filter : (P : Kept → Type 0) (p : Kept → Bool) (xs : List Kept) → Each P xs → Each P (filter p xs)
each_filter P p [] all = tt
each_filter P p (x ∷ xs) all = elim (p x) as (λ (b : Bool). Each P (cond b (x ∷ filter p xs) (filter p xs))) [ true ↦ (all.0, each_filter P p xs all.1) | false ↦ each_filter P p xs all.1 ]

pub order_filter : (p : Kept → Bool) (xs : List Kept) → IsInOrder xs → IsInOrder (filter p xs)
order_filter p [] all = tt
order_filter p (x ∷ xs) all = elim (p x) as (λ (b : Bool). IsInOrder (cond b (x ∷ filter p xs) (filter p xs))) [
  | true ↦ (each_filter (λ y. IsUpTo x.at y.at) p xs all.0, order_filter p xs all.1)
  | false ↦ order_filter p xs all.1
]

-- the same records
pub put_same : (it : Kept) (old new : List Kept) → IsPut it old new → IsPermutation (it ∷ old) new
put_same it old new put =
    let cut = put.cut in
    subst (IsPermutation (it ∷ old)) (sym put.now) (subst (λ (l : List Kept). IsPermutation (it ∷ l) (put.front ++ it ∷ put.back)) (sym cut.was)
    (IsPermutation-sym (put.front ++ it ∷ put.back) (it ∷ (put.front ++ put.back)) (IsPermutation-middle put.front it put.back)))

-- one more of a list is put
pub put_more : (all tree old rest new : List Kept) (x it : Kept) → it ≡ x → old ≡ rest ++ x ∷ [] → IsPut it tree new → IsPermutation all (tree ++ old) → IsPermutation all (new ++ rest)
put_more all tree old rest new x it same is put so_far =
    let one : tree ++ old ≡ (tree ++ rest) ++ x ∷ [] = ap (λ (l : List Kept). tree ++ l) is ∙ sym (append_assoc tree rest (x ∷ [])) in
    let first : IsPermutation all (x ∷ (tree ++ rest)) = IsPermutation-trans all ((tree ++ rest) ++ x ∷ []) (x ∷ (tree ++ rest)) (subst (IsPermutation all) one so_far) (IsPermutation-to_front (tree ++ rest) x) in
    let placed : IsPermutation (x ∷ tree) new = subst (λ (y : Kept). IsPermutation (y ∷ tree) new) same (put_same it tree new put) in
    IsPermutation-trans all (x ∷ (tree ++ rest)) (new ++ rest) first (IsPermutation-append_left rest (x ∷ tree) new placed)

pub put_all_of : (all tree rest : List Kept) → length rest ≡ 0 → IsPermutation all (tree ++ rest) → IsPermutation all tree
put_all_of all tree [] none so_far = subst (IsPermutation all) (append-nil tree) so_far
put_all_of all tree (x ∷ rest) none so_far = absurd (omega (arith, none))

-- lists that go on from one another
pub can_left : (all one other middle r : List Kept) (y : Kept) → one ≡ all → other ≡ middle ++ y ∷ r → CanJoin all other → (m : List Kept) → m ≡ middle → CanJoin one m
can_left all one other middle r y first is can m same =
    let whole : IsInOrder ((all ++ middle) ++ y ∷ r) = subst IsInOrder (ap (λ (z : List Kept). all ++ z) is ∙ sym (append_assoc all middle (y ∷ r))) can.order in
    let part : IsInOrder (all ++ middle) = order_front (all ++ middle) (y ∷ r) whole in
    record { order = subst (λ (z : List Kept). IsInOrder (one ++ z)) (sym same) (subst (λ (z : List Kept). IsInOrder (z ++ middle)) (sym first) part) }

pub can_right : (all one other l middle : List Kept) (x : Kept) → all ≡ l ++ x ∷ middle → one ≡ other → CanJoin all other → (m : List Kept) → m ≡ middle → CanJoin m one
can_right all one other l middle x is last can m same =
    let whole : IsInOrder ((l ++ x ∷ []) ++ (middle ++ other)) =
    subst IsInOrder (ap (λ (z : List Kept). z ++ other) is ∙ append_assoc l (x ∷ middle) other ∙ sym (append_assoc l (x ∷ []) (middle ++ other))) can.order in
    let part : IsInOrder (middle ++ other) = order_back (l ++ x ∷ []) (middle ++ other) whole in
    record { order = subst (λ (z : List Kept). IsInOrder (z ++ one)) (sym same) (subst (λ (z : List Kept). IsInOrder (middle ++ z)) (sym last) part) }

pub joined_left : (all other middle r : List Kept) (y : Kept) → other ≡ middle ++ y ∷ r → all ++ other ≡ (all ++ middle) ++ y ∷ r
joined_left all other middle r y is = ap (λ (z : List Kept). all ++ z) is ∙ sym (append_assoc all middle (y ∷ r))

pub joined_right : (all other l middle : List Kept) (x : Kept) → all ≡ l ++ x ∷ middle → all ++ other ≡ l ++ x ∷ (middle ++ other)
joined_right all other l middle x is = ap (λ (z : List Kept). z ++ other) is ∙ append_assoc l (x ∷ middle) other

-- without a record, and with what a test leaves beside one
pub order_without : (l : List Kept) (x : Kept) (r : List Kept) → IsInOrder (l ++ x ∷ r) → IsInOrder (l ++ r)
order_without l x r all =
    let s = sides_of l x r all in
    order_append l r s.left s.right (each_map (λ y. IsUpTo y.at x.at) (λ y. Each (λ z. IsUpTo y.at z.at) r) l
    (λ y up. each_map (λ z. IsUpTo x.at z.at) (λ z. IsUpTo y.at z.at) r (λ z more. up_trans y.at x.at z.at up more) s.high) s.low)

pub filter_can : (p : Kept → Bool) (l : List Kept) (x : Kept) (r : List Kept) → IsInOrder (l ++ x ∷ r) → (f b : List Kept) → f ≡ filter p l → b ≡ filter p r → CanJoin f b
filter_can p l x r all f b front back =
    let part : IsInOrder (filter p l ++ filter p r) = subst IsInOrder (filter-append p l r) (order_filter p (l ++ r) (order_without l x r all)) in
    record { order = subst (λ (z : List Kept). IsInOrder (f ++ z)) (sym back) (subst (λ (z : List Kept). IsInOrder (z ++ filter p r)) (sym front) part) }

pub filter_around : (p : Kept → Bool) (l : List Kept) (x : Kept) (r : List Kept) → IsInOrder (l ++ x ∷ r) → IsInOrder (filter p l ++ x ∷ filter p r)
filter_around p l x r all =
    let s = sides_of l x r all in
    from_sides (filter p l) x (filter p r) (record {
      left = order_filter p l s.left;
      right = order_filter p r s.right;
      low = each_filter (λ y. IsUpTo y.at x.at) p l s.low;
      high = each_filter (λ y. IsUpTo x.at y.at) p r s.high;
    })

-- below a record the tree has one more
pub put_into_left : (it : Kept) (l : List Kept) (x : Kept) (r new : List Kept) → IsInOrder (l ++ x ∷ r) → is_lt (table_key_cmp it.at x.at) ≡ true → IsPut it l new → IsInOrder (new ++ x ∷ r)
put_into_left it l x r new all less put = put_order it (l ++ x ∷ r) (new ++ x ∷ r) (put_left it l x r all less new put) all

pub put_into_right : (it : Kept) (l : List Kept) (x : Kept) (r new : List Kept) → IsInOrder (l ++ x ∷ r) → is_lt (table_key_cmp it.at x.at) ≡ false → IsPut it r new → IsInOrder (l ++ x ∷ new)
put_into_right it l x r new all more put = put_order it (l ++ x ∷ r) (l ++ x ∷ new) (put_right it l x r all more new put) all

-- what a walk adds of a fork
pub push_parts : (q : Kept → Bool) (l : List Kept) (x : Kept) (r all : List Kept) → l ++ x ∷ r ≡ all → (old first middle last : List ℕ) → first ≡ old ++ map (λ it. it.slot) (filter q l) → middle ≡ first ++ cond (q x) (x.slot ∷ []) []
    → last ≡ middle ++ map (λ it. it.slot) (filter q r) → last ≡ old ++ map (λ it. it.slot) (filter q all)
push_parts q l x r all whole old first middle last one two three =
    let s : Kept → ℕ = λ it. it.slot in
    let tail : map s (filter q (x ∷ r)) ≡ cond (q x) (x.slot ∷ []) [] ++ map s (filter q r) =
    elim (q x) as (λ (b : Bool). map s (cond b (x ∷ filter q r) (filter q r)) ≡ cond b (x.slot ∷ []) [] ++ map s (filter q r)) [ true ↦ refl | false ↦ refl ] in
    three ∙ ap (λ (z : List ℕ). z ++ map s (filter q r)) (two ∙ ap (λ (z : List ℕ). z ++ cond (q x) (x.slot ∷ []) []) one)
    ∙ append_assoc (old ++ map s (filter q l)) (cond (q x) (x.slot ∷ []) []) (map s (filter q r))
    ∙ append_assoc old (map s (filter q l)) (cond (q x) (x.slot ∷ []) [] ++ map s (filter q r))
    ∙ ap (λ (z : List ℕ). old ++ (map s (filter q l) ++ z)) (sym tail)
    ∙ ap (λ (z : List ℕ). old ++ z) (sym (map-append s (filter q l) (filter q (x ∷ r))))
    ∙ ap (λ (z : List Kept). old ++ map s z) (sym (filter-append q l (x ∷ r)))
    ∙ ap (λ (z : List Kept). old ++ map s (filter q z)) whole

pub on_ok_then : {T E : Type 0} {P Q : Type 0} → (r : Result T E) → (P → Q) → OnOk r P → OnOk r Q
on_ok_then (Ok x) so is = so is
on_ok_then (Err e) so is = tt
