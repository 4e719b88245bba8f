-- The set of the slots in use.
use Rattle.std.proofs.Common.{◌≡◌, inl, inr, ℕ, ◌+◌, ◌<◌, Bool, true, false, cond, List, [], sym, ◌∙◌, ap, subst, refl, length, arith}
use Rattle.std.specs.Prelude.{slice_index}
use Rattle.std.specs.BTreeSet.{BTreeSet, contains, keys}
use Rattle.std.specs.BTreeMap.{is_at}
use Rattle.std.specs.List.{list_any}
use Rattle.std.specs.Ordering.{nat_cmp, is_eq, MatchOrdering}
use Rattle.std.specs.declared.cmp.Ordering.{Ordering}
use Rattle.std.specs.declared.cmp.Ordering.TheVariants.{Less, Equal, Greater}
use Rattle.std.proofs.lemmas.Cmp.{ranked, tied_itself, nat_cmp_total}
use Rattle.std.proofs.lemmas.Bool.{cases_lt}
use Rattle.odb_slots.specs.Sets.{IsOneOf}

-- the first so many of a list are in a set, and none but those of the list
pub record IsTaking (used : List ℕ) (i : ℕ) (set : BTreeSet ℕ) : Type 0 where
  pub used_only : (n : ℕ) → contains nat_cmp set n ≡ true → IsOneOf used n
  pub so_far : (n k : ℕ) → k < i → slice_index used k ≡ n → contains nat_cmp set n ≡ true

pub taking_none : (used : List ℕ) (set : BTreeSet ℕ) → keys set ≡ [] → IsTaking used 0 set
taking_none used set none = record {
  used_only = λ n has. let lacks : contains nat_cmp set n ≡ false = ap (list_any (is_at (nat_cmp n))) none in absurd (cc (has, lacks));
  so_far = λ n k low is. absurd (omega arith);
}

is_equal : (o : Ordering) → is_eq o ≡ true → o ≡ Equal
is_equal Less is = absurd (cc is)
is_equal Equal is = refl
is_equal Greater is = absurd (cc is)

tied : (x y : ℕ) → is_eq (nat_cmp x y) ≡ true → x ≡ y
tied x y is = subst (λ (o : Ordering). MatchOrdering o (x < y) (x ≡ y) (y < x)) (is_equal (nat_cmp x y) is) (ranked x y (nat_cmp x y) refl)

either_way : (b : Bool) → cond b true true ≡ true
either_way true = refl
either_way false = refl

module _ (used : List ℕ) (i : ℕ) (old new : BTreeSet ℕ) (slot : ℕ) (here : slice_index used i ≡ slot) (low : i < length used)
    (so_far : IsTaking used i old) (updates : (n : ℕ) → contains nat_cmp new n ≡ cond (is_at (nat_cmp slot) n) true (contains nat_cmp old n)) where
  pub taking_more : IsTaking used (i + 1) new
  taking_more = record {
    used_only = λ n has. go n (is_at (nat_cmp slot) n) refl has;
    so_far = λ n k below is. elim (cases_lt k i) [
      | inl before ↦ updates n ∙ ap (cond (is_at (nat_cmp slot) n) true) (so_far.so_far n k before is) ∙ either_way (is_at (nat_cmp slot) n)
      | inr from ↦
          let at : k ≡ i = omega arith in
          let same : slot ≡ n = sym here ∙ ap (slice_index used) (sym at) ∙ is in
          let its : is_at (nat_cmp slot) n ≡ true = ap (λ (m : ℕ). is_eq (nat_cmp slot m)) (sym same) ∙ ap is_eq (tied_itself nat_cmp_total slot) in
          updates n ∙ ap (λ (b : Bool). cond b true (contains nat_cmp old n)) its
    ];
  }
    where
      go : (n : ℕ) (b : Bool) → is_at (nat_cmp slot) n ≡ b → contains nat_cmp new n ≡ true → IsOneOf used n
      go n true is has = (i, low, here ∙ tied slot n is)
      go n false is has = so_far.used_only n (sym (ap (λ (b : Bool). cond b true (contains nat_cmp old n)) is) ∙ sym (updates n) ∙ has)
