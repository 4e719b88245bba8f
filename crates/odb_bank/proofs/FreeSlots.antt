-- The search for free slots.
use Rattle.std.proofs.Common.{◌≡◌, ◌⊎◌, inl, inr, ℕ, zero, suc, ◌+◌, ◌<◌, ◌≤◌, Bool, List, [], ◌∷◌, ◌++◌, length, get_or, sym, ◌∙◌, ap, subst, refl, arith}
use Rattle.std.specs.Prelude.{slice_index, nat_lt, if◌then◌else◌}
use Rattle.std.specs.List.{All, AllPairs}
use Rattle.std.proofs.lemmas.Bool.{cases_lt, lt-ltb, le-ltb}
use Rattle.std.proofs.lemmas.List.{length_push, get_or_append_left, get_or_push, get_or-append-add, length-append}
use Rattle.std.proofs.lemmas.List.Quantifiers.{all_pairs_push}
use Rattle.odb_slots.specs.Sets.{IsOneOf}
use Rattle.odb_bank.specs.Room.{AreFree}

-- the slots below this one
pub record IsFinding (used : List ℕ) (slot : ℕ) (free : List ℕ) : Type 0 where
  pub low : All (λ n. n < slot) free
  pub ascending : AllPairs (λ a c. a < c) free
  pub unused : (n : ℕ) → IsOneOf free n → IsOneOf used n → ⊥
  pub covered : (m : ℕ) → m < slot → IsOneOf used m ⊎ IsOneOf free m

pub finding_none : (used : List ℕ) → IsFinding used 0 []
finding_none used = record {
  low = λ k d low. absurd (omega arith);
  ascending = λ i j d low within. absurd (omega arith);
  unused = λ n one two. absurd (omega (arith, one.1));
  covered = λ m low. absurd (omega arith);
}

-- one of a list, and one more
one_before : (xs : List ℕ) (y n : ℕ) → IsOneOf xs n → IsOneOf (xs ++ y ∷ []) n
one_before xs y n one = (one.0, omega (arith, one.1, length_push xs y), get_or_append_left xs (y ∷ []) 0 one.0 one.1 ∙ one.2)

one_last : (xs : List ℕ) (y : ℕ) → IsOneOf (xs ++ y ∷ []) y
one_last xs y = (length xs, omega (arith, length_push xs y), get_or_push xs y 0 (length xs) refl)

one_cases : (xs : List ℕ) (y n : ℕ) → IsOneOf (xs ++ y ∷ []) n → IsOneOf xs n ⊎ (y ≡ n)
one_cases xs y n one = elim (cases_lt one.0 (length xs)) [
  | inl before ↦ inl (one.0, before, sym (get_or_append_left xs (y ∷ []) 0 one.0 before) ∙ one.2)
  | inr from ↦
      let last : length xs ≡ one.0 = omega (arith, one.1, length_push xs y) in
      inr (sym (get_or_push xs y 0 one.0 last) ∙ one.2)
]

last_slot : (slot m : ℕ) → m < slot + 1 → (m ≡ slot) ⊎ (m < slot)
last_slot slot m low = elim (cases_lt m slot) [ inl before ↦ inr before | inr from ↦ inl (omega arith) ]

module _ (used : List ℕ) (slot : ℕ) (free : List ℕ) (so_far : IsFinding used slot free) where
  pub finding_used : IsOneOf used slot → IsFinding used (slot + 1) free
  finding_used is = record {
    low = λ k d low. omega (arith, so_far.low k d low);
    ascending = so_far.ascending;
    unused = so_far.unused;
    covered = λ m low. elim (last_slot slot m low) [
      | inl last ↦ inl (subst (IsOneOf used) (sym last) is)
      | inr before ↦ so_far.covered m before
    ];
  }

  pub finding_free : (IsOneOf used slot → ⊥) → IsFinding used (slot + 1) (free ++ slot ∷ [])
  finding_free is = record {
    low = λ k d low. low_at k d low (cases_lt k (length free));
    ascending = all_pairs_push (λ a c. a < c) free slot so_far.ascending so_far.low;
    unused = λ n one two. elim (one_cases free slot n one) [
      | inl before ↦ so_far.unused n before two
      | inr last ↦ is (subst (IsOneOf used) (sym last) two)
    ];
    covered = λ m low. elim (last_slot slot m low) [
      | inl last ↦ inr (subst (IsOneOf (free ++ slot ∷ [])) (sym last) (one_last free slot))
      | inr before ↦ elim (so_far.covered m before) [ inl one ↦ inl one | inr one ↦ inr (one_before free slot m one) ]
    ];
  }
    where
      low_at : (k d : ℕ) → k < length (free ++ slot ∷ []) → (k < length free) ⊎ (length free ≤ k) → get_or (free ++ slot ∷ []) k d < slot + 1
      low_at k d low (inl before) = omega (arith, so_far.low k d before, get_or_append_left free (slot ∷ []) d k before)
      low_at k d low (inr from) =
          let last : length free ≡ k = omega (arith, low, length_push free slot) in
          omega (arith, get_or_push free slot d k last)

  -- enough of them
  pub found_free : (count : ℕ) → length free ≡ count → slot ≤ 4194304 → AreFree used count free
  found_free count all low = record {
    as_many = all;
    ascending = so_far.ascending;
    unused = so_far.unused;
    least = λ n below one less. so_far.covered below (omega (arith, less, so_far.low one.0 0 one.1, one.2));
    small = λ k d within. omega (arith, so_far.low k d within);
  }

-- how many of a list are below a number
abbrev tick : ℕ → ℕ → ℕ
tick x n = if nat_lt x n then 1 else 0

abbrev below : ℕ → List ℕ → ℕ
below n [] = 0
below n (x ∷ xs) = tick x n + below n xs

tick_low : (x n : ℕ) → x < n → tick x n ≡ 1
tick_low x n low = ap (λ (b : Bool). if b then 1 else 0) (lt-ltb x n low)

tick_high : (x n : ℕ) → n ≤ x → tick x n ≡ 0
tick_high x n high = ap (λ (b : Bool). if b then 1 else 0) (le-ltb x n high)

tick_most : (x n : ℕ) → tick x n ≤ 1
tick_most x n = elim (cases_lt x n) [ inl low ↦ omega (arith, tick_low x n low) | inr high ↦ omega (arith, tick_high x n high) ]

tick_more : (x n : ℕ) → tick x n ≤ tick x (suc n)
tick_more x n = elim (cases_lt x n) [ inl low ↦ omega (arith, tick_low x n low, tick_low x (suc n) (omega arith)) | inr high ↦ omega (arith, tick_high x n high) ]

below_most : (n : ℕ) (xs : List ℕ) → below n xs ≤ length xs
below_most n [] = omega arith
below_most n (x ∷ xs) = omega (arith, tick_most x n, below_most n xs)

below_more : (n : ℕ) (xs : List ℕ) → below n xs ≤ below (suc n) xs
below_more n [] = omega arith
below_more n (x ∷ xs) = omega (arith, tick_more x n, below_more n xs)

below_at : (n : ℕ) (xs : List ℕ) (k : ℕ) → k < length xs → slice_index xs k ≡ n → suc (below n xs) ≤ below (suc n) xs
below_at n [] k low is = absurd (omega arith)
below_at n (x ∷ xs) zero low is = omega (arith, tick_high x n (omega (arith, is)), tick_low x (suc n) (omega (arith, is)), below_more n xs)
below_at n (x ∷ xs) (suc k) low is = omega (arith, tick_more x n, below_at n xs k (omega arith) is)

all_below : (n : ℕ) (xs : List ℕ) → ((m : ℕ) → m < n → IsOneOf xs m) → n ≤ below n xs
all_below zero xs all = omega arith
all_below (suc n) xs all =
    let one = all n (omega arith) in
    omega (arith, all_below n xs (λ m low. all m (omega arith)), below_at n xs one.0 one.1 one.2)

-- where each slot is used or found, there are as many
one_left : (xs ys : List ℕ) (m : ℕ) → IsOneOf xs m → IsOneOf (xs ++ ys) m
one_left xs ys m one = (one.0, omega (arith, one.1, length-append xs ys), get_or_append_left xs ys 0 one.0 one.1 ∙ one.2)

one_right : (xs ys : List ℕ) (m : ℕ) → IsOneOf ys m → IsOneOf (xs ++ ys) m
one_right xs ys m one = (length xs + one.0, omega (arith, one.1, length-append xs ys), get_or-append-add xs ys one.0 0 ∙ one.2)

pub all_found : (used free : List ℕ) (n count : ℕ) → IsFinding used n free → length used + count ≤ n → length free ≤ count → length free ≡ count
all_found used free n count so_far room few =
    let every = all_below n (used ++ free) (λ m low. elim (so_far.covered m low) [ inl one ↦ one_left used free m one | inr one ↦ one_right used free m one ]) in
    omega (arith, every, below_most n (used ++ free), length-append used free)
