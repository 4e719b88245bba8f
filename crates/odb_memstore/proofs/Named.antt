-- What a file's new bytes make of all files.
use Rattle.std.proofs.Common.{◌≡◌, ◌≢◌, inl, inr, ℕ, zero, suc, ◌+◌, ◌<◌, ◌≤◌, ◌^◌, Bool, true, false, List, [], ◌∷◌, length, refl, sym, ◌∙◌, ap, arith}
use Rattle.std.specs.Prelude.{if◌then◌else◌, ◌==◌}
use Rattle.std.proofs.lemmas.Bool.{cases_Bool, eqb-true, ne_eqb, eq-eqb, cases_eq}
use Rattle.odb_memstore.specs.Layout.{total_length}
use Rattle.odb_memstore.specs.Numbered.{bytes_of, with_bytes, sum_below, all_lengths, lengths_of}

abbrev Files : Type 0
Files = List (ℕ × List ℕ)

same_number : (n : ℕ) → (n == n) ≡ true
same_number n = eq-eqb n n refl

module _ (file : ℕ) (bytes : List ℕ) where
  pub bytes_of-same : (files : Files) → bytes_of (with_bytes files file bytes) file ≡ bytes
  bytes_of-same [] = ap (λ (b : Bool). if b then bytes else []) (same_number file)
  bytes_of-same (f ∷ files) = elim (cases_Bool (f.0 == file)) [
    | inl is ↦ rw is (rw is refl)
    | inr isnt ↦ rw isnt (rw isnt (bytes_of-same files))
  ]

  pub bytes_of-other : (files : Files) (g : ℕ) → g ≢ file → bytes_of (with_bytes files file bytes) g ≡ bytes_of files g
  bytes_of-other [] g other = ap (λ (b : Bool). if b then bytes else []) (ne_eqb file g (λ e. other (sym e)))
  bytes_of-other (f ∷ files) g other = elim (cases_Bool (f.0 == file)) [
    | inl is ↦
        let differs : (f.0 == g) ≡ false = ne_eqb f.0 g (λ e. other (sym e ∙ eqb-true f.0 file is)) in
        rw is (rw differs refl)
    | inr isnt ↦ rw isnt (ap (λ (l : List ℕ). if f.0 == g then f.1 else l) (bytes_of-other files g other))
  ]

  pub with_again : (before : List ℕ) (files : Files) → with_bytes (with_bytes files file before) file bytes ≡ with_bytes files file bytes
  with_again before [] = ap (λ (b : Bool). if b then (file, bytes) ∷ [] else (file, before) ∷ (file, bytes) ∷ []) (same_number file)
  with_again before (f ∷ files) = elim (cases_Bool (f.0 == file)) [
    | inl is ↦ rw is (rw is refl)
    | inr isnt ↦ rw isnt (rw isnt (ap (λ (l : Files). f ∷ l) (with_again before files)))
  ]

  pub total-with : (files : Files) → total_length (with_bytes files file bytes) + length (bytes_of files file) ≡ total_length files + length bytes
  total-with [] = omega arith
  total-with (f ∷ files) = elim (f.0 == file) as (λ b. total_length (if b then (f.0, bytes) ∷ files else f ∷ with_bytes files file bytes) + length (if b then f.1 else bytes_of files file) ≡ length f.1 + total_length files + length bytes) [
    | true ↦ omega arith
    | false ↦ omega (arith, total-with files)
  ]

  pub length-with : (files : Files) → length (with_bytes files file bytes) ≤ length files + 1
  length-with [] = omega arith
  length-with (f ∷ files) = elim (f.0 == file) as (λ b. length (if b then (f.0, bytes) ∷ files else f ∷ with_bytes files file bytes) ≤ suc (length files) + 1) [
    | true ↦ omega arith
    | false ↦ omega (arith, length-with files)
  ]

sum-zero : (n : ℕ) → sum_below n (λ _. 0) ≡ 0
unfolding sum_below
sum-zero zero = refl
sum-zero (suc n) = omega (arith, sum-zero n)

sum-same : (n : ℕ) (a b : ℕ → ℕ) → ((k : ℕ) → k < n → a k ≡ b k) → sum_below n a ≡ sum_below n b
unfolding sum_below
sum-same zero a b each = refl
sum-same (suc n) a b each = omega (arith, each n (omega arith), sum-same n a b (λ k low. each k (omega arith)))

-- where one number alone has another
sum-change : (n g : ℕ) (a b : ℕ → ℕ) → g < n → ((k : ℕ) → k ≢ g → b k ≡ a k) → sum_below n b + a g ≡ sum_below n a + b g
unfolding sum_below
sum-change zero g a b low each = absurd (omega arith)
sum-change (suc n) g a b low each = elim (cases_eq n g) [
  | inl is ↦
      let rest = sum-same n b a (λ k below. each k (omega arith)) in
      let top : (b n ≡ b g) × (a n ≡ a g) = (ap b is, ap a is) in
      omega (arith, rest, top.0, top.1)
  | inr other ↦ omega (arith, each n other, sum-change n g a b (omega arith) each)
]

pub all-zero : all_lengths (λ _. 0) ≡ 0
unfolding all_lengths
all-zero = sum-zero (2 ^ 32)

pub all-change : (g : ℕ) (a b : ℕ → ℕ) → g < 2 ^ 32 → ((k : ℕ) → k ≢ g → b k ≡ a k) → all_lengths b + a g ≡ all_lengths a + b g
unfolding all_lengths
all-change g a b low each = sum-change (2 ^ 32) g a b low each

-- where one file has other bytes, the lengths of all change by as much
pub lengths-with : (files : Files) (file : ℕ) (bytes : List ℕ) → file < 2 ^ 32 → lengths_of (with_bytes files file bytes) + length (bytes_of files file) ≡ lengths_of files + length bytes
lengths-with files file bytes low =
    let change = all-change file (λ g. length (bytes_of files g)) (λ g. length (bytes_of (with_bytes files file bytes) g)) low (λ g other. ap length (bytes_of-other file bytes files g other)) in
    omega (arith, change, ap length (bytes_of-same file bytes files))

pub total_kept : (files : Files) (file : ℕ) (bytes : List ℕ) → file < 2 ^ 32 → total_length files ≡ lengths_of files → total_length (with_bytes files file bytes) ≡ lengths_of (with_bytes files file bytes)
total_kept files file bytes low total = omega (arith, total, total-with file bytes files, lengths-with files file bytes low)
