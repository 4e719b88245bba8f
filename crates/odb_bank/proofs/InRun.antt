-- The search for a slot in an ascending run.
use Rattle.std.proofs.Common.{◌≡◌, inl, inr, ℕ, ◌<◌, ◌≤◌, Bool, true, false, List, length, get_or, Result, Ok, Err, sym, ◌∙◌, ap, subst, refl, arith}
use Rattle.std.specs.Prelude.{is_ok}
use Rattle.std.specs.List.{AllPairs}
use Rattle.std.specs.List.Sorted.{IsBinarySearchResult, IsSearchInRange, IsNonDecreasingBy}
use Rattle.std.specs.Ordering.{nat_cmp, ordering_index, MatchOrdering}
use Rattle.std.specs.declared.cmp.Ordering.{Ordering}
use Rattle.std.specs.declared.cmp.Ordering.TheVariants.{Less, Equal, Greater}
use Rattle.std.proofs.lemmas.Bool.{cases_lt}
use Rattle.std.proofs.lemmas.Cmp.{ranked, tied_itself, nat_cmp_total}
use Rattle.odb_slots.specs.Sets.{IsOneOf}
use Rattle.odb_bank.specs.Gates.{is_in}
use Rattle.odb_bank.proofs.GateTurn.{in_one, out_one}

rises : (a c n : ℕ) → a ≤ c → (o p : Ordering) → nat_cmp a n ≡ o → nat_cmp c n ≡ p → ordering_index o ≤ ordering_index p
rises a c n low o p one other = go o p (ranked a n o (sym one)) (ranked c n p (sym other))
  where
    go : (o p : Ordering) → MatchOrdering o (a < n) (a ≡ n) (n < a) → MatchOrdering p (c < n) (c ≡ n) (n < c) → ordering_index o ≤ ordering_index p
    go Less p h k = omega arith
    go Equal Less h k = let e : a ≡ n = h in let f : c < n = k in absurd (omega (arith, e, f, low))
    go Equal Equal h k = omega arith
    go Equal Greater h k = omega arith
    go Greater Less h k = let e : n < a = h in let f : c < n = k in absurd (omega (arith, e, f, low))
    go Greater Equal h k = let e : n < a = h in let f : c ≡ n = k in absurd (omega (arith, e, f, low))
    go Greater Greater h k = omega arith

run_rises : (run : List ℕ) (n : ℕ) → AllPairs (λ a c. a < c) run → IsNonDecreasingBy (λ (x : ℕ). ordering_index (nat_cmp x n)) run
run_rises run n up i j d upto within = elim (cases_lt i j) [
  | inl below ↦ rises (get_or run i d) (get_or run j d) n (omega (arith, up i j d below within)) (nat_cmp (get_or run i d) n) (nat_cmp (get_or run j d) n) refl refl
  | inr from ↦
      let same : i ≡ j = omega arith in
      omega (arith, ap (λ (k : ℕ). ordering_index (nat_cmp (get_or run k d) n)) same)
]

equal_is : (a n : ℕ) → nat_cmp a n ≡ Equal → a ≡ n
equal_is a n is = subst (λ (o : Ordering). MatchOrdering o (a < n) (a ≡ n) (n < a)) is (ranked a n (nat_cmp a n) refl)

is_there : (run : List ℕ) (n : ℕ) → IsOneOf run n → (b : Bool) → is_in run n ≡ b → true ≡ is_in run n
is_there run n one true is = sym is
is_there run n one false is = absurd (out_one run n is one)

is_away : (run : List ℕ) (n : ℕ) → (IsOneOf run n → ⊥) → (b : Bool) → is_in run n ≡ b → false ≡ is_in run n
is_away run n none false is = sym is
is_away run n none true is = absurd (none (in_one run n is))

pub found_in : (run : List ℕ) (n : ℕ) (r : Result ℕ ℕ) → AllPairs (λ a c. a < c) run → IsSearchInRange r (length run)
    → IsBinarySearchResult (λ (x : ℕ). nat_cmp x n) run r → is_ok r ≡ is_in run n
found_in run n (Ok k) up inside found = is_there run n (k, inside, equal_is (get_or run k 0) n (found 0)) (is_in run n) refl
found_in run n (Err i) up inside found = is_away run n none (is_in run n) refl
  where
    none : IsOneOf run n → ⊥
    none one =
        let splits = found (run_rises run n up) in
        let here : nat_cmp (get_or run one.0 0) n ≡ Equal = ap (λ (x : ℕ). nat_cmp x n) one.2 ∙ tied_itself nat_cmp_total n in
        elim (cases_lt one.0 i) [
          | inl below ↦ let less : nat_cmp (get_or run one.0 0) n ≡ Less = splits.0 one.0 0 (omega arith) below in cc (here, less)
          | inr from ↦ let more : nat_cmp (get_or run one.0 0) n ≡ Greater = splits.1 one.0 0 from one.1 in cc (here, more)
        ]
