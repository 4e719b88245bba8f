-- The first item of a list that passes a test.
use Rattle.std.proofs.Common.{◌≡◌, ℕ, ◌-◌, ◌≤◌, ◌==◌, ◌&&◌, Bool, true, false, cond, List, [], ◌∷◌, length, take, drop, get_or, filter, find, Option, Some, refl, sym, ap, ◌∙◌, arith, take_all, true≢false}
use Rattle.std.specs.Char.{to_ascii_lowercase}
use Rattle.std.specs.Str.{str_eq_ignore_ascii_case}
use Rattle.std.proofs.lemmas.Bool.{cond-false}

-- where the first item fails, it is the first of the others
pub find_later : {K : Type 0} (p : K → Bool) (xs : List K) (d : K) (r : Option K) → 1 ≤ length xs → p (get_or xs 0 d) ≡ false
    → r ≡ find p (take (length xs - 1) (drop 1 xs)) → r ≡ find p xs
find_later p [] d r some first found = absurd (omega arith)
find_later p (x ∷ xs) d r some first found =
    let e : length (x ∷ xs) - 1 ≡ length xs = omega arith in
    found ∙ ap (λ n. find p (take n xs)) e ∙ ap (find p) (take_all (length xs) xs (omega arith)) ∙ sym (cond-false (p x) (Some x) (find p xs) first)

-- where all that the test passes is within a second test, the first is that of those within
pub find_within : {K : Type 0} (p q : K → Bool) → ((k : K) → p k ≡ true → q k ≡ true) → (xs : List K) → find p xs ≡ find p (filter q xs)
find_within p q within [] = refl
find_within p q within (x ∷ xs) =
    elim (q x) as (λ b. q x ≡ b → cond (p x) (Some x) (find p xs) ≡ find p (cond b (x ∷ filter q xs) (filter q xs))) [
      | true ↦ λ _. ap (cond (p x) (Some x)) (find_within p q within xs)
      | false ↦ λ out. elim (p x) as (λ b. p x ≡ b → cond b (Some x) (find p xs) ≡ find p (filter q xs)) [
        | true ↦ λ passes. absurd (true≢false (sym (within x passes) ∙ out))
        | false ↦ λ _. find_within p q within xs
      ] refl
    ] refl

-- texts that are one but for large and small letters begin with one letter
pub alike_begin : (a b : List ℕ) → 1 ≤ length b → str_eq_ignore_ascii_case a b ≡ true → (to_ascii_lowercase (get_or a 0 0) == to_ascii_lowercase (get_or b 0 0)) ≡ true
alike_begin a [] some same = absurd (omega arith)
alike_begin [] (y ∷ ys) some same = absurd (true≢false (sym same))
alike_begin (x ∷ xs) (y ∷ ys) some same = and_first (to_ascii_lowercase x == to_ascii_lowercase y) _ same where
  and_first : (a b : Bool) → (a && b) ≡ true → a ≡ true
  and_first true b e = refl
  and_first false b e = absurd (true≢false (sym e))
