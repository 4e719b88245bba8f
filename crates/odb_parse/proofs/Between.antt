-- A number that stands between two texts.
use Rattle.std.proofs.Common.{◌≡◌, ℕ, ◌^◌, ◌<◌, List, ◌++◌, Option, Some, None, IfSome, IfNone, Result, Ok, Err, refl, sym, ◌∙◌, ap, append_assoc, arith}
use Rattle.std.specs.Fmt.{decimal}
use Rattle.std.specs.Result.{OkIff, result_ok}
use Rattle.std.proofs.lemmas.Fmt.{decimal_injective}
use Rattle.std.proofs.lemmas.List.{append_cancel_left, append_cancel_right}

-- what stands between the texts is told by the line
pub between_same : (line before after rest number ds : List ℕ) → line ≡ before ++ rest → rest ≡ number ++ after → line ≡ before ++ ds ++ after → number ≡ ds
between_same line before after rest number ds front back whole =
    let same : rest ≡ ds ++ after = append_cancel_left before rest (ds ++ after) (sym front ∙ whole ∙ append_assoc before ds after) in
    append_cancel_right number ds after (sym back ∙ same)

pub between_found : (line before after rest number : List ℕ) (r : Option ℕ) → line ≡ before ++ rest → rest ≡ number ++ after → IfSome r (λ n. (n < 10 ^ 15) × (number ≡ decimal n)) → IfSome r (λ n. (n < 10 ^ 15) × (line ≡ before ++ decimal n ++ after))
between_found line before after rest number None front back found = tt
between_found line before after rest number (Some n) front back found =
    (found.0, front ∙ ap (λ x. before ++ x) (back ∙ ap (λ x. x ++ after) found.1) ∙ sym (append_assoc before (decimal n) after))

pub between_none : (line before after rest number : List ℕ) (r : Option ℕ) → line ≡ before ++ rest → rest ≡ number ++ after → IfNone r ((n : ℕ) → n < 10 ^ 15 → number ≡ decimal n → ⊥) → IfNone r ((n : ℕ) → n < 10 ^ 15 → line ≡ before ++ decimal n ++ after → ⊥)
between_none line before after rest number (Some n) front back none = tt
between_none line before after rest number None front back none = λ n few whole.
    none n few (between_same line before after rest number (decimal n) front back whole)

-- a number of 2^32 or more is no file's
pub file_none : {E : Type 0} (line before after : List ℕ) (n : ℕ) (r : Result ℕ E) → n < 10 ^ 15 → line ≡ before ++ decimal n ++ after → OkIff r (n < 2 ^ 32) n → IfNone (result_ok r) ((m : ℕ) → m < 2 ^ 32 → line ≡ before ++ decimal m ++ after → ⊥)
file_none line before after n (Ok m) few spelled narrow = tt
file_none line before after n (Err e) few spelled wide = λ m small whole.
    let same : decimal n ≡ decimal m = between_same line before after (decimal n ++ after) (decimal n) (decimal m) (spelled ∙ append_assoc before (decimal n) after) refl whole in
    let equal : n ≡ m = decimal_injective n m (omega arith) (omega arith) same in
    wide (omega arith)
