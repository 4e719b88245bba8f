-- The test of a text.
use Rattle.std.proofs.Common.{◌≡◌, ℕ, true, false, cond, ◌&&◌, List, length, Option, Some, None, Result, Ok, Err, refl, sym, ap, ◌∙◌, ◌↔◌}
use Rattle.std.specs.Prelude.{IsSome, IfSome, IfOk, nat_le}
use Rattle.std.specs.List.{list_all}
use Rattle.std.specs.Str.{IsUtf8, is_utf8}
use Rattle.std.proofs.lemmas.Bool.{and_parts, and_from, leb-true, le-leb, false_from_ne_true, cond-true, cond-false}
use Rattle.std.proofs.lemmas.Str.{IsUtf8-from_is_utf8, is_utf8-from_IsUtf8}
use Rattle.odb_values.specs.Text.{IsText, is_plain}
use Rattle.odb_codec.specs.Reading.{is_text}

pub IsText-from_test : (bytes : List ℕ) → is_text bytes ≡ true → IsText bytes
unfolding is_text
IsText-from_test bytes h =
    let a = and_parts (is_utf8 bytes && list_all is_plain bytes) (nat_le (length bytes) 800) h in
    let b = and_parts (is_utf8 bytes) (list_all is_plain bytes) a.0 in
    record { utf8 = IsUtf8-from_is_utf8 bytes b.0; plain = b.1; short = leb-true (length bytes) 800 a.1 }

pub test_from-IsText : (bytes : List ℕ) → IsText bytes → is_text bytes ≡ true
unfolding is_text
test_from-IsText bytes text =
    and_from (is_utf8 bytes && list_all is_plain bytes) (nat_le (length bytes) 800) (and_from (is_utf8 bytes) (list_all is_plain bytes) (is_utf8-from_IsUtf8 bytes text.utf8) text.plain) (le-leb (length bytes) 800 text.short)

-- what a function says that makes a text where it can
pub is_made : (bytes : List ℕ) (made : Option (List ℕ)) → (IsSome made ↔ IsText bytes) → IfSome made (λ copy. copy ≡ bytes) → made ≡ cond (is_text bytes) (Some bytes) None
is_made bytes None made same =
    let no : is_text bytes ≡ false = false_from_ne_true (is_text bytes) (λ t. let some : IsSome {T = List ℕ} None = made.1 (IsText-from_test bytes t) in cc) in
    sym (cond-false (is_text bytes) (Some bytes) None no)
is_made bytes (Some copy) made same =
    let yes : is_text bytes ≡ true = test_from-IsText bytes (made.0 refl) in
    ap Some same ∙ sym (cond-true (is_text bytes) (Some bytes) None yes)

pub if_made : {E : Type 0} (bytes : List ℕ) (made : Result (Option (List ℕ)) E) → IfOk made (λ m. IsSome m ↔ IsText bytes) → IfOk made (λ m. IfSome m (λ copy. copy ≡ bytes)) → IfOk made (λ m. m ≡ cond (is_text bytes) (Some bytes) None)
if_made bytes (Ok m) text value = is_made bytes m text value
if_made bytes (Err e) text value = tt

pub is_none_made : (bytes : List ℕ) → ¬ (IsUtf8 bytes) → None ≡ cond (is_text bytes) (Some bytes) None
is_none_made bytes broken =
    let no : is_text bytes ≡ false = false_from_ne_true (is_text bytes) (λ t. broken (IsText-from_test bytes t).utf8) in
    sym (cond-false (is_text bytes) (Some bytes) None no)
