-- What a decoder answers, by what reading gives.
use Rattle.std.proofs.Common.{◌≡◌, ℕ, ◌-◌, ◌≤◌, List, length, Result, Ok, Err, sym, ap, ◌∙◌, arith}
use Rattle.odb_codec.specs.declared.error.CodecError.{CodecError}
use Rattle.odb_codec.specs.declared.error.CodecError.TheVariants.{Malformed}
use Rattle.odb_codec.specs.Reading.{IsFirstFault}

abbrev refused : {A : Type 0} → CodecError → Result A CodecError
refused e = Err e

-- the place that a refusal names
pub place_is : {A : Type 0} (read : Result A ℕ) (bytes : List ℕ) (left at : ℕ) (e : CodecError) → left ≤ length bytes → read ≡ Err left → e ≡ Malformed (length bytes - left) → refused {A = A} e ≡ refused (Malformed at) → IsFirstFault read bytes at
place_is read bytes left at e le fault is same =
    let place : at ≡ length bytes - left = cc in
    let back : length bytes - at ≡ left = omega arith in
    record { within = omega arith; fault = fault ∙ ap Err (sym back) }

-- bytes at fault are no image
pub no_fault : {A P : Type 0} (read : Result A ℕ) (left : ℕ) (x : A) → read ≡ Err left → read ≡ Ok x → P
no_fault read left x fault found = absurd cc

-- a reader gives one value
pub one_value : {A : Type 0} (read : Result A ℕ) (x y : A) → read ≡ Ok x → read ≡ Ok y → x ≡ y
one_value read x y p q = cc
