-- The fields of the log, as their bytes read.
use Rattle.std.proofs.Common.{◌≡◌, ℕ, Bool, true, false, List, [], ◌∷◌, drop, Option, Some, None, sym, ◌∙◌, ap, arith}
use Rattle.std.specs.Prelude.{◌==◌, slice_index, if◌then◌else◌}
use Rattle.std.specs.Cmp.Lexicographic.{pointwise}
use Rattle.std.proofs.lemmas.List.{drop-drop}
use Rattle.byteorder.specs.Endian.{big_number}
use Rattle.byteorder.specs.Numbers.{big_from-take}
use Rattle.odb_device.specs.Images.{part}
use Rattle.odb_device.proofs.Bytes.{part_at}
use Rattle.odb_fields.specs.Fields.{numbers_in, padded_image}
use Rattle.odb_logdb.specs.declared.fields.LogFields.{LogFields}
use Rattle.odb_logdb.specs.Fields.{widths, numbers_of, fields_image, of_numbers, fields_in}

-- they are read from their places
pub record AreFields (bytes : List ℕ) (f : LogFields) : Type 0 where
  pub format : f.format ≡ big_number 2 (part 0 2 bytes)
  pub state : f.state ≡ big_number 1 (part 2 1 bytes)
  pub first : f.first ≡ big_number 8 (part 3 8 bytes)
  pub start : f.start ≡ big_number 8 (part 11 8 bytes)

-- the one byte of the state
pub state_at : (bytes : List ℕ) → slice_index bytes 2 ≡ big_number 1 (part 2 1 bytes)
state_at bytes = let here = part_at 2 1 bytes 0 (omega arith) in omega (arith, here)

numbers_read : (bytes : List ℕ) (f : LogFields) → AreFields bytes f → numbers_in widths bytes ≡ numbers_of f
numbers_read bytes f are =
    let format : big_number 2 bytes ≡ f.format = sym (big_from-take 0 2 2 bytes (omega arith)) ∙ sym are.format in
    let state : big_number 1 (drop 2 bytes) ≡ f.state = sym (big_from-take 0 1 1 (drop 2 bytes) (omega arith)) ∙ sym are.state in
    let behind : drop 1 (drop 2 bytes) ≡ drop 3 bytes = drop-drop 1 2 bytes in
    let first : big_number 8 (drop 1 (drop 2 bytes)) ≡ f.first = ap (big_number 8) behind ∙ sym (big_from-take 0 8 8 (drop 3 bytes) (omega arith)) ∙ sym are.first in
    let further : drop 8 (drop 1 (drop 2 bytes)) ≡ drop 11 bytes = ap (drop 8) behind ∙ drop-drop 8 3 bytes in
    let start : big_number 8 (drop 8 (drop 1 (drop 2 bytes))) ≡ f.start = ap (big_number 8) further ∙ sym (big_from-take 0 8 8 (drop 11 bytes) (omega arith)) ∙ sym are.start in
    ap (λ (n : ℕ). n ∷ big_number 1 (drop 2 bytes) ∷ big_number 8 (drop 1 (drop 2 bytes)) ∷ big_number 8 (drop 8 (drop 1 (drop 2 bytes))) ∷ []) format
    ∙ ap (λ (n : ℕ). f.format ∷ n ∷ big_number 8 (drop 1 (drop 2 bytes)) ∷ big_number 8 (drop 8 (drop 1 (drop 2 bytes))) ∷ []) state
    ∙ ap (λ (n : ℕ). f.format ∷ f.state ∷ n ∷ big_number 8 (drop 8 (drop 1 (drop 2 bytes))) ∷ []) first
    ∙ ap (λ (n : ℕ). f.format ∷ f.state ∷ f.first ∷ n ∷ []) start

-- and they are the fields where the rest is as their image has it
tested : List ℕ → List ℕ → Option LogFields
tested bytes numbers = of_numbers (if pointwise ◌==◌ (padded_image 36 widths numbers) bytes then Some numbers else None)

module _ (bytes : List ℕ) (f : LogFields) (are : AreFields bytes f) where
  by_test : (b : Bool) → pointwise ◌==◌ (fields_image f) bytes ≡ b → fields_in bytes ≡ of_numbers (if b then Some (numbers_of f) else None)
  unfolding tested
  by_test b e = ap (tested bytes) (numbers_read bytes f are) ∙ ap (λ (t : Bool). of_numbers (if t then Some (numbers_of f) else None)) e

  pub found_some : pointwise ◌==◌ (fields_image f) bytes ≡ true → fields_in bytes ≡ Some f
  found_some e = by_test true e

  pub found_none : pointwise ◌==◌ (fields_image f) bytes ≡ false → fields_in bytes ≡ None
  found_none e = by_test false e
