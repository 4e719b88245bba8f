-- The fields of a databank file, as their bytes read.
use Rattle.std.proofs.Common.{◌≡◌, ℕ, Bool, true, false, List, [], ◌∷◌, drop, Option, Some, None, sym, ◌∙◌, ap, arith}
use Rattle.std.specs.Prelude.{◌==◌, if◌then◌else◌}
use Rattle.std.specs.Cmp.Lexicographic.{pointwise}
use Rattle.std.proofs.lemmas.List.{drop-drop}
use Rattle.byteorder.specs.Endian.{big_number}
use Rattle.byteorder.specs.Numbers.{big_from-take}
use Rattle.odb_device.specs.Images.{part}
use Rattle.odb_fields.specs.Fields.{numbers_in, padded_image}
use Rattle.odb_bank.specs.declared.fields.BankFields.{BankFields}
use Rattle.odb_bank.specs.Fields.{widths, numbers_of, fields_image, of_numbers, fields_in}

-- they are read from their places
pub record AreFields (bytes : List ℕ) (f : BankFields) : Type 0 where
  pub format : f.format ≡ big_number 2 (part 0 2 bytes)
  pub bank : f.bank ≡ big_number 4 (part 2 4 bytes)
  pub mark : f.mark ≡ big_number 8 (part 6 8 bytes)

numbers_read : (bytes : List ℕ) (f : BankFields) → AreFields bytes f → numbers_in widths bytes ≡ numbers_of f
numbers_read bytes f are =
    let format : big_number 2 bytes ≡ f.format = sym (big_from-take 0 2 2 bytes (omega arith)) ∙ sym are.format in
    let bank : big_number 4 (drop 2 bytes) ≡ f.bank = sym (big_from-take 0 4 4 (drop 2 bytes) (omega arith)) ∙ sym are.bank in
    let behind : drop 4 (drop 2 bytes) ≡ drop 6 bytes = drop-drop 4 2 bytes in
    let mark : big_number 8 (drop 4 (drop 2 bytes)) ≡ f.mark = ap (big_number 8) behind ∙ sym (big_from-take 0 8 8 (drop 6 bytes) (omega arith)) ∙ sym are.mark in
    ap (λ (n : ℕ). n ∷ big_number 4 (drop 2 bytes) ∷ big_number 8 (drop 4 (drop 2 bytes)) ∷ []) format
    ∙ ap (λ (n : ℕ). f.format ∷ n ∷ big_number 8 (drop 4 (drop 2 bytes)) ∷ []) bank
    ∙ ap (λ (n : ℕ). f.format ∷ f.bank ∷ n ∷ []) mark

-- and they are the fields where the rest is as their image has it
tested : List ℕ → List ℕ → Option BankFields
tested bytes numbers = of_numbers (if pointwise ◌==◌ (padded_image 36 widths numbers) bytes then Some numbers else None)

module _ (bytes : List ℕ) (f : BankFields) (are : AreFields bytes f) where
  by_test : (b : Bool) → pointwise ◌==◌ (fields_image f) bytes ≡ b → fields_in bytes ≡ of_numbers (if b then Some (numbers_of f) else None)
  unfolding tested
  by_test b e = ap (tested bytes) (numbers_read bytes f are) ∙ ap (λ (t : Bool). of_numbers (if t then Some (numbers_of f) else None)) e

  pub found_some : pointwise ◌==◌ (fields_image f) bytes ≡ true → fields_in bytes ≡ Some f
  found_some e = by_test true e

  pub found_none : pointwise ◌==◌ (fields_image f) bytes ≡ false → fields_in bytes ≡ None
  found_none e = by_test false e
