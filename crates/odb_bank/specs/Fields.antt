-- The 36 bytes that a databank file keeps beside its limit: the format in 2 bytes, the number of
-- the databank in 4, the mark in 8, big-endian, and 22 zeros.
use Rattle.std.specs.Prelude.{ℕ, List, [], ◌∷◌, Option, Some, None}
use Rattle.odb_fields.specs.Fields.{padded_image, fields_of}
use Rattle.odb_bank.specs.declared.fields.BankFields.{BankFields}

abbrev pub widths : List ℕ
widths = 2 ∷ 4 ∷ 8 ∷ []

abbrev pub numbers_of : BankFields → List ℕ
numbers_of f = f.format ∷ f.bank ∷ f.mark ∷ []

abbrev pub fields_image : BankFields → List ℕ
fields_image f = padded_image 36 widths (numbers_of f)

abbrev pub of_numbers : Option (List ℕ) → Option BankFields
of_numbers (Some (format ∷ bank ∷ mark ∷ [])) =
    Some (record { format = format; bank = bank; mark = mark })
of_numbers numbers = None

-- the fields that bytes are the image of; None where they are none's
abbrev pub fields_in : List ℕ → Option BankFields
fields_in bytes = of_numbers (fields_of 36 widths bytes)

-- those of a file of format 1
abbrev pub bank_image : ℕ → ℕ → List ℕ
bank_image bank mark = fields_image (record { format = 1; bank = bank; mark = mark })
