-- The mark that the fields of a file have.
use Rattle.std.proofs.Common.{◌≡◌, ℕ, ◌^◌, ◌<◌, List, [], ◌∷◌, Option, Some, None, sym, ◌∙◌, ap, refl, arith}
use Rattle.odb_fields.specs.Fields.{padded_image, fields_of}
use Rattle.odb_fields.proofs.Back.{found, only}
use Rattle.odb_bank.specs.declared.fields.BankFields.{BankFields}
use Rattle.odb_bank.specs.Fields.{widths, fields_image, of_numbers, fields_in, bank_image}

-- what is written is read
fields_again : (f : BankFields) → f.format < 2 ^ 16 → f.bank < 2 ^ 32 → f.mark < 2 ^ 64 → fields_in (fields_image f) ≡ Some f
fields_again f format bank mark = ap of_numbers (found 36 widths (f.format ∷ f.bank ∷ f.mark ∷ []) (omega arith, (omega arith, (omega arith, tt))))

-- and what is read was written
of_given : (numbers : Option (List ℕ)) (bytes : List ℕ) (f : BankFields) → ((ns : List ℕ) → numbers ≡ Some ns → bytes ≡ padded_image 36 widths ns) → of_numbers numbers ≡ Some f → bytes ≡ fields_image f
of_given None bytes f are is = absurd (cc is)
of_given (Some []) bytes f are is = absurd (cc is)
of_given (Some (a ∷ [])) bytes f are is = absurd (cc is)
of_given (Some (a ∷ b ∷ [])) bytes f are is = absurd (cc is)
of_given (Some (a ∷ b ∷ c ∷ [])) bytes f are is =
    let same : f ≡ record { format = a; bank = b; mark = c } = cc is in
    are (a ∷ b ∷ c ∷ []) refl ∙ ap fields_image (sym same)
of_given (Some (a ∷ b ∷ c ∷ d ∷ ns)) bytes f are is = absurd (cc is)

fields_written : (bytes : List ℕ) (f : BankFields) → fields_in bytes ≡ Some f → bytes ≡ fields_image f
fields_written bytes f is = of_given (fields_of 36 widths bytes) bytes f (λ ns e. only 36 widths ns bytes e) is

pub mark_found : (bytes : List ℕ) (bank : ℕ) (f : BankFields) → fields_in bytes ≡ Some f → f.format ≡ 1 → f.bank ≡ bank → bytes ≡ bank_image bank f.mark
mark_found bytes bank f is format its =
    fields_written bytes f is
    ∙ ap (λ (n : ℕ). fields_image (record { format = n; bank = f.bank; mark = f.mark })) format
    ∙ ap (λ (n : ℕ). bank_image n f.mark) its

bank_read : (bytes : List ℕ) (bank mark : ℕ) → bank < 2 ^ 32 → mark < 2 ^ 64 → bytes ≡ bank_image bank mark → fields_in bytes ≡ Some (record { format = 1; bank = bank; mark = mark })
bank_read bytes bank mark low small is = ap fields_in is ∙ fields_again (record { format = 1; bank = bank; mark = mark }) (omega arith) low small

pub mark_lacks : (bytes : List ℕ) (bank mark : ℕ) → bank < 2 ^ 32 → mark < 2 ^ 64 → fields_in bytes ≡ None → bytes ≡ bank_image bank mark → ⊥
mark_lacks bytes bank mark low small none is = let some = bank_read bytes bank mark low small is in cc (none, some)

-- where they are other fields, or have another mark
pub mark_is : (bytes : List ℕ) (bank mark : ℕ) (f : BankFields) → bank < 2 ^ 32 → mark < 2 ^ 64 → fields_in bytes ≡ Some f → bytes ≡ bank_image bank mark → (f.format ≡ 1) × (f.bank ≡ bank) × (f.mark ≡ mark)
mark_is bytes bank mark f low small is its =
    let same : f ≡ record { format = 1; bank = bank; mark = mark } = cc (is, bank_read bytes bank mark low small its) in
    (ap (λ (x : BankFields). x.format) same, ap (λ (x : BankFields). x.bank) same, ap (λ (x : BankFields). x.mark) same)

-- two images of fields with one databank's number have one mark
abbrev first_fields : ℕ → ℕ → BankFields
first_fields bank mark = record { format = 1; bank = bank; mark = mark }

pub mark_same : (bank one other : ℕ) → bank < 2 ^ 32 → one < 2 ^ 64 → other < 2 ^ 64 → bank_image bank one ≡ bank_image bank other → one ≡ other
mark_same bank one other low small fits same =
    let pair : first_fields bank one ≡ first_fields bank other = cc (bank_read (bank_image bank one) bank one low small refl, bank_read (bank_image bank one) bank other low fits same) in
    ap (λ (f : BankFields). f.mark) pair
