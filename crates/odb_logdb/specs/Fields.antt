-- The 36 bytes that the log keeps beside its limit: the format in 2 bytes, the state in 1 (1 Live, 2
-- Dirty), the number of the first entry in 8, the start of the records in 8, counted from the
-- content's first byte, big-endian, and 17 zeros.
use Rattle.std.specs.Prelude.{ℕ, ◌*◌, ◌^◌, Bool, ◌&&◌, ◌==◌, nat_le, List, [], ◌∷◌, Option, Some, None, if◌then◌else◌}
use Rattle.std.specs.Int.{is_in_range}
use Rattle.odb_fields.specs.Fields.{padded_image, fields_of}
use Rattle.odb_logdb.specs.declared.fields.LogFields.{LogFields}

abbrev pub widths : List ℕ
widths = 2 ∷ 1 ∷ 8 ∷ 8 ∷ []

abbrev pub numbers_of : LogFields → List ℕ
numbers_of f = f.format ∷ f.state ∷ f.first ∷ f.start ∷ []

abbrev pub fields_image : LogFields → List ℕ
fields_image f = padded_image 36 widths (numbers_of f)

abbrev pub of_numbers : Option (List ℕ) → Option LogFields
of_numbers (Some (format ∷ state ∷ first ∷ start ∷ [])) =
    Some (record { format = format; state = state; first = first; start = start })
of_numbers numbers = None

-- the fields that bytes are the image of; None where they are none's
abbrev pub fields_in : List ℕ → Option LogFields
fields_in bytes = of_numbers (fields_of 36 widths bytes)

abbrev pub LIVE : ℕ
LIVE = 1

abbrev pub DIRTY : ℕ
DIRTY = 2

-- format 1, Live or Dirty, a first number from 1 to 2^63, and a start inside so many extents
abbrev pub is_lawful : ℕ → LogFields → Bool
is_lawful limit f =
    (f.format == 1) && is_in_range LIVE DIRTY f.state && is_in_range 1 (2 ^ 63) f.first
    && nat_le f.start (1048576 * limit)

-- those of a log whose records begin at the content's first byte
abbrev pub log_fields : ℕ → ℕ → LogFields
log_fields state first = record { format = 1; state = state; first = first; start = 0 }

-- the lawful fields that bytes are the image of, in a file of so many extents; None where they are
-- none's
abbrev pub lawful : ℕ → Option LogFields → Option LogFields
lawful limit None = None
lawful limit (Some f) = if is_lawful limit f then Some f else None

abbrev pub lawful_in : ℕ → List ℕ → Option LogFields
lawful_in limit bytes = lawful limit (fields_in bytes)
