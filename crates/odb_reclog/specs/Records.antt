-- The records of a region of a file, one behind another: what bytes stand for. A record is a gate
-- of one byte, the payload's length in four, its number in eight, and the payload.
use Rattle.std.specs.Prelude.{◌≡◌, ◌⊎◌, ℕ, zero, suc, ◌+◌, ◌-◌, Bool, ◌&&◌, ◌==◌, nat_le, if◌then◌else◌, List, [], ◌∷◌, length, slice_index, Option, Some, None}
use Rattle.std.specs.Int.{w32, w64, from_be_bytes}
use Rattle.odb_device.specs.Images.{part}
use Rattle.odb_reclog.specs.declared.record.LogRecord.{LogRecord}

-- a gate is open exactly where it is this byte
abbrev pub OPEN : ℕ
OPEN = 0xA5

-- the bytes of a record before its payload
abbrev pub HEAD : ℕ
HEAD = 13

unfoldable pub gate_at : ℕ → List ℕ → ℕ
gate_at place bytes = slice_index bytes place

unfoldable pub size_at : ℕ → List ℕ → ℕ
size_at place bytes = from_be_bytes w32 (part (place + 1) 4 bytes)

unfoldable pub number_at : ℕ → List ℕ → ℕ
number_at place bytes = from_be_bytes w64 (part (place + 5) 8 bytes)

unfoldable pub payload_at : ℕ → List ℕ → List ℕ
payload_at place bytes = part (place + HEAD) (size_at place bytes) bytes

-- the first byte behind the record
abbrev pub end_at : ℕ → List ℕ → ℕ
end_at place bytes = place + HEAD + size_at place bytes

-- an open record of this number stands at the place and ends inside the region
abbrev pub is_record : ℕ → ℕ → ℕ → List ℕ → Bool
is_record end number place bytes =
    (gate_at place bytes == OPEN) && (number_at place bytes == number)
    && nat_le (end_at place bytes) end

-- the payloads of at most so many records from the place on, up to the first place that isn't one
-- of the next number
abbrev pub records_from : ℕ → ℕ → ℕ → ℕ → List ℕ → List (List ℕ)
records_from zero end number place bytes = []
records_from (suc most) end number place bytes =
    if is_record end number place bytes
    then payload_at place bytes ∷ records_from most end (number + 1) (end_at place bytes) bytes
    else []

-- The list of a region: the payloads of its records, the first of which has this number and each
-- later one the next. There are fewer records than bytes.
abbrev pub log_of : ℕ → ℕ → ℕ → List ℕ → List (List ℕ)
log_of start end first bytes = records_from (suc (end - start)) end first start bytes

-- where the list ends that begins at a place
abbrev pub end_of_list : ℕ → List (List ℕ) → ℕ
end_of_list place [] = place
end_of_list place (payload ∷ rest) = end_of_list (place + HEAD + length payload) rest

-- `at` is the place of a record of the list that begins at a place, or its end
abbrev pub IsPlaceIn : ℕ → List (List ℕ) → ℕ → Type 0
IsPlaceIn place [] at = at ≡ place
IsPlaceIn place (payload ∷ rest) at =
    (at ≡ place) ⊎ IsPlaceIn (place + HEAD + length payload) rest at

-- the record at the place `at`, of the list that begins at a place with this number; at the list's
-- end there is none
abbrev pub record_in : ℕ → ℕ → List (List ℕ) → ℕ → Option LogRecord
record_in place number [] at = None
record_in place number (payload ∷ rest) at =
    let next = place + HEAD + length payload in
    if at == place
    then Some (record { number = number; payload = payload; next = next })
    else record_in next (number + 1) rest at
