-- What a crash leaves of the files, by the digits of a number.
use Rattle.std.specs.Prelude.{◌≡◌, ℕ, zero, suc, ◌+◌, ◌/◌, ◌%◌, Bool, false, if◌then◌else◌, ◌==◌, ◌&&◌, not, List, [], ◌∷◌, length, take, drop, replicate}
use Rattle.std.specs.List.{list_any}
use Rattle.odb_device.specs.Images.{IsImage, part, overwritten}
use Rattle.odb_memstore.specs.declared.recorder.Call.{Call}
use Rattle.odb_memstore.specs.declared.recorder.Call.TheVariants.{Look, Write, Sync, Take, Say}
use Rattle.odb_memstore.specs.declared.recorder.Recorded.{Recorded}
use Rattle.odb_memstore.specs.Numbered.{bytes_of, extended}
use Rattle.odb_memstore.specs.Tape.{Tape, file_at, file_now}

-- the lowest n digits of a number to base 3, the lowest first
unfoldable pub digits : ℕ → ℕ → List ℕ
digits zero pick = []
digits (suc n) pick = (pick % 3) ∷ digits n (pick / 3)

-- the first of these digits; 0 where none is left
abbrev pub first_digit : List ℕ → ℕ
first_digit [] = 0
first_digit (digit ∷ rest) = digit

-- a sync of the file
abbrev pub is_sync : ℕ → Call → Bool
is_sync file (Sync of) = of == file
is_sync file (Look of) = false
is_sync file (Write of at from len) = false
is_sync file Take = false
is_sync file (Say len) = false

-- a sync of the file among these calls succeeded
abbrev pub is_synced : ℕ → List Recorded → Bool
is_synced file calls = list_any (λ c. is_sync file c.call && not c.failed) calls

-- a write, failed or not, after which no sync of its file succeeded: its range is unsettled
abbrev pub is_unsettled : Call → List Recorded → Bool
is_unsettled (Write of at from len) later = not (is_synced of later)
is_unsettled (Look of) later = false
is_unsettled (Sync of) later = false
is_unsettled Take later = false
is_unsettled (Say len) later = false

-- what an unsettled range holds: with 0 what it held before, with zeros past the old end; with 1
-- what was written; with 2 bytes 0xA5
abbrev pub held_by : ℕ → ℕ → List ℕ → List ℕ → List ℕ
held_by digit at piece bytes =
    if digit == 0 then extended (at + length piece) bytes
    else if digit == 1 then overwritten at piece bytes
    else overwritten at (replicate (length piece) 0xA5) bytes

-- what one call leaves of a file before these later calls, of which the first digit speaks where it
-- is unsettled
abbrev pub left_by_call : List ℕ → ℕ → Call → Bool → List Recorded → List ℕ → List ℕ → List ℕ
left_by_call pieces file (Write of at from len) failed later ds bytes =
    if of == file then
    (if is_synced of later
    then (if failed then bytes else overwritten at (part from len pieces) bytes)
    else held_by (first_digit ds) at (part from len pieces) bytes)
    else bytes
left_by_call pieces file (Look of) failed later ds bytes = bytes
left_by_call pieces file (Sync of) failed later ds bytes = bytes
left_by_call pieces file Take failed later ds bytes = bytes
left_by_call pieces file (Say len) failed later ds bytes = bytes

-- the digits that are left after a call
abbrev pub digits_after : Call → List Recorded → List ℕ → List ℕ
digits_after call later ds = if is_unsettled call later then drop 1 ds else ds

-- and what all these calls leave of it: the unsettled ranges of all files take the digits in the
-- order of the calls
abbrev pub left_by : List ℕ → ℕ → List Recorded → List ℕ → List ℕ → List ℕ
left_by pieces file [] ds bytes = bytes
left_by pieces file (c ∷ later) ds bytes =
    left_by pieces file later (digits_after c.call later ds)
    (left_by_call pieces file c.call c.failed later ds bytes)

-- what one call leaves of each of these files before these later calls
abbrev pub LeavesCall : List ℕ → Recorded → List Recorded → List ℕ
    → List (ℕ × List ℕ) → List (ℕ × List ℕ) → Type 0
LeavesCall pieces c later ds old new =
    (file : ℕ)
    → bytes_of new file ≡ left_by_call pieces file c.call c.failed later ds (bytes_of old file)

-- and what all these calls leave of each
abbrev pub LeavesCalls : List ℕ → List Recorded → List ℕ
    → List (ℕ × List ℕ) → List (ℕ × List ℕ) → Type 0
LeavesCalls pieces calls ds old new =
    (file : ℕ) → bytes_of new file ≡ left_by pieces file calls ds (bytes_of old file)

-- a file after a crash that comes behind the first so many calls: 40 digits of the number to base 3
-- say what the unsettled ranges hold, and those behind them hold what they held before
abbrev pub crash_image : Tape → ℕ → ℕ → ℕ → List ℕ
crash_image tape calls pick file =
    left_by tape.pieces file (take calls tape.recording.calls) (digits 40 pick)
    (bytes_of tape.start file)

-- each file of the host left has these bytes
abbrev pub LeavesDigits : Tape → ℕ → ℕ → Tape → Type 0
LeavesDigits tape calls pick left =
    (file : ℕ) → (file_now left file).bytes ≡ crash_image tape calls pick file

-- and so one of the images that it had behind these calls
abbrev pub LeavesImages : Tape → ℕ → Tape → Type 0
LeavesImages tape calls left =
    (file : ℕ) → IsImage (file_at tape calls file) (file_now left file).bytes
