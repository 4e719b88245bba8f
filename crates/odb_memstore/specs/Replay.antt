-- What the calls on the record made of a file and of the bytes said.
use Rattle.std.specs.Prelude.{ℕ, Bool, if◌then◌else◌, ◌==◌, ◌&&◌, not, List, [], ◌∷◌, sum_by}
use Rattle.odb_device.specs.World.{File}
use Rattle.odb_device.specs.Images.{part, written, torn, kept}
use Rattle.odb_memstore.specs.declared.recorder.Call.{Call}
use Rattle.odb_memstore.specs.declared.recorder.Call.TheVariants.{Look, Write, Sync, Take, Say}
use Rattle.odb_memstore.specs.declared.recorder.Recorded.{Recorded}

-- a file whose bytes are all on the disk
abbrev pub settled : List ℕ → File
settled bytes = record { bytes = bytes; synced = bytes; ranges = [] }

-- A file after one call, the bytes of a write being a part of the pieces. A write that failed
-- changes no bytes, but a crash may leave anything in its range.
abbrev pub after_call : List ℕ → ℕ → Call → Bool → File → File
after_call pieces file (Look of) failed f = f
after_call pieces file (Write of at from len) failed f =
    if of == file
    then (if failed then torn at len f.bytes f else written at (part from len pieces) f)
    else f
after_call pieces file (Sync of) failed f = if of == file && not failed then kept f else f
after_call pieces file Take failed f = f
after_call pieces file (Say len) failed f = f

-- and after calls in order
abbrev pub after_calls : List ℕ → ℕ → List Recorded → File → File
after_calls pieces file [] f = f
after_calls pieces file (c ∷ calls) f =
    after_calls pieces file calls (after_call pieces file c.call c.failed f)

-- how many bytes one call said
abbrev pub said_in : Call → Bool → ℕ
said_in (Say len) failed = if failed then 0 else len
said_in (Look file) failed = 0
said_in (Write file at from len) failed = 0
said_in (Sync file) failed = 0
said_in Take failed = 0

-- how many bytes these calls said
abbrev pub said_by : List Recorded → ℕ
said_by calls = sum_by (λ c. said_in c.call c.failed) calls
