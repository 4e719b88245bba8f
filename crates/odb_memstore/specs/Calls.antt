-- Which calls of a host in memory fail, and what each call makes of it.
use Rattle.std.specs.Prelude.{◌≡◌, ℕ, ◌+◌, max, Bool, if◌then◌else◌, ◌==◌, ◌||◌, nat_lt, List, ◌++◌, length, take, drop, Result, IfOk}
use Rattle.odb_device.specs.World.{File}
use Rattle.odb_device.specs.Images.{written, torn, kept}
use Rattle.odb_memstore.specs.declared.recorder.Call.{Call}
use Rattle.odb_memstore.specs.declared.recorder.Call.TheVariants.{Write, Take, Say}
use Rattle.odb_memstore.specs.Numbered.{all_lengths}
use Rattle.odb_memstore.specs.Recording.{is_full, is_listed, fails, asked, noted, past_write, refused}
use Rattle.odb_memstore.specs.Tape.{Tape, file_now}

-- the lengths of all files together, were this one at least so long
abbrev pub total_with : Tape → ℕ → ℕ → ℕ
total_with tape file end =
    all_lengths (λ g. let n = length (file_now tape g).bytes in if g == file then max n end else n)

-- a write of n bytes finds no place, or no room: the lengths of all files, or of all pieces
-- written, would be above it
abbrev pub is_past_write : ℕ → ℕ → ℕ → Tape → Bool
is_past_write file at n tape =
    is_full tape.recording
    || nat_lt tape.room (total_with tape file (at + n))
    || nat_lt tape.room (length tape.pieces + n)

-- such a write fails: it is past its place or room, or its number is listed
abbrev pub fails_to_write : ℕ → ℕ → ℕ → Tape → Bool
fails_to_write file at n tape = is_past_write file at n tape || is_listed tape.recording

-- n more bytes find no place to be said, or no room: then the bytes said would be above it
abbrev pub is_past_say : ℕ → Tape → Bool
is_past_say n tape = is_full tape.recording || nat_lt tape.room (length tape.said + n)

-- a `say` of n bytes fails: it is past its place or room, or its number is listed
abbrev pub fails_to_say : ℕ → Tape → Bool
fails_to_say n tape = is_past_say n tape || is_listed tape.recording

-- what a call that needs no room makes of the record
abbrev pub after_ask : Call → Tape → Tape
after_ask call tape = record tape { recording = asked call tape.recording }

-- a call that isn't recorded is only counted
abbrev pub after_refusal : Call → Tape → Tape
after_refusal call tape = record tape { recording = refused call tape.recording }

-- what a write past its place or room makes of the record
abbrev pub after_past_write : ℕ → Tape → Tape
after_past_write file tape = record tape { recording = past_write file tape.recording }

-- what a write makes of the record: its bytes are kept with it, also where it is listed
abbrev pub after_write : ℕ → ℕ → List ℕ → Tape → Tape
after_write file at bytes tape =
    let call = Write file at (length tape.pieces) (length bytes) in
    if is_past_write file at (length bytes) tape then after_past_write file tape
    else record tape { recording = noted call tape.recording; pieces = tape.pieces ++ bytes }

-- A file after a write. One past its place or room leaves all as it was; one that is listed leaves
-- the bytes, but a crash may leave anything in its range.
abbrev pub file_after_write : ℕ → ℕ → List ℕ → Tape → File
file_after_write file at bytes tape =
    let f = file_now tape file in
    if is_past_write file at (length bytes) tape then f
    else if is_listed tape.recording then torn at (length bytes) f.bytes f
    else written at bytes f

-- a file after a sync: one that fails settles nothing
abbrev pub file_after_sync : ℕ → Tape → File
file_after_sync file tape = let f = file_now tape file in if fails tape.recording then f else kept f

-- the bytes that a `take` of at most so many gives
abbrev pub next_input : ℕ → Tape → List ℕ
next_input most tape = take most (drop tape.taken tape.input)

-- what a `take` of at most so many bytes makes of the record
abbrev pub after_take : ℕ → Tape → Tape
after_take most tape =
    let n = length (next_input most tape) in
    if fails tape.recording then after_ask Take tape
    else record tape {
      recording = noted Take tape.recording;
      taken = tape.taken + n;
      has_ended = (n == 0) || tape.has_ended;
    }

-- what a `say` makes of the record
abbrev pub after_say : List ℕ → Tape → Tape
after_say bytes tape =
    let call = Say (length bytes) in
    if is_past_say (length bytes) tape then after_refusal call tape
    else record tape {
      recording = noted call tape.recording;
      said = if is_listed tape.recording then tape.said else tape.said ++ bytes;
    }

-- a `take` into `out`, of at most so many bytes: what it gives are the next bytes of the input, and
-- this is what it makes of the record
pub record TakesNext {E : Type 0} (most : ℕ) (out : List ℕ) (result : Result ℕ E) (old new : Tape)
    : Type 0 where
  pub bytes : IfOk result (λ n. take n out ≡ next_input most old)
  pub next : new ≡ after_take most old
