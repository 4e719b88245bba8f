-- A host in memory, as proofs see it.
use Rattle.std.specs.Prelude.{◌≡◌, ℕ, ◌+◌, ◌-◌, ◌^◌, min, Bool, true, false, ◌&&◌, List, [], length, take, count_by, Some}
use Rattle.odb_device.specs.World.{File, Moment, World, empty_file, file_of}
use Rattle.odb_memstore.specs.declared.recorder.Call.{Call}
use Rattle.odb_memstore.specs.declared.recorder.Call.TheVariants.{Look, Write, Sync, Take, Say}
use Rattle.odb_memstore.specs.declared.recorder.Recorded.{Recorded}
use Rattle.odb_memstore.specs.Numbered.{bytes_of}
use Rattle.odb_memstore.specs.Recording.{Recording, no_calls, is_on}
use Rattle.odb_memstore.specs.Replay.{settled, after_calls, said_by}

-- The most bytes of all files together, of all pieces written, and of all that is said; the files
-- before the first call; the record of the calls; the pieces written, one behind another; all of
-- the input, how much of it was taken, and whether 0 was answered to `take`; the bytes said.
pub record Tape : Type 0 where
  pub room : ℕ
  pub start : List (ℕ × List ℕ)
  pub recording : Recording
  pub pieces : List ℕ
  pub input : List ℕ
  pub taken : ℕ
  pub has_ended : Bool
  pub said : List ℕ

-- a host to which nothing was called yet, with these files
abbrev pub fresh : ℕ → ℕ → List (ℕ × List ℕ) → Tape
fresh room places start = record {
  room = room;
  start = start;
  recording = no_calls places;
  pieces = [];
  input = [];
  taken = 0;
  has_ended = false;
  said = [];
}

-- a file after the first k calls
abbrev pub file_at : Tape → ℕ → ℕ → File
file_at tape k file =
    after_calls tape.pieces file (take k tape.recording.calls) (settled (bytes_of tape.start file))

-- how many moments there are behind the first: one for each call on the record, and behind these
-- one for each call of the store that found no place
abbrev pub time_of : Tape → ℕ
time_of tape = length tape.recording.calls + tape.recording.refused.store

-- a file now
abbrev pub file_now : Tape → ℕ → File
file_now tape file = file_at tape (time_of tape) file

-- how many calls of a kind failed
abbrev pub failures : (Call → Bool) → List Recorded → ℕ
failures is calls = count_by (λ c. is c.call && c.failed) calls

-- the count of a file's faults: its calls that failed, and those of the store that weren't recorded
abbrev pub faults_on : ℕ → Recording → ℕ
faults_on file r = min (failures (is_on file) r.calls + r.refused.store) (2 ^ 64 - 1)

-- and at the moment k, with what failed by then
abbrev pub faults_at : Recording → ℕ → ℕ → ℕ
faults_at r k file =
    min (failures (is_on file) (take k r.calls) + (k - length r.calls)) (2 ^ 64 - 1)

-- the files, the bytes said and the counts at the moment k
abbrev pub moment_of : Tape → ℕ → Moment
moment_of tape k = record {
  files = λ file. Some (file_at tape k file);
  said = Some (take (said_by (take k tape.recording.calls)) tape.said);
  faults = faults_at tape.recording k;
}

-- the call is a `take`
abbrev pub is_take : Call → Bool
is_take Take = true
is_take (Look file) = false
is_take (Write file at from len) = false
is_take (Sync file) = false
is_take (Say len) = false

-- the call is a `say`
abbrev pub is_say : Call → Bool
is_say (Say len) = true
is_say (Look file) = false
is_say (Write file at from len) = false
is_say (Sync file) = false
is_say Take = false

-- What it shows: each call is a moment, but for those of the console that found no place or no
-- room; and all is told. A file's count is that of its failed calls, and of all calls of the store that
-- found no place; like each count it stands still at the end of its type.
abbrev pub world_of : Tape → World
world_of tape = record {
  time = time_of tape;
  moment = moment_of tape;
  talk = record {
    taken = Some (take tape.taken tape.input);
    has_ended = tape.has_ended;
    take_faults =
        min (failures is_take tape.recording.calls + tape.recording.refused.take) (2 ^ 64 - 1);
    say_faults =
        min (failures is_say tape.recording.calls + tape.recording.refused.say) (2 ^ 64 - 1);
  };
}

-- nothing was called yet to what is left of a host, which has the room and the places of that host
abbrev pub IsFreshOf : Tape → Tape → Type 0
IsFreshOf tape left = left ≡ fresh tape.room tape.recording.places left.start

-- each file is told, and was never written
abbrev pub HasEmptyFiles : Tape → Type 0
HasEmptyFiles tape = (file : ℕ) → file_of file (world_of tape) ≡ Some empty_file
