-- What the calls for tests make of a host in memory.
use Rattle.std.specs.Prelude.{◌≡◌, ◌≢◌, ℕ, List, ◌++◌, map}
use Rattle.odb_device.specs.World.{World, file_of}
use Rattle.odb_memstore.specs.Numbered.{with_bytes}
use Rattle.odb_memstore.specs.Recording.{forgotten, with_listed}
use Rattle.odb_memstore.specs.Tape.{Tape}

-- this call is listed too
abbrev pub with_failing : ℕ → Tape → Tape
with_failing call tape = record tape { recording = with_listed call tape.recording }

-- these bytes are to be taken after the others
abbrev pub with_input : List ℕ → Tape → Tape
with_input bytes tape = record tape { input = tape.input ++ bytes }

-- the file had these bytes from the start, and the calls on it count as mere looks
abbrev pub with_file : ℕ → List ℕ → Tape → Tape
with_file file bytes tape = record tape {
  start = with_bytes tape.start file bytes;
  recording = record tape.recording { calls = map (forgotten file) tape.recording.calls };
}

-- every other file is as before, its images too
abbrev pub LeavesOthers : ℕ → World → World → Type 0
LeavesOthers file old new = (g : ℕ) → g ≢ file → file_of g new ≡ file_of g old
