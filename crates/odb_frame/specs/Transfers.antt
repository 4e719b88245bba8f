-- What reading and writing frames do to a link.
use Rattle.std.specs.Prelude.{◌≡◌, ℕ, ◌<◌, nat_lt, Bool, true, ◌||◌, List, length, take, Option, Some, None, Result, Ok, Err}
use Rattle.odb_device.specs.Connections.{Wire, Receives, Sends}
use Rattle.odb_frame.specs.declared.error.FrameError.{FrameError}
use Rattle.odb_frame.specs.declared.error.FrameError.TheVariants.{TooLong, Cut, LinkFault, NoMemory}
use Rattle.odb_frame.specs.Frames.{IsAnswer}

-- just some bytes are received, of which this is answered
abbrev pub Answers : Result (Option (List ℕ)) FrameError → Wire → Wire → Type 0
Answers result old new = (bytes : List ℕ) × Receives bytes old new × IsAnswer bytes result

-- whether the end of the input is recorded behind this answer: it is where the answer rests on it,
-- and else as it was
abbrev pub ended_by : Result (Option (List ℕ)) FrameError → Bool → Bool
ended_by (Ok None) before = true
ended_by (Ok (Some body)) before = before
ended_by (Err Cut) before = true
ended_by (Err (TooLong size)) before = before
ended_by (Err LinkFault) before = before
ended_by (Err NoMemory) before = before

-- a front of these bytes, shorter than the whole, is sent
abbrev pub BreaksOff : List ℕ → Wire → Wire → Type 0
BreaksOff bytes old new = (n : ℕ) × (n < length bytes) × Sends (take n bytes) old new

-- fewer bytes than so many are received, and the record of the input's end stays
abbrev pub ReceivesFewer : ℕ → Wire → Wire → Type 0
ReceivesFewer size old new =
    (bytes : List ℕ) × (length bytes < size) × Receives bytes old new
    × (new.has_ended ≡ old.has_ended)

-- whether the end of the input is recorded where n of so many bytes were received: it is where
-- these are fewer, and else as it was
abbrev pub ended_at : ℕ → ℕ → Bool → Bool
ended_at n size before = nat_lt n size || before
