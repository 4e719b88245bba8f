-- Frames as bytes, and the frame that bytes begin with. The format is this project's own.
use Rattle.std.specs.Prelude.{◌≡◌, ◌⊎◌, ℕ, ◌^◌, ◌<◌, ◌≤◌, nat_lt, if◌then◌else◌, List, [], ◌∷◌, ◌++◌, length, take, drop, Option, Some, None, Result, Ok, Err}
use Rattle.byteorder.specs.Endian.{big_bytes, big_number}
use Rattle.odb_frame.specs.declared.error.FrameError.{FrameError}
use Rattle.odb_frame.specs.declared.error.FrameError.TheVariants.{TooLong, Cut, LinkFault, NoMemory}

-- how many bytes the length takes that a frame begins with
abbrev pub head_size : ℕ
head_size = 4

-- how many bytes the body of a frame that is read has at most
abbrev pub most_body : ℕ
most_body = 65536

-- the frame of this body: its length, and the body
abbrev pub frame : List ℕ → List ℕ
frame body = big_bytes head_size (length body) ++ body

-- the frames of these bodies, one behind another
abbrev pub frames : List (List ℕ) → List ℕ
frames [] = []
frames (body ∷ bodies) = frame body ++ frames bodies

-- each of these bodies is short enough to be read
abbrev pub AreShort : List (List ℕ) → Type 0
AreShort [] = Unit {0}
AreShort (body ∷ bodies) = (length body ≤ most_body) × AreShort bodies

-- what bytes begin with: they are none, they end inside a frame, a whole frame with this body, or
-- the length of a frame that is too long
pub data First : Type 0 where
  Nothing : First
  Part : First
  Whole : List ℕ → First
  Long : ℕ → First

-- what begins with a length: its body stands behind it, wholly or not, unless it is too long
abbrev pub first_body : ℕ → List ℕ → First
first_body size rest =
    if nat_lt most_body size then Long size
    else if nat_lt (length rest) size then Part
    else Whole (take size rest)

-- what these bytes begin with
abbrev pub first_of : List ℕ → First
first_of [] = Nothing
first_of (b ∷ bytes) =
    let all = b ∷ bytes in
    if nat_lt (length all) head_size then Part
    else first_body (big_number head_size all) (drop head_size all)

-- of bytes that begin so, and end there if they end inside a frame, this is answered
abbrev pub answer_of : First → Result (Option (List ℕ)) FrameError
answer_of Nothing = Ok None
answer_of Part = Err Cut
answer_of (Whole body) = Ok (Some body)
answer_of (Long size) = Err (TooLong size)

-- no whole frame, and no length of a frame that is too long
abbrev pub IsUnfinished : List ℕ → Type 0
IsUnfinished bytes = (first_of bytes ≡ Nothing) ⊎ (first_of bytes ≡ Part)

-- the length of a frame that isn't too long, and nothing of its body
pub record IsHead (bytes : List ℕ) : Type 0 where
  pub size : ℕ
  pub is : bytes ≡ big_bytes head_size size
  pub short : size ≤ most_body

-- What is answered where just these bytes are received: a frame, of which they are the whole, and
-- none behind it; no frame, where they are none; the length that is too long, of which they are the
-- whole; or that they end inside a frame. A fault comes before a frame is whole, and want of memory
-- behind its length
abbrev pub IsAnswer : List ℕ → Result (Option (List ℕ)) FrameError → Type 0
IsAnswer bytes (Ok (Some body)) = (bytes ≡ frame body) × (length body ≤ most_body)
IsAnswer bytes (Ok None) = bytes ≡ []
IsAnswer bytes (Err (TooLong size)) =
    (bytes ≡ big_bytes head_size size) × (most_body < size) × (size < 2 ^ 32)
IsAnswer bytes (Err Cut) = first_of bytes ≡ Part
IsAnswer bytes (Err LinkFault) = IsUnfinished bytes
IsAnswer bytes (Err NoMemory) = IsHead bytes

-- the answer needs the end of the input
abbrev pub NeedsEnd : Result (Option (List ℕ)) FrameError → Type 0
NeedsEnd result = (result ≡ Ok None) ⊎ (result ≡ Err Cut)

-- the answer tells what the input begins with
abbrev pub IsTelling : Result (Option (List ℕ)) FrameError → Type 0
IsTelling result = (result ≡ Err LinkFault → ⊥) × (result ≡ Err NoMemory → ⊥)
