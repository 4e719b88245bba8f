-- A pair in memory and the bytes of its file.
use Rattle.std.specs.Prelude.{◌≡◌, ◌≢◌, ◌⊎◌, ℕ, ◌-◌, ◌≤◌, Bool, true, false, List, length, Option}
use Rattle.odb_device.specs.World.{File, World}
use Rattle.odb_device.specs.Images.{EachImage}
use Rattle.odb_device.specs.Moments.{Runs, WritesWithin}
use Rattle.odb_pair.specs.Places.{OPEN, gate, sequence, payload, next, Holds}

-- Its file, the place that counts with its number, the value kept, what the other place may hold
-- since a fault, whether the other place's gate is closed on the disk, and whether no crash leaves
-- another value than the one kept.
pub record PairState : Type 0 where
  pub file : ℕ
  pub place : ℕ
  pub sequence : ℕ
  pub value : List ℕ
  pub tried : List ℕ
  pub closed : Bool
  pub settled : Bool

-- What the other place may have: what was tried, under the next number; or the number before, and
-- so an older value.
abbrev pub IsTriedOrOlder : PairState → List ℕ → Type 0
IsTriedOrOlder pair bytes =
    let other = 1 - pair.place in
    ((sequence other bytes ≡ next pair.sequence) × (payload other bytes ≡ pair.tried))
    ⊎ (next (sequence other bytes) ≡ pair.sequence)

-- The bytes are those of the pair: the place that counts, 0 or 1, is open and has its number and
-- value, and the other is closed or may be open.
pub record StandsFor (pair : PairState) (bytes : List ℕ) : Type 0 where
  pub place : pair.place ≤ 1
  pub long : 1024 ≤ length bytes
  pub is_open : gate pair.place bytes ≡ OPEN
  pub number : sequence pair.place bytes ≡ pair.sequence
  pub value : payload pair.place bytes ≡ pair.value
  pub closed : pair.closed ≡ true → gate (1 - pair.place) bytes ≢ OPEN
  pub other : pair.closed ≡ false → IsTriedOrOlder pair bytes

-- each image of the file is one of the pair's
abbrev pub Stands : PairState → Option File → Type 0
Stands pair file = EachImage (StandsFor pair) file

-- From old to new only the first 1,024 bytes of the pair's file change, and at each moment each
-- image of it has P.
pub record RunsPair (pair : PairState) (P : List ℕ → Type 0) (old new : World) : Type 0 where
  pub run : Runs pair.file (EachImage P) old new
  pub beside : WritesWithin pair.file 0 1024 old new

-- they hold the value kept, or that of the last broken put since then that came as far as its gate
abbrev pub HoldsKept : PairState → List ℕ → Type 0
HoldsKept pair bytes = Holds pair.value bytes ⊎ Holds pair.tried bytes

-- or a new one
abbrev pub HoldsKeptOr : PairState → List ℕ → List ℕ → Type 0
HoldsKeptOr pair value bytes = HoldsKept pair bytes ⊎ Holds value bytes

-- a place is 0 or 1, and where the pair is settled nothing but the value kept was tried
pub record IsSound (pair : PairState) : Type 0 where
  pub place : pair.place ≤ 1
  pub settled : pair.settled ≡ true → pair.tried ≡ pair.value

-- what `format` makes
abbrev pub formatted : ℕ → List ℕ → PairState
formatted file value = record {
  file = file;
  place = 0;
  sequence = 1;
  value = value;
  tried = value;
  closed = true;
  settled = true;
}

-- after a put of this value with Ok: the other place counts, under the next number
abbrev pub after_put : PairState → List ℕ → PairState
after_put pair value = record pair {
  place = 1 - pair.place;
  sequence = next pair.sequence;
  value = value;
  tried = value;
  closed = false;
  settled = true;
}

-- the other place's gate is closed on the disk
abbrev pub with_closed : PairState → PairState
with_closed pair = record pair { closed = true }

-- this value is tried, and the other place's gate may be open
abbrev pub with_tried : List ℕ → PairState → PairState
with_tried value pair = record pair { tried = value; closed = false }

-- a crash may leave another value than the one kept
abbrev pub unsettled : PairState → PairState
unsettled pair = record pair { settled = false }

-- after a put of this value that failed: what counts stays, the pair is unsettled, and this value
-- may be the one tried
pub record LeavesUnsettled (given : List ℕ) (old new : PairState) : Type 0 where
  pub place : new.place ≡ old.place
  pub sequence : new.sequence ≡ old.sequence
  pub value : new.value ≡ old.value
  pub tried : (new.tried ≡ old.tried) ⊎ (new.tried ≡ given)
  pub settled : new.settled ≡ false

-- after a settle with Ok: no crash leaves another value than the one kept, and where the pair was
-- unsettled that one is put once more
pub record Settles (old new : PairState) : Type 0 where
  pub settled : new.settled ≡ true
  pub tried : new.tried ≡ old.value
  pub put_again : old.settled ≡ false → new ≡ after_put old old.value

-- between the writes of a put: they are those of the pair, and the other place has the new value
-- under the next number
pub record IsFilled (pair : PairState) (value : List ℕ) (bytes : List ℕ) : Type 0 where
  pub stands : StandsFor pair bytes
  pub number : sequence (1 - pair.place) bytes ≡ next pair.sequence
  pub body : payload (1 - pair.place) bytes ≡ value
