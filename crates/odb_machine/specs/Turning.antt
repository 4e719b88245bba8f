-- APPLY BODIES, GATES and MARK, once nothing refuses them.
use Rattle.std.specs.Prelude.{◌≡◌, ◌⊎◌, ℕ, ◌+◌, ◌-◌, ◌<◌, ◌≤◌, Bool, true, false, ◌&&◌, nat_lt, List, [], ◌∷◌, ◌++◌, length, drop}
use Rattle.odb_model.specs.declared.entry.Entry.{Entry}
use Rattle.odb_model.specs.declared.reply.Reply.{Reply}
use Rattle.odb_model.specs.declared.reply.Reply.TheVariants as reply
use Rattle.odb_model.specs.State.{IsNumberedFrom}
use Rattle.odb_machine.specs.Sides.{first_in}
use Rattle.odb_machine.specs.Versions.{Records, IsPartOf, without_stale}
use Rattle.odb_machine.specs.Copies.{Copy, Phase, Bodies, Gates, Turn, rest_of}
use Rattle.odb_machine.specs.Turns.{turn_over, with_turn, HaveTurn, slots_wanted, most_slots}
use Rattle.odb_machine.specs.Book.{Seen}
use Rattle.odb_machine.specs.MachineState.{Machine, put_copy, with_honest}

-- the turn takes entries that TRANSDB no longer holds, so from LOGDB
abbrev pub takes_log : Machine → Copy → Bool
takes_log m c = nat_lt (c.mark + 1) (first_in m.sides) && nat_lt c.mark (length m.history)

-- These are the entries that LOGDB gives from behind the mark on, perhaps none. Where they end before
-- TRANSDB's first entry they are all; where they come up to it, those of TRANSDB follow
pub record IsGivenByLog (m : Machine) (c : Copy) (logged behind : List Entry) : Type 0 where
  pub numbered : IsNumberedFrom (c.mark + 1) logged
  pub within : c.mark + length logged ≤ length m.history
  pub all : ((c.mark + length logged + 1 < first_in m.sides) × (behind ≡ logged))
      ⊎ ((c.mark + length logged + 1 ≡ first_in m.sides)
      × (behind ≡ logged ++ drop (first_in m.sides - 1) m.history))

-- whether any entry is among these
abbrev pub is_nothing : List Entry → Bool
is_nothing [] = true
is_nothing (e ∷ es) = false

-- The entries behind the copy's mark as the step reads them, and whether the copy stays honest by
-- them, if it was. Those of the history, where TRANSDB holds them or LOGDB is honest; else as LOGDB
-- gives them, each of which makes the copy as dishonest as LOGDB is
abbrev pub IsGivenBy : Bool → Bool → Machine → Copy → List Entry → Bool → Type 0
IsGivenBy false trusted m c behind honest = (behind ≡ drop c.mark m.history) × (honest ≡ true)
IsGivenBy true true m c behind honest = (behind ≡ drop c.mark m.history) × (honest ≡ true)
IsGivenBy true false m c behind honest =
    (logged : List Entry) × IsGivenByLog m c logged behind × (honest ≡ is_nothing logged)

abbrev pub IsGiven : Machine → Copy → List Entry → Bool → Type 0
IsGiven m c behind honest = IsGivenBy (takes_log m c) (m.honest 1) m c behind honest

-- the copy with these records
abbrev pub showing : Copy → Records → Copy
showing c records = record c { records = records }

-- with its stale records closed, and the bodies of a turn written
abbrev pub with_bodies : Copy → Turn → Copy
with_bodies c turn =
    record c { phase = Bodies turn; records = without_stale c.mark c.records }

abbrev pub after_bodies : Machine → Copy → Turn → Bool → Machine
after_bodies m c turn honest =
    with_honest (put_copy m (with_bodies c turn)) c.file (m.honest c.file && honest)

-- the records of the turn find slots, once the stale ones are closed
abbrev pub HasSlots : Copy → List Entry → Type 0
HasSlots c behind = slots_wanted c (turn_over c behind) ≤ most_slots

-- any part of the stale records is closed
pub record ClosesStale (c : Copy) (records : Records) : Type 0 where
  pub from : IsPartOf records c.records
  pub keeps : IsPartOf (without_stale c.mark c.records) records

-- A fault of TRANSDB or of LOGDB, which is asked where TRANSDB no longer holds the entries, comes while
-- they are read, before anything is closed
abbrev pub FaultsReading : Machine → Copy → ℕ → Machine → Type 0
FaultsReading m c f after =
    ((f ≡ 0) ⊎ ((f ≡ 1) × (takes_log m c ≡ true))) × (after ≡ m)

-- A fault of the copy's file comes once it is known that there are slots, and may have closed stale
-- records
pub record FaultsWriting (m : Machine) (c : Copy) (f : ℕ) (after : Machine) : Type 0 where
  pub of_file : f ≡ c.file
  pub behind : List Entry
  pub honest : Bool
  pub given : IsGiven m c behind honest
  pub slots : HasSlots c behind
  pub records : Records
  pub closes : ClosesStale c records
  pub is : after ≡ put_copy m (showing c records)

-- BODIES of an idle copy: the stale records go, and it is fixed which number the turn reaches. Where
-- the slots are too few nothing changes
abbrev pub TakesBodies : Machine → Seen → Copy → Reply → Machine → Type 0
TakesBodies m seen c (reply.Bodies file number) after =
    (behind : List Entry) × (honest : Bool) × IsGiven m c behind honest × HasSlots c behind
    × (file ≡ c.file) × (number ≡ (turn_over c behind).reached)
    × (after ≡ after_bodies m c (turn_over c behind) honest)
TakesBodies m seen c (reply.Limit file) after =
    (behind : List Entry) × (honest : Bool) × IsGiven m c behind honest
    × (most_slots < slots_wanted c (turn_over c behind)) × (file ≡ c.file) × (after ≡ m)
TakesBodies m seen c (reply.Fault f) after =
    (seen.rose f ≡ true) × (FaultsReading m c f after ⊎ FaultsWriting m c f after)
TakesBodies m seen c other after = ⊥

-- the copy with the gates of a turn open, and these records
abbrev pub with_gates : Copy → Turn → Records → Copy
with_gates c turn records = record c { phase = Gates turn.reached; records = records }

-- The records once the gates of a turn are open: each new one is the last of its stamp. In a file that
-- isn't honest records of one key and stamp may tell of different writes, and then their slots decide
-- which counts: there a new one may stand at any place among them
abbrev pub AddsTurn : Bool → Records → Turn → Records → Type 0
AddsTurn true old turn new = new ≡ with_turn old turn
AddsTurn false old turn new = HaveTurn old turn new

-- GATES of a copy whose bodies are written: per key its last write of the run is added
abbrev pub OpensGates : Machine → Seen → Copy → Phase → Reply → Machine → Type 0
OpensGates m seen c (Bodies turn) (reply.Gates file number) after =
    (file ≡ c.file) × (number ≡ turn.reached)
    × (records : Records) × AddsTurn (m.honest c.file) c.records turn records
    × (after ≡ put_copy m (with_gates c turn records))
OpensGates m seen c (Bodies turn) (reply.Fault f) after =
    (f ≡ c.file) × (seen.rose f ≡ true) × (after ≡ m)
OpensGates m seen c phase other after = ⊥

-- the copy with its mark at the number reached, and at rest
abbrev pub with_mark : Machine → Copy → ℕ → Copy
with_mark m c reached = record c { phase = rest_of m.choices c; mark = reached }

-- MARK of a copy whose gates are open: the mark is the number reached, and the turn is over
abbrev pub RaisesMark : Machine → Seen → Copy → Phase → Reply → Machine → Type 0
RaisesMark m seen c (Gates reached) (reply.Mark file number) after =
    (file ≡ c.file) × (number ≡ reached) × (after ≡ put_copy m (with_mark m c reached))
RaisesMark m seen c (Gates reached) (reply.Fault f) after =
    (f ≡ c.file) × (seen.rose f ≡ true) × (after ≡ m)
RaisesMark m seen c phase other after = ⊥
