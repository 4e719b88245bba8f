-- Which machine an opening finds.
use Rattle.std.specs.Prelude.{◌≡◌, ℕ, ◌-◌, Bool, true, false, ◌&&◌, not, is_some, List, [], length, drop, Option, Some, None, option_map, if◌then◌else◌}
use Rattle.std.specs.List.{AllZip}
use Rattle.odb_model.specs.declared.entry.Entry.{Entry}
use Rattle.odb_model.specs.declared.status.Status.{Status}
use Rattle.odb_model.specs.State.{replay}
use Rattle.odb_model.specs.Session.{Idle as IdleSession}
use Rattle.odb_machine.specs.Sides.{first_in}
use Rattle.odb_machine.specs.Log.{Log, Absent, has_log, lacks_from}
use Rattle.odb_model.specs.Shadows.{Standing, Master, New, Online, Offline, Ready, NamedCopy, copies_of}
use Rattle.odb_machine.specs.Versions.{no_records}
use Rattle.odb_machine.specs.Copies.{Copy, Choice, Phase, Idle, Blank, Resting, Out, chosen, is_working}
use Rattle.odb_machine.specs.Readings.{Reading, Holds, TransdbReading, LogReading, FileReading, Asked, last_number, IsTransdbReading, IsLogReading, IsFileReading}
use Rattle.odb_machine.specs.Book.{Seen, is_told}
use Rattle.odb_machine.specs.MachineState.{Machine, held_from}
use Rattle.odb_machine.specs.Joined.{log_joined, log_of}
use Rattle.odb_machine.specs.Opening.{Found, Failed, Read, Unopened, Finds, opening_refusal}

-- what is read of a file that the store tells is what it reads as; of another file any such thing
abbrev pub ReadsAs : {A : Type 0} → Option (Reading A) → Reading A → Type 0
ReadsAs None what = Unit {0}
ReadsAs (Some reading) what = what ≡ reading

-- an opening lets through only what is so, of whatever store
abbrev pub IsLetThrough : {A : Type 0} → (A → Type 0) → Reading A → Type 0
IsLetThrough P (Holds what) = P what
IsLetThrough P other = Unit {0}

-- A file is found so: a call on it fails only where its count rose
abbrev pub MayFind :
    {A : Type 0} → (A → Type 0) → Bool → Option (Reading A) → Found A → Type 0
MayFind P rose reading Failed = rose ≡ true
MayFind P rose reading (Read what) = ReadsAs reading what × IsLetThrough P what
MayFind P rose reading Unopened = ⊥

-- LOGDB is opened where databases have one
abbrev pub MayFindLog : Bool → Seen → Found LogReading → Type 0
MayFindLog true seen found = MayFind IsLogReading (seen.rose 1) seen.reads.logdb found
MayFindLog false seen found = found ≡ Unopened

-- what a databank file is read for
abbrev pub asked_of : TransdbReading → ℕ → Asked
asked_of t bank = record { format = t.format; bank = bank; number = last_number t }

-- An opening may meet this, where TRANSDB reads so
pub record AreFound (seen : Seen) (t : TransdbReading) (finds : Finds) : Type 0 where
  pub logdb : MayFindLog has_log seen finds.logdb
  pub databanks : (bank file : ℕ)
      → MayFind (IsFileReading (asked_of t bank)) (seen.rose file)
      (option_map (λ read. read (asked_of t bank)) (seen.reads.databank file))
      (finds.databank bank file)

abbrev pub WhereFound : Seen → Finds → Found TransdbReading → Type 0
WhereFound seen finds (Read (Holds t)) = AreFound seen t finds
WhereFound seen finds other = Unit {0}

-- what an opening meets
pub record IsMet (seen : Seen) (finds : Finds) : Type 0 where
  pub transdb : MayFind IsTransdbReading (seen.rose 0) seen.reads.transdb finds.transdb
  pub others : WhereFound seen finds finds.transdb

-- an opening by these choices, a REOPEN among them, may be refused with this status
pub record IsRefusedOpening (seen : Seen) (choices : List Choice) (status : Status) : Type 0 where
  pub finds : Finds
  pub met : IsMet seen finds
  pub refused : opening_refusal finds choices ≡ Some status

-- LOGDB is out where it can't be read, or isn't joined with TRANSDB, and absent where no database has
-- one
abbrev pub log_found : TransdbReading → Found LogReading → Log
log_found t Failed = log_of None
log_found t (Read what) = log_of (log_joined t what)
log_found t Unopened = Absent

-- a databank file is in order; and the entries above its mark are held from this number on
abbrev pub is_in_order : Found FileReading → Bool
is_in_order (Read (Holds file)) = true
is_in_order other = false

abbrev pub is_covered_from : ℕ → Found FileReading → Bool
is_covered_from first (Read (Holds file)) = not (lacks_from first file.mark)
is_covered_from first other = false

-- A copy that its databank isn't read from, where no choice names the databank. A new one is blank; a
-- shadow is out where it isn't in order or isn't covered; a backup where it isn't in order
abbrev pub phase_beside : Standing → ℕ → Found FileReading → Phase
phase_beside Master first file = Out
phase_beside New first file = Blank
phase_beside Online first file = if is_covered_from first file then Idle else Out
phase_beside Offline first file = if is_covered_from first file then Resting else Out
phase_beside Ready first file = if is_in_order file then Resting else Out

-- Where a choice names the databank, all its copies but the chosen one are out
abbrev pub first_phase : List Choice → Copy → ℕ → Found FileReading → Phase
first_phase choices c first file =
    if is_working choices c then Idle
    else if is_some (chosen choices c.bank) then Out
    else phase_beside c.standing first file

-- the copy has the mark and the records of its file; one that is blank or out has none
abbrev pub HasContent : Phase → Found FileReading → Copy → Type 0
HasContent Blank file c = (c.mark ≡ 0) × (c.records ≡ no_records)
HasContent Out file c = (c.mark ≡ 0) × (c.records ≡ no_records)
HasContent phase (Read (Holds file)) c = (c.mark ≡ file.mark) × (c.records ≡ file.records)
HasContent phase other c = ⊥

-- a copy as the dictionary and its file make it
pub record IsFirstCopy (finds : Finds) (m : Machine) (named : NamedCopy) (c : Copy) : Type 0 where
  pub file : c.file ≡ named.file
  pub bank : c.bank ≡ named.bank
  pub standing : c.standing ≡ named.standing
  pub phase : c.phase ≡ first_phase m.choices c (held_from m) (finds.databank c.bank c.file)
  pub content : HasContent c.phase (finds.databank c.bank c.file) c

-- The machine that an opening by these choices finds, with this history: it has as many entries as
-- TRANSDB tells, of which TRANSDB holds the last, all sessions are idle, and the copies are those that the dictionary names. `trusted`
-- tells of which files it is known that all they hold comes from the history; only a file that the
-- store tells is honest
pub record IsFirstMachine
    (seen : Seen) (choices : List Choice) (trusted : ℕ → Bool) (h : List Entry) (m : Machine) :
    Type 0 where
  pub history : m.history ≡ h
  pub sessions : (s : ℕ) → m.sessions s ≡ IdleSession
  pub in_doubt : m.in_doubt ≡ None
  pub doubted : m.doubted ≡ []
  pub choices_are : m.choices ≡ choices
  pub lag : m.may_lag ≡ false
  pub turn : m.may_turn ≡ false
  pub honest : (file : ℕ) → m.honest file ≡ (trusted file && is_told seen file)
  pub finds : Finds
  pub met : IsMet seen finds
  pub transdb : TransdbReading
  pub is_transdb : finds.transdb ≡ Read (Holds transdb)
  pub admitted : opening_refusal finds choices ≡ None
  pub number : last_number transdb ≡ length h
  pub entries : transdb.entries ≡ drop (first_in transdb.sides - 1) h
  pub sides : m.sides ≡ transdb.sides
  pub format : m.format ≡ transdb.format
  pub log : m.log ≡ log_found transdb finds.logdb
  pub copies : AllZip (IsFirstCopy finds m) (copies_of (replay h)) m.copies
