-- What a crash leaves of all files while a script is played: which machine keeps it, and what it opens
-- to by each choice. No function names these yet: the next step's clause on `run` is to.
use Rattle.std.specs.Prelude.{◌≡◌, ◌≢◌, ◌⊎◌, ℕ, ◌≤◌, true, List, [], ◌++◌, length, take, codes, decimal, Contains, None}
use Rattle.odb_device.specs.World.{World}
use Rattle.odb_device.specs.Moments.{EachMoment, EachCrashSince}
use Rattle.odb_kept.specs.Running.{machine_next, Begins}
use Rattle.odb_model.specs.declared.entry.Entry.{Entry}
use Rattle.odb_model.specs.State.{replay}
use Rattle.odb_machine.specs.Copies.{Copy, Choice}
use Rattle.odb_machine.specs.Readings.{Holds, TransdbReading, last_number}
use Rattle.odb_machine.specs.MachineState.{Machine, history_or_more}
use Rattle.odb_machine.specs.Opened.{Opened}
use Rattle.odb_machine.specs.Covered.{is_asked}
use Rattle.odb_model.specs.Script.{front_of, parts_of}
use Rattle.odb_model.specs.Acknowledged.{Acknowledges}
use Rattle.odb_machine.specs.Play.{Answer, machine_after, text_of_answer, said_by}
use Rattle.odb_machine.specs.Masters.{has_trusted_masters, with_choice, IsOpenable}
use Rattle.odb_open.specs.Files.{transdb_in}
use Rattle.odb_open.specs.Images.{Image}
use Rattle.odb_open.specs.Opened.{OpensTo}
use Rattle.odb_open.specs.Admissible.{IsAdmissible}
use Rattle.odb_open.specs.Kept.{Keeps}

abbrev pub after_of : Answer → Machine
after_of answer = answer.after

-- with these bytes said, some answers are wholly said and a part of the next one: this is the machine
-- behind the first, or the one behind that next answer
pub record StandsAlong
    (first : Machine) (answers : List Answer) (said : List ℕ) (m : Machine) : Type 0 where
  pub whole : List Answer
  pub rest : List Answer
  pub all : answers ≡ whole ++ rest
  pub part : List ℕ
  pub begins : Begins text_of_answer part rest
  pub said_is : said ≡ said_by whole ++ part
  pub is : (m ≡ machine_after first whole)
      ⊎ (m ≡ machine_next after_of (machine_after first whole) rest)

-- or, while nothing is said, the machine at entry
abbrev pub MayKeep : Machine → Machine → List Answer → List ℕ → Machine → Type 0
MayKeep entry first answers said m =
    ((said ≡ []) × (m ≡ entry)) ⊎ StandsAlong first answers said m

-- the first so many entries of a history, as an opening has them
abbrev pub prefix_of : ℕ → List Entry → Opened
prefix_of number h = record { number = number; state = replay (take number h) }

-- a whole line of these bytes, ended by LF, tells this mark of the copy in this file
pub record TellsMark (bytes : List ℕ) (file mark : ℕ) : Type 0 where
  pub line : Contains (front_of (parts_of bytes))
      (codes "! MARK " ++ decimal file ++ codes " " ++ decimal mark)

-- TRANSDB reads in order, and its last entry has this number
pub record EndsAt (image : Image) (number : ℕ) : Type 0 where
  pub transdb : TransdbReading
  pub reads : transdb_in (image 0) ≡ Holds transdb
  pub last : last_number transdb ≡ number

-- What a crash leaves of all files, where these bytes are said. One machine keeps it. Whatever choices
-- it may be opened by, master, shadow or backup with the log, it opens to the same first entries of
-- that machine's history, the one in doubt behind it: to all that were found, once a byte is said; and
-- to each commit that was acknowledged. No mark that was told is lost. And each copy by which the
-- machine can be opened is such a choice
pub record Leaves
    (entry first : Machine) (answers : List Answer) (said : List ℕ) (image : Image) : Type 0 where
  pub machine : Machine
  pub may : MayKeep entry first answers said machine
  pub keeps : Keeps machine image
  pub number : ℕ
  pub ends : EndsAt image number
  pub within : number ≤ length (history_or_more machine)
  pub opens : (choices : List Choice) → IsAdmissible choices image (history_or_more machine)
      → OpensTo image choices (prefix_of number (history_or_more machine))
  pub told : (k : ℕ) → Acknowledges said k → k ≤ number
  pub least : said ≢ [] → length first.history ≤ number
  pub marks : (file mark : ℕ) (c : Copy) → TellsMark said file mark → Contains machine.copies c
      → c.file ≡ file → is_asked c ≡ true → machine.honest file ≡ true → mark ≤ c.mark
  pub beside : (c : Copy) → machine.in_doubt ≡ None → has_trusted_masters machine ≡ true
      → Contains machine.copies c → IsOpenable machine c
      → IsAdmissible (with_choice c machine.choices) image machine.history

-- at every moment from the one world to the other, whatever a crash leaves is so
abbrev pub SurvivesCrashes : Machine → Machine → List Answer → World → World → Type 0
SurvivesCrashes entry first answers old new =
    EachMoment (EachCrashSince old (Leaves entry first answers)) old new
