-- What a machine asks of the files while a crash may come, and what a step leaves of them.
use Rattle.std.specs.Prelude.{◌≡◌, ◌⊎◌, ℕ, Bool, true, false, List, None, Some}
use Rattle.odb_device.specs.World.{Moment, World, present}
use Rattle.odb_device.specs.Images.{EachImage}
use Rattle.odb_device.specs.Moments.{Runs, WritesWithin}
use Rattle.odb_device.specs.Steps.{Steps, IsQuiet}
use Rattle.odb_kept.specs.Kept.{KeptBy, KeptByEither}
use Rattle.odb_model.specs.declared.entry.Entry.{Entry}
use Rattle.odb_model.specs.declared.event.Event.{Event}
use Rattle.odb_model.specs.declared.side.OtherSide.TheVariants.{Clean}
use Rattle.odb_model.specs.declared.reply.Head.{Head}
use Rattle.odb_model.specs.declared.reply.Head.TheVariants.{Control}
use Rattle.odb_model.specs.declared.reply.Reply.{Reply}
use Rattle.odb_model.specs.declared.reply.Reply.TheVariants.{Committed, Fault, InDoubt, Turned}
use Rattle.odb_machine.specs.Sides.{Sides, turned}
use Rattle.odb_machine.specs.Clearing.{next_in}
use Rattle.odb_model.specs.Script.{head_of}
use Rattle.odb_machine.specs.Machine.{Machine, history_or_more}
use Rattle.odb_codec.specs.Image.{entry_image}
use Rattle.odb_transdb.specs.declared.header.Header.{Header}
use Rattle.odb_transdb.specs.Header.{first_held}
use Rattle.odb_transdb.specs.Opened.{Holds}
use Rattle.odb_transdb.specs.Standing.{Db}
use Rattle.odb_transdb.specs.Answers.{HoldsAll}
use Rattle.odb_transdb.specs.Worlds.{RoseAtGate, WritesFromGate, WritesRecord, WritesBehindGate}
use Rattle.odb_commit.specs.Standing.{sides_of}
use Rattle.odb_system.specs.Held.{Held, Begins, Follows}
use Rattle.odb_system.specs.Durable.{Risen}

-- The sides that TRANSDB may have on the disk where these are the machine's, and the next entry has
-- this number: these; and where a turn may have been broken off, and the other side is Clean, also
-- those of that turn, under which the same entries are held
abbrev pub AreSidesBy : Bool → Sides → ℕ → Sides → Type 0
AreSidesBy false sides next there = sides ≡ there
AreSidesBy true sides next there =
    (sides ≡ there) ⊎ ((sides.other ≡ Clean) × (there ≡ turned next sides))

abbrev pub MayHaveSides : Machine → Sides → Type 0
MayHaveSides m there = AreSidesBy m.may_turn m.sides (next_in m) there

-- the image of TRANSDB opens under a header of the machine's format and of sides that it may have,
-- from number 1 on, to these entries
pub record OpensBy (m : Machine) (entries : List Entry) (image : List ℕ) : Type 0 where
  pub header : Header
  pub format : m.format ≡ header.format
  pub sides : MayHaveSides m (sides_of header)
  pub first : first_held header ≡ 1
  pub holds : Holds header entries image

-- What the machine asks of an image of the file with this number. Of TRANSDB, file 0, it asks that
-- it opens to the history, or to it with the entry in doubt; of any other file it asks nothing
pub record IsKept (m : Machine) (file : ℕ) (image : List ℕ) : Type 0 where
  pub log : file ≡ 0 → OpensBy m m.history image ⊎ OpensBy m (history_or_more m) image

-- The files are at rest, as a step finds and leaves them: the machine keeps each, and where no
-- entry is in doubt each image of TRANSDB has just the history
pub record Rests (m : Machine) (moment : Moment) : Type 0 where
  pub keeps : KeptBy (IsKept m) moment
  pub exact : m.in_doubt ≡ None → EachImage (OpensBy m m.history) (moment.files 0)

-- the pair of TRANSDB alone is written, in its first 1,024 bytes
abbrev pub WritesPair : World → World → Type 0
WritesPair old new = WritesWithin 0 0 1024 old new

-- while the pair is settled it alone is written, and at each moment each image has just the history
pub record SettlesPair (m : Machine) (old mid : World) : Type 0 where
  pub only : WritesPair old mid
  pub keeps : Runs 0 (EachImage (OpensBy m m.history)) old mid

-- It goes so from old to new; where a turn may have been broken off the pair may be settled first
abbrev pub BehindPair : Bool → Machine → (World → World → Type 0) → World → World → Type 0
BehindPair false m Goes old new = Goes old new
BehindPair true m Goes old new = (mid : World) × SettlesPair m old mid × Goes mid new

-- The entry in doubt after the step is the one that was being forced, behind the history in the log.
-- The count of TRANSDB rose behind a moment at which the whole record but its gate was written in
-- this step and on the disk: until then each image held just the history, and from then on no call
-- failed or changed anything but the gate's write and the sync behind it, or one failed in its place
-- and changed nothing
pub record RoseFromGate (m after : Machine) (old new : World) : Type 0 where
  pub log : Db
  pub format : m.format ≡ log.header.format
  pub sides : m.sides ≡ sides_of log.header
  pub begins : Begins log m.history
  pub entry : Entry
  pub doubt : after.in_doubt ≡ Some entry
  pub rose : RoseAtGate log (entry_image entry) old new
  pub alone : Runs 0 (HoldsAll log m.history) old rose.mid

-- so, behind the pair
abbrev pub IsRoseFromGate : Machine → Machine → World → World → Type 0
IsRoseFromGate m after old new = BehindPair m.may_turn m (RoseFromGate m after) old new

-- so where the reply is INDOUBT
abbrev pub IsDoubtCaused : Machine → Reply → Machine → World → World → Type 0
IsDoubtCaused m (InDoubt k) after old new = IsRoseFromGate m after old new
IsDoubtCaused m reply after old new = Unit {0}

-- the step wrote file 0 only within these bounds, in a log that had just the history
pub record WritesWithinLog
    (Bounds : Db → World → World → Type 0) (m : Machine) (old new : World) : Type 0 where
  pub log : Db
  pub format : m.format ≡ log.header.format
  pub sides : m.sides ≡ sides_of log.header
  pub begins : Begins log m.history
  pub only : Bounds log old new

-- so, behind the pair
abbrev pub WritesLog : (Db → World → World → Type 0) → Machine → World → World → Type 0
WritesLog Bounds m old new = BehindPair m.may_turn m (WritesWithinLog Bounds m) old new

-- What a step that is answered FAULT may write: with a control line, of which TURN alone writes, the
-- pair; with a statement what is behind the gate
abbrev pub FaultWrites : Head → Machine → World → World → Type 0
FaultWrites Control m old new = WritesPair old new
FaultWrites head m old new = WritesLog WritesBehindGate m old new

-- What a step may write, by whom the answer names and its reply: with COMMITTED the next record, from
-- its gate on, behind which nothing is left; with INDOUBT from that gate to the end of the active side;
-- with FAULT as above; with TURNED the pair; with any other reply nothing, and the world is as it was
abbrev pub StepWrites : Machine → Head → Reply → World → World → Type 0
StepWrites m head (Committed k) old new = WritesLog WritesRecord m old new
StepWrites m head (InDoubt k) old new = WritesLog WritesFromGate m old new
StepWrites m head (Fault f) old new = FaultWrites head m old new
StepWrites m head (Turned side first) old new = WritesPair old new
StepWrites m head reply old new = new ≡ old

-- From the machine m the event got this reply by a step, which tells of a file's fault only where
-- the file's count rose in it, and of one from a record's gate on only as `RoseFromGate` says; and
-- the system stands for the machine after it. It writes only what its reply has it write. At each
-- moment of it, whatever a crash leaves is all kept by m or all by the machine after it; nothing is
-- said or taken; and when it ends the files rest
pub record Stepped
    (m : Machine) (event : Event) (reply : Reply) (held : Held) (old new : World) : Type 0 where
  pub follows : Follows (Risen old new) m event reply held
  pub doubt : IsDoubtCaused m reply follows.after old new
  pub from_gate : follows.seen.rose_at_gate ≡ true → IsRoseFromGate m follows.after old new
  pub writes : StepWrites m (head_of event) reply old new
  pub keeps : Steps (KeptByEither (IsKept m) (IsKept follows.after)) old new
  pub quiet : IsQuiet old new
  pub rests : Rests follows.after (present new)
