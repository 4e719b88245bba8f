-- How a script is played: what the player keeps, and what each of its calls leaves.
use Rattle.std.specs.Prelude.{◌≡◌, ◌≢◌, ℕ, ◌≤◌, List, [], ◌∷◌, ◌++◌, length, take, Result, Ok, Err}
use Rattle.odb_device.specs.World.{World, present}
use Rattle.odb_device.specs.Console.{Says, SaysNothing, Takes}
use Rattle.odb_device.specs.Steps.{Steps, IsQuiet}
use Rattle.odb_kept.specs.Kept.{KeptByEither}
use Rattle.odb_model.specs.declared.reply.Head.{Head}
use Rattle.odb_model.specs.declared.reply.Reply.{Reply}
use Rattle.odb_model.specs.declared.status.Status.{Status}
use Rattle.odb_model.specs.declared.status.Status.TheVariants.{Done, WriteFault as BadOutput, NoMemory as OutOfMemory}
use Rattle.odb_machine.specs.Machine.{Machine}
use Rattle.odb_machine.specs.Play.{Answer, IsAnswer, IsRun, machine_after, text_of_answer, said_by, PlayEnds}
use Rattle.odb_model.specs.Script.{ended_lines, open_line, all_lines}
use Rattle.odb_system.specs.Held.{Held, StandsFor}
use Rattle.odb_system.specs.Kept.{IsKept, Rests}
use Rattle.odb_play.specs.declared.player.Stop.{Stop}
use Rattle.odb_play.specs.declared.player.Stop.TheVariants.{WriteFault, NoMemory}
use Rattle.odb_play.specs.LineFront.{line_front}
use Rattle.odb_play.specs.Outside.{TouchesOnly, RoseBy}
use Rattle.odb_play.specs.Part.{Along, Causes, IsCaused, IsHeard, IsPart, IsWhole}

-- the player has answered the lines of these bytes, from a machine on, keeps what no LF has ended,
-- and the files rest
pub record IsAt
    (m : Machine) (held : Held) (front input : List ℕ) (answers : List Answer) (w : World) :
    Type 0 where
  pub run : IsRun m (ended_lines input) answers
  pub stands : StandsFor held (machine_after m answers)
  pub rests : Rests (machine_after m answers) (present w)
  pub line : front ≡ line_front (open_line input)

-- the text of an answer that a fault broke off, behind these bytes
pub record BrokenOff (before : List ℕ) (answer : Answer) (old new : World) : Type 0 where
  pub front : List ℕ
  pub rest : List ℕ
  pub text : text_of_answer answer ≡ front ++ rest
  pub unsaid : rest ≢ []
  pub said : Says (before ++ front) old new

-- the answer to a line, with this head and this reply, the system stands for the machine after it,
-- and through the step the one machine or the other keeps the files
pub record Replies
    (line : List ℕ) (m : Machine) (head : Head) (reply : Reply) (held : Held) (old new : World) :
    Type 0 where
  pub answer : Answer
  pub answer_is : IsAnswer line m answer
  pub cause : IsCaused m answer old new
  pub head_is : answer.head ≡ head
  pub reply_is : answer.reply ≡ reply
  pub stands : StandsFor held answer.after
  pub keeps : Steps (KeptByEither (IsKept m) (IsKept answer.after)) old new
  pub quiet : IsQuiet old new
  pub rests : Rests answer.after (present new)

-- one line answered, and the answer said, or not wholly, or not at all
abbrev pub LineEnds :
    {T : Type 0} → List ℕ → Machine → Result T Stop → Held → World → World → Type 0
LineEnds line m (Ok done) held old new =
    (answer : Answer) × IsAnswer line m answer × StandsFor held answer.after
    × IsWhole m (answer ∷ []) old new
LineEnds line m (Err WriteFault) held old new =
    (answer : Answer) × IsAnswer line m answer × IsPart m (answer ∷ []) old new
    × BrokenOff [] answer old new
LineEnds line m (Err NoMemory) held old new =
    (answer : Answer) × IsAnswer line m answer × IsPart m (answer ∷ []) old new
    × SaysNothing old new

-- The first n of some lines are answered, and of the last answer a part is said
pub record StopsSaying
    (m : Machine) (lines : List (List ℕ)) (answers : List Answer) (old new : World) :
    Type 0 where
  pub more : List Answer
  pub last : Answer
  pub count : ℕ
  pub run : IsRun m (take count lines) (answers ++ (more ++ last ∷ []))
  pub part : IsPart (machine_after m answers) (more ++ last ∷ []) old new
  pub broken : BrokenOff (said_by more) last old new

-- The first n of some lines are answered, and the answers said but for the last perhaps
pub record StopsForMemory
    (m : Machine) (lines : List (List ℕ)) (answers : List Answer) (old new : World) :
    Type 0 where
  pub more : List Answer
  pub untold : List Answer
  pub few : length untold ≤ 1
  pub count : ℕ
  pub run : IsRun m (take count lines) (answers ++ (more ++ untold))
  pub part : IsPart (machine_after m answers) (more ++ untold) old new
  pub says : Says (said_by more) old new

-- More bytes came behind the input, and these are the lines so far. After Ok the player has
-- answered all that an LF ended; else it has answered the first of the lines, and said of the last
-- answer a part or nothing
abbrev pub BytesEnd :
    {T : Type 0} → Machine → Held → List ℕ → List ℕ → List Answer → Result T Stop
    → World → World → Type 0
BytesEnd m held front input answers (Ok done) old new =
    (more : List Answer) × IsAt m held front input (answers ++ more) new
    × IsWhole (machine_after m answers) more old new
BytesEnd m held front input answers (Err WriteFault) old new =
    StopsSaying m (ended_lines input) answers old new
BytesEnd m held front input answers (Err NoMemory) old new =
    StopsForMemory m (ended_lines input) answers old new

-- The input has ended, and the last line too is answered; or the first of all lines are
abbrev pub FinishEnds :
    {T : Type 0} → Machine → List ℕ → List Answer → Result T Stop → World → World
    → Type 0
FinishEnds m input answers (Ok done) old new =
    (more : List Answer) × IsRun m (all_lines input) (answers ++ more)
    × IsWhole (machine_after m answers) more old new
FinishEnds m input answers (Err WriteFault) old new =
    StopsSaying m (all_lines input) answers old new
FinishEnds m input answers (Err NoMemory) old new =
    StopsForMemory m (all_lines input) answers old new

-- how the script ends where it can't be played on
abbrev pub status_of : Stop → Status
status_of WriteFault = BadOutput
status_of NoMemory = OutOfMemory

-- the same, by the status
abbrev pub EndsWith : Machine → List ℕ → List Answer → Status → World → World → Type 0
EndsWith m input answers Done old new =
    FinishEnds {T = Unit {0}} m input answers (Ok tt) old new
EndsWith m input answers BadOutput old new =
    FinishEnds {T = Unit {0}} m input answers (Err WriteFault) old new
EndsWith m input answers OutOfMemory old new =
    FinishEnds {T = Unit {0}} m input answers (Err NoMemory) old new
EndsWith m input answers status old new = ⊥

-- A script from machine m on was played, and ended so; only the console and TRANSDB changed
pub record IsPlayed (m : Machine) (status : Status) (old new : World) : Type 0 where
  pub only : TouchesOnly 0 old new
  pub input : List ℕ
  pub output : List ℕ
  pub answers : List Answer
  pub takes : Takes input old new
  pub says : Says output old new
  pub ends : PlayEnds (RoseBy old new) m status old.talk.has_ended new.talk.has_ended
      input answers output

-- and from files that rest on: these change only in the steps of the answers, and at every moment
-- they are kept along the answers
pub record IsPlayedOn (m : Machine) (status : Status) (old new : World) : Type 0 where
  pub played : IsPlayed m status old new
  pub causes : Causes m played.answers old new
  pub heard : IsHeard played.answers old new
  pub kept : Steps (Along m m played.answers (present old).said) old new
