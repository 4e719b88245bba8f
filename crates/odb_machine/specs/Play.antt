-- A script played: each line with its answer, and what is said.
use Rattle.std.specs.Prelude.{◌≡◌, ◌⊎◌, ◌≢◌, ℕ, ◌+◌, ◌-◌, ◌^◌, ◌≤◌, ◌==◌, Bool, true, false, List, [], ◌∷◌, ◌++◌, flat_map, filter, length, take}
use Rattle.odb_model.specs.declared.event.Event.{Event}
use Rattle.odb_model.specs.declared.reply.Head.{Head}
use Rattle.odb_model.specs.declared.reply.Head.TheVariants.{Session as OfSession}
use Rattle.odb_model.specs.declared.reply.Reply.{Reply}
use Rattle.odb_model.specs.declared.reply.Reply.TheVariants.{Committed, Ended, InDoubt, Fault}
use Rattle.odb_model.specs.declared.status.Status.{Status}
use Rattle.odb_model.specs.declared.status.Status.TheVariants.{Done, Usage, ReadFault, WriteFault, FileFault, NoDatabase, Exists, Damaged, NotHeld, InputTooLong, NoMemory, NotACopy, Unfinished}
use Rattle.odb_model.specs.declared.entry.Entry.{Entry}
use Rattle.odb_model.specs.Session.{Session, Idle, Working}
use Rattle.odb_machine.specs.Book.{Seen}
use Rattle.odb_machine.specs.Machine.{Machine, Step}
use Rattle.odb_model.specs.Print.{reply_text}
use Rattle.odb_model.specs.Script.{IsRequest, IsRefused, head_of, ended_lines, all_lines}
use Rattle.odb_model.specs.Serial.{IsSerial}

-- one line answered: whom the reply names, the reply, what was seen outside in the step, and the
-- machine after it
pub record Answer : Type 0 where
  pub head : Head
  pub reply : Reply
  pub seen : Seen
  pub after : Machine

-- the line is refused and the machine stays, or it asks for a step of the machine
abbrev pub IsAnswer : List ℕ → Machine → Answer → Type 0
IsAnswer line m answer =
    (IsRefused line answer.head answer.reply × (answer.after ≡ m))
    ⊎ ((event : Event) × IsRequest line event × (answer.head ≡ head_of event)
    × Step m event answer.seen answer.reply answer.after)

-- the lines answered one after another
abbrev pub IsRun : Machine → List (List ℕ) → List Answer → Type 0
IsRun m [] [] = Unit {0}
IsRun m (line ∷ lines) (answer ∷ answers) =
    IsAnswer line m answer × IsRun answer.after lines answers
IsRun m [] (answer ∷ answers) = ⊥
IsRun m (line ∷ lines) [] = ⊥

-- the transaction of a session, if it is in one, is serial after the first p entries
abbrev pub IsSerialAt : Session → ℕ → List Entry → ℕ → Type 0
IsSerialAt Idle p h format = Unit {0}
IsSerialAt (Working t) p h format = IsSerial t p h format

-- a transaction that the reply commits is serial at its place: at k - 1 for COMMITTED k, at p for
-- ENDED p
abbrev pub CommitsSerially : Machine → Head → Reply → Machine → Type 0
CommitsSerially m (OfSession s) (Committed k) after =
    IsSerialAt (m.sessions s) (k - 1) after.history m.format
CommitsSerially m (OfSession s) (Ended p) after =
    IsSerialAt (m.sessions s) p after.history m.format
CommitsSerially m head reply after = Unit {0}

abbrev pub AllSerial : Machine → List Answer → Type 0
AllSerial m [] = Unit {0}
AllSerial m (answer ∷ answers) =
    CommitsSerially m answer.head answer.reply answer.after × AllSerial answer.after answers

abbrev pub text_of_answer : Answer → List ℕ
text_of_answer answer = reply_text answer.head answer.reply

-- the texts of the replies
abbrev pub said_by : List Answer → List ℕ
said_by answers = flat_map text_of_answer answers

-- a file's count rises in a step only where it rose in the whole call: `rose` tells of each file by
-- how much it did at least
abbrev pub RiseOnly : (ℕ → ℕ → Type 0) → List Answer → Type 0
RiseOnly rose [] = Unit {0}
RiseOnly rose (answer ∷ answers) =
    ((file : ℕ) → answer.seen.rose file ≡ true → rose file 1) × RiseOnly rose answers

-- the replies that tell of a fault of a file: FAULT with its number, and of TRANSDB, file 0, also
-- INDOUBT
abbrev pub tells_fault : ℕ → Reply → Bool
tells_fault file (Fault f) = file == f
tells_fault file (InDoubt k) = file == 0
tells_fault file reply = false

abbrev pub faults_told : ℕ → List Answer → ℕ
faults_told file answers = length (filter (λ answer. tells_fault file answer.reply) answers)

-- the machine after these answers
abbrev pub machine_after : Machine → List Answer → Machine
machine_after m [] = m
machine_after m (answer ∷ answers) = machine_after answer.after answers

-- These are the answers to these lines from a machine on, and each transaction that they commit is
-- serial. Each reply that tells of a fault of a file is one by which its count rose
pub record Plays
    (rose : ℕ → ℕ → Type 0) (m : Machine) (lines : List (List ℕ)) (answers : List Answer) :
    Type 0 where
  pub run : IsRun m lines answers
  pub serial : AllSerial m answers
  pub risen : RiseOnly rose answers
  pub counted : (file : ℕ) → rose file (faults_told file answers)

-- all of the lines are answered, and just the texts of the answers are said
abbrev pub SaysAll : (ℕ → ℕ → Type 0) → Machine → List (List ℕ) → List Answer → List ℕ → Type 0
SaysAll rose m lines answers output = Plays rose m lines answers × (output ≡ said_by answers)

-- the first of the lines are answered, and just the texts of the answers are said, but for the last
-- one's perhaps
abbrev pub SaysSome : (ℕ → ℕ → Type 0) → Machine → List (List ℕ) → List Answer → List ℕ → Type 0
SaysSome rose m lines answers output =
    (n : ℕ) × Plays rose m (take n lines) answers
    × (told : List Answer) × (untold : List Answer) × (answers ≡ told ++ untold)
    × (length untold ≤ 1) × (output ≡ said_by told)

-- the first of the lines are answered, and a front of the texts of the answers is said, the last
-- one's not wholly
abbrev pub SaysPart : (ℕ → ℕ → Type 0) → Machine → List (List ℕ) → List Answer → List ℕ → Type 0
SaysPart rose m lines answers output =
    (n : ℕ) × Plays rose m (take n lines) answers
    × (told : List Answer) × (last : Answer) × (front : List ℕ) × (rest : List ℕ)
    × (answers ≡ told ++ last ∷ []) × (output ≡ said_by told ++ front)
    × (text_of_answer last ≡ front ++ rest) × (rest ≢ [])

-- the lines that are there so far: one that no LF ends only where the input has ended
abbrev pub lines_so_far : Bool → List ℕ → List (List ℕ)
lines_so_far true input = all_lines input
lines_so_far false input = ended_lines input

-- the bytes that a script may have
abbrev pub most_input : ℕ
most_input = 2 ^ 32

-- What a script from machine m on answers and says, by the status, of the bytes taken in the call.
-- `begun` and `ended` tell whether the end of the input was met before the call and at its end
abbrev pub PlayEnds :
    (ℕ → ℕ → Type 0) → Machine → Status → Bool → Bool → List ℕ → List Answer → List ℕ → Type 0
PlayEnds rose m Done begun ended input answers output =
    (ended ≡ true) × (length input ≤ most_input) × SaysAll rose m (all_lines input) answers output
PlayEnds rose m ReadFault begun ended input answers output =
    (ended ≡ begun) × (length input ≤ most_input)
    × SaysAll rose m (ended_lines input) answers output
PlayEnds rose m InputTooLong begun ended input answers output =
    (length input ≡ most_input + 1)
    × SaysAll rose m (ended_lines (take most_input input)) answers output
PlayEnds rose m WriteFault begun ended input answers output =
    (length input ≤ most_input) × SaysPart rose m (lines_so_far ended input) answers output
PlayEnds rose m NoMemory begun ended input answers output =
    (length input ≤ most_input) × SaysSome rose m (lines_so_far ended input) answers output
PlayEnds rose m Usage begun ended input answers output = ⊥
PlayEnds rose m (FileFault file) begun ended input answers output = ⊥
PlayEnds rose m NoDatabase begun ended input answers output = ⊥
PlayEnds rose m Exists begun ended input answers output = ⊥
PlayEnds rose m (Damaged file at) begun ended input answers output = ⊥
PlayEnds rose m (NotHeld bank mark first) begun ended input answers output = ⊥
PlayEnds rose m (NotACopy bank file) begun ended input answers output = ⊥
PlayEnds rose m (Unfinished file) begun ended input answers output = ⊥
