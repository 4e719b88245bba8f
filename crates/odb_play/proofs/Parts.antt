-- What a part of a play leaves of the files, and how parts follow one another.
use Rattle.std.proofs.Common.{◌≡◌, ◌≢◌, ℕ, ◌<◌, List, [], ◌∷◌, ◌++◌, length, take, drop, Option, refl, sym, ◌∙◌, ap, subst, arith, append_assoc, length-append}
use Rattle.std.specs.Prelude.{flat_map, codes}
use Rattle.std.proofs.lemmas.Grind.{flat_map-append}
use Rattle.std.proofs.lemmas.List.{append-nil, take-append-drop}
use Rattle.std.specs.Fmt.{decimal}
use Rattle.odb_device.specs.World.{File, Moment, World, present}
use Rattle.odb_device.specs.Images.{EachImage}
use Rattle.odb_device.specs.Counts.{Adds}
use Rattle.odb_device.specs.Console.{Talks, Says, SaysNothing, SaysOnly}
use Rattle.odb_device.specs.Moments.{Runs}
use Rattle.odb_device.specs.Steps.{Steps, IsQuiet}
use Rattle.odb_device.proofs.Stretches.{steps_of_talks}
use Rattle.odb_device.proofs.Talking.{adds_none, talks_none, talks_files, says_both}
use Rattle.odb_kept.specs.Kept.{KeptByEither}
use Rattle.odb_kept.specs.Running.{machine_after as after_all, IsRunning}
use Rattle.odb_kept.proofs.Running.{answered, goes_on, goes_on_silently, run_none, run_then, stepped, steps_behind}
use Rattle.odb_model.specs.declared.reply.Head.{Head}
use Rattle.odb_model.specs.declared.reply.Reply.{Reply}
use Rattle.odb_model.specs.declared.reply.Reply.TheVariants.{Okay, Rows, Done, Committed, Ended, InDoubt, Bodies, Gates, Mark, Logged, Turned, Cleaned, Copying, Copied, LogFirst, Opened, State, Character, Text, Number, Syntax, End, Long, Line, NoSession, NotYet, NoTransaction, InTransaction, NoTable, NoBank, NameTaken, NotEmpty, NoCopyLeft, NoNumberLeft, NoShadow, NoBackup, Fixed, NoColumn, KindMismatch, KeyColumn, ColumnCount, Duplicate, NullNotAllowed, TooLong, KeyTooWide, RowTooWide, TooManyWrites, Overflow, Halted, Aged, Conflict, HistoryFull, Full, Fault, NotClean, Held, LogFull, Needed, NotHeld, Phase, NoFile, Limit, Memory}
use Rattle.odb_machine.specs.Machine.{Machine}
use Rattle.odb_model.specs.Print.{head_text, line_of, row_line, two_numbers, phase_text, log_words, copy_words, sides_words, reply_text}
use Rattle.odb_machine.specs.Play.{Answer, text_of_answer, said_by, machine_after}
use Rattle.odb_reply.specs.Telling.{TellsAlone}
use Rattle.odb_system.specs.Kept.{OpensBy, IsKept, Rests}
use Rattle.odb_play.specs.Outside.{LeavesOthers, TouchesOnly}
use Rattle.odb_play.specs.Part.{after_of, IsCaused, Causes, CausesOfSaid, TellAlone, IsHeard, IsPart, IsWhole}
use Rattle.odb_play.proofs.Outside.{passes, still_talks, causes_then, causes_then_said, causes_anyhow, causes_quiet, causes_one, causes_one_said, touches_run, touches_talks, touches_then}

pub said_by-append : (xs ys : List Answer) → said_by (xs ++ ys) ≡ said_by xs ++ said_by ys
said_by-append xs ys = flat_map-append text_of_answer xs ys

pub machine_after-append : (m : Machine) (xs ys : List Answer) → machine_after m (xs ++ ys) ≡ machine_after (machine_after m xs) ys
machine_after-append m [] ys = refl
machine_after-append m (a ∷ xs) ys = machine_after-append a.after xs ys

-- the machine after some answers, in either word
pub after_is : (m : Machine) (answers : List Answer) → after_all after_of m answers ≡ machine_after m answers
after_is m [] = refl
after_is m (a ∷ answers) = after_is a.after answers

alone_append : (xs ys : List Answer) → TellAlone xs → TellAlone ys → TellAlone (xs ++ ys)
alone_append [] ys first second = second
alone_append (a ∷ xs) ys first second = (first.0, alone_append xs ys first.1 second)

-- no reply is said by no byte

some_line : (front : List ℕ) → front ++ 10 ∷ [] ≡ [] → ⊥
some_line front none = omega (arith, ap length none, length-append front (10 ∷ []))

line_said : (head : Head) (words : List ℕ) → line_of head words ≢ []
line_said head words none = some_line (head_text head ++ codes " " ++ words) none

more_said : (front more : List ℕ) → front ≢ [] → front ++ more ≢ []
more_said [] more some none = some refl
more_said (x ∷ front) more some none = cc

reply_said : (head : Head) (reply : Reply) → reply_text head reply ≢ []
reply_said head (Rows rows) = λ none.
    omega (
      arith,
      ap length none,
      length-append (flat_map (row_line head) rows) (line_of head (codes "ROWS " ++ decimal (length rows))),
      some_length (line_of head (codes "ROWS " ++ decimal (length rows))) (line_said head (codes "ROWS " ++ decimal (length rows))),
    )
  where
    some_length : (x : List ℕ) → x ≢ [] → 0 < length x
    some_length [] some = absurd (some refl)
    some_length (y ∷ x) some = omega arith
reply_said head Okay = line_said head (codes "OK")
reply_said head (Done n) = line_said head (codes "DONE " ++ decimal n)
reply_said head (Committed k) = line_said head (codes "COMMITTED " ++ decimal k)
reply_said head (Ended p) = line_said head (codes "ENDED " ++ decimal p)
reply_said head (InDoubt k) = line_said head (codes "INDOUBT " ++ decimal k)
reply_said head (Bodies file number) = line_said head (two_numbers (codes "BODIES") file number)
reply_said head (Gates file number) = line_said head (two_numbers (codes "GATES") file number)
reply_said head (Mark file number) = line_said head (two_numbers (codes "MARK") file number)
reply_said head (Logged number) = line_said head (codes "LOGGED " ++ decimal number)
reply_said head (Turned side first) = line_said head (two_numbers (codes "TURNED") side first)
reply_said head Cleaned = line_said head (codes "CLEANED")
reply_said head (Copying file left) = line_said head (two_numbers (codes "COPYING") file left)
reply_said head (Copied file mark) = line_said head (two_numbers (codes "COPIED") file mark)
reply_said head (LogFirst number) = line_said head (codes "LOGFIRST " ++ decimal number)
reply_said head (Opened number) = line_said head (codes "OPENED " ++ decimal number)
reply_said head (State s) =
    let number = codes "NUMBER " ++ decimal s.number in
    more_said (line_of head number ++ line_of head (sides_words s) ++ line_of head (log_words s.log)) (flat_map (λ c. line_of head (copy_words c)) s.copies)
    (more_said (line_of head number ++ line_of head (sides_words s)) (line_of head (log_words s.log)) (more_said (line_of head number) (line_of head (sides_words s)) (line_said head number)))
reply_said head (Character at) = line_said head (codes "REFUSED CHARACTER " ++ decimal at)
reply_said head (Text at) = line_said head (codes "REFUSED TEXT " ++ decimal at)
reply_said head (Number at) = line_said head (codes "REFUSED NUMBER " ++ decimal at)
reply_said head (Syntax at) = line_said head (codes "REFUSED SYNTAX " ++ decimal at)
reply_said head End = line_said head (codes "REFUSED END")
reply_said head Long = line_said head (codes "REFUSED LONG")
reply_said head Line = line_said head (codes "REFUSED LINE")
reply_said head NoSession = line_said head (codes "REFUSED NOSESSION")
reply_said head NotYet = line_said head (codes "REFUSED NOTYET")
reply_said head NoTransaction = line_said head (codes "REFUSED NOTRANSACTION")
reply_said head InTransaction = line_said head (codes "REFUSED INTRANSACTION")
reply_said head NoTable = line_said head (codes "REFUSED NOTABLE")
reply_said head NoBank = line_said head (codes "REFUSED NOBANK")
reply_said head NameTaken = line_said head (codes "REFUSED NAMETAKEN")
reply_said head NotEmpty = line_said head (codes "REFUSED NOTEMPTY")
reply_said head NoCopyLeft = line_said head (codes "REFUSED NOCOPYLEFT")
reply_said head NoShadow = line_said head (codes "REFUSED NOSHADOW")
reply_said head NoBackup = line_said head (codes "REFUSED NOBACKUP")
reply_said head NoNumberLeft = line_said head (codes "REFUSED NONUMBERLEFT")
reply_said head Fixed = line_said head (codes "REFUSED FIXED")
reply_said head NoColumn = line_said head (codes "REFUSED NOCOLUMN")
reply_said head KindMismatch = line_said head (codes "REFUSED KINDMISMATCH")
reply_said head KeyColumn = line_said head (codes "REFUSED KEYCOLUMN")
reply_said head ColumnCount = line_said head (codes "REFUSED COLUMNCOUNT")
reply_said head Duplicate = line_said head (codes "REFUSED DUPLICATE")
reply_said head NullNotAllowed = line_said head (codes "REFUSED NULLNOTALLOWED")
reply_said head TooLong = line_said head (codes "REFUSED TOOLONG")
reply_said head KeyTooWide = line_said head (codes "REFUSED KEYTOOWIDE")
reply_said head RowTooWide = line_said head (codes "REFUSED ROWTOOWIDE")
reply_said head TooManyWrites = line_said head (codes "REFUSED TOOMANYWRITES")
reply_said head Overflow = line_said head (codes "REFUSED OVERFLOW")
reply_said head (Halted k) = line_said head (codes "REFUSED HALTED " ++ decimal k)
reply_said head (Aged oldest start) = line_said head (codes "REFUSED AGED " ++ decimal oldest ++ codes " " ++ decimal start)
reply_said head HistoryFull = line_said head (codes "REFUSED HISTORYFULL")
reply_said head (Conflict j) = line_said head (codes "REFUSED CONFLICT " ++ decimal j)
reply_said head (Full need room) = line_said head (codes "REFUSED FULL " ++ decimal need ++ codes " " ++ decimal room)
reply_said head (Fault f) = line_said head (codes "REFUSED FAULT " ++ decimal f)
reply_said head NotClean = line_said head (codes "REFUSED NOTCLEAN")
reply_said head (Held mark last) = line_said head (codes "REFUSED " ++ two_numbers (codes "HELD") mark last)
reply_said head (LogFull need room) = line_said head (codes "REFUSED " ++ two_numbers (codes "LOGFULL") need room)
reply_said head (NotHeld mark first) = line_said head (codes "REFUSED " ++ two_numbers (codes "NOTHELD") mark first)
reply_said head (Needed n) = line_said head (codes "REFUSED NEEDED " ++ decimal n)
reply_said head (NoFile n) = line_said head (codes "REFUSED NOFILE " ++ decimal n)
reply_said head (Limit n) = line_said head (codes "REFUSED LIMIT " ++ decimal n)
reply_said head (Phase file name) = line_said head (codes "REFUSED PHASE " ++ decimal file ++ codes " " ++ phase_text name)
reply_said head Memory = line_said head (codes "REFUSED MEMORY")

pub audible : (answer : Answer) → text_of_answer answer ≢ []
audible answer = reply_said answer.head answer.reply

-- one part behind another

heard_behind : (xs ys : List Answer) (old mid new : World) → TellAlone xs → Says (said_by xs) old mid → IsHeard ys mid new → IsHeard (xs ++ ys) old new
heard_behind xs ys old mid new alone says heard = record {
  told = xs ++ heard.told;
  untold = heard.untold;
  all = ap (λ (l : List Answer). xs ++ l) heard.all ∙ sym (append_assoc xs heard.told heard.untold);
  alone = alone_append xs heard.told alone heard.alone;
  front = said_by xs ++ heard.front;
  rest = heard.rest;
  text = said_by-append xs heard.told ∙ ap (λ (l : List ℕ). said_by xs ++ l) heard.text ∙ sym (append_assoc (said_by xs) heard.front heard.rest);
  says = says_both (said_by xs) heard.front old mid new says heard.says;
}

pub whole_part : (m : Machine) (xs ys : List Answer) (old mid new : World) → IsWhole m xs old mid → IsPart (machine_after m xs) ys mid new → IsPart m (xs ++ ys) old new
whole_part m xs ys old mid new first second = record {
  only = touches_then 0 old mid new first.only second.only;
  causes = causes_then m xs ys old mid new first.causes second.causes;
  heard = heard_behind xs ys old mid new first.alone first.running.says second.heard;
  kept = steps_behind IsKept after_of text_of_answer m m xs ys (machine_after m xs) old mid new audible first.running second.kept;
}

pub whole_then : (m : Machine) (xs ys : List Answer) (old mid new : World) → IsWhole m xs old mid → IsWhole (machine_after m xs) ys mid new → IsWhole m (xs ++ ys) old new
whole_then m xs ys old mid new first second =
    let last : machine_after (machine_after m xs) ys ≡ machine_after m (xs ++ ys) = sym (machine_after-append m xs ys) in
    record {
      only = touches_then 0 old mid new first.only second.only;
      causes = causes_then_said m xs ys old mid new first.causes second.causes;
      alone = alone_append xs ys first.alone second.alone;
      running = subst (λ (x : Machine). IsRunning IsKept after_of text_of_answer m m (xs ++ ys) x old new) last
          (run_then IsKept after_of text_of_answer m m xs ys (machine_after m xs) (machine_after (machine_after m xs) ys) old mid new audible first.running second.running);
      rests = subst (λ (x : Machine). Rests x (present new)) last second.rests;
    }

-- a whole part is a part
pub part_of_whole : (m : Machine) (answers : List Answer) (old new : World) → IsWhole m answers old new → IsPart m answers old new
part_of_whole m answers old new whole = record {
  only = whole.only;
  causes = causes_anyhow m answers old new whole.causes;
  heard = record {
    told = answers;
    untold = [];
    all = sym (append-nil answers);
    alone = whole.alone;
    front = said_by answers;
    rest = [];
    text = sym (append-nil (said_by answers));
    says = whole.running.says;
  };
  kept = whole.running.steps;
}

-- calls that only talk, while the files rest

pub rests_still : (m : Machine) (old new : Moment) → ((g : ℕ) → new.files g ≡ old.files g) → Rests m old → Rests m new
rests_still m old new same rests = record {
  keeps = λ g. subst (EachImage (IsKept m g)) (sym (same g)) (rests.keeps g);
  exact = λ none. subst (EachImage (OpensBy m m.history)) (sym (same 0)) (rests.exact none);
}

pub rests_talks : (m : Machine) (old new : World) → Talks old new → Rests m (present old) → Rests m (present new)
rests_talks m old new talks rests = rests_still m (present old) (present new) (talks_files old new talks) rests

pub whole_quiet : (m : Machine) (old new : World) → Rests m (present old) → Talks old new → SaysNothing old new → IsWhole m [] old new
whole_quiet m old new rests talks silent = record {
  only = touches_talks 0 old new talks;
  causes = causes_quiet m old new (still_talks old new talks) silent;
  alone = tt;
  running = goes_on_silently IsKept after_of text_of_answer m m [] m old old new (run_none IsKept after_of text_of_answer m old rests.keeps) (steps_of_talks old new talks) silent;
  rests = rests_talks m old new talks rests;
}

-- the same behind a part
pub whole_resting : (m : Machine) (xs : List Answer) (old mid new : World) → IsWhole m xs old mid → Talks mid new → SaysNothing mid new → IsWhole m xs old new
whole_resting m xs old mid new first talks silent =
    subst (λ (x : List Answer). IsWhole m x old new) (append-nil xs) (whole_then m xs [] old mid new first (whole_quiet (machine_after m xs) mid new first.rests talks silent))

pub whole_none : (m : Machine) (w : World) → Rests m (present w) → IsWhole m [] w w
whole_none m w rests = whole_quiet m w w rests (talks_none w) refl

-- one line: a step, and the saying of its answer

module _ (m : Machine) (answer : Answer) (P : Option File → Type 0) (old mid : World) (resting : Rests m (present old)) (run : Runs 0 P old mid)
    (cause : IsCaused m answer old mid)
    (keeps : Steps (KeptByEither (IsKept m) (IsKept answer.after)) old mid) (quiet : IsQuiet old mid) (rests : Rests answer.after (present mid)) where
  begun : IsRunning IsKept after_of text_of_answer m m [] m old old
  begun = run_none IsKept after_of text_of_answer m old resting.keeps

  only_step : TouchesOnly 0 old mid
  only_step = touches_run 0 P old mid run

  causes_step : (new : World) → Talks mid new → Causes m (answer ∷ []) old new
  causes_step new talks =
      causes_one m answer old mid new (passes (LeavesOthers 0 old) old mid only_step) quiet cause rests (still_talks mid new talks)

  causes_said : (new : World) → Talks mid new → Says (text_of_answer answer) mid new → CausesOfSaid m (answer ∷ []) old new
  causes_said new talks said =
      causes_one_said m answer old mid new (passes (LeavesOthers 0 old) old mid only_step) quiet cause rests (still_talks mid new talks) said

  -- its text was not said
  pub line_untold : IsPart m (answer ∷ []) old mid
  line_untold = record {
    only = only_step;
    causes = causes_step mid (talks_none mid);
    heard = record { told = []; untold = answer ∷ []; all = refl; alone = tt; front = []; rest = []; text = refl; says = quiet.0 ∙ adds_none (present old).said };
    kept = stepped IsKept after_of text_of_answer m m [] m answer old old mid audible begun keeps quiet;
  }

  module _ (new : World) (says : SaysOnly (text_of_answer answer) mid new) (alone : TellsAlone (text_of_answer answer) answer.reply) where
    only_line : TouchesOnly 0 old new
    only_line = touches_then 0 old mid new only_step (touches_talks 0 mid new says.talks)

    silent_then : (bytes : List ℕ) → Says bytes mid new → Says bytes old new
    silent_then bytes said = subst (λ (o : Option (List ℕ)). Adds bytes o (present new).said) quiet.0 said

    -- a front of it was said
    pub line_part : (n : ℕ) → Says (take n (text_of_answer answer)) mid new → IsPart m (answer ∷ []) old new
    line_part n said = record {
      only = only_line;
      causes = causes_step new says.talks;
      heard = record {
        told = answer ∷ [];
        untold = [];
        all = refl;
        alone = (alone, tt);
        front = take n (text_of_answer answer);
        rest = drop n (text_of_answer answer);
        text = append-nil (text_of_answer answer) ∙ sym (take-append-drop n (text_of_answer answer));
        says = silent_then (take n (text_of_answer answer)) said;
      };
      kept = answered IsKept after_of text_of_answer m m [] m answer old old mid new audible begun keeps quiet rests.keeps says;
    }

    -- all of it was
    pub line_whole : Says (text_of_answer answer) mid new → IsWhole m (answer ∷ []) old new
    line_whole said = record {
      only = only_line;
      causes = causes_said new says.talks said;
      alone = (alone, tt);
      running = goes_on IsKept after_of text_of_answer m m [] m answer old old mid new audible begun keeps quiet rests.keeps says said;
      rests = rests_talks answer.after mid new says.talks rests;
    }
