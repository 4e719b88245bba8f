-- The loop that takes a script, and each way in which it ends.
use Rattle.std.proofs.Common.{◌≡◌, ◌≢◌, ℕ, zero, suc, ◌+◌, ◌<◌, ◌≤◌, Bool, true, false, ◌==◌, List, [], ◌∷◌, ◌++◌, length, take, refl, sym, ap, subst, ◌∙◌, arith, append_assoc, eq-eqb}
use Rattle.std.specs.Prelude.{◌||◌, Result, Ok, Err}
use Rattle.std.proofs.lemmas.List.{append-nil, length-append, length-take-le}
use Rattle.std.proofs.lemmas.Bool.{ne_eqb}
use Rattle.std.proofs.Math.Seq.{take-append_seam}
use Rattle.odb_device.specs.World.{World, present}
use Rattle.odb_device.specs.Console.{Talks, Says, SaysNothing, Takes, TakesNothing, EndsInput}
use Rattle.odb_device.proofs.Talking.{adds_none, adds_then, says_both}
use Rattle.odb_model.specs.declared.status.Status.{Status}
use Rattle.odb_model.specs.declared.status.Status.TheVariants.{Done, ReadFault, WriteFault as BadOutput, InputTooLong, NoMemory as OutOfMemory}
use Rattle.odb_machine.specs.Machine.{Machine}
use Rattle.odb_model.specs.Script.{ended_lines, all_lines}
use Rattle.odb_machine.specs.Answered.{AnsweredFromSnapshots}
use Rattle.odb_machine.specs.Play.{Answer, IsRun, machine_after, said_by, Plays, SaysAll, lines_so_far, most_input, PlayEnds}
use Rattle.odb_machine.proofs.Runs.{all_serial}
use Rattle.odb_system.specs.Held.{Held, StandsFor}
use Rattle.odb_system.specs.Kept.{Rests}
use Rattle.odb_play.specs.declared.player.Stop.{Stop}
use Rattle.odb_play.specs.declared.player.Stop.TheVariants.{WriteFault, NoMemory}
use Rattle.odb_play.specs.Outside.{RoseBy}
use Rattle.odb_play.specs.Part.{Causes, IsPart, IsWhole}
use Rattle.odb_play.specs.Played.{IsAt, StopsSaying, StopsForMemory, BytesEnd, FinishEnds, EndsWith, status_of, IsPlayedOn}
use Rattle.odb_play.proofs.Outside.{causes_rise, causes_count, causes_anyhow}
use Rattle.odb_play.proofs.Steps.{run_tells}
use Rattle.odb_play.proofs.Parts.{said_by-append, whole_part, whole_then, part_of_whole, whole_none, whole_resting, rests_talks}
use Rattle.odb_play.proofs.Ends.{first_of_all, stops_saying_longer, stops_memory_longer}

-- so many bytes were taken, and the lines that they end are answered
pub record IsPlaying (m : Machine) (held : Held) (kept : List ℕ) (taken : ℕ) (start now : World) : Type 0 where
  pub input : List ℕ
  pub answers : List Answer
  pub at : IsAt m held kept input answers now
  pub count : length input ≡ taken
  pub takes : Takes input start now
  pub whole : IsWhole m answers start now
  pub ended : now.talk.has_ended ≡ start.talk.has_ended

begins : (m : Machine) (held : Held) (w : World) → StandsFor held m → Rests m (present w) → IsPlaying m held [] 0 w w
begins m held w stands rests = record {
  input = [];
  answers = [];
  at = record { run = tt; stands = stands; rests = rests; line = refl };
  count = refl;
  takes = adds_none w.talk.taken;
  whole = whole_none m w rests;
  ended = refl;
}

-- the same, where nothing is kept
pub begins_with : (m : Machine) (held : Held) (kept : List ℕ) (w : World) → StandsFor held m → Rests m (present w) → kept ≡ [] → IsPlaying m held kept 0 w w
begins_with m held kept w stands rests none = subst (λ (x : List ℕ). IsPlaying m held x 0 w w) (sym none) (begins m held w stands rests)

plays : (m : Machine) (lines : List (List ℕ)) (answers : List Answer) (old new : World) → AnsweredFromSnapshots m → IsRun m lines answers → Causes m answers old new → Plays (RoseBy old new) m lines answers
plays m lines answers old new answered run causes = record {
  run = run;
  serial = all_serial m lines answers answered run;
  risen = causes_rise m answers old new causes;
  counted = λ file. causes_count m answers file old new (run_tells file m lines answers run) causes;
}

-- a piece was taken that isn't the end of the input
pub record TookPiece (piece : List ℕ) (now new : World) : Type 0 where
  pub some : 0 < length piece
  pub talks : Talks now new
  pub silent : SaysNothing now new
  pub takes : Takes piece now new
  pub ended : new.talk.has_ended ≡ now.talk.has_ended

-- nothing is taken, and what was taken is that before
taken_still : (a : List ℕ) (old mid new : World) → Takes a old mid → TakesNothing mid new → Takes a old new
taken_still a old mid new first nothing = nothing.0 ∙ first

-- the lines that an LF ends are the first of those so far
so_far : (ended : Bool) (n : ℕ) (input : List ℕ) → (k : ℕ) × (take k (lines_so_far ended input) ≡ take n (ended_lines input))
so_far true n input = first_of_all n input
so_far false n input = (n, refl)

-- it ended before the last of the lines so far was answered and its answer said
module _ (m : Machine) (answered : AnsweredFromSnapshots m) (start mid new : World) (answers : List Answer)
    (whole : IsWhole m answers start mid) (input : List ℕ) (takes : Takes input start new) (few : length input ≤ most_input) (lines : List (List ℕ))
    (fronts : (n : ℕ) → (k : ℕ) × (take k (lines_so_far new.talk.has_ended input) ≡ take n lines)) where
  abbrev lines_now : List (List ℕ)
  lines_now = lines_so_far new.talk.has_ended input

  saying_played : StopsSaying m lines answers mid new → IsPlayedOn m BadOutput start new
  saying_played some_lines =
      let stops : StopsSaying m lines_now answers mid new = stops_saying_longer m lines lines_now answers mid new fronts some_lines in
      let all : List Answer = answers ++ (stops.more ++ stops.last ∷ []) in
      let told : List Answer = answers ++ stops.more in
      let part : IsPart m all start new = whole_part m answers (stops.more ++ stops.last ∷ []) start mid new whole stops.part in
      let output : said_by answers ++ (said_by stops.more ++ stops.broken.front) ≡ said_by told ++ stops.broken.front =
      sym (append_assoc (said_by answers) (said_by stops.more) stops.broken.front) ∙ ap (λ x. x ++ stops.broken.front) (sym (said_by-append answers stops.more)) in
      record {
        played = record {
          only = part.only;
          input = input;
          output = said_by told ++ stops.broken.front;
          answers = all;
          takes = takes;
          says = subst (λ (x : List ℕ). Says x start new) output (says_both (said_by answers) (said_by stops.more ++ stops.broken.front) start mid new whole.running.says stops.broken.said);
          ends = (
            few,
            (
              stops.count,
              plays m (take stops.count lines_now) all start new answered stops.run part.causes,
              told,
              stops.last,
              stops.broken.front,
              stops.broken.rest,
              sym (append_assoc answers stops.more (stops.last ∷ [])),
              refl,
              stops.broken.text,
              stops.broken.unsaid,
            ),
          );
        };
        causes = part.causes;
        heard = part.heard;
        kept = part.kept;
      }

  memory_played : StopsForMemory m lines answers mid new → IsPlayedOn m OutOfMemory start new
  memory_played some_lines =
      let stops : StopsForMemory m lines_now answers mid new = stops_memory_longer m lines lines_now answers mid new fronts some_lines in
      let all : List Answer = answers ++ (stops.more ++ stops.untold) in
      let told : List Answer = answers ++ stops.more in
      let part : IsPart m all start new = whole_part m answers (stops.more ++ stops.untold) start mid new whole stops.part in
      record {
        played = record {
          only = part.only;
          input = input;
          output = said_by told;
          answers = all;
          takes = takes;
          says = subst (λ (x : List ℕ). Says x start new) (sym (said_by-append answers stops.more)) (says_both (said_by answers) (said_by stops.more) start mid new whole.running.says stops.says);
          ends = (
            few,
            (
              stops.count,
              plays m (take stops.count lines_now) all start new answered stops.run part.causes,
              told,
              stops.untold,
              sym (append_assoc answers stops.more stops.untold),
              stops.few,
              refl,
            ),
          );
        };
        causes = part.causes;
        heard = part.heard;
        kept = part.kept;
      }

-- all of some lines were answered
all_played : (m : Machine) (answers : List Answer) (start new : World) (status : Status) (input : List ℕ)
    → IsWhole m answers start new → Takes input start new
    → PlayEnds (RoseBy start new) m status start.talk.has_ended new.talk.has_ended input answers (said_by answers) → IsPlayedOn m status start new
all_played m answers start new status input whole takes ends =
    let part : IsPart m answers start new = part_of_whole m answers start new whole in
    record {
      played = record {
        only = whole.only;
        input = input;
        output = said_by answers;
        answers = answers;
        takes = takes;
        says = whole.running.says;
        ends = ends;
      };
      causes = part.causes;
      heard = part.heard;
      kept = part.kept;
    }

module _ (m : Machine) (answered : AnsweredFromSnapshots m) (held : Held) (kept : List ℕ) (taken : ℕ) (start now : World)
    (playing : IsPlaying m held kept taken start now) where
  -- calls that only take leave the answers as they are
  taking : (new : World) → Talks now new → SaysNothing now new → IsWhole m playing.answers start new
  taking new talks silent = whole_resting m playing.answers start now new playing.whole talks silent

  -- and the player
  pub at_taken : (new : World) → Talks now new → IsAt m held kept playing.input playing.answers new
  at_taken new talks = record {
    run = playing.at.run;
    stands = playing.at.stands;
    rests = rests_talks (machine_after m playing.answers) now new talks playing.at.rests;
    line = playing.at.line;
  }

  module _ (piece : List ℕ) (mid : World) (took : TookPiece piece now mid) (few : taken + length piece ≤ most_input)
      (after : Held) (line : List ℕ) (new : World) (still : TakesNothing mid new) where
    input_now : List ℕ
    input_now = playing.input ++ piece

    count_now : length input_now ≡ taken + length piece
    unfolding input_now
    count_now = length-append playing.input piece ∙ ap (λ n. n + length piece) playing.count

    few_now : length input_now ≤ most_input
    few_now = subst (λ (n : ℕ). n ≤ most_input) (sym count_now) few

    takes_now : Takes input_now start new
    unfolding input_now
    takes_now = taken_still (playing.input ++ piece) start mid new (adds_then playing.input piece start.talk.taken now.talk.taken mid.talk.taken playing.takes took.takes) still

    -- the piece was fed, and the script goes on
    goes_on : {T : Type 0} (done : T) → BytesEnd m after line (playing.input ++ piece) playing.answers (Ok done) mid new
        → IsPlaying m after line (taken + length piece) start new
    unfolding input_now
    goes_on done ends = record {
      input = input_now;
      answers = playing.answers ++ ends.0;
      at = ends.1;
      count = count_now;
      takes = takes_now;
      whole = whole_then m playing.answers ends.0 start mid new (taking mid took.talks took.silent) ends.2;
      ended = still.1 ∙ took.ended ∙ playing.ended;
    }

    -- the piece was fed in part
    pub stops_any : (T : Type 0) (stop : Stop) → BytesEnd {T = T} m after line (playing.input ++ piece) playing.answers (Err stop) mid new → IsPlayedOn m (status_of stop) start new
    unfolding input_now
    stops_any T WriteFault ends =
        saying_played m answered start mid new playing.answers (taking mid took.talks took.silent) input_now takes_now few_now (ended_lines input_now)
        (λ n. so_far new.talk.has_ended n input_now) ends
    stops_any T NoMemory ends =
        memory_played m answered start mid new playing.answers (taking mid took.talks took.silent) input_now takes_now few_now (ended_lines input_now)
        (λ n. so_far new.talk.has_ended n input_now) ends

    -- the same, where it did not stop
    pub goes_any : {T : Type 0} (result : Result T Stop) → ((stop : Stop) → result ≡ Err stop → ⊥) → BytesEnd m after line (playing.input ++ piece) playing.answers result mid new
        → IsPlaying m after line (taken + length piece) start new
    goes_any (Ok done) going ends = goes_on done ends
    goes_any (Err stop) going ends = absurd (going stop refl)

  -- the input could not be read on
  pub stops_input : (new : World) → Talks now new → SaysNothing now new → TakesNothing now new → taken ≤ most_input → IsPlayedOn m ReadFault start new
  stops_input new talks nothing still few =
      let whole : IsWhole m playing.answers start new = taking new talks nothing in
      all_played m playing.answers start new ReadFault playing.input whole (taken_still playing.input start now new playing.takes still) (
        still.1 ∙ playing.ended,
        subst (λ (n : ℕ). n ≤ most_input) (sym playing.count) few,
        (plays m (ended_lines playing.input) playing.answers start new answered playing.at.run (causes_anyhow m playing.answers start new whole.causes), refl),
      )

  -- there is more input than a script may have
  pub stops_long : (byte : List ℕ) (new : World) → TookPiece byte now new → length byte ≡ 1 → taken ≡ most_input → IsPlayedOn m InputTooLong start new
  stops_long byte new took one full =
      let whole : IsWhole m playing.answers start new = taking new took.talks took.silent in
      let front : take most_input (playing.input ++ byte) ≡ playing.input =
      ap (λ n. take n (playing.input ++ byte)) (sym (playing.count ∙ full)) ∙ take-append_seam playing.input byte in
      all_played m playing.answers start new InputTooLong (playing.input ++ byte) whole
      (adds_then playing.input byte start.talk.taken now.talk.taken new.talk.taken playing.takes took.takes) (
        length-append playing.input byte ∙ ap (λ n. n + length byte) (playing.count ∙ full) ∙ ap (λ n. most_input + n) one,
        subst (λ (x : List ℕ). SaysAll (RoseBy start new) m (ended_lines x) playing.answers (said_by playing.answers)) (sym front)
            (plays m (ended_lines playing.input) playing.answers start new answered playing.at.run (causes_anyhow m playing.answers start new whole.causes), refl),
      )

  -- the input has ended
  module _ (mid : World) (talks : Talks now mid) (nothing : SaysNothing now mid) (none : Takes [] now mid) (met : mid.talk.has_ended ≡ true) (few : taken ≤ most_input)
      (new : World) (still : TakesNothing mid new) where
    last_takes : Takes playing.input start new
    last_takes = subst (λ (x : List ℕ). Takes x start new) (append-nil playing.input)
        (taken_still (playing.input ++ []) start mid new (adds_then playing.input [] start.talk.taken now.talk.taken mid.talk.taken playing.takes none) still)

    last_few : length playing.input ≤ most_input
    last_few = subst (λ (n : ℕ). n ≤ most_input) (sym playing.count) few

    last_ended : new.talk.has_ended ≡ true
    last_ended = still.1 ∙ met

    -- the lines of an ended input are all of them
    all_now : (n : ℕ) → (k : ℕ) × (take k (lines_so_far new.talk.has_ended playing.input) ≡ take n (all_lines playing.input))
    all_now n = (n, ap (λ b. take n (lines_so_far b playing.input)) last_ended)

    ends_done : {T : Type 0} (done : T) → FinishEnds m playing.input playing.answers (Ok done) mid new → IsPlayedOn m Done start new
    ends_done done ends =
        let all : List Answer = playing.answers ++ ends.0 in
        let whole : IsWhole m all start new = whole_then m playing.answers ends.0 start mid new (taking mid talks nothing) ends.2 in
        all_played m all start new Done playing.input whole last_takes
        (last_ended, last_few, (plays m (all_lines playing.input) all start new answered ends.1 (causes_anyhow m all start new whole.causes), refl))

    -- by the status
    pub ends_any : (status : Status) → EndsWith m playing.input playing.answers status mid new → IsPlayedOn m status start new
    ends_any Done ends = ends_done (tt {0}) ends
    ends_any BadOutput ends =
        saying_played m answered start mid new playing.answers (taking mid talks nothing) playing.input last_takes last_few (all_lines playing.input) all_now ends
    ends_any OutOfMemory ends =
        memory_played m answered start mid new playing.answers (taking mid talks nothing) playing.input last_takes last_few (all_lines playing.input) all_now ends
    ends_any status ends = absurd ends

-- a piece of n bytes was taken to the front of a buffer
pub took_some : (n : ℕ) (piece : List ℕ) (now new : World) → n ≢ 0 → n ≤ length piece → Talks now new → SaysNothing now new → Takes (take n piece) now new → EndsInput n now new → TookPiece (take n piece) now new
took_some n piece now new some within talks silent takes ended =
    let count : length (take n piece) ≡ n = length-take-le n piece within in
    let other : (n == 0) ≡ false = ne_eqb n 0 some in
    record {
      some = omega arith;
      talks = talks;
      silent = silent;
      takes = takes;
      ended = ended ∙ ap (λ b. b || now.talk.has_ended) other;
    }

-- nothing was taken: the input has ended
pub met_end : (n : ℕ) (now new : World) → n ≡ 0 → EndsInput n now new → new.talk.has_ended ≡ true
met_end n now new none ended = ended ∙ ap (λ b. b || now.talk.has_ended) (eq-eqb n 0 none)

pub took_none : (n : ℕ) (piece : List ℕ) (now new : World) → n ≡ 0 → Takes (take n piece) now new → Takes [] now new
took_none n piece now new none takes = subst (λ (k : ℕ). Takes (take k piece) now new) none takes

-- one byte at most, and not none
pub one_of : (n : ℕ) → n ≤ 1 → n ≢ 0 → n ≡ 1
one_of zero few some = absurd (some refl)
one_of (suc zero) few some = refl
one_of (suc (suc n)) few some = omega arith

-- a stop by the output
pub stop_of_output : (stop : Stop) → status_of stop ≡ BadOutput → stop ≡ WriteFault
stop_of_output WriteFault e = refl
stop_of_output NoMemory e = cc
