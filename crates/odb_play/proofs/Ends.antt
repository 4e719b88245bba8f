-- How the parts of a script's play follow one another, and how it ends.
use Rattle.std.proofs.Common.{◌≡◌, ◌≢◌, ℕ, zero, suc, ◌+◌, ◌-◌, ◌≤◌, Bool, true, false, List, [], ◌∷◌, ◌++◌, length, take, refl, sym, ap, subst, ◌∙◌, arith, inl, inr, append_assoc, eq-eqb, eqb-true}
use Rattle.std.specs.Prelude.{◌==◌, Result, Ok, Err}
use Rattle.std.proofs.lemmas.List.{append-nil, take_all, take-append-le}
use Rattle.std.proofs.Math.Seq.{take-append_seam, take-length}
use Rattle.std.proofs.lemmas.Bool.{cases_lt}
use Rattle.odb_device.specs.World.{World, present}
use Rattle.odb_device.specs.Console.{Says}
use Rattle.odb_device.proofs.Talking.{says_both}
use Rattle.odb_machine.specs.Machine.{Machine}
use Rattle.odb_model.specs.Script.{ended_lines, open_line, last_line, all_lines}
use Rattle.odb_machine.specs.Play.{Answer, IsAnswer, IsRun, machine_after, said_by}
use Rattle.odb_system.specs.Kept.{Rests}
use Rattle.odb_play.specs.Part.{IsPart, IsWhole}
use Rattle.odb_play.proofs.Parts.{said_by-append, machine_after-append, whole_part, whole_then, part_of_whole, whole_none}
use Rattle.odb_model.proofs.Cut.{ended_lines-more}
use Rattle.odb_model.proofs.Fronts.{IsFrontOf, front-last}
use Rattle.odb_system.specs.Held.{Held, StandsFor}
use Rattle.odb_play.specs.declared.player.TheConstants.{FRONT}
use Rattle.odb_play.specs.declared.player.Stop.{Stop}
use Rattle.odb_play.specs.declared.player.Stop.TheVariants.{WriteFault, NoMemory}
use Rattle.odb_reply.specs.Unbroken.{HasNoLf}
use Rattle.odb_play.specs.LineFront.{line_front, read_of_last}
use Rattle.odb_play.specs.Played.{IsAt, BrokenOff, LineEnds, StopsSaying, StopsForMemory, BytesEnd, FinishEnds, EndsWith, status_of}
use Rattle.odb_play.proofs.Lines.{FrontsTell, IsRun-snoc, ended_lines-front, says_nothing, kept_with}

-- the first of some lines are the first of these lines and more
first_longer : (n : ℕ) (lines rest : List (List ℕ)) → (k : ℕ) × (take k (lines ++ rest) ≡ take n lines)
first_longer n lines rest =
    elim (cases_lt (length lines) n) as (λ w. (k : ℕ) × (take k (lines ++ rest) ≡ take n lines)) [
      | inl shorter ↦ (length lines, take-append_seam lines rest ∙ sym (take_all n lines (omega arith)))
      | inr within ↦ (n, take-append-le n lines rest within)
    ]

-- the first of the lines of some input are the first of the lines of more of it
pub first_lines : (n : ℕ) (xs ys : List ℕ) → (k : ℕ) × (take k (ended_lines (xs ++ ys)) ≡ take n (ended_lines xs))
first_lines n xs ys =
    let more = ended_lines-front xs ys in
    let first = first_longer n (ended_lines xs) more.0 in
    (first.0, ap (take first.0) more.1 ∙ first.1)

-- the first lines that an LF ends are the first of all lines
pub first_of_all : (n : ℕ) (input : List ℕ) → (k : ℕ) × (take k (all_lines input) ≡ take n (ended_lines input))
first_of_all n input = first_longer n (ended_lines input) (last_line (open_line input))

-- what has stopped has stopped, however many lines there are
pub stops_saying_longer : (m : Machine) (lines longer : List (List ℕ)) (answers : List Answer) (old new : World)
    → ((n : ℕ) → (k : ℕ) × (take k longer ≡ take n lines)) → StopsSaying m lines answers old new → StopsSaying m longer answers old new
stops_saying_longer m lines longer answers old new front stops =
    let first = front stops.count in
    record {
      more = stops.more;
      last = stops.last;
      count = first.0;
      run = subst (λ (x : List (List ℕ)). IsRun m x (answers ++ (stops.more ++ stops.last ∷ []))) (sym first.1) stops.run;
      part = stops.part;
      broken = stops.broken;
    }

pub stops_memory_longer : (m : Machine) (lines longer : List (List ℕ)) (answers : List Answer) (old new : World)
    → ((n : ℕ) → (k : ℕ) × (take k longer ≡ take n lines)) → StopsForMemory m lines answers old new → StopsForMemory m longer answers old new
stops_memory_longer m lines longer answers old new front stops =
    let first = front stops.count in
    record {
      more = stops.more;
      untold = stops.untold;
      few = stops.few;
      count = first.0;
      run = subst (λ (x : List (List ℕ)). IsRun m x (answers ++ (stops.more ++ stops.untold))) (sym first.1) stops.run;
      part = stops.part;
      says = stops.says;
    }

module _ (T U : Type 0) where
  -- the same, however the input goes on
  pub bytes_longer : (m : Machine) (held after : Held) (kept line xs ys : List ℕ) (answers : List Answer) (stop : Stop) (old new : World)
      → BytesEnd {T = T} m held kept xs answers (Err stop) old new → BytesEnd {T = U} m after line (xs ++ ys) answers (Err stop) old new
  bytes_longer m held after kept line xs ys answers WriteFault old new ends =
      stops_saying_longer m (ended_lines xs) (ended_lines (xs ++ ys)) answers old new (λ n. first_lines n xs ys) ends
  bytes_longer m held after kept line xs ys answers NoMemory old new ends =
      stops_memory_longer m (ended_lines xs) (ended_lines (xs ++ ys)) answers old new (λ n. first_lines n xs ys) ends

broken_then : (xs ys : List Answer) (last : Answer) (old mid new : World) → Says (said_by xs) old mid → BrokenOff (said_by ys) last mid new → BrokenOff (said_by (xs ++ ys)) last old new
broken_then xs ys last old mid new said broken = record {
  front = broken.front;
  rest = broken.rest;
  text = broken.text;
  unsaid = broken.unsaid;
  said = subst (λ (x : List ℕ). Says x old new)
      (sym (append_assoc (said_by xs) (said_by ys) broken.front) ∙ ap (λ x. x ++ broken.front) (sym (said_by-append xs ys)))
      (says_both (said_by xs) (said_by ys ++ broken.front) old mid new said broken.said);
}

-- some answers were said, and then more
module _ (m : Machine) (answers first : List Answer) (old mid new : World) (whole : IsWhole (machine_after m answers) first old mid) where
  whole_further : (more : List Answer) → IsWhole (machine_after m (answers ++ first)) more mid new → IsWhole (machine_after m answers) (first ++ more) old new
  whole_further more next =
      whole_then (machine_after m answers) first more old mid new whole (subst (λ (x : Machine). IsWhole x more mid new) (machine_after-append m answers first) next)

  part_further : (more : List Answer) → IsPart (machine_after m (answers ++ first)) more mid new → IsPart (machine_after m answers) (first ++ more) old new
  part_further more next =
      whole_part (machine_after m answers) first more old mid new whole (subst (λ (x : Machine). IsPart x more mid new) (machine_after-append m answers first) next)

  pub saying_then : (lines : List (List ℕ)) → StopsSaying m lines (answers ++ first) mid new → StopsSaying m lines answers old new
  saying_then lines next =
      let tail : List Answer = next.last ∷ [] in
      let path : first ++ (next.more ++ tail) ≡ first ++ next.more ++ tail = sym (append_assoc first next.more tail) in
      record {
        more = first ++ next.more;
        last = next.last;
        count = next.count;
        run = subst (λ (x : List Answer). IsRun m (take next.count lines) x) (append_assoc answers first (next.more ++ tail) ∙ ap (λ x. answers ++ x) path) next.run;
        part = subst (λ (x : List Answer). IsPart (machine_after m answers) x old new) path (part_further (next.more ++ tail) next.part);
        broken = broken_then first next.more next.last old mid new whole.running.says next.broken;
      }

  pub memory_then : (lines : List (List ℕ)) → StopsForMemory m lines (answers ++ first) mid new → StopsForMemory m lines answers old new
  memory_then lines next =
      let path : first ++ (next.more ++ next.untold) ≡ first ++ next.more ++ next.untold = sym (append_assoc first next.more next.untold) in
      record {
        more = first ++ next.more;
        untold = next.untold;
        few = next.few;
        count = next.count;
        run = subst (λ (x : List Answer). IsRun m (take next.count lines) x) (append_assoc answers first (next.more ++ next.untold) ∙ ap (λ x. answers ++ x) path) next.run;
        part = subst (λ (x : List Answer). IsPart (machine_after m answers) x old new) path (part_further (next.more ++ next.untold) next.part);
        says = subst (λ (x : List ℕ). Says x old new) (sym (said_by-append first next.more)) (says_both (said_by first) (said_by next.more) old mid new whole.running.says next.says);
      }

module _ {T U : Type 0} (m : Machine) (held : Held) (kept xs ys : List ℕ) (answers : List Answer) (done : T) (after : Held) (line : List ℕ) (old mid new : World) where
  -- some bytes were fed, and then more
  pub bytes_then : (result : Result U Stop) → BytesEnd m held kept xs answers (Ok done) old mid
      → ((all : List Answer) → IsAt m held kept xs all mid → BytesEnd m after line (xs ++ ys) all result mid new)
      → BytesEnd m after line (xs ++ ys) answers result old new
  bytes_then (Ok more_done) first then =
      let next = then (answers ++ first.0) first.1 in (
        first.0 ++ next.0,
        subst (λ (x : List Answer). IsAt m after line (xs ++ ys) x new) (append_assoc answers first.0 next.0) next.1,
        whole_further m answers first.0 old mid new first.2 next.0 next.2,
      )
  bytes_then (Err WriteFault) first then = saying_then m answers first.0 old mid new first.2 (ended_lines (xs ++ ys)) (then (answers ++ first.0) first.1)
  bytes_then (Err NoMemory) first then = memory_then m answers first.0 old mid new first.2 (ended_lines (xs ++ ys)) (then (answers ++ first.0) first.1)

-- nothing was fed yet
pub bytes_none : {T : Type 0} (m : Machine) (held : Held) (kept input : List ℕ) (answers : List Answer) (done : T) (w : World)
    → IsAt m held kept input answers w → BytesEnd m held kept (input ++ []) answers (Ok done) w w
bytes_none m held kept input answers done w at = (
  [],
  subst (λ (x : List ℕ). IsAt m held kept x (answers ++ []) w) (sym (append-nil input)) (subst (λ (x : List Answer). IsAt m held kept input x w) (sym (append-nil answers)) at),
  whole_none (machine_after m answers) w at.rests,
)

-- bytes without an LF were kept, or could not be
pub bytes_kept : {T : Type 0} (m : Machine) (held : Held) (kept input part : List ℕ) (answers : List Answer) (done : T) (w : World) → HasNoLf part
    → IsAt m held kept input answers w → BytesEnd m held (kept ++ take (FRONT + 1 - length kept) part) (input ++ part) answers (Ok done) w w
bytes_kept m held kept input part answers done w none at = (
  [],
  record {
    run = subst (λ (x : List (List ℕ)). IsRun m x (answers ++ [])) (sym (ended_lines-more input part none)) (subst (λ (x : List Answer). IsRun m (ended_lines input) x) (sym (append-nil answers)) at.run);
    stands = subst (λ (x : List Answer). StandsFor held (machine_after m x)) (sym (append-nil answers)) at.stands;
    rests = subst (λ (x : List Answer). Rests (machine_after m x) (present w)) (sym (append-nil answers)) at.rests;
    line = kept_with kept input part at.line none;
  },
  whole_none (machine_after m answers) w at.rests,
)

pub bytes_not_kept : (T : Type 0) (m : Machine) (held after : Held) (kept line input part : List ℕ) (answers : List Answer) (w : World)
    → IsAt m held kept input answers w → BytesEnd {T = T} m after line (input ++ part) answers (Err NoMemory) w w
bytes_not_kept T m held after kept line input part answers w at =
    let first = first_lines (length (ended_lines input)) input part in
    record {
      more = [];
      untold = [];
      few = omega arith;
      count = first.0;
      run = subst (λ (x : List (List ℕ)). IsRun m x (answers ++ [])) (sym (first.1 ∙ take-length (ended_lines input))) (subst (λ (x : List Answer). IsRun m (ended_lines input) x) (sym (append-nil answers)) at.run);
      part = part_of_whole (machine_after m answers) [] w w (whole_none (machine_after m answers) w at.rests);
      says = says_nothing w w refl;
    }

-- all lines, where one is left open
all_with : (input : List ℕ) (b : ℕ) (rest : List ℕ) → open_line input ≡ b ∷ rest → all_lines input ≡ ended_lines input ++ open_line input ∷ []
all_with input b rest line = ap (λ x. ended_lines input ++ last_line x) line ∙ sym (ap (λ x. ended_lines input ++ x ∷ []) line)

-- all lines, where none is left open
pub finish_none : {T : Type 0} (m : Machine) (held : Held) (kept input : List ℕ) (answers : List Answer) (done : T) (w : World)
    → IsAt m held kept input answers w → open_line input ≡ [] → FinishEnds m input answers (Ok done) w w
finish_none m held kept input answers done w at line =
    let lines : all_lines input ≡ ended_lines input = ap (λ x. ended_lines input ++ last_line x) line ∙ append-nil (ended_lines input) in (
      [],
      subst (λ (x : List (List ℕ)). IsRun m x (answers ++ [])) (sym lines) (subst (λ (x : List Answer). IsRun m (ended_lines input) x) (sym (append-nil answers)) at.run),
      whole_none (machine_after m answers) w at.rests,
    )

module _ (fronts_tell : FrontsTell) where
  answered_last : (m : Machine) (held : Held) (kept : List ℕ) (b : ℕ) (rest input : List ℕ) (answers : List Answer) (answer : Answer) (w : World) → IsAt m held kept input answers w → open_line input ≡ b ∷ rest
      → IsAnswer (read_of_last kept) (machine_after m answers) answer → IsRun m (all_lines input) (answers ++ answer ∷ [])
  answered_last m held kept b rest input answers answer w at line told =
      let front : IsFrontOf FRONT (read_of_last kept) (open_line input) =
      subst (λ (x : List ℕ). IsFrontOf FRONT (read_of_last x) (open_line input)) (sym at.line) (front-last FRONT (open_line input)) in
      subst (λ (x : List (List ℕ)). IsRun m x (answers ++ answer ∷ [])) (sym (all_with input b rest line))
      (IsRun-snoc m (ended_lines input) answers (open_line input) answer at.run (fronts_tell (read_of_last kept) (open_line input) (machine_after m answers) answer front told))

  -- all of them, as the first of them
  answered_whole : (m : Machine) (held : Held) (kept : List ℕ) (b : ℕ) (rest input : List ℕ) (answers : List Answer) (answer : Answer) (w : World) → IsAt m held kept input answers w → open_line input ≡ b ∷ rest
      → IsAnswer (read_of_last kept) (machine_after m answers) answer → IsRun m (take (length (all_lines input)) (all_lines input)) (answers ++ answer ∷ [])
  answered_whole m held kept b rest input answers answer w at line told =
      subst (λ (x : List (List ℕ)). IsRun m x (answers ++ answer ∷ [])) (sym (take-length (all_lines input))) (answered_last m held kept b rest input answers answer w at line told)

  -- the last line is answered
  pub finish_line : {T : Type 0} (m : Machine) (held : Held) (kept : List ℕ) (b : ℕ) (rest input : List ℕ) (answers : List Answer) (result : Result T Stop) (after : Held) (old new : World)
      → IsAt m held kept input answers old → open_line input ≡ b ∷ rest
      → LineEnds (read_of_last kept) (machine_after m answers) result after old new → FinishEnds m input answers result old new
  finish_line m held kept b rest input answers (Ok done) after old new at line ends =
      (ends.0 ∷ [], answered_last m held kept b rest input answers ends.0 old at line ends.1, ends.3)
  finish_line m held kept b rest input answers (Err WriteFault) after old new at line ends = record {
    more = [];
    last = ends.0;
    count = length (all_lines input);
    run = answered_whole m held kept b rest input answers ends.0 old at line ends.1;
    part = ends.2;
    broken = ends.3;
  }
  finish_line m held kept b rest input answers (Err NoMemory) after old new at line ends = record {
    more = [];
    untold = ends.0 ∷ [];
    few = omega arith;
    count = length (all_lines input);
    run = answered_whole m held kept b rest input answers ends.0 old at line ends.1;
    part = ends.2;
    says = says_nothing old new ends.3;
  }

-- a front of a byte or more of what has a byte has one too
some_taken : (n b : ℕ) (rest : List ℕ) → 1 ≤ n → take n (b ∷ rest) ≡ [] → ⊥
some_taken zero b rest long none = omega arith
some_taken (suc n) b rest long none = cc

-- nothing is kept just where no line is left open
pub open_none : (kept o : List ℕ) → kept ≡ line_front o → kept ≡ [] → o ≡ []
open_none kept [] same none = refl
open_none kept (b ∷ rest) same none = absurd (some_taken (FRONT + 1) b rest (omega arith) (sym same ∙ none))

pub open_some : (o : List ℕ) (kept : List ℕ) → kept ≡ line_front o → kept ≢ [] → (b : ℕ) × (rest : List ℕ) × (o ≡ b ∷ rest)
open_some [] kept same some = absurd (some same)
open_some (b ∷ rest) kept same some = (b, rest, refl)

-- what has a length other than 0 has a byte
pub not_empty : (len : ℕ) (test : Bool) (kept slice : List ℕ) → test ≡ (len == 0) → test ≡ false → length slice ≡ len → slice ≡ kept → kept ≢ []
not_empty len test kept slice is other count same none =
    let zero_len : len ≡ 0 = sym count ∙ ap length (same ∙ none) in
    let yes : (len == 0) ≡ true = eq-eqb len 0 zero_len in
    cc

-- what has a length of 0 has none
pub empty : (len : ℕ) (test : Bool) (kept : List ℕ) → test ≡ (len == 0) → test ≡ true → length kept ≡ len → kept ≡ []
empty len test [] is zeroed count = refl
empty len test (b ∷ kept) is zeroed count = let zero_len : len ≡ 0 = eqb-true len 0 (sym is ∙ zeroed) in absurd (omega arith)

-- the end by a stop, by its status
pub ends_with : (T : Type 0) (m : Machine) (input : List ℕ) (answers : List Answer) (stop : Stop) (old new : World) → FinishEnds {T = T} m input answers (Err stop) old new
    → EndsWith m input answers (status_of stop) old new
ends_with T m input answers WriteFault old new ends = ends
ends_with T m input answers NoMemory old new ends = ends
