-- Answers to lines, one after another.
use Rattle.std.proofs.Common.{◌≡◌, ℕ, ◌+◌, ◌-◌, true, false, List, [], ◌∷◌, ◌++◌, length, take, refl, sym, ap, subst, ◌∙◌, append_assoc, eqb-true, arith}
use Rattle.std.specs.Prelude.{◌==◌, ◌||◌, Result, Ok, Err}
use Rattle.std.proofs.lemmas.List.{append-nil}
use Rattle.std.proofs.Math.Seq.{take-length}
use Rattle.odb_device.specs.World.{World, present}
use Rattle.odb_device.specs.Console.{Says, SaysNothing}
use Rattle.odb_device.proofs.Talking.{adds_none}
use Rattle.odb_machine.specs.Machine.{Machine}
use Rattle.odb_model.specs.Script.{ended_lines, open_line, without_cr}
use Rattle.odb_machine.specs.Play.{Answer, IsAnswer, IsRun, machine_after}
use Rattle.odb_model.proofs.Cut.{ended_lines-more, open_line-more, ended_lines-ended, open_line-ended}
use Rattle.odb_model.proofs.Fronts.{IsFrontOf, kept-more, front-ended}
use Rattle.odb_system.specs.Held.{Held, StandsFor}
use Rattle.odb_system.specs.Kept.{Rests}
use Rattle.odb_play.specs.declared.player.TheConstants.{FRONT}
use Rattle.odb_play.specs.declared.player.Stop.{Stop}
use Rattle.odb_play.specs.declared.player.Stop.TheVariants.{WriteFault, NoMemory}
use Rattle.odb_reply.specs.Unbroken.{HasNoLf}
use Rattle.odb_play.specs.LineFront.{line_front, read_of_ended}
use Rattle.odb_play.specs.Played.{IsAt, LineEnds, BytesEnd}
use Rattle.odb_play.proofs.Parts.{machine_after-append}

-- a run goes on by one answer
pub IsRun-snoc : (m : Machine) (lines : List (List ℕ)) (answers : List Answer) (line : List ℕ) (answer : Answer)
    → IsRun m lines answers → IsAnswer line (machine_after m answers) answer → IsRun m (lines ++ line ∷ []) (answers ++ answer ∷ [])
IsRun-snoc m [] [] line answer run is = (is, tt)
IsRun-snoc m (x ∷ lines) (a ∷ answers) line answer run is = (run.0, IsRun-snoc a.after lines answers line answer run.1 is)
IsRun-snoc m [] (a ∷ answers) line answer run is = absurd run
IsRun-snoc m (x ∷ lines) [] line answer run is = absurd run

-- the lines of a front of the input are a front of its lines
pub ended_lines-front : (xs ys : List ℕ) → (rest : List (List ℕ)) × (ended_lines (xs ++ ys) ≡ ended_lines xs ++ rest)
ended_lines-front xs [] = ([], ap ended_lines (append-nil xs) ∙ sym (append-nil (ended_lines xs)))
ended_lines-front xs (b ∷ ys) =
    let further = ended_lines-front (xs ++ b ∷ []) ys in
    let split : ended_lines (xs ++ b ∷ ys) ≡ ended_lines (xs ++ b ∷ []) ++ further.0 = ap ended_lines (sym (append_assoc xs (b ∷ []) ys)) ∙ further.1 in
    elim (b == 10) as (λ c. (b == 10) ≡ c → (rest : List (List ℕ)) × (ended_lines (xs ++ b ∷ ys) ≡ ended_lines xs ++ rest)) [
      | true ↦ λ e. (
        without_cr (open_line xs) ∷ further.0,
        split ∙ ap (λ x. ended_lines (xs ++ x ∷ []) ++ further.0) (eqb-true b 10 e)
            ∙ ap (λ x. x ++ further.0) (ended_lines-ended xs) ∙ append_assoc (ended_lines xs) (without_cr (open_line xs) ∷ []) further.0,
      )
      | false ↦ λ e. (further.0, split ∙ ap (λ x. x ++ further.0) (ended_lines-more xs (b ∷ []) (ap (λ c. c || false) e)))
    ] refl

-- what is said of nothing
pub says_nothing : (old new : World) → SaysNothing old new → Says [] old new
says_nothing old new same = same ∙ adds_none (old.moment old.time).said

-- an answer to what is read of a line is one to the line
abbrev pub FrontsTell : Type 0
FrontsTell = (front line : List ℕ) (m : Machine) (answer : Answer) → IsFrontOf FRONT front line → IsAnswer front m answer → IsAnswer line m answer

-- the lines with one more
lines_with : (input part : List ℕ) → HasNoLf part
    → ended_lines (input ++ (part ++ 10 ∷ [])) ≡ ended_lines input ++ without_cr (open_line (input ++ part)) ∷ []
lines_with input part none =
    ap ended_lines (sym (append_assoc input part (10 ∷ []))) ∙ ended_lines-ended (input ++ part)
    ∙ ap (λ x. x ++ without_cr (open_line (input ++ part)) ∷ []) (ended_lines-more input part none)

pub kept_with : (kept input part : List ℕ) → kept ≡ line_front (open_line input) → HasNoLf part
    → kept ++ take (FRONT + 1 - length kept) part ≡ line_front (open_line (input ++ part))
kept_with kept input part same none =
    ap (λ x. x ++ take (FRONT + 1 - length x) part) same ∙ kept-more (FRONT + 1) (open_line input) part ∙ ap line_front (sym (open_line-more input part none))

module _ (fronts_tell : FrontsTell) where
  -- one line more is answered
  answered_line : (m : Machine) (kept input part : List ℕ) (answers : List Answer) (answer : Answer) → kept ≡ line_front (open_line input) → IsRun m (ended_lines input) answers
      → HasNoLf part → IsAnswer (read_of_ended (kept ++ take (FRONT + 1 - length kept) part)) (machine_after m answers) answer
      → IsRun m (ended_lines (input ++ (part ++ 10 ∷ []))) (answers ++ answer ∷ [])
  answered_line m kept input part answers answer line so_far none told =
      let shown : read_of_ended (kept ++ take (FRONT + 1 - length kept) part) ≡ read_of_ended (line_front (open_line (input ++ part))) = ap read_of_ended (kept_with kept input part line none) in
      let front : IsFrontOf FRONT (read_of_ended (kept ++ take (FRONT + 1 - length kept) part)) (without_cr (open_line (input ++ part))) =
      subst (λ (x : List ℕ). IsFrontOf FRONT x (without_cr (open_line (input ++ part)))) (sym shown) (front-ended FRONT (open_line (input ++ part))) in
      subst (λ (x : List (List ℕ)). IsRun m x (answers ++ answer ∷ [])) (sym (lines_with input part none))
      (IsRun-snoc m (ended_lines input) answers (without_cr (open_line (input ++ part))) answer so_far
      (fronts_tell (read_of_ended (kept ++ take (FRONT + 1 - length kept) part)) (without_cr (open_line (input ++ part))) (machine_after m answers) answer front told))

  -- all of them, as the first of them
  answered_all : (m : Machine) (kept input part : List ℕ) (answers : List Answer) (answer : Answer) → kept ≡ line_front (open_line input) → IsRun m (ended_lines input) answers
      → HasNoLf part → IsAnswer (read_of_ended (kept ++ take (FRONT + 1 - length kept) part)) (machine_after m answers) answer
      → IsRun m (take (length (ended_lines (input ++ (part ++ 10 ∷ [])))) (ended_lines (input ++ (part ++ 10 ∷ [])))) (answers ++ answer ∷ [])
  answered_all m kept input part answers answer line so_far none told =
      subst (λ (x : List (List ℕ)). IsRun m x (answers ++ answer ∷ [])) (sym (take-length (ended_lines (input ++ (part ++ 10 ∷ []))))) (answered_line m kept input part answers answer line so_far none told)

  -- the bytes of a line came whole, and it is answered
  pub line_ended : {T : Type 0} (m : Machine) (held : Held) (kept input part : List ℕ) (answers : List Answer) (result : Result T Stop) (after : Held) (old new : World)
      → IsAt m held kept input answers old → HasNoLf part
      → LineEnds (read_of_ended (kept ++ take (FRONT + 1 - length kept) part)) (machine_after m answers) result after old new
      → BytesEnd m after [] (input ++ (part ++ 10 ∷ [])) answers result old new
  line_ended m held kept input part answers (Ok done) after old new at none ends =
      let last : machine_after m (answers ++ ends.0 ∷ []) ≡ ends.0.after = machine_after-append m answers (ends.0 ∷ []) in (
        ends.0 ∷ [],
        record {
          run = answered_line m kept input part answers ends.0 at.line at.run none ends.1;
          stands = subst (λ (x : Machine). StandsFor after x) (sym last) ends.2;
          rests = subst (λ (x : Machine). Rests x (present new)) (sym last) ends.3.rests;
          line = ap line_front (sym (ap open_line (sym (append_assoc input part (10 ∷ []))) ∙ open_line-ended (input ++ part)));
        },
        ends.3,
      )
  line_ended m held kept input part answers (Err WriteFault) after old new at none ends = record {
    more = [];
    last = ends.0;
    count = length (ended_lines (input ++ (part ++ 10 ∷ [])));
    run = answered_all m kept input part answers ends.0 at.line at.run none ends.1;
    part = ends.2;
    broken = ends.3;
  }
  line_ended m held kept input part answers (Err NoMemory) after old new at none ends = record {
    more = [];
    untold = ends.0 ∷ [];
    few = omega arith;
    count = length (ended_lines (input ++ (part ++ 10 ∷ [])));
    run = answered_all m kept input part answers ends.0 at.line at.run none ends.1;
    part = ends.2;
    says = says_nothing old new ends.3;
  }
