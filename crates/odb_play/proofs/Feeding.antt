-- The lines of a piece, one after another.
use Rattle.std.proofs.Common.{◌≡◌, ℕ, ◌+◌, ◌-◌, List, [], ◌∷◌, ◌++◌, length, take, drop, refl, sym, ap, subst, ◌∙◌, append_assoc, arith}
use Rattle.std.specs.Prelude.{Result, Ok, Err}
use Rattle.std.proofs.lemmas.List.{take_all, length-drop}
use Rattle.odb_device.specs.World.{World, file_of}
use Rattle.odb_device.specs.Console.{TakesNothing}
use Rattle.odb_device.proofs.Talking.{talks_none}
use Rattle.odb_machine.specs.Machine.{Machine}
use Rattle.odb_machine.specs.Play.{Answer}
use Rattle.odb_system.specs.Held.{Held}
use Rattle.odb_system.specs.Durable.{IsDurable}
use Rattle.odb_play.specs.declared.player.TheConstants.{FRONT}
use Rattle.odb_play.specs.declared.player.Stop.{Stop}
use Rattle.odb_play.specs.declared.player.Stop.TheVariants.{NoMemory}
use Rattle.odb_reply.specs.Unbroken.{HasNoLf}
use Rattle.odb_play.specs.Outside.{TouchesOnly}
use Rattle.odb_play.specs.Played.{IsAt, BytesEnd}
use Rattle.odb_play.proofs.Outside.{touches_talks, touches_then}
use Rattle.odb_play.proofs.Marks.{IsLfAt}
use Rattle.odb_play.proofs.Ends.{bytes_none, bytes_then, bytes_longer, bytes_kept, bytes_not_kept}

-- what a call leaves that got these bytes
abbrev pub Feeds : {T : Type 0} → Held → List ℕ → List ℕ → Result T Stop → Held → List ℕ → World → World → Type 0
Feeds held kept bytes result after line old new =
    (m : Machine) (input : List ℕ) (answers : List Answer) → IsAt m held kept input answers old → BytesEnd m after line (input ++ bytes) answers result old new

-- some bytes of the piece are done, and these are left
pub record IsFeeding (held : Held) (kept piece : List ℕ) (start : World) (now_held : Held) (now_kept rest : List ℕ) (now : World) : Type 0 where
  pub done : List ℕ
  pub split : piece ≡ done ++ rest
  pub fed : Feeds {T = Unit {0}} held kept done (Ok (tt {0})) now_held now_kept start now
  pub only : TouchesOnly 0 start now
  pub durable : IsDurable now_held (file_of 0 now)
  pub input : TakesNothing start now

pub takes_nothing_then : (old mid new : World) → TakesNothing old mid → TakesNothing mid new → TakesNothing old new
takes_nothing_then old mid new first second = (second.0 ∙ first.0, second.1 ∙ first.1)

pub feeds_none : (held : Held) (kept piece : List ℕ) (w : World) → IsDurable held (file_of 0 w) → IsFeeding held kept piece w held kept piece w
feeds_none held kept piece w durable = record {
  done = [];
  split = refl;
  fed = λ m input answers at. bytes_none m held kept input answers (tt {0}) w at;
  only = touches_talks 0 w w (talks_none w);
  durable = durable;
  input = (refl, refl);
}

module _ (held : Held) (kept piece : List ℕ) (start : World) (now_held : Held) (now_kept rest : List ℕ) (now : World) (feeding : IsFeeding held kept piece start now_held now_kept rest now) where
  -- more bytes after those that are done
  feeds_more : {U : Type 0} (part : List ℕ) (result : Result U Stop) (after : Held) (line : List ℕ) (new : World)
      → Feeds now_held now_kept part result after line now new → Feeds held kept (feeding.done ++ part) result after line start new
  feeds_more part result after line new then = λ m input answers at.
      subst (λ (x : List ℕ). BytesEnd m after line x answers result start new) (append_assoc input feeding.done part)
      (bytes_then m now_held now_kept (input ++ feeding.done) part answers (tt {0}) after line start now new result (feeding.fed m input answers at) (λ all now_at. then m (input ++ feeding.done) all now_at))

  -- how the piece goes on behind a line
  split_line : (n : ℕ) → IsLfAt n rest → piece ≡ feeding.done ++ (take n rest ++ 10 ∷ []) ++ drop (n + 1) rest
  split_line n at =
      feeding.split ∙ ap (λ x. feeding.done ++ x) (at.split ∙ sym (append_assoc (take n rest) (10 ∷ []) (drop (n + 1) rest)))
      ∙ sym (append_assoc feeding.done (take n rest ++ 10 ∷ []) (drop (n + 1) rest))

  -- a line of the piece was answered
  pub feeds_line : (n : ℕ) → IsLfAt n rest → (after : Held) (line : List ℕ) (new : World)
      → Feeds {T = Unit {0}} now_held now_kept (take n rest ++ 10 ∷ []) (Ok (tt {0})) after line now new → TouchesOnly 0 now new → IsDurable after (file_of 0 new) → TakesNothing now new
      → IsFeeding held kept piece start after line (drop (n + 1) rest) new
  feeds_line n at after line new then only durable nothing = record {
    done = feeding.done ++ (take n rest ++ 10 ∷ []);
    split = split_line n at;
    fed = feeds_more (take n rest ++ 10 ∷ []) (Ok (tt {0})) after line new then;
    only = touches_then 0 start now new feeding.only only;
    durable = durable;
    input = takes_nothing_then start now new feeding.input nothing;
  }

  -- a line of the piece was not answered wholly
  pub feeds_stop : (T U : Type 0) (n : ℕ) → IsLfAt n rest → (stop : Stop) (after : Held) (line : List ℕ) (new : World)
      → Feeds {T = T} now_held now_kept (take n rest ++ 10 ∷ []) (Err stop) after line now new → Feeds {T = U} held kept piece (Err stop) after line start new
  feeds_stop T U n at stop after line new then = λ m input answers is.
      subst (λ (x : List ℕ). BytesEnd {T = U} m after line x answers (Err stop) start new)
      (append_assoc input (feeding.done ++ (take n rest ++ 10 ∷ [])) (drop (n + 1) rest) ∙ ap (λ x. input ++ x) (sym (split_line n at)))
      (bytes_longer T U m after after line line (input ++ (feeding.done ++ (take n rest ++ 10 ∷ []))) (drop (n + 1) rest) answers stop start new
      (feeds_more {U = T} (take n rest ++ 10 ∷ []) (Err stop) after line new then m input answers is))

  -- the rest has no LF, and is kept
  pub feeds_kept : HasNoLf rest → Feeds {T = Unit {0}} held kept piece (Ok (tt {0})) now_held (now_kept ++ take (FRONT + 1 - length now_kept) rest) start now
  feeds_kept none = subst (λ (x : List ℕ). Feeds {T = Unit {0}} held kept x (Ok (tt {0})) now_held (now_kept ++ take (FRONT + 1 - length now_kept) rest) start now) (sym feeding.split)
      (feeds_more rest (Ok (tt {0})) now_held (now_kept ++ take (FRONT + 1 - length now_kept) rest) now
      (λ m input answers at. bytes_kept m now_held now_kept input rest answers (tt {0}) now none at))

  -- the rest has no LF, and could not be kept
  pub feeds_not_kept : (line : List ℕ) → Feeds {T = Unit {0}} held kept piece (Err NoMemory) now_held line start now
  feeds_not_kept line = subst (λ (x : List ℕ). Feeds {T = Unit {0}} held kept x (Err NoMemory) now_held line start now) (sym feeding.split)
      (feeds_more {U = Unit {0}} rest (Err NoMemory) now_held line now
      (λ m input answers at. bytes_not_kept (Unit {0}) m now_held now_held now_kept line input rest answers now at))

-- what follows a place, as it is cut out of a slice
pub rest_of : (n : ℕ) (bytes : List ℕ) → take (length bytes - n) (drop n bytes) ≡ drop n bytes
rest_of n bytes = take_all (length bytes - n) (drop n bytes) (rw length-drop (omega arith))
