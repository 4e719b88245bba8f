-- What a window keeps, as it changes.
use Rattle.std.proofs.Common.{◌≡◌, ℕ, ◌+◌, ◌≤◌, List, [], ◌∷◌, ◌++◌, length, length-append, arith}
use Rattle.odb_model.specs.declared.entry.Entry.{Entry}
use Rattle.odb_model.specs.State.{IsNumberedFrom}
use Rattle.odb_model.specs.Window.{write_count, window_writes}
use Rattle.odb_validate.specs.Window.{IsKept}
use Rattle.odb_validate.proofs.Suffixes.{write_count-append}

numbered-push : (k : ℕ) (h : List Entry) (e : Entry) → IsNumberedFrom k h → e.number ≡ k + length h → IsNumberedFrom k (h ++ e ∷ [])
numbered-push k [] e numbered next = (omega (arith, next), tt)
numbered-push k (a ∷ h) e numbered next = (numbered.0, numbered-push (k + 1) h e numbered.1 (omega (arith, next)))

-- an entry more
pub IsKept-push : (start last : ℕ) (h : List Entry) (writes : ℕ) (e : Entry) → IsKept start last h writes → e.number ≡ start + length h + 1 → write_count h + length e.writes ≤ window_writes → IsKept start e.number (h ++ e ∷ []) (writes + length e.writes)
IsKept-push start last h writes e kept next room = record {
  numbered = numbered-push (start + 1) h e kept.numbered (omega (arith, next));
  ends = omega (arith, next, length-append h (e ∷ []));
  counted = omega (arith, kept.counted, write_count-append h (e ∷ []));
  few = omega (arith, kept.counted, room);
}
