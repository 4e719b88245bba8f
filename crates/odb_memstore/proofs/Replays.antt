-- One call more on the record.
use Rattle.std.proofs.Common.{◌≡◌, ℕ, zero, suc, ◌+◌, ◌≤◌, Bool, false, List, [], ◌∷◌, ◌++◌, length, take, drop, refl, ◌∙◌, ap, arith, zero-add, length-drop}
use Rattle.std.specs.Prelude.{if◌then◌else◌, ◌==◌, ◌&&◌, not}
use Rattle.std.proofs.lemmas.List.Sums.{sum_by-append, sum_by-take-drop}
use Rattle.std.proofs.lemmas.List.{take-append-le, drop-append-le}
use Rattle.odb_device.specs.World.{File}
use Rattle.odb_device.specs.Images.{part, written, torn, kept}
use Rattle.odb_memstore.specs.declared.recorder.Call.{Call}
use Rattle.odb_memstore.specs.declared.recorder.Call.TheVariants.{Look, Write, Sync, Take, Say}
use Rattle.odb_memstore.specs.declared.recorder.Recorded.{Recorded}
use Rattle.odb_memstore.specs.Recording.{is_on}
use Rattle.odb_memstore.specs.Replay.{after_call, after_calls, said_in, said_by}
use Rattle.odb_memstore.specs.Tape.{failures}
use Rattle.odb_memstore.specs.Standing.{HasPiece, HavePieces}

pub after_append : (pieces : List ℕ) (file : ℕ) (calls : List Recorded) (c : Recorded) (f : File) → after_calls pieces file (calls ++ c ∷ []) f ≡ after_call pieces file c.call c.failed (after_calls pieces file calls f)
after_append pieces file [] c f = refl
after_append pieces file (d ∷ calls) c f = after_append pieces file calls c (after_call pieces file d.call d.failed f)

-- a piece stays where it is
piece_more : (pieces more : List ℕ) (from len : ℕ) → from + len ≤ length pieces → part from len (pieces ++ more) ≡ part from len pieces
piece_more pieces more from len within =
    ap (λ (l : List ℕ). take len l) (drop-append-le from pieces more (omega arith)) ∙ take-append-le len (drop from pieces) more (omega (arith, length-drop from pieces))

after_call_more : (pieces more : List ℕ) (file : ℕ) (c : Call) (failed : Bool) (f : File) → HasPiece (length pieces) c → after_call (pieces ++ more) file c failed f ≡ after_call pieces file c failed f
after_call_more pieces more file (Look of) failed f has = refl
after_call_more pieces more file (Write of at from len) failed f has =
    ap (λ (l : List ℕ). if of == file then (if failed then torn at len f.bytes f else written at l f) else f) (piece_more pieces more from len has.0)
after_call_more pieces more file (Sync of) failed f has = refl
after_call_more pieces more file Take failed f has = refl
after_call_more pieces more file (Say len) failed f has = refl

pub after_more : (pieces more : List ℕ) (file : ℕ) (calls : List Recorded) (f : File) → HavePieces (length pieces) calls → after_calls (pieces ++ more) file calls f ≡ after_calls pieces file calls f
after_more pieces more file [] f has = refl
after_more pieces more file (c ∷ calls) f has =
    ap (after_calls (pieces ++ more) file calls) (after_call_more pieces more file c.call c.failed f has.0) ∙ after_more pieces more file calls (after_call pieces file c.call c.failed f) has.1

pub pieces_take : (n k : ℕ) (calls : List Recorded) → HavePieces n calls → HavePieces n (take k calls)
pieces_take n zero calls has = tt
pieces_take n (suc k) [] has = tt
pieces_take n (suc k) (c ∷ calls) has = (has.0, pieces_take n k calls has.1)

piece_grows : (m n : ℕ) (c : Call) → m ≤ n → HasPiece m c → HasPiece n c
piece_grows m n (Look of) le has = tt
piece_grows m n (Write of at from len) le has = (omega (arith, has.0), has.1)
piece_grows m n (Sync of) le has = tt
piece_grows m n Take le has = tt
piece_grows m n (Say len) le has = tt

pub pieces_append : (m n : ℕ) (calls : List Recorded) (c : Recorded) → m ≤ n → HavePieces m calls → HasPiece n c.call → HavePieces n (calls ++ c ∷ [])
pieces_append m n [] c le has piece = (piece, tt)
pieces_append m n (d ∷ calls) c le has piece = (piece_grows m n d.call le has.0, pieces_append m n calls c le has.1 piece)

-- a call leaves a file that it isn't on
pub other_stays : (pieces : List ℕ) (file : ℕ) (c : Call) (failed : Bool) (f : File) → is_on file c ≡ false → after_call pieces file c failed f ≡ f
other_stays pieces file (Look of) failed f other = refl
other_stays pieces file (Write of at from len) failed f other = ap (λ (b : Bool). if b then (if failed then torn at len f.bytes f else written at (part from len pieces) f) else f) other
other_stays pieces file (Sync of) failed f other = ap (λ (b : Bool). if b && not failed then kept f else f) other
other_stays pieces file Take failed f other = refl
other_stays pieces file (Say len) failed f other = refl

pub said_by-append : (calls : List Recorded) (c : Recorded) → said_by (calls ++ c ∷ []) ≡ said_by calls + said_in c.call c.failed
said_by-append calls c = sum_by-append (λ (d : Recorded). said_in d.call d.failed) calls (c ∷ []) ∙ ap (λ n. said_by calls + n) (zero-add (said_in c.call c.failed))

-- how much one call adds to a count of failures
abbrev pub failure : (Call → Bool) → Recorded → ℕ
failure is c = if is c.call && c.failed then 1 else 0

pub failures-append : (is : Call → Bool) (calls : List Recorded) (c : Recorded) → failures is (calls ++ c ∷ []) ≡ failures is calls + failure is c
failures-append is calls c = sum_by-append (failure is) calls (c ∷ []) ∙ ap (λ n. failures is calls + n) (zero-add (failure is c))

-- no more was said by an earlier moment
pub said_by-take : (k : ℕ) (calls : List Recorded) → said_by (take k calls) ≤ said_by calls
said_by-take k calls = omega (arith, sum_by-take-drop (λ (d : Recorded). said_in d.call d.failed) calls k)
