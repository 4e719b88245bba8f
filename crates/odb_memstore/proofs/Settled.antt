-- What a host in memory shows of a file that was set.
use Rattle.std.proofs.Common.{◌≡◌, ◌≢◌, inl, inr, ℕ, ◌+◌, ◌-◌, ◌≤◌, Bool, true, false, List, [], ◌∷◌, length, map, refl, sym, ◌∙◌, ap, subst, arith}
use Rattle.std.specs.Prelude.{if◌then◌else◌}
use Rattle.std.proofs.lemmas.Bool.{false≢true, cases_Bool, cases_eq, ne_eqb, eqb-true}
use Rattle.std.proofs.lemmas.List.{length-map}
use Rattle.std.proofs.lemmas.List.Sums.{sum_by-cons}
use Rattle.odb_device.specs.World.{File}
use Rattle.odb_memstore.specs.declared.recorder.Call.{Call}
use Rattle.odb_memstore.specs.declared.recorder.Call.TheVariants.{Look, Write, Sync, Take, Say}
use Rattle.odb_memstore.specs.declared.recorder.Recorded.{Recorded}
use Rattle.odb_memstore.specs.Shelf.{Shelf}
use Rattle.odb_memstore.specs.Numbered.{bytes_of, with_bytes}
use Rattle.odb_memstore.specs.Recording.{is_on, forgotten}
use Rattle.odb_memstore.specs.Replay.{settled, after_call, after_calls, said_in, said_by}
use Rattle.odb_memstore.specs.Tape.{Tape, file_now}
use Rattle.odb_memstore.specs.Setting.{with_file}
use Rattle.odb_memstore.specs.Standing.{HasPiece, HavePieces, Stands}
use Rattle.odb_memstore.proofs.Named.{bytes_of-same, bytes_of-other}
use Rattle.odb_memstore.proofs.Replays.{other_stays}
use Rattle.odb_memstore.proofs.Stepped.{all_calls}

-- a call on one file is on no other
on_one : (file g : ℕ) (c : Call) → g ≢ file → is_on file c ≡ true → is_on g c ≡ false
on_one file g (Look of) other on = ne_eqb of g (λ e. other (sym e ∙ eqb-true of file on))
on_one file g (Write of at from len) other on = ne_eqb of g (λ e. other (sym e ∙ eqb-true of file on))
on_one file g (Sync of) other on = ne_eqb of g (λ e. other (sym e ∙ eqb-true of file on))
on_one file g Take other on = absurd (false≢true on)
on_one file g (Say len) other on = absurd (false≢true on)

on_silent : (file : ℕ) (c : Call) (failed : Bool) → is_on file c ≡ true → said_in c failed ≡ 0
on_silent file (Look of) failed on = refl
on_silent file (Write of at from len) failed on = refl
on_silent file (Sync of) failed on = refl
on_silent file Take failed on = absurd (false≢true on)
on_silent file (Say len) failed on = absurd (false≢true on)

module _ (file : ℕ) where
  -- a call, or a look in its place
  abbrev seen : Recorded → Bool → Recorded
  seen c on = if on then record c { call = Look file } else c

  call_same : (pieces : List ℕ) (c : Recorded) (f : File) → after_call pieces file (forgotten file c).call (forgotten file c).failed f ≡ f
  call_same pieces c f = elim (cases_Bool (is_on file c.call)) [
    | inl on ↦ ap (λ (b : Bool). after_call pieces file (seen c b).call (seen c b).failed f) on
    | inr off ↦ ap (λ (b : Bool). after_call pieces file (seen c b).call (seen c b).failed f) off ∙ other_stays pieces file c.call c.failed f off
  ]

  call_other : (pieces : List ℕ) (g : ℕ) (c : Recorded) (f : File) → g ≢ file → after_call pieces g (forgotten file c).call (forgotten file c).failed f ≡ after_call pieces g c.call c.failed f
  call_other pieces g c f other = elim (cases_Bool (is_on file c.call)) [
    | inl on ↦ ap (λ (b : Bool). after_call pieces g (seen c b).call (seen c b).failed f) on ∙ sym (other_stays pieces g c.call c.failed f (on_one file g c.call other on))
    | inr off ↦ ap (λ (b : Bool). after_call pieces g (seen c b).call (seen c b).failed f) off
  ]

  call_said : (c : Recorded) → said_in (forgotten file c).call (forgotten file c).failed ≡ said_in c.call c.failed
  call_said c = elim (cases_Bool (is_on file c.call)) [
    | inl on ↦ ap (λ (b : Bool). said_in (seen c b).call (seen c b).failed) on ∙ sym (on_silent file c.call c.failed on)
    | inr off ↦ ap (λ (b : Bool). said_in (seen c b).call (seen c b).failed) off
  ]

  call_piece : (n : ℕ) (c : Recorded) → HasPiece n c.call → HasPiece n (forgotten file c).call
  call_piece n c has = elim (is_on file c.call) as (λ b. HasPiece n (seen c b).call) [
    | true ↦ tt
    | false ↦ has
  ]

  calls_same : (pieces : List ℕ) (calls : List Recorded) (f : File) → after_calls pieces file (map (forgotten file) calls) f ≡ f
  calls_same pieces [] f = refl
  calls_same pieces (c ∷ calls) f = ap (after_calls pieces file (map (forgotten file) calls)) (call_same pieces c f) ∙ calls_same pieces calls f

  calls_other : (pieces : List ℕ) (g : ℕ) (calls : List Recorded) (f : File) → g ≢ file → after_calls pieces g (map (forgotten file) calls) f ≡ after_calls pieces g calls f
  calls_other pieces g [] f other = refl
  calls_other pieces g (c ∷ calls) f other =
      ap (after_calls pieces g (map (forgotten file) calls)) (call_other pieces g c f other) ∙ calls_other pieces g calls (after_call pieces g c.call c.failed f) other

  calls_said : (calls : List Recorded) → said_by (map (forgotten file) calls) ≡ said_by calls
  calls_said [] = refl
  calls_said (c ∷ calls) =
      let says : Recorded → ℕ = λ d. said_in d.call d.failed in
      sum_by-cons says (forgotten file c) (map (forgotten file) calls) ∙ ap (λ n. n + said_by (map (forgotten file) calls)) (call_said c)
      ∙ ap (λ n. says c + n) (calls_said calls) ∙ sym (sum_by-cons says c calls)

  calls_pieces : (n : ℕ) (calls : List Recorded) → HavePieces n calls → HavePieces n (map (forgotten file) calls)
  calls_pieces n [] has = tt
  calls_pieces n (c ∷ calls) has = (call_piece n c has.0, calls_pieces n calls has.1)

module _ (tape : Tape) (file : ℕ) (bytes : List ℕ) where
  pub set_now : file_now (with_file file bytes tape) file ≡ settled bytes
  set_now =
      ap (λ (l : List Recorded). after_calls tape.pieces file l (settled (bytes_of (with_bytes tape.start file bytes) file))) (all_calls (with_file file bytes tape))
      ∙ calls_same file tape.pieces tape.recording.calls (settled (bytes_of (with_bytes tape.start file bytes) file))
      ∙ ap settled (bytes_of-same file bytes tape.start)

  pub set_other : (g : ℕ) → g ≢ file → file_now (with_file file bytes tape) g ≡ file_now tape g
  set_other g other =
      ap (λ (l : List Recorded). after_calls tape.pieces g l (settled (bytes_of (with_bytes tape.start file bytes) g))) (all_calls (with_file file bytes tape))
      ∙ calls_other file tape.pieces g tape.recording.calls (settled (bytes_of (with_bytes tape.start file bytes) g)) other
      ∙ ap (λ (l : List ℕ). after_calls tape.pieces g tape.recording.calls (settled l)) (bytes_of-other file bytes tape.start g other)
      ∙ sym (ap (λ (l : List Recorded). after_calls tape.pieces g l (settled (bytes_of tape.start g))) (all_calls tape))

  pub stands_set : (current files : Shelf) (pieces_room said_room : ℕ) → Stands current pieces_room said_room tape → files.files ≡ with_bytes current.files file bytes
      → length files.files + (tape.recording.places - length tape.recording.calls) ≤ files.places → current.room ≤ files.room → Stands files pieces_room said_room (with_file file bytes tape)
  stands_set current files pieces_room said_room stands is places room = record {
    whole = record {
      pieces = calls_pieces file (length tape.pieces) tape.recording.calls stands.whole.pieces;
      said = calls_said file tape.recording.calls ∙ stands.whole.said;
      taken = stands.whole.taken;
      refused = λ some. omega (arith, stands.whole.refused some, length-map tape.recording.calls (forgotten file));
    };
    bytes = λ g. elim (cases_eq g file) [
      | inl here ↦ subst (λ (k : ℕ). bytes_of files.files k ≡ (file_now (with_file file bytes tape) k).bytes) (sym here)
          (ap (λ (l : List (ℕ × List ℕ)). bytes_of l file) is ∙ bytes_of-same file bytes current.files ∙ sym (ap (λ (f : File). f.bytes) set_now))
      | inr other ↦ ap (λ (l : List (ℕ × List ℕ)). bytes_of l g) is ∙ bytes_of-other file bytes current.files g other ∙ stands.bytes g ∙ sym (ap (λ (f : File). f.bytes) (set_other g other))
    ];
    places = omega (arith, places, length-map tape.recording.calls (forgotten file));
    room = omega (arith, stands.room);
    pieces_room = stands.pieces_room;
    said_room = stands.said_room;
  }
