-- What a host in memory holds goes on with its record.
use Rattle.std.proofs.Common.{◌≡◌, ◌≢◌, inl, inr, ℕ, ◌+◌, ◌-◌, ◌^◌, ◌<◌, ◌≤◌, max, Bool, true, false, List, [], ◌++◌, length, refl, sym, ◌∙◌, ap, subst, arith, length-append}
use Rattle.std.specs.Prelude.{if◌then◌else◌, ◌==◌, ◌&&◌, not}
use Rattle.std.proofs.lemmas.Bool.{ne_eqb, eq-eqb, leb-true, leb-false, cases_Bool, cases_eq}
use Rattle.std.proofs.lemmas.List.{append-nil}
use Rattle.odb_device.specs.World.{File}
use Rattle.odb_device.specs.Images.{part, kept, torn, written, overwritten}
use Rattle.odb_memstore.specs.declared.recorder.Call.{Call}
use Rattle.odb_memstore.specs.declared.recorder.Call.TheVariants.{Look, Write, Sync, Take, Say}
use Rattle.odb_memstore.specs.Shelf.{Shelf}
use Rattle.odb_memstore.specs.Numbered.{bytes_of, with_bytes, lengths_of}
use Rattle.odb_memstore.specs.Recording.{Recording, is_full, is_listed, asked, noted, noted_as, counted, refused}
use Rattle.odb_memstore.specs.Replay.{after_call, said_in}
use Rattle.odb_memstore.specs.Tape.{Tape, file_now}
use Rattle.odb_memstore.specs.Calls.{after_ask, after_past_write, after_refusal, total_with}
use Rattle.odb_memstore.specs.Standing.{HasPiece, IsBare, IsWhole, Stands}
use Rattle.odb_memstore.proofs.Named.{all-change, bytes_of-same, bytes_of-other, length-with}
use Rattle.odb_memstore.proofs.Replays.{other_stays}
use Rattle.odb_memstore.proofs.StoreCalls.{last_piece}
use Rattle.odb_memstore.proofs.Stepped.{Steps, time, file_is, none_refused, file_after, whole_after}

bare_kept : (b : Bool) (f : File) → (if b then kept f else f).bytes ≡ f.bytes
bare_kept true f = refl
bare_kept false f = refl

-- a call that needs no room leaves the bytes
bare_bytes : (pieces : List ℕ) (file : ℕ) (call : Call) (failed : Bool) (f : File) → IsBare call → (after_call pieces file call failed f).bytes ≡ f.bytes
bare_bytes pieces file (Look of) failed f bare = refl
bare_bytes pieces file (Write of at from len) failed f bare = absurd bare
bare_bytes pieces file (Sync of) failed f bare = bare_kept (of == file && not failed) f
bare_bytes pieces file Take failed f bare = refl
bare_bytes pieces file (Say len) failed f bare = absurd bare

bare_piece : (n : ℕ) (call : Call) → IsBare call → HasPiece n call
bare_piece n (Look of) bare = tt
bare_piece n (Write of at from len) bare = absurd bare
bare_piece n (Sync of) bare = tt
bare_piece n Take bare = tt
bare_piece n (Say len) bare = absurd bare

bare_silent : (call : Call) (failed : Bool) → IsBare call → said_in call failed ≡ 0
bare_silent (Look of) failed bare = refl
bare_silent (Write of at from len) failed bare = absurd bare
bare_silent (Sync of) failed bare = refl
bare_silent Take failed bare = refl
bare_silent (Say len) failed bare = absurd bare

-- the lengths of all files, were one of them longer
pub total_with_is : (tape : Tape) (files : List (ℕ × List ℕ)) (file end : ℕ) → file < 2 ^ 32 → ((g : ℕ) → bytes_of files g ≡ (file_now tape g).bytes)
    → total_with tape file end ≡ lengths_of files + (end - length (bytes_of files file))
total_with_is tape files file end low bytes =
    let now : ℕ → ℕ = λ g. length (bytes_of files g) in
    let longer : ℕ → ℕ = λ g. if g == file then max (length (file_now tape g).bytes) end else length (file_now tape g).bytes in
    let other : (g : ℕ) → g ≢ file → longer g ≡ now g = λ g differs.
    ap (λ (b : Bool). if b then max (length (file_now tape g).bytes) end else length (file_now tape g).bytes) (ne_eqb g file differs) ∙ sym (ap length (bytes g)) in
    let here : longer file ≡ max (now file) end =
    ap (λ (b : Bool). if b then max (length (file_now tape file).bytes) end else length (file_now tape file).bytes) (eq-eqb file file refl) ∙ ap (λ (l : List ℕ). max (length l) end) (sym (bytes file)) in
    omega (arith, all-change file now longer low other, here)

module _ (current : Shelf) (pieces_room said_room : ℕ) (tape : Tape) (stands : Stands current pieces_room said_room tape) (call : Call) where
  -- one that isn't recorded; if it is one of the store, no place is left
  pub stands_refused : (0 < (counted call tape.recording.refused).store → tape.recording.places ≤ length tape.recording.calls) → Stands current pieces_room said_room (after_refusal call tape)
  stands_refused full = record {
    whole = record { pieces = stands.whole.pieces; said = stands.whole.said; taken = stands.whole.taken; refused = full };
    bytes = λ file. stands.bytes file ∙ ap (λ (f : File). f.bytes) (file_is tape file ∙ sym (file_is (after_refusal call tape) file));
    places = stands.places;
    room = stands.room;
    pieces_room = stands.pieces_room;
    said_room = stands.said_room;
  }

  -- after a call that is recorded
  pub stands_step : (next : Tape) (failed : Bool) (piece words : List ℕ) (files : Shelf) (room_of_pieces room_of_said : ℕ) → Steps tape next call failed piece words → IsWhole next
      → next.room ≡ tape.room → next.recording.places ≡ tape.recording.places → length tape.recording.calls < tape.recording.places
      → ((file : ℕ) → bytes_of files.files file ≡ (after_call next.pieces file call failed (file_now tape file)).bytes)
      → length files.files ≤ length current.files + 1 → current.places ≤ files.places → current.room ≤ files.room → pieces_room ≤ room_of_pieces → said_room ≤ room_of_said
      → Stands files room_of_pieces room_of_said next
  stands_step next failed piece words files room_of_pieces room_of_said steps whole room places left bytes few more wider pieces_wider said_wider = record {
    whole = whole;
    bytes = λ file. bytes file ∙ sym (ap (λ (f : File). f.bytes) (file_after tape next call failed piece words steps stands.whole file));
    places = omega (arith, stands.places, time tape next call failed piece words steps stands.whole);
    room = omega (arith, stands.room);
    pieces_room = omega (arith, stands.pieces_room);
    said_room = omega (arith, stands.said_room);
  }

pub asked_noted : (call : Call) (r : Recording) → is_full r ≡ false → asked call r ≡ noted call r
asked_noted call r left = ap (λ (b : Bool). if b then refused call r else noted call r) left

places_left : (r : Recording) → is_full r ≡ false → length r.calls < r.places
places_left r left = leb-false r.places (length r.calls) left

module _ (current : Shelf) (pieces_room said_room : ℕ) (tape : Tape) (stands : Stands current pieces_room said_room tape) where
  -- after a call that needs no room, and that is only counted where no place is left
  stands_either : (call : Call) (failed : Bool) → IsBare call → Stands current pieces_room said_room (record tape { recording = if is_full tape.recording then refused call tape.recording else noted_as failed call tape.recording })
  stands_either call failed bare =
      let Is : Bool → Type 0 = λ b. Stands current pieces_room said_room (record tape { recording = if b then refused call tape.recording else noted_as failed call tape.recording }) in
      elim (cases_Bool (is_full tape.recording)) [
        | inl full ↦ subst Is (sym full) (stands_refused current pieces_room said_room tape stands call (λ some. leb-true tape.recording.places (length tape.recording.calls) full))
        | inr left ↦ subst Is (sym left) (noted_stands left)
      ]
    where
      next : Tape
      next = record tape { recording = noted_as failed call tape.recording }

      steps : is_full tape.recording ≡ false → Steps tape next call failed [] []
      steps left = record { start = refl; calls = refl; refused = refl; none = none_refused tape stands.whole left; pieces = sym (append-nil tape.pieces); said = sym (append-nil tape.said) }

      noted_stands : is_full tape.recording ≡ false → Stands current pieces_room said_room next
      noted_stands left = stands_step current pieces_room said_room tape stands call next failed [] [] current pieces_room said_room (steps left)
          (whole_after tape next call failed [] [] (steps left) stands.whole (bare_piece (length (tape.pieces)) call bare) (bare_silent call failed bare) stands.whole.taken)
          refl refl (places_left tape.recording left) (λ file. stands.bytes file ∙ sym (bare_bytes tape.pieces file call failed (file_now tape file) bare))
          (omega arith) (omega arith) (omega arith) (omega arith) (omega arith)

  pub stands_asked : (call : Call) → IsBare call → Stands current pieces_room said_room (after_ask call tape)
  stands_asked call bare = stands_either call (is_listed tape.recording) bare

  -- after a write past its place or room
  pub stands_past : (file : ℕ) → Stands current pieces_room said_room (after_past_write file tape)
  stands_past file = stands_either (Look file) true tt

-- after a write of these bytes, for which there is room
module _ (current : Shelf) (pieces_room said_room : ℕ) (tape : Tape) (stands : Stands current pieces_room said_room tape) (file at : ℕ) (bytes : List ℕ) (fits : at + length bytes ≤ 2 ^ 40) (left : is_full tape.recording ≡ false) where
  abbrev write : Call
  write = Write file at (length tape.pieces) (length bytes)

  abbrev pub written_tape : Tape
  written_tape = record tape { recording = noted write tape.recording; pieces = tape.pieces ++ bytes }

  written_steps : Steps tape written_tape write (is_listed tape.recording) bytes []
  written_steps = record { start = refl; calls = refl; refused = refl; none = none_refused tape stands.whole left; pieces = refl; said = sym (append-nil tape.said) }

  written_whole : IsWhole written_tape
  written_whole = whole_after tape written_tape write (is_listed tape.recording) bytes [] written_steps stands.whole (omega (arith, length-append tape.pieces bytes), fits) refl stands.whole.taken

  -- a write that failed changes none
  pub stands_failed : (more : ℕ) → pieces_room ≤ more → is_listed tape.recording ≡ true → Stands current more said_room written_tape
  stands_failed more wider listed = stands_step current pieces_room said_room tape stands write written_tape (is_listed tape.recording) bytes [] current more said_room written_steps written_whole refl refl (places_left tape.recording left)
      (λ g. stands.bytes g ∙ sym (ap (λ (b : Bool). (after_call (tape.pieces ++ bytes) g write b (file_now tape g)).bytes) listed ∙ choice (file == g) (file_now tape g)))
      (omega arith) (omega arith) (omega arith) wider (omega arith)
    where
      choice : (b : Bool) (f : File) → (if b then torn at (length bytes) f.bytes f else f).bytes ≡ f.bytes
      choice true f = refl
      choice false f = refl

  pub stands_written : (files : Shelf) (more : ℕ) → pieces_room ≤ more → is_listed tape.recording ≡ false → files.files ≡ with_bytes current.files file (overwritten at bytes (bytes_of current.files file))
      → current.places ≤ files.places → current.room ≤ files.room → Stands files more said_room written_tape
  stands_written files more wider unlisted is places room = stands_step current pieces_room said_room tape stands write written_tape (is_listed tape.recording) bytes [] files more said_room written_steps written_whole refl refl (places_left tape.recording left)
      (λ g. now g ∙ sym (ap (λ (b : Bool). (after_call (tape.pieces ++ bytes) g write b (file_now tape g)).bytes) unlisted))
      (omega (arith, ap length is, length-with file (overwritten at bytes (bytes_of current.files file)) current.files)) places room wider (omega arith)
    where
      now : (g : ℕ) → bytes_of files.files g ≡ (after_call (tape.pieces ++ bytes) g write false (file_now tape g)).bytes
      now g = elim (cases_eq g file) [
        | inl here ↦ subst (λ (k : ℕ). bytes_of files.files k ≡ (after_call (tape.pieces ++ bytes) k write false (file_now tape k)).bytes) (sym here)
            (ap (λ (l : List (ℕ × List ℕ)). bytes_of l file) is ∙ bytes_of-same file (overwritten at bytes (bytes_of current.files file)) current.files ∙ ap (overwritten at bytes) (stands.bytes file)
            ∙ sym (ap (λ (b : Bool). (if b then written at (part (length tape.pieces) (length bytes) (tape.pieces ++ bytes)) (file_now tape file) else file_now tape file).bytes) (eq-eqb file file refl)
            ∙ ap (λ (l : List ℕ). overwritten at l (file_now tape file).bytes) (last_piece tape file at bytes stands.whole fits)))
        | inr there ↦ ap (λ (l : List (ℕ × List ℕ)). bytes_of l g) is ∙ bytes_of-other file (overwritten at bytes (bytes_of current.files file)) current.files g there ∙ stands.bytes g
            ∙ sym (ap (λ (f : File). f.bytes) (other_stays (tape.pieces ++ bytes) g write false (file_now tape g) (ne_eqb file g (λ e. there (sym e)))))
      ]

module _ (current : Shelf) (pieces_room said_room : ℕ) (tape : Tape) (stands : Stands current pieces_room said_room tape) (left : is_full tape.recording ≡ false) where
  -- after a `take` that was recorded, by which so much is taken
  pub stands_taken : (k : ℕ) (ended : Bool) → k ≤ length tape.input → Stands current pieces_room said_room (record tape { recording = noted Take tape.recording; taken = k; has_ended = ended })
  stands_taken k ended within =
      let next : Tape = record tape { recording = noted Take tape.recording; taken = k; has_ended = ended } in
      let steps : Steps tape next Take (is_listed tape.recording) [] [] = record { start = refl; calls = refl; refused = refl; none = none_refused tape stands.whole left; pieces = sym (append-nil tape.pieces); said = sym (append-nil tape.said) } in
      stands_step current pieces_room said_room tape stands Take next (is_listed tape.recording) [] [] current pieces_room said_room steps
      (whole_after tape next Take (is_listed tape.recording) [] [] steps stands.whole tt refl within) refl refl (places_left tape.recording left) stands.bytes (omega arith) (omega arith) (omega arith) (omega arith) (omega arith)

  -- after a `say` that was recorded, by which these words were said
  pub stands_said : (len : ℕ) (words : List ℕ) (more : ℕ) → said_room ≤ more → said_in (Say len) (is_listed tape.recording) ≡ length words
      → Stands current pieces_room more (record tape { recording = noted (Say len) tape.recording; said = tape.said ++ words })
  stands_said len words more wider adds =
      let next : Tape = record tape { recording = noted (Say len) tape.recording; said = tape.said ++ words } in
      let steps : Steps tape next (Say len) (is_listed tape.recording) [] words = record { start = refl; calls = refl; refused = refl; none = none_refused tape stands.whole left; pieces = sym (append-nil tape.pieces); said = refl } in
      stands_step current pieces_room said_room tape stands (Say len) next (is_listed tape.recording) [] words current pieces_room more steps
      (whole_after tape next (Say len) (is_listed tape.recording) [] words steps stands.whole tt adds stands.whole.taken) refl refl (places_left tape.recording left) stands.bytes (omega arith) (omega arith) (omega arith) (omega arith) wider
