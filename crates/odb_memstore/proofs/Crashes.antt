-- What a crash by digits leaves is one of the images.
use Rattle.std.proofs.Common.{◌≡◌, ◌≢◌, inl, inr, ℕ, zero, suc, ◌+◌, ◌-◌, ◌/◌, ◌%◌, ◌<◌, ◌≤◌, Bool, true, false, List, [], ◌∷◌, length, take, replicate, refl, sym, ◌∙◌, ap, subst, arith, length-append}
use Rattle.std.specs.Prelude.{if◌then◌else◌, ◌==◌, ◌&&◌, ◌||◌, not}
use Rattle.std.proofs.lemmas.Bool.{eqb-true, eq-eqb, ne_eqb, cases_eq, cases_Bool}
use Rattle.std.proofs.lemmas.List.{length-replicate, get_or_append_left}
use Rattle.odb_device.specs.World.{File}
use Rattle.odb_device.specs.Images.{IsImage, Torn, part, overwritten, written, torn, kept}
use Rattle.odb_device.proofs.Bytes.{length-part}
use Rattle.odb_device.proofs.Torn.{torn_overwritten, image_kept_bytes}
use Rattle.odb_memstore.specs.declared.recorder.Call.{Call}
use Rattle.odb_memstore.specs.declared.recorder.Call.TheVariants.{Look, Write, Sync, Take, Say}
use Rattle.odb_memstore.specs.declared.recorder.Recorded.{Recorded}
use Rattle.odb_memstore.specs.Numbered.{bytes_of, with_bytes, extended}
use Rattle.odb_memstore.proofs.Named.{bytes_of-same, bytes_of-other}
use Rattle.odb_memstore.specs.Replay.{settled, after_call, after_calls}
use Rattle.odb_memstore.specs.Tape.{Tape, file_at}
use Rattle.odb_memstore.proofs.Replays.{pieces_take}
use Rattle.odb_memstore.specs.Standing.{HasPiece, HavePieces, IsWhole}
use Rattle.odb_memstore.specs.Crash.{digits, crash_image, first_digit, is_sync, is_synced, held_by, left_by_call, digits_after, left_by}

-- bytes with zeros behind them
torn_extended : (at n : ℕ) (bytes : List ℕ) → Torn at n bytes (extended (at + n) bytes)
torn_extended at n bytes =
    let more = at + n - length bytes in
    let long = length-append bytes (replicate more 0) in
    let zeros = length-replicate {A = ℕ} more 0 in
    record {
      no_shorter = omega (arith, long);
      no_longer = omega (arith, long, zeros);
      outside = λ i within out. get_or_append_left bytes (replicate more 0) 0 i within;
    }

-- an unsettled range changes nothing outside
torn_held : (digit at : ℕ) (piece bytes : List ℕ) → Torn at (length piece) bytes (held_by digit at piece bytes)
torn_held digit at piece bytes = elim (digit == 0) as (λ b. Torn at (length piece) bytes (if b then extended (at + length piece) bytes else if digit == 1 then overwritten at piece bytes else overwritten at (replicate (length piece) 0xA5) bytes)) [
  | true ↦ torn_extended at (length piece) bytes
  | false ↦ elim (digit == 1) as (λ b. Torn at (length piece) bytes (if b then overwritten at piece bytes else overwritten at (replicate (length piece) 0xA5) bytes)) [
    | true ↦ torn_overwritten at piece bytes
    | false ↦ subst (λ (n : ℕ). Torn at n bytes (overwritten at (replicate (length piece) 0xA5) bytes)) (length-replicate (length piece) 0xA5) (torn_overwritten at (replicate (length piece) 0xA5) bytes)
  ]
]

-- an image whose range was torn is one after the write
image_torn : (file : File) (at n : ℕ) (now before image : List ℕ) → IsImage file before → Torn at n before image → IsImage (torn at n now file) image
image_torn file at n now before image is change = record {
  no_shorter = omega (arith, is.no_shorter, change.no_shorter);
  no_longer = omega (arith, is.no_longer, change.no_longer);
  outside = λ i within out. change.outside i (omega (arith, is.no_shorter)) out.0 ∙ is.outside i within out.1;
}

-- so far: the bytes that a read gives, where a sync is still to come, and otherwise an image
abbrev Follows : Bool → File → List ℕ → Type 0
Follows true f image = image ≡ f.bytes
Follows false f image = IsImage f image

module _ (pieces : List ℕ) (file : ℕ) where
  sync_step : (b s : Bool) (f : File) (image : List ℕ) → Follows (b || s) f image → Follows s (if b then kept f else f) image
  sync_step false s f image so_far = so_far
  sync_step true true f image so_far = so_far
  sync_step true false f image so_far = subst (IsImage (kept f)) (sym so_far) (image_kept_bytes f)

  write_step : (s failed : Bool) (at from len digit : ℕ) (f : File) (image : List ℕ) → from + len ≤ length pieces → Follows s f image
      → Follows s (if failed then torn at len f.bytes f else written at (part from len pieces) f)
      (if s then (if failed then image else overwritten at (part from len pieces) image) else held_by digit at (part from len pieces) image)
  write_step true true at from len digit f image within so_far = so_far
  write_step true false at from len digit f image within so_far = ap (overwritten at (part from len pieces)) so_far
  write_step false true at from len digit f image within so_far =
      subst (λ (n : ℕ). IsImage (torn at n f.bytes f) (held_by digit at (part from len pieces) image)) (length-part from len pieces within)
      (image_torn f at (length (part from len pieces)) f.bytes image (held_by digit at (part from len pieces) image) so_far (torn_held digit at (part from len pieces) image))
  write_step false false at from len digit f image within so_far =
      image_torn f at (length (part from len pieces)) (overwritten at (part from len pieces) f.bytes) image (held_by digit at (part from len pieces) image) so_far (torn_held digit at (part from len pieces) image)

  call_step : (c : Call) (failed : Bool) (later : List Recorded) (ds : List ℕ) (f : File) (image : List ℕ) → HasPiece (length pieces) c
      → Follows (is_sync file c && not failed || is_synced file later) f image
      → Follows (is_synced file later) (after_call pieces file c failed f) (left_by_call pieces file c failed later ds image)
  call_step (Look of) failed later ds f image has so_far = so_far
  call_step (Write of at from len) failed later ds f image has so_far =
      let s = is_synced file later in
      let done : File = if failed then torn at len f.bytes f else written at (part from len pieces) f in
      let left : Bool → List ℕ = λ settled. if settled then (if failed then image else overwritten at (part from len pieces) image) else held_by (first_digit ds) at (part from len pieces) image in
      elim (cases_Bool (of == file)) [
        | inl on ↦ subst (λ (b : Bool). Follows s (if b then done else f) (if b then left (is_synced of later) else image)) (sym on)
            (subst (λ (b : Bool). Follows s done (left b)) (ap (λ (k : ℕ). is_synced k later) (sym (eqb-true of file on))) (write_step s failed at from len (first_digit ds) f image has.0 so_far))
        | inr off ↦ subst (λ (b : Bool). Follows s (if b then done else f) (if b then left (is_synced of later) else image)) (sym off) so_far
      ]
  call_step (Sync of) failed later ds f image has so_far = sync_step (of == file && not failed) (is_synced file later) f image so_far
  call_step Take failed later ds f image has so_far = so_far
  call_step (Say len) failed later ds f image has so_far = so_far

  pub left_image : (calls : List Recorded) (ds : List ℕ) (f : File) (image : List ℕ) → HavePieces (length pieces) calls → Follows (is_synced file calls) f image → IsImage (after_calls pieces file calls f) (left_by pieces file calls ds image)
  left_image [] ds f image has so_far = so_far
  left_image (c ∷ later) ds f image has so_far =
      left_image later (digits_after c.call later ds) (after_call pieces file c.call c.failed f) (left_by_call pieces file c.call c.failed later ds image) has.1 (call_step c.call c.failed later ds f image has.0 so_far)

-- a file after a crash is one of its images
pub crash_one : (tape : Tape) (calls pick file : ℕ) → IsWhole tape → IsImage (file_at tape calls file) (crash_image tape calls pick file)
crash_one tape calls pick file whole =
    let recorded = take calls tape.recording.calls in
    let start = bytes_of tape.start file in
    left_image tape.pieces file recorded (digits 40 pick) (settled start) start (pieces_take (length tape.pieces) calls tape.recording.calls whole.pieces) (begins (is_synced file recorded))
  where
    begins : (s : Bool) → Follows s (settled (bytes_of tape.start file)) (bytes_of tape.start file)
    begins true = refl
    begins false = image_kept_bytes (settled (bytes_of tape.start file))

pub digits_more : (n pick : ℕ) → 0 < n → digits n pick ≡ (pick % 3) ∷ digits (n - 1) (pick / 3)
unfolding digits
digits_more zero pick some = absurd (omega arith)
digits_more (suc n) pick some = ap (λ (k : ℕ). (pick % 3) ∷ digits k (pick / 3)) (let e : n ≡ suc n - 1 = omega arith in e)

pub digits_none : (n pick : ℕ) → n ≡ 0 → digits n pick ≡ []
unfolding digits
digits_none zero pick none = refl
digits_none (suc n) pick none = absurd (omega arith)

-- what a write leaves of each file, by what it leaves of its own
module _ (pieces : List ℕ) (file at from len : ℕ) (failed : Bool) (later : List Recorded) (ds : List ℕ) (files next : List (ℕ × List ℕ)) where
  abbrev piece : List ℕ
  piece = part from len pieces

  abbrev by_call : Bool → Bool → Bool → List ℕ → List ℕ
  by_call here settled fail bytes = if here then (if settled then (if fail then bytes else overwritten at piece bytes) else held_by (first_digit ds) at piece bytes) else bytes

  left_other : (bytes : List ℕ) (g : ℕ) → g ≢ file → next ≡ with_bytes files file bytes → bytes_of next g ≡ by_call (file == g) (is_synced file later) failed (bytes_of files g)
  left_other bytes g other is =
      ap (λ (l : List (ℕ × List ℕ)). bytes_of l g) is ∙ bytes_of-other file bytes files g other
      ∙ sym (ap (λ (b : Bool). by_call b (is_synced file later) failed (bytes_of files g)) (ne_eqb file g (λ e. other (sym e))))

  pub left_unsettled : is_synced file later ≡ false → next ≡ with_bytes files file (held_by (first_digit ds) at piece (bytes_of files file))
      → (g : ℕ) → bytes_of next g ≡ left_by_call pieces g (Write file at from len) failed later ds (bytes_of files g)
  left_unsettled open_ is g = elim (cases_eq g file) [
    | inl here ↦ subst (λ (k : ℕ). bytes_of next k ≡ by_call (file == k) (is_synced file later) failed (bytes_of files k)) (sym here)
        (ap (λ (l : List (ℕ × List ℕ)). bytes_of l file) is ∙ bytes_of-same file (held_by (first_digit ds) at piece (bytes_of files file)) files
        ∙ sym (ap (λ (b : Bool). by_call b (is_synced file later) failed (bytes_of files file)) (eq-eqb file file refl) ∙ ap (λ (b : Bool). by_call true b failed (bytes_of files file)) open_))
    | inr other ↦ left_other (held_by (first_digit ds) at piece (bytes_of files file)) g other is
  ]

  pub left_settled : is_synced file later ≡ true → failed ≡ false → next ≡ with_bytes files file (overwritten at piece (bytes_of files file))
      → (g : ℕ) → bytes_of next g ≡ left_by_call pieces g (Write file at from len) failed later ds (bytes_of files g)
  left_settled settled done is g = elim (cases_eq g file) [
    | inl here ↦ subst (λ (k : ℕ). bytes_of next k ≡ by_call (file == k) (is_synced file later) failed (bytes_of files k)) (sym here)
        (ap (λ (l : List (ℕ × List ℕ)). bytes_of l file) is ∙ bytes_of-same file (overwritten at piece (bytes_of files file)) files
        ∙ sym (ap (λ (b : Bool). by_call b (is_synced file later) failed (bytes_of files file)) (eq-eqb file file refl) ∙ ap (λ (b : Bool). by_call true b failed (bytes_of files file)) settled
        ∙ ap (λ (b : Bool). by_call true true b (bytes_of files file)) done))
    | inr other ↦ left_other (overwritten at piece (bytes_of files file)) g other is
  ]
