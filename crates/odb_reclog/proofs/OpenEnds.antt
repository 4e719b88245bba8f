-- What closing the gate at the end of a list changes, at each moment.
use Rattle.std.proofs.Common.{◌≡◌, inl, inr, ℕ, List, length, Option, Some, None, refl, sym, ◌∙◌, ap, subst, arith}
use Rattle.std.specs.Prelude.{option_map, IfSome}
use Rattle.std.proofs.lemmas.Bool.{cases_eq, cases_lt}
use Rattle.odb_device.specs.World.{File, World, file_of}
use Rattle.odb_device.specs.Images.{IsImage, ReadsImage, IsKept, Torn, TornFrom, kept}
use Rattle.odb_device.specs.TornSets.{TornIn, TornInFrom}
use Rattle.odb_device.specs.Calls.{Keeps}
use Rattle.odb_device.specs.Moments.{Runs}
use Rattle.odb_device.proofs.Bytes.{image_kept}
use Rattle.odb_device.proofs.Time.{joins, weakens, run_end}
use Rattle.odb_device.proofs.Torn.{each_weakens}
use Rattle.odb_device.proofs.TornSets.{from_none}
use Rattle.odb_device.proofs.Writing.{run_inside}
use Rattle.odb_reclog.specs.Records.{OPEN, gate_at}
use Rattle.odb_reclog.specs.Ends.{IsOpenEnd}
use Rattle.odb_reclog.proofs.Gates.{EndsOpen}

-- of a told file
pub if_told : (o : Option File) (P : File → Type 0) → ((f : File) → o ≡ Some f → P f) → IfSome o P
if_told None P each = tt
if_told (Some f) P each = each f refl

module _ (file start end first : ℕ) where
  -- only the gate where the list of these bytes ends is torn, and that only where it is open
  abbrev pub TearsEnd : List ℕ → World → World → Type 0
  TearsEnd bytes old new = Runs file (TornInFrom (IsOpenEnd start end first bytes) 0 (file_of file old)) old new

  abbrev pub TearsEndOf : World → World → Type 0
  TearsEndOf old new = IfSome (file_of file old) (λ f. TearsEnd f.bytes old new)

  -- nothing is torn
  pub still_gate : (w now : World) → Runs file (TornFrom 0 0 (file_of file w)) w now → TearsEndOf w now
  still_gate w now run =
      if_told (file_of file w) (λ f. TearsEnd f.bytes w now)
      (λ f is. run_inside (IsOpenEnd start end first f.bytes) 0 file 0 0 w now (λ i range. absurd (omega (arith, range.0, range.1))) (omega arith) run)

  module _ (place : ℕ) where
    torn_end : (before image bytes : List ℕ) → before ≡ bytes → EndsOpen start end first place bytes → Torn place 1 before image
        → TornIn (IsOpenEnd start end first bytes) 0 before image
    torn_end before image bytes same e t = record {
      no_shorter = t.no_shorter;
      no_longer = omega (arith, t.no_longer, e.inside, e.long, ap length same);
      outside = λ i within out. t.outside i within (elim (cases_lt i place) [
        | inl below ↦ inl below
        | inr from ↦ elim (cases_eq i place) [
          | inl here ↦ absurd (out (record { ends = e.ends ∙ sym here; inside = omega (arith, e.inside); is_open = at_here i here }))
          | inr other ↦ inr (omega arith)
        ]
      ]);
    }
      where
        open_at : ℕ → Type 0
        open_at i = gate_at i bytes ≡ OPEN

        at_here : (i : ℕ) → i ≡ place → open_at i
        at_here i here = subst open_at (sym here) e.is_open

    from_end : (f : File) (o : Option File) → IsKept (Some f) → EndsOpen start end first place f.bytes → TornFrom place 1 (Some f) o
        → TornInFrom (IsOpenEnd start end first f.bytes) 0 (Some f) o
    from_end f o is_kept e from =
        each_weakens (λ image. (before : List ℕ) × IsImage f before × Torn place 1 before image)
        (λ image. (before : List ℕ) × IsImage f before × TornIn (IsOpenEnd start end first f.bytes) 0 before image) o
        (λ image b. (b.0, b.1, torn_end b.0 image f.bytes (image_kept f b.0 is_kept b.1) e b.2)) from

    -- the gate was found open, and was written
    pub closing_gate : (w w1 w2 : World) → Runs file (λ f. f ≡ file_of file w) w w1
        → Runs file (TornFrom place 1 (file_of file w1)) w1 w2 → IsKept (file_of file w)
        → IfSome (file_of file w) (λ f. EndsOpen start end first place f.bytes) → TearsEndOf w w2
    closing_gate w w1 w2 reads writes is_kept e =
        let o = file_of file w in
        let same : file_of file w1 ≡ o = run_end file (λ f. f ≡ o) w w1 reads in
        if_told o (λ f. TearsEnd f.bytes w w2)
        (λ f is.
        let P = IsOpenEnd start end first f.bytes in
        joins file (TornInFrom P 0 o) w w1 w2
        (weakens file (λ f. f ≡ o) (TornInFrom P 0 o) w w1 (λ p here. from_none P 0 o p here) reads)
        (weakens file (TornFrom place 1 (file_of file w1)) (TornInFrom P 0 o) w1 w2
        (λ p from.
        subst (λ (x : Option File). TornInFrom P 0 x p) (sym is)
        (from_end f p (subst IsKept is is_kept) (subst (λ (x : Option File). IfSome x (λ f. EndsOpen start end first place f.bytes)) is e)
        (subst (λ (x : Option File). TornFrom place 1 x p) (same ∙ is) from)))
        writes))

  kept_first : (P : ℕ → Type 0) (f : File) (o : Option File) → IsImage f f.bytes → TornInFrom P 0 (Some (kept f)) o → TornInFrom P 0 (Some f) o
  kept_first P f o reads from =
      each_weakens (λ image. (before : List ℕ) × IsImage (kept f) before × TornIn P 0 before image)
      (λ image. (before : List ℕ) × IsImage f before × TornIn P 0 before image) o
      (λ image b. (f.bytes, reads, subst (λ (l : List ℕ). TornIn P 0 l image) (image_kept (kept f) b.0 (refl, refl) b.1) b.2)) from

  -- behind a sync
  pub open_gate : (w w1 w2 : World) → ReadsImage (file_of file w) → Runs file (TornFrom 0 0 (file_of file w)) w w1 → Keeps file w w1
      → TearsEndOf w1 w2 → TearsEndOf w w2
  open_gate w w1 w2 reads still is_kept gate =
      let o = file_of file w in
      if_told o (λ f. TearsEnd f.bytes w w2)
      (λ f is.
      let P = IsOpenEnd start end first f.bytes in
      let mid : file_of file w1 ≡ Some (kept f) = is_kept ∙ ap (option_map kept) is in
      let first_part = run_inside P 0 file 0 0 w w1 (λ i range. absurd (omega (arith, range.0, range.1))) (omega arith) still in
      let second : TearsEnd f.bytes w1 w2 = subst (λ (x : Option File). IfSome x (λ f. TearsEnd f.bytes w1 w2)) mid gate in
      joins file (TornInFrom P 0 o) w w1 w2 first_part
      (weakens file (TornInFrom P 0 (file_of file w1)) (TornInFrom P 0 o) w1 w2
      (λ p from.
      subst (λ (x : Option File). TornInFrom P 0 x p) (sym is)
      (kept_first P f p (subst ReadsImage is reads) (subst (λ (x : Option File). TornInFrom P 0 x p) mid from)))
      second))
