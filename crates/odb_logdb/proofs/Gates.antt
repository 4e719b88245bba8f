-- What an opening may write: the gate at the list's end, where that is open.
use Rattle.std.proofs.Common.{◌≡◌, ℕ, ◌≤◌, List, length, Option, Some, None, refl, sym, ◌∙◌, ap, subst, arith}
use Rattle.std.specs.Prelude.{◌==◌, IfSome, option_map, if◌then◌else◌}
use Rattle.odb_device.specs.World.{File, World, file_of}
use Rattle.odb_device.specs.Images.{IsImage, ReadsImage, TornFrom, kept}
use Rattle.odb_device.specs.Moments.{Runs, WritesWithin}
use Rattle.odb_device.specs.TornSets.{TornIn, TornInFrom}
use Rattle.odb_device.specs.Told.{IfTold}
use Rattle.odb_device.proofs.Bytes.{image_kept}
use Rattle.odb_device.proofs.Time.{joins, weakens, run_end}
use Rattle.odb_device.proofs.Torn.{each_weakens}
use Rattle.odb_device.proofs.TornSets.{from_none, from_inside, from_in_widens}
use Rattle.odb_extent.specs.Opened.{content_end, Holds as ExtentsHold}
use Rattle.odb_extent.specs.Standing.{ExtentState, limit_of, fields_of}
use Rattle.odb_reclog.specs.Ends.{IsOpenEnd}
use Rattle.odb_reclog.specs.Told.{OnlyReads}
use Rattle.odb_reclog.specs.Regions.{region, TearsOpenEnd}
use Rattle.odb_logdb.specs.declared.fields.LogFields.{LogFields}
use Rattle.odb_logdb.specs.Fields.{DIRTY}
use Rattle.odb_logdb.specs.Opened.{MOST, records_start}
use Rattle.odb_logdb.specs.Opening.{HasExtents, list_start}
use Rattle.odb_logdb.specs.Worlds.{IsListEnd, OnlyClosesGate}

-- of a told file
if_told : (o : Option File) (P : File → Type 0) → ((g : File) → o ≡ Some g → P g) → IfSome o P
if_told None P each = tt
if_told (Some g) P each = each g refl

told_is : (o : Option File) (P : File → Type 0) (g : File) → o ≡ Some g → IfSome o P → P g
told_is o P g is here = subst (λ (x : Option File). IfSome x P) is here

abbrev Torn : File → Option File → Option File → Type 0
Torn g = TornInFrom (IsListEnd g.bytes) 0

-- nothing was written
pub gate_look : (w now : World) → OnlyReads 1 w now → OnlyClosesGate w now
gate_look w now reads =
    if_told (file_of 1 w) (λ g. Runs 1 (Torn g (file_of 1 w)) w now)
    (λ g is. weakens 1 (λ p. p ≡ file_of 1 w) (Torn g (file_of 1 w)) w now (λ p same. from_none (IsListEnd g.bytes) 0 (file_of 1 w) p same) reads)

pub gate_still : (w now : World) → WritesWithin 1 0 0 w now → OnlyClosesGate w now
gate_still w now still =
    if_told (file_of 1 w) (λ g. Runs 1 (Torn g (file_of 1 w)) w now)
    (λ g is.
    weakens 1 (TornFrom 0 0 (file_of 1 w)) (Torn g (file_of 1 w)) w now
    (λ p torn. from_inside (IsListEnd g.bytes) 0 0 0 (file_of 1 w) p (λ i here. absurd (omega (arith, here.0, here.1))) (omega arith) torn) still)

-- and behind it nothing
pub gate_reads : (w mid now : World) → OnlyClosesGate w mid → OnlyReads 1 mid now → OnlyClosesGate w now
gate_reads w mid now gate reads =
    if_told (file_of 1 w) (λ g. Runs 1 (Torn g (file_of 1 w)) w now)
    (λ g is.
    let first : Runs 1 (Torn g (file_of 1 w)) w mid = told_is (file_of 1 w) (λ g. Runs 1 (Torn g (file_of 1 w)) w mid) g is gate in
    joins 1 (Torn g (file_of 1 w)) w mid now first
    (weakens 1 (λ p. p ≡ file_of 1 mid) (Torn g (file_of 1 w)) mid now (λ p same. subst (Torn g (file_of 1 w)) (sym same) (run_end 1 (Torn g (file_of 1 w)) w mid first)) reads))

-- the gate at the list's end
module _ (e : ExtentState) (f : LogFields) (w w1 w2 : World) (limit s t : ℕ) (is_limit : limit ≡ limit_of e) (is_t : t ≡ content_end limit) (is_s : s ≡ (if f.state == DIRTY then t else records_start f)) (found : HasExtents e f w)
    (long : IfTold 1 w (λ bytes. content_end limit ≤ length bytes)) (look : OnlyReads 1 w w1) (gate : TearsOpenEnd (region 1 s t f.first) w1 w2) where
  t_is : t ≡ content_end (limit_of e)
  t_is = is_t ∙ ap content_end is_limit

  s_is : s ≡ list_start (limit_of e) f
  s_is = is_s ∙ ap (λ (n : ℕ). if f.state == DIRTY then n else records_start f) t_is

  looked : file_of 1 w1 ≡ file_of 1 w
  looked = run_end 1 (λ p. p ≡ file_of 1 w) w w1 look

  ends_at : (g : File) → file_of 1 w ≡ Some g → (i : ℕ) → IsOpenEnd s t f.first g.bytes i → IsListEnd g.bytes i
  ends_at g is i here = record {
    limit = limit_of e;
    fields = fields_of e;
    found = f;
    extents = told_is (file_of 1 w) (λ g. ExtentsHold MOST (limit_of e) (fields_of e) g.bytes) g is found.found;
    lawful = found.fields;
    long = told_is (file_of 1 w) (λ g. content_end (limit_of e) ≤ length g.bytes) g is (subst (λ (n : ℕ). IfTold 1 w (λ bytes. content_end n ≤ length bytes)) is_limit long);
    ends = subst (λ (n : ℕ). IsOpenEnd n (content_end (limit_of e)) f.first g.bytes i) s_is (subst (λ (n : ℕ). IsOpenEnd s n f.first g.bytes i) t_is here);
  }

  pub gate_open : OnlyClosesGate w w2
  gate_open =
      if_told (file_of 1 w) (λ g. Runs 1 (Torn g (file_of 1 w)) w w2)
      (λ g is.
      let P = IsOpenEnd s t f.first g.bytes in
      let here : Runs 1 (TornInFrom P 0 (file_of 1 w1)) w1 w2 = told_is (file_of 1 w1) (λ g. Runs 1 (TornInFrom (IsOpenEnd s t f.first g.bytes) 0 (file_of 1 w1)) w1 w2) g (looked ∙ is) gate in
      let first : Runs 1 (Torn g (file_of 1 w)) w w1 = told_is (file_of 1 w) (λ g. Runs 1 (Torn g (file_of 1 w)) w w1) g is (gate_look w w1 look) in
      joins 1 (Torn g (file_of 1 w)) w w1 w2 first
      (weakens 1 (TornInFrom P 0 (file_of 1 w1)) (Torn g (file_of 1 w)) w1 w2
      (λ p torn. from_in_widens P (IsListEnd g.bytes) 0 0 (file_of 1 w) p (ends_at g is) (omega arith) (subst (λ (o : Option File). TornInFrom P 0 o p) looked torn)) here))

-- behind a sync, which put on the disk what was read
kept_first : (P : ℕ → Type 0) (g : File) (p : Option File) → IsImage g g.bytes → TornInFrom P 0 (Some (kept g)) p → TornInFrom P 0 (Some g) p
kept_first P g p reads torn =
    each_weakens (λ image. (before : List ℕ) × IsImage (kept g) before × TornIn P 0 before image) (λ image. (before : List ℕ) × IsImage g before × TornIn P 0 before image) p
    (λ image b. (g.bytes, reads, subst (λ (l : List ℕ). TornIn P 0 l image) (image_kept (kept g) b.0 (refl, refl) b.1) b.2)) torn

pub gate_synced : (w mid now : World) → ReadsImage (file_of 1 w) → WritesWithin 1 0 0 w mid → file_of 1 mid ≡ option_map kept (file_of 1 w) → OnlyClosesGate mid now → OnlyClosesGate w now
gate_synced w mid now reads still is_kept gate =
    if_told (file_of 1 w) (λ g. Runs 1 (Torn g (file_of 1 w)) w now)
    (λ g is.
    let here : file_of 1 mid ≡ Some (kept g) = is_kept ∙ ap (option_map kept) is in
    let first : Runs 1 (Torn g (file_of 1 w)) w mid = told_is (file_of 1 w) (λ g. Runs 1 (Torn g (file_of 1 w)) w mid) g is (gate_still w mid still) in
    let second : Runs 1 (TornInFrom (IsListEnd g.bytes) 0 (file_of 1 mid)) mid now = told_is (file_of 1 mid) (λ h. Runs 1 (TornInFrom (IsListEnd h.bytes) 0 (file_of 1 mid)) mid now) (kept g) here gate in
    joins 1 (Torn g (file_of 1 w)) w mid now first
    (weakens 1 (TornInFrom (IsListEnd g.bytes) 0 (file_of 1 mid)) (Torn g (file_of 1 w)) mid now
    (λ p torn.
    subst (λ (o : Option File). TornInFrom (IsListEnd g.bytes) 0 o p) (sym is)
    (kept_first (IsListEnd g.bytes) g p (subst ReadsImage is reads) (subst (λ (o : Option File). TornInFrom (IsListEnd g.bytes) 0 o p) here torn)))
    second))
