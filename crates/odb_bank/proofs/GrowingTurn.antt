-- What adding extents leaves of the file, and of what it stands for.
use Rattle.std.proofs.Common.{◌≡◌, inl, inr, ℕ, ◌+◌, ◌*◌, ◌≤◌, List, sym, ◌∙◌, ap, subst, refl, arith}
use Rattle.odb_device.specs.World.{World, file_of}
use Rattle.odb_device.specs.Images.{EachImage}
use Rattle.odb_device.specs.Moments.{ChangesOnly, Runs}
use Rattle.odb_device.proofs.Time.{begins, weakens, joins, run_end, changes_none, changes_then}
use Rattle.odb_device.proofs.Torn.{each_weakens}
use Rattle.odb_extent.specs.Opened.{limit_in, fields_in}
use Rattle.odb_extent.specs.Standing.{ExtentState, limit_of, limit_tried, fields_of, fields_tried, IsFileOf as IsExtentFile, Stands as ExtentStands, HoldsAt, HoldsKeptOr, RunsExtents, Takes, LeavesTried}
use Rattle.odb_extent.specs.Laws.{content_runs}
use Rattle.odb_extent.proofs.Growing.{each_both}
use Rattle.odb_bank.specs.History.{History}
use Rattle.odb_bank.specs.Known.{Known, IsFileOf}
use Rattle.odb_bank.specs.Turns.{AllStand}
use Rattle.odb_bank.specs.Spelled.{record_of_slot}
use Rattle.odb_bank.specs.Fields.{bank_image}
use Rattle.odb_bank.specs.Files.{StandsAt}
use Rattle.odb_bank.specs.Growing.{IsFit, IsMarkedAt, StandsWith, IsGrowing}
use Rattle.odb_bank.proofs.Framing.{known_asks}
use Rattle.odb_bank.proofs.Holding.{grown, image_at}

own : (n : ℕ) (body : List ℕ) (one other : ℕ → List ℕ) → record_of_slot n body other ≡ record_of_slot n body one
own n body one other = refl

abbrev Slots : ExtentState → (ℕ → Known) → List ℕ → Type 0
Slots e known = IsFileOf record_of_slot (1024 * limit_of e) known

module _ (e : ExtentState) (known : ℕ → Known) (w now : World) (each : EachImage (IsFit e known) (file_of e.pair.file w))
    (runs : RunsExtents e (HoldsKeptOr e (limit_of e + 1) (fields_of e)) w now) where
  slots_run : Runs e.pair.file (EachImage (λ image. Slots e known image × HoldsKeptOr e (limit_of e + 1) (fields_of e) image)) w now
  slots_run = content_runs e (Slots e known) (HoldsKeptOr e (limit_of e + 1) (fields_of e)) w now (known_asks record_of_slot own (limit_of e) known) (λ bytes is. omega (arith, is.long))
      (each_weakens (IsFit e known) (Slots e known) (file_of e.pair.file w) (λ image fit. fit.slots) each) runs

  slots_now : EachImage (Slots e known) (file_of e.pair.file now)
  slots_now = each_weakens (λ image. Slots e known image × HoldsKeptOr e (limit_of e + 1) (fields_of e) image) (Slots e known) (file_of e.pair.file now) (λ image both. both.0)
      (run_end e.pair.file (EachImage (λ image. Slots e known image × HoldsKeptOr e (limit_of e + 1) (fields_of e) image)) w now slots_run)

  -- with the limit that was kept
  pub fit_still : (later : ExtentState) → limit_of later ≡ limit_of e → ExtentStands later (file_of e.pair.file now) → EachImage (IsFit later known) (file_of e.pair.file now)
  fit_still later same stands = each_weakens (λ image. IsExtentFile later image × Slots e known image) (IsFit later known) (file_of e.pair.file now)
      (λ image both. record { extents = both.0; slots = subst (λ (n : ℕ). IsFileOf record_of_slot (1024 * n) known image) (sym same) both.1 })
      (each_both (IsExtentFile later) (Slots e known) (file_of e.pair.file now) stands slots_now)

  -- with one more
  pub fit_more : (later : ExtentState) → limit_of later ≡ limit_of e + 1 → ExtentStands later (file_of e.pair.file now) → EachImage (HoldsAt e (limit_of e + 1) (fields_of e)) (file_of e.pair.file now) → EachImage (IsFit later known) (file_of e.pair.file now)
  fit_more later same stands holds = each_weakens (λ image. IsExtentFile later image × (Slots e known image × HoldsAt e (limit_of e + 1) (fields_of e) image)) (IsFit later known) (file_of e.pair.file now)
      (λ image both. let here = both.1 in record {
        extents = both.0;
        slots = subst (λ (n : ℕ). IsFileOf record_of_slot (1024 * n) known image) (sym same) (grown e 0 known image here.0 (limit_of e + 1) (fields_of e) (omega arith) here.1);
      })
      (each_both (IsExtentFile later) (λ image. Slots e known image × HoldsAt e (limit_of e + 1) (fields_of e) image) (file_of e.pair.file now) stands
      (each_both (Slots e known) (HoldsAt e (limit_of e + 1) (fields_of e)) (file_of e.pair.file now) slots_now holds))

  -- at each moment it stands for the history
  module _ (bank mark : ℕ) (marked : IsMarkedAt bank mark e) (h : History) (within : mark ≤ h.count) (all : AllStand h mark known) where
    stands_by : (image : List ℕ) → Slots e known image → (l : ℕ) (fields : List ℕ) → limit_of e ≤ l → fields ≡ bank_image bank mark → HoldsAt e l fields image → StandsAt bank h mark image
    stands_by image slots l fields low same at = image_at e bank known image slots h mark l marked.small within marked.most low (subst (λ (f : List ℕ). HoldsAt e l f image) same at) all

    one : (image : List ℕ) → Slots e known image → HoldsKeptOr e (limit_of e + 1) (fields_of e) image → StandsAt bank h mark image
    one image slots (inl (inl kept)) = stands_by image slots (limit_of e) (fields_of e) (omega arith) marked.fields kept
    one image slots (inl (inr tried)) = stands_by image slots (limit_tried e) (fields_tried e) marked.limits marked.tried tried
    one image slots (inr more) = stands_by image slots (limit_of e + 1) (fields_of e) (omega arith) marked.fields more

    pub grow_moments : Runs e.pair.file (EachImage (StandsAt bank h mark)) w now
    grow_moments = weakens e.pair.file (EachImage (λ image. Slots e known image × HoldsKeptOr e (limit_of e + 1) (fields_of e) image)) (EachImage (StandsAt bank h mark)) w now
        (λ o. each_weakens (λ image. Slots e known image × HoldsKeptOr e (limit_of e + 1) (fields_of e) image) (StandsAt bank h mark) o (λ image both. one image both.0 both.1)) slots_run

-- the fields stay
limits_left : (e later : ExtentState) → limit_of e ≤ limit_tried e → LeavesTried (limit_of e + 1) (fields_of e) e later → limit_of later ≤ limit_tried later
limits_left e later low left = elim left.tried [
  | inl old ↦ omega (arith, left.limit_is, old.0, low)
  | inr new ↦ elim new [ inl kept ↦ omega (arith, left.limit_is, kept.0) | inr more ↦ omega (arith, left.limit_is, more.0) ]
]

marked_left : (bank mark : ℕ) (e later : ExtentState) → LeavesTried (limit_of e + 1) (fields_of e) e later → IsMarkedAt bank mark e → IsMarkedAt bank mark later
marked_left bank mark e later left marked = record {
  limits = limits_left e later marked.limits left;
  most = left.most ∙ marked.most;
  fields = left.fields_are ∙ marked.fields;
  tried = elim left.tried [
    | inl old ↦ old.1 ∙ marked.tried
    | inr new ↦ elim new [ inl kept ↦ kept.1 ∙ marked.fields | inr more ↦ more.1 ∙ marked.fields ]
  ];
  small = marked.small;
}

marked_more : (bank mark : ℕ) (e later : ExtentState) → Takes (limit_of e + 1) (fields_of e) e later → IsMarkedAt bank mark e → IsMarkedAt bank mark later
marked_more bank mark e later takes marked = let settled = takes.settled in record {
  limits = omega (arith, ap limit_in settled.tried);
  most = takes.most ∙ marked.most;
  fields = takes.fields_are ∙ marked.fields;
  tried = ap fields_in settled.tried ∙ takes.fields_are ∙ marked.fields;
  small = marked.small;
}

-- no extent yet
pub growing_none : (e : ExtentState) (w : World) → ExtentStands e (file_of e.pair.file w) → IsGrowing e w e w
growing_none e w stands = record {
  file = refl;
  most = refl;
  limits = omega arith;
  only = changes_none e.pair.file w;
  stands = stands;
  marked = λ bank mark marked. marked;
  known = λ known fits. fits;
  run = λ bank mark known h given. begins e.pair.file (EachImage (StandsAt bank h mark)) w given.now;
}

-- and one more, or one that failed
module _ (old e later : ExtentState) (first mid now : World) (so_far : IsGrowing old first e mid) (runs : RunsExtents e (HoldsKeptOr e (limit_of e + 1) (fields_of e)) mid now)
    (stands : ExtentStands later (file_of e.pair.file now)) where
  only_now : ChangesOnly old.pair.file first now
  only_now = let run = runs.run in changes_then old.pair.file first mid now so_far.only (subst (λ (n : ℕ). ChangesOnly n mid now) so_far.file run.only)

  fits_mid : (known : ℕ → Known) → EachImage (IsFit old known) (file_of old.pair.file first) → EachImage (IsFit e known) (file_of e.pair.file mid)
  fits_mid known fits = subst (λ (n : ℕ). EachImage (IsFit e known) (file_of n mid)) (sym so_far.file) (so_far.known known fits)

  run_now : (bank mark : ℕ) (known : ℕ → Known) (h : History) → StandsWith bank mark known h old first → Runs old.pair.file (EachImage (StandsAt bank h mark)) first now
  run_now bank mark known h given =
      let more = grow_moments e known mid now (fits_mid known given.fits) runs bank mark (so_far.marked bank mark given.marked) h given.within given.all in
      joins old.pair.file (EachImage (StandsAt bank h mark)) first mid now (so_far.run bank mark known h given) (subst (λ (n : ℕ). Runs n (EachImage (StandsAt bank h mark)) mid now) so_far.file more)

  to_file : (P : List ℕ → Type 0) → EachImage P (file_of e.pair.file now) → EachImage P (file_of old.pair.file now)
  to_file P each = subst (λ (n : ℕ). EachImage P (file_of n now)) so_far.file each

  pub growing_broken : LeavesTried (limit_of e + 1) (fields_of e) e later → IsGrowing old first later now
  growing_broken left = record {
    file = left.file ∙ so_far.file;
    most = left.most ∙ so_far.most;
    limits = omega (arith, left.limit_is, so_far.limits);
    only = only_now;
    stands = to_file (IsExtentFile later) stands;
    marked = λ bank mark was. marked_left bank mark e later left (so_far.marked bank mark was);
    known = λ known fits. to_file (IsFit later known) (fit_still e known mid now (fits_mid known fits) runs later left.limit_is stands);
    run = run_now;
  }

  pub growing_more : Takes (limit_of e + 1) (fields_of e) e later → EachImage (HoldsAt e (limit_of e + 1) (fields_of e)) (file_of e.pair.file now) → IsGrowing old first later now
  growing_more takes holds = record {
    file = takes.file ∙ so_far.file;
    most = takes.most ∙ so_far.most;
    limits = omega (arith, takes.limit_is, so_far.limits);
    only = only_now;
    stands = to_file (IsExtentFile later) stands;
    marked = λ bank mark was. marked_more bank mark e later takes (so_far.marked bank mark was);
    known = λ known fits. to_file (IsFit later known) (fit_more e known mid now (fits_mid known fits) runs later takes.limit_is stands holds);
    run = run_now;
  }
