-- Each image of a bank's file stands for the history, complete to the mark that it holds.
use Rattle.std.proofs.Common.{◌≡◌, inl, inr, ℕ, ◌*◌, ◌^◌, ◌<◌, ◌≤◌, false, List, Option, Some, None, ◌∙◌, ap, subst, refl, arith}
use Rattle.std.specs.Prelude.{is_some}
use Rattle.std.proofs.lemmas.Bool.{cases_lt}
use Rattle.odb_device.specs.World.{File, World, file_of}
use Rattle.odb_device.specs.Images.{EachImage}
use Rattle.odb_device.specs.Moments.{Runs, ChangesOnly}
use Rattle.odb_device.proofs.Time.{run_end}
use Rattle.odb_device.proofs.Torn.{each_weakens}
use Rattle.odb_extent.specs.Opened.{Holds}
use Rattle.odb_extent.specs.Standing.{ExtentState, limit_of, fields_of, limit_tried, fields_tried, HoldsAt, HoldsKeptOr, RunsExtents}
use Rattle.odb_extent.specs.Laws.{content_runs}
use Rattle.odb_bank.specs.declared.phase.Phase.TheVariants.{Gates}
use Rattle.odb_bank.specs.History.{History}
use Rattle.odb_bank.specs.Records.{Record}
use Rattle.odb_bank.specs.Stands.{Stands as Stand}
use Rattle.odb_bank.specs.Known.{Known, either, sure, perhaps, perhaps_of, IsFileOf}
use Rattle.odb_bank.specs.Turns.{AllStand, DoubtsStale, IsQuiet}
use Rattle.odb_bank.specs.Spelled.{record_of_slot}
use Rattle.odb_bank.specs.Fields.{bank_image}
use Rattle.odb_bank.specs.Files.{StandsAt}
use Rattle.odb_bank.specs.Bank.{BankState, slot_limit, file_number, StandsByMark, TriesMark}
use Rattle.odb_bank.proofs.KnownSlots.{known_grows}
use Rattle.odb_bank.proofs.Standing.{stands_known}
use Rattle.odb_bank.proofs.Framing.{known_asks}

own : (n : ℕ) (body : List ℕ) (one other : ℕ → List ℕ) → record_of_slot n body other ≡ record_of_slot n body one
own n body one other = refl

-- the slots of an image, and beside them a limit and fields
abbrev pub HasSlotsOf : BankState → (ℕ → Known) → List ℕ → Type 0
HasSlotsOf b known = IsFileOf record_of_slot (slot_limit b) known

module _ (e : ExtentState) (bank : ℕ) (known : ℕ → Known) (image : List ℕ) (is : IsFileOf record_of_slot (1024 * limit_of e) known image) where
  -- under a greater limit the same is known
  pub grown : (l : ℕ) (fields : List ℕ) → limit_of e ≤ l → HoldsAt e l fields image → IsFileOf record_of_slot (1024 * l) known image
  grown l fields low at = elim (cases_lt (limit_of e) l) [
    | inl less ↦ known_grows record_of_slot own (1024 * limit_of e) (1024 * l) known image (omega arith) (omega (arith, at.added.long less)) (λ i from to. at.added.zero i (omega arith) (omega arith)) is
    | inr more ↦ let same : limit_of e ≡ l = omega arith in subst (λ (n : ℕ). IsFileOf record_of_slot (1024 * n) known image) same is
  ]

  pub image_at : (h : History) (m l : ℕ) → m < 2 ^ 64 → m ≤ h.count → e.most ≡ 4096 → limit_of e ≤ l → HoldsAt e l (bank_image bank m) image → AllStand h m known → StandsAt bank h m image
  image_at h m l small within most low at all = record {
    small = small;
    within = within;
    limit = l;
    holds = subst (λ (n : ℕ). Holds n l (bank_image bank m) image) most at.holds;
    stands = stands_known record_of_slot own h m (1024 * l) known image all (grown l (bank_image bank m) low at);
  }

-- With the run's gates open: what is kept, and what a raise tried, stand.
pub record IsRaising (h : History) (b : BankState) (known : ℕ → Known) : Type 0 where
  pub gates : b.phase ≡ Gates
  pub most : b.extents.most ≡ 4096
  pub fields : fields_of b.extents ≡ bank_image b.bank b.mark
  pub tried : TriesMark b Gates
  pub limits : limit_of b.extents ≤ limit_tried b.extents
  pub low : b.mark ≤ b.reached
  pub small : b.reached < 2 ^ 64
  pub within : b.reached ≤ h.count
  pub at_mark : AllStand h b.mark known
  pub at_reached : AllStand h b.reached known

module _ (h : History) (b : BankState) (known : ℕ → Known) (is : IsRaising h b known) (image : List ℕ) (slots : HasSlotsOf b known image) where
  by_mark : (l : ℕ) (fields : List ℕ) → limit_of b.extents ≤ l → fields ≡ bank_image b.bank b.mark → HoldsAt b.extents l fields image → StandsByMark h b image
  by_mark l fields low same at =
      inl (image_at b.extents b.bank known image slots h b.mark l (omega (arith, is.low, is.small)) (omega (arith, is.low, is.within)) is.most low (subst (λ (f : List ℕ). HoldsAt b.extents l f image) same at) is.at_mark)

  by_reached : (l : ℕ) (fields : List ℕ) → limit_of b.extents ≤ l → fields ≡ bank_image b.bank b.reached → HoldsAt b.extents l fields image → StandsByMark h b image
  by_reached l fields low same at =
      inr (is.gates, image_at b.extents b.bank known image slots h b.reached l is.small is.within is.most low (subst (λ (f : List ℕ). HoldsAt b.extents l f image) same at) is.at_reached)

  pub raising_image : HoldsKeptOr b.extents (limit_of b.extents) (bank_image b.bank b.reached) image → StandsByMark h b image
  raising_image (inl (inl kept)) = by_mark (limit_of b.extents) (fields_of b.extents) (omega arith) is.fields kept
  raising_image (inl (inr tried)) = elim is.tried [
    | inl old ↦ by_mark (limit_tried b.extents) (fields_tried b.extents) is.limits old tried
    | inr new ↦ by_reached (limit_tried b.extents) (fields_tried b.extents) is.limits new tried
  ]
  raising_image (inr new) = by_reached (limit_of b.extents) (bank_image b.bank b.reached) (omega arith) refl new

  pub raised_image : HoldsAt b.extents (limit_of b.extents) (bank_image b.bank b.reached) image → StandsAt b.bank h b.reached image
  raised_image new = image_at b.extents b.bank known image slots h b.reached (limit_of b.extents) is.small is.within is.most (omega arith) new is.at_reached

-- a file that isn't told has nothing to say
none_at : (o : Option File) (P : List ℕ → Type 0) → is_some o ≡ false → EachImage P o
none_at None P e = tt
none_at (Some f) P e = absurd (cc e)

pub none_runs : (file : ℕ) (P : List ℕ → Type 0) (old new : World) → file_of file old ≡ None → ChangesOnly file old new → Runs file (EachImage P) old new
none_runs file P old new none only = record {
  only = only;
  each = λ k from to. none_at ((new.moment k).files file) P (only.told k from to ∙ ap is_some none);
}

-- while the mark is put, the slots stay
module _ (b : BankState) (known : ℕ → Known) (limit : ℕ) (fields : List ℕ) (old new : World) (runs : RunsExtents b.extents (HoldsKeptOr b.extents limit fields) old new) (slots : EachImage (HasSlotsOf b known) (file_of (file_number b) old)) where
  pub put_runs : Runs (file_number b) (EachImage (λ image. HasSlotsOf b known image × HoldsKeptOr b.extents limit fields image)) old new
  put_runs = content_runs b.extents (HasSlotsOf b known) (HoldsKeptOr b.extents limit fields) old new
      (known_asks record_of_slot own (limit_of b.extents) known) (λ bytes is. omega (arith, is.long)) slots runs

  pub put_slots : EachImage (HasSlotsOf b known) (file_of (file_number b) new)
  put_slots = each_weakens (λ image. HasSlotsOf b known image × HoldsKeptOr b.extents limit fields image) (HasSlotsOf b known) (file_of (file_number b) new) (λ image both. both.0)
      (run_end (file_number b) (EachImage (λ image. HasSlotsOf b known image × HoldsKeptOr b.extents limit fields image)) old new put_runs)

-- with its gates open and the number reached as its mark, a turn is over
pub over : (h : History) (reached : ℕ) (known : ℕ → Known) → AllStand h reached known → IsQuiet known → Stand h reached (perhaps_of known) × DoubtsStale reached known
over h reached known all quiet = (all (perhaps_of known) (λ n. inr refl), λ n r is. absurd (loud n r is))
  where
    loud : (n : ℕ) (r : Record) → known n ≡ either r → ⊥
    loud n r is = let both = quiet n in let some = ap perhaps is in let none = ap sure is in cc (both, some, none)
