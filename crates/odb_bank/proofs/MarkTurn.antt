-- What putting the number reached as the mark leaves of the file, and of what it stands for.
use Rattle.std.proofs.Common.{◌≡◌, inl, inr, ℕ, ◌*◌, ◌^◌, ◌<◌, false, List, Option, Some, None, sym, ◌∙◌, ap, subst, refl, arith}
use Rattle.std.specs.Prelude.{is_some}
use Rattle.odb_device.specs.World.{File, World, file_of}
use Rattle.odb_device.specs.Images.{EachImage}
use Rattle.odb_device.specs.Moments.{Runs}
use Rattle.odb_device.proofs.Time.{weakens}
use Rattle.odb_device.proofs.Torn.{each_weakens}
use Rattle.odb_extent.specs.Standing.{ExtentState, limit_of, IsFileOf as IsExtentFile, Stands as ExtentStands, HoldsAt, HoldsKeptOr, RunsExtents}
use Rattle.odb_extent.proofs.Growing.{each_both}
use Rattle.odb_bank.specs.declared.phase.Phase.{Phase}
use Rattle.odb_bank.specs.declared.phase.Phase.TheVariants.{Idle, Gates}
use Rattle.odb_bank.specs.History.{History}
use Rattle.odb_bank.specs.Known.{Known, IsFileOf}
use Rattle.odb_bank.specs.Spelled.{record_of_slot}
use Rattle.odb_bank.specs.Fields.{bank_image}
use Rattle.odb_bank.specs.Files.{StandsAt}
use Rattle.odb_bank.specs.Bank.{BankState, file_number, IsBankFile, IsKnownIn, Stands, IsStandingFor, StandsFor, StandsByMark, StandsInPhase, TriesMark, IsSound}
use Rattle.odb_bank.proofs.Holding.{HasSlotsOf, IsRaising, raising_image, raised_image, none_runs, put_runs, put_slots, over}

-- what was put, as the image of the fields
pub fields_put : (e : ExtentState) (bank mark : ℕ) (fields : List ℕ) (old new : World) → fields ≡ bank_image bank mark → RunsExtents e (HoldsKeptOr e (limit_of e) fields) old new → RunsExtents e (HoldsKeptOr e (limit_of e) (bank_image bank mark)) old new
fields_put e bank mark fields old new same runs = subst (λ (f : List ℕ). RunsExtents e (HoldsKeptOr e (limit_of e) f) old new) same runs

-- the bank with other extents, another mark and phase
abbrev pub with_mark : BankState → ExtentState → ℕ → Phase → BankState
with_mark b extents mark phase = record b { extents = extents; mark = mark; phase = phase }

-- of whatever limit and fields are put
module _ (b : BankState) (old new : World) (limit : ℕ) (fields : List ℕ) (runs : RunsExtents b.extents (HoldsKeptOr b.extents limit fields) old new)
    (e : ExtentState) (same : limit_of e ≡ limit_of b.extents) (extents : ExtentStands e (file_of (file_number b) new)) (mark : ℕ) (phase : Phase) where
  told : is_some (file_of (file_number b) new) ≡ is_some (file_of (file_number b) old)
  told = let run = runs.run in let only = run.only in only.told new.time only.later (omega arith)

  fits : (known : ℕ → Known) (image : List ℕ) → IsExtentFile e image → HasSlotsOf b known image → IsBankFile (with_mark b e mark phase) known image
  fits known image one other = record {
    extents = one;
    slots = subst (λ (n : ℕ). IsFileOf record_of_slot (1024 * n) known image) (sym same) other;
  }

  put_known : (known : ℕ → Known) (f g : File) → file_of (file_number b) old ≡ Some f → file_of (file_number b) new ≡ Some g → IsKnownIn b known f → IsKnownIn (with_mark b e mark phase) known g
  put_known known f g before after is = record {
    kept = is.kept;
    images = λ image at.
        let first : EachImage (HasSlotsOf b known) (file_of (file_number b) old) = subst (EachImage (HasSlotsOf b known)) (sym before) (λ (i : List ℕ) here. let file = is.images i here in file.slots) in
        let slots : EachImage (HasSlotsOf b known) (Some g) = subst (EachImage (HasSlotsOf b known)) after (put_slots b known limit fields old new runs first) in
        let pair : EachImage (IsExtentFile e) (Some g) = subst (EachImage (IsExtentFile e)) after extents in
        fits known image (pair image at) (slots image at);
  }

  lost : (g : File) → file_of (file_number b) old ≡ None → file_of (file_number b) new ≡ Some g → ⊥
  lost g before after = let one = ap is_some before in let other = ap is_some after in cc (told, one, other)

  stands_from : (o now : Option File) → file_of (file_number b) old ≡ o → file_of (file_number b) new ≡ now → Stands b o → Stands (with_mark b e mark phase) now
  stands_from o None before after stands = tt
  stands_from None (Some g) before after stands = absurd (lost g before after)
  stands_from (Some f) (Some g) before after stands = (stands.0, put_known stands.0 f g before after stands.1)

  pub put_stands : Stands b (file_of (file_number b) old) → Stands (with_mark b e mark phase) (file_of (file_number b) new)
  put_stands = stands_from (file_of (file_number b) old) (file_of (file_number b) new) refl refl

  -- what stands for the history before and after
  history_from : (h : History) (o now : Option File) → file_of (file_number b) old ≡ o → file_of (file_number b) new ≡ now
      → ((f g : File) → file_of (file_number b) old ≡ Some f → file_of (file_number b) new ≡ Some g → IsStandingFor h b f → IsStandingFor h (with_mark b e mark phase) g)
      → StandsFor h b o → StandsFor h (with_mark b e mark phase) now
  history_from h o None before after step stands = tt
  history_from h None (Some g) before after step stands = absurd (lost g before after)
  history_from h (Some f) (Some g) before after step stands = step f g before after stands

module _ (b : BankState) (file : ℕ) (sound : IsSound file b) (phase : b.phase ≡ Gates) (small : b.reached < 2 ^ 64) (old new : World)
    (runs : RunsExtents b.extents (HoldsKeptOr b.extents (limit_of b.extents) (bank_image b.bank b.reached)) old new) where
  module _ (h : History) (f : File) (standing : IsStandingFor h b f) where
    so : StandsInPhase h b Gates standing.known
    so = subst (λ (p : Phase). StandsInPhase h b p standing.known) phase standing.stands

    raising : IsRaising h b standing.known
    raising = let all = so in record {
      gates = phase;
      most = sound.most;
      fields = sound.fields;
      tried = subst (TriesMark b) phase sound.tried;
      limits = sound.limits;
      low = standing.low;
      small = small;
      within = standing.within;
      at_mark = all.0;
      at_reached = all.1;
    }

    slots_before : file_of (file_number b) old ≡ Some f → EachImage (HasSlotsOf b standing.known) (file_of (file_number b) old)
    slots_before before = subst (EachImage (HasSlotsOf b standing.known)) (sym before) (λ (image : List ℕ) at. let is = standing.is_known in let here = is.images image at in here.slots)

    run_told : file_of (file_number b) old ≡ Some f → Runs (file_number b) (EachImage (StandsByMark h b)) old new
    run_told before = weakens (file_number b) (EachImage (λ image. HasSlotsOf b standing.known image × HoldsKeptOr b.extents (limit_of b.extents) (bank_image b.bank b.reached) image)) (EachImage (StandsByMark h b)) old new
        (λ o. each_weakens (λ image. HasSlotsOf b standing.known image × HoldsKeptOr b.extents (limit_of b.extents) (bank_image b.bank b.reached) image) (StandsByMark h b) o
        (λ image both. raising_image h b standing.known raising image both.0 both.1))
        (put_runs b standing.known (limit_of b.extents) (bank_image b.bank b.reached) old new runs (slots_before before))

    done_told : file_of (file_number b) old ≡ Some f → EachImage (HoldsAt b.extents (limit_of b.extents) (bank_image b.bank b.reached)) (file_of (file_number b) new) → EachImage (StandsAt b.bank h b.reached) (file_of (file_number b) new)
    done_told before holds = each_weakens (λ image. HasSlotsOf b standing.known image × HoldsAt b.extents (limit_of b.extents) (bank_image b.bank b.reached) image) (StandsAt b.bank h b.reached) (file_of (file_number b) new)
        (λ image both. raised_image h b standing.known raising image both.0 both.1)
        (each_both (HasSlotsOf b standing.known) (HoldsAt b.extents (limit_of b.extents) (bank_image b.bank b.reached)) (file_of (file_number b) new)
        (put_slots b standing.known (limit_of b.extents) (bank_image b.bank b.reached) old new runs (slots_before before)) holds)

  run_from : (h : History) (o : Option File) → file_of (file_number b) old ≡ o → StandsFor h b o → Runs (file_number b) (EachImage (StandsByMark h b)) old new
  run_from h None before stands = let run = runs.run in none_runs (file_number b) (StandsByMark h b) old new before run.only
  run_from h (Some f) before stands = run_told h f stands before

  -- at each moment
  pub raise_run : (h : History) → StandsFor h b (file_of (file_number b) old) → Runs (file_number b) (EachImage (StandsByMark h b)) old new
  raise_run h = run_from h (file_of (file_number b) old) refl

  none_each : (P : List ℕ → Type 0) (o : Option File) → is_some o ≡ false → EachImage P o
  none_each P None e = tt
  none_each P (Some g) e = absurd (cc e)

  done_from : (h : History) (o : Option File) → file_of (file_number b) old ≡ o → StandsFor h b o → EachImage (HoldsAt b.extents (limit_of b.extents) (bank_image b.bank b.reached)) (file_of (file_number b) new) → EachImage (StandsAt b.bank h b.reached) (file_of (file_number b) new)
  done_from h None before stands holds =
      let run = runs.run in
      let only = run.only in
      none_each (StandsAt b.bank h b.reached) (file_of (file_number b) new) (only.told new.time only.later (omega arith) ∙ ap is_some before)
  done_from h (Some f) before stands holds = done_told h f stands before holds

  -- and at the end
  pub raise_done : (h : History) → StandsFor h b (file_of (file_number b) old) → EachImage (HoldsAt b.extents (limit_of b.extents) (bank_image b.bank b.reached)) (file_of (file_number b) new) → EachImage (StandsAt b.bank h b.reached) (file_of (file_number b) new)
  raise_done h = done_from h (file_of (file_number b) old) refl

  module _ (e : ExtentState) (same : limit_of e ≡ limit_of b.extents) (extents : ExtentStands e (file_of (file_number b) new)) (h : History) where
    pub raise_over : EachImage (StandsAt b.bank h b.reached) (file_of (file_number b) new) → StandsFor h b (file_of (file_number b) old) → StandsFor h (with_mark b e b.reached Idle) (file_of (file_number b) new)
    raise_over done = history_from b old new (limit_of b.extents) (bank_image b.bank b.reached) runs e same extents b.reached Idle h (file_of (file_number b) old) (file_of (file_number b) new) refl refl
        (λ f g before after standing. let all = so h f standing in record {
          known = standing.known;
          is_known = put_known b old new (limit_of b.extents) (bank_image b.bank b.reached) runs e same extents b.reached Idle standing.known f g before after standing.is_known;
          low = omega arith;
          within = standing.within;
          stands = over h b.reached standing.known all.1 all.2;
          images = λ image at. let each : EachImage (StandsAt b.bank h b.reached) (Some g) = subst (EachImage (StandsAt b.bank h b.reached)) after done in inl (each image at);
        })

    pub raise_again : EachImage (StandsByMark h b) (file_of (file_number b) new) → StandsFor h b (file_of (file_number b) old) → StandsFor h (with_mark b e b.mark Gates) (file_of (file_number b) new)
    raise_again now = history_from b old new (limit_of b.extents) (bank_image b.bank b.reached) runs e same extents b.mark Gates h (file_of (file_number b) old) (file_of (file_number b) new) refl refl
        (λ f g before after standing. record {
          known = standing.known;
          is_known = put_known b old new (limit_of b.extents) (bank_image b.bank b.reached) runs e same extents b.mark Gates standing.known f g before after standing.is_known;
          low = standing.low;
          within = standing.within;
          stands = so h f standing;
          images = λ image at.
              let each : EachImage (StandsByMark h b) (Some g) = subst (EachImage (StandsByMark h b)) after now in
              elim (each image at) [ inl kept ↦ inl kept | inr raised ↦ inr (refl, raised.1) ];
        })
