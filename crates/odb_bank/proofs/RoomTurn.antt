-- What adding extents in a turn leaves of a bank, and of what it stands for.
use Rattle.std.proofs.Common.{◌≡◌, inl, inr, ℕ, ◌^◌, ◌<◌, ◌≤◌, List, Option, Some, None, sym, ◌∙◌, ap, subst, refl, arith}
use Rattle.std.specs.Prelude.{is_some}
use Rattle.std.proofs.lemmas.Option.{slice_get_within, get_or_from_slice_get}
use Rattle.odb_device.specs.World.{File, World, file_of}
use Rattle.odb_device.specs.Images.{EachImage}
use Rattle.odb_device.specs.Moments.{Runs}
use Rattle.odb_device.proofs.Time.{run_end}
use Rattle.odb_extent.specs.Standing.{ExtentState, limit_of, Stands as ExtentStands}
use Rattle.odb_bank.specs.declared.kept.Kept.{Kept}
use Rattle.odb_bank.specs.declared.phase.Phase.{Phase}
use Rattle.odb_bank.specs.declared.phase.Phase.TheVariants.{Idle}
use Rattle.odb_bank.specs.History.{History}
use Rattle.odb_bank.specs.Records.{IsWithin}
use Rattle.odb_bank.specs.Known.{Known, perhaps, perhaps_of}
use Rattle.odb_bank.specs.Turns.{AllStand}
use Rattle.odb_bank.specs.Files.{StandsAt}
use Rattle.odb_bank.specs.Bank.{BankState, file_number, slot_limit, IsKnownIn, Stands, IsStandingFor, StandsFor, StandsByMark, StandsInPhase, TriesMark, KeepsRun, IsSound}
use Rattle.odb_bank.specs.Begun.{HasGrown, KeepsTold}
use Rattle.odb_bank.specs.Growing.{IsFit, IsMarkedAt, StandsWith, IsGrowing}
use Rattle.odb_bank.proofs.Choice.{find_slot}
use Rattle.odb_bank.proofs.Holding.{none_runs}
use Rattle.odb_bank.proofs.Standing.{all_closing}

-- the bank with other extents
abbrev pub with_extents : BankState → ExtentState → BankState
with_extents b e = record b { extents = e }

-- the bytes are those of its extents
pub extents_stand : (b : BankState) (o : Option File) → Stands b o → ExtentStands b.extents o
extents_stand b None stands = tt
extents_stand b (Some f) stands = λ (image : List ℕ) at. let is = stands.1 in let here = is.images image at in here.extents

module _ (b : BankState) (file : ℕ) (sound : IsSound file b) (phase : b.phase ≡ Idle) (small : b.mark < 2 ^ 64) (e : ExtentState) (old new : World) (growing : IsGrowing b.extents old e new) where
  marked_at : IsMarkedAt b.bank b.mark b.extents
  marked_at = record { limits = sound.limits; most = sound.most; fields = sound.fields; tried = subst (TriesMark b) phase sound.tried; small = small }

  fits_before : (known : ℕ → Known) (f : File) → file_of (file_number b) old ≡ Some f → IsKnownIn b known f → EachImage (IsFit b.extents known) (file_of (file_number b) old)
  fits_before known f before is = subst (EachImage (IsFit b.extents known)) (sym before) (λ (image : List ℕ) at. let here = is.images image at in record { extents = here.extents; slots = here.slots })

  room_known : (known : ℕ → Known) (f g : File) → file_of (file_number b) old ≡ Some f → file_of (file_number b) new ≡ Some g → IsKnownIn b known f → IsKnownIn (with_extents b e) known g
  room_known known f g before after is = record {
    kept = is.kept;
    images = λ image at.
        let now : EachImage (IsFit e known) (Some g) = subst (EachImage (IsFit e known)) after (growing.known known (fits_before known f before is)) in
        let fit = now image at in
        record { extents = fit.extents; slots = fit.slots };
  }

  -- memory is sound, and has no fewer slots
  pub room_sound : limit_of e ≤ 4096 → IsSound file (with_extents b e)
  room_sound high = let marked = growing.marked b.bank b.mark marked_at in record {
    number = growing.file ∙ sound.number;
    most = marked.most;
    high = high;
    fields = marked.fields;
    tried = subst (TriesMark (with_extents b e)) (sym phase) marked.tried;
    limits = marked.limits;
    reached = sound.reached;
    inside = λ k d low. omega (arith, sound.inside k d low, growing.limits);
    apart = sound.apart;
    run_inside = λ k d low. omega (arith, sound.run_inside k d low, growing.limits);
    run_ascending = sound.run_ascending;
    run_kept = subst (KeepsRun (with_extents b e)) (sym phase) (subst (KeepsRun b) phase sound.run_kept);
  }

  pub room_grown : HasGrown b (with_extents b e)
  room_grown = record {
    file = growing.file;
    bank = refl;
    mark = refl;
    reached = refl;
    phase = refl;
    run = refl;
    slots = refl;
    more = omega (arith, growing.limits);
  }

  told : is_some (file_of (file_number b) new) ≡ is_some (file_of (file_number b) old)
  told = let only = growing.only in only.told new.time only.later (omega arith)

  lost : (g : File) → file_of (file_number b) old ≡ None → file_of (file_number b) new ≡ Some g → ⊥
  lost g before after = let one = ap is_some before in let other = ap is_some after in cc (told, one, other)

  stands_from : (o now : Option File) → file_of (file_number b) old ≡ o → file_of (file_number b) new ≡ now → Stands b o → Stands (with_extents b e) now
  stands_from o None before after stands = tt
  stands_from None (Some g) before after stands = absurd (lost g before after)
  stands_from (Some f) (Some g) before after stands = (stands.0, room_known stands.0 f g before after stands.1)

  told_from : (o now : Option File) → file_of (file_number b) old ≡ o → file_of (file_number b) new ≡ now → KeepsTold b (with_extents b e) o now
  told_from None now before after = tt
  told_from (Some f) None before after = tt
  told_from (Some f) (Some g) before after = λ known is. (known, room_known known f g before after is, λ n. (refl, refl))

  pub room_told : KeepsTold b (with_extents b e) (file_of (file_number b) old) (file_of (file_number b) new)
  room_told = told_from (file_of (file_number b) old) (file_of (file_number b) new) refl refl

  pub room_stands : Stands b (file_of (file_number b) old) → Stands (with_extents b e) (file_of (file_number b) new)
  room_stands = stands_from (file_of (file_number b) old) (file_of (file_number b) new) refl refl

  -- and the history
  module _ (h : History) where
    module _ (f : File) (standing : IsStandingFor h b f) (before : file_of (file_number b) old ≡ Some f) where
      within_limit : IsWithin (slot_limit b) (perhaps_of standing.known)
      within_limit n past = let is = standing.is_known in let kept = is.kept in elim (find_slot b.slots n) [
        | inr never ↦ ap perhaps (kept.others n never)
        | inl there ↦
            let inside = sound.inside there.0 there.1 (slice_get_within b.slots there.0 there.1 there.2) in
            let same = get_or_from_slice_get b.slots there.0 there.1 there.1 there.2 in
            absurd (omega (arith, inside, there.3, ap (λ (z : Kept). z.slot) same))
      ]

      all_known : AllStand h b.mark standing.known
      all_known =
          let so : StandsInPhase h b Idle standing.known = subst (λ (p : Phase). StandsInPhase h b p standing.known) phase standing.stands in
          all_closing h b.mark (slot_limit b) standing.known within_limit so.1 so.0

      at_mark : (image : List ℕ) → StandsByMark h b image → StandsAt b.bank h b.mark image
      at_mark image (inl at) = at
      at_mark image (inr raised) = let gates = raised.0 in absurd (cc (phase, gates))

      standing_with : StandsWith b.bank b.mark standing.known h b.extents old
      standing_with = record {
        marked = marked_at;
        within = omega (arith, standing.low, standing.within);
        all = all_known;
        fits = fits_before standing.known f before standing.is_known;
        now = subst (EachImage (StandsAt b.bank h b.mark)) (sym before) (λ (image : List ℕ) at. at_mark image (standing.images image at));
      }

      run_told : Runs (file_number b) (EachImage (StandsAt b.bank h b.mark)) old new
      run_told = growing.run b.bank b.mark standing.known h standing_with

      history_told : (g : File) → file_of (file_number b) new ≡ Some g → IsStandingFor h (with_extents b e) g
      history_told g after = record {
        known = standing.known;
        is_known = room_known standing.known f g before after standing.is_known;
        low = standing.low;
        within = standing.within;
        stands = subst (λ (p : Phase). StandsInPhase h (with_extents b e) p standing.known) (sym phase) (subst (λ (p : Phase). StandsInPhase h b p standing.known) phase standing.stands);
        images = λ image at.
            let each : EachImage (StandsAt b.bank h b.mark) (Some g) = subst (EachImage (StandsAt b.bank h b.mark)) after (run_end (file_number b) (EachImage (StandsAt b.bank h b.mark)) old new run_told) in
            inl (each image at);
      }

    run_from : (o : Option File) → file_of (file_number b) old ≡ o → StandsFor h b o → Runs (file_number b) (EachImage (StandsAt b.bank h b.mark)) old new
    run_from None before stands = none_runs (file_number b) (StandsAt b.bank h b.mark) old new before growing.only
    run_from (Some f) before stands = run_told f stands before

    pub room_run : StandsFor h b (file_of (file_number b) old) → Runs (file_number b) (EachImage (StandsAt b.bank h b.mark)) old new
    room_run = run_from (file_of (file_number b) old) refl

    history_from : (o now : Option File) → file_of (file_number b) old ≡ o → file_of (file_number b) new ≡ now → StandsFor h b o → StandsFor h (with_extents b e) now
    history_from o None before after stands = tt
    history_from None (Some g) before after stands = absurd (lost g before after)
    history_from (Some f) (Some g) before after stands = history_told f stands before g after

    pub room_history : StandsFor h b (file_of (file_number b) old) → StandsFor h (with_extents b e) (file_of (file_number b) new)
    room_history = history_from (file_of (file_number b) old) (file_of (file_number b) new) refl refl
