-- What a file is that stands for a history, also where no call is made on it.
use Rattle.std.proofs.Common.{◌≡◌, inl, inr, ℕ, ◌*◌, ◌-◌, ◌<◌, ◌≤◌, true, false, List, Option, Some, None, sym, ◌∙◌, ap, refl, arith}
use Rattle.std.specs.Int.{is_in_range}
use Rattle.odb_codec.proofs.Keys.{range_passes}
use Rattle.odb_device.specs.World.{File}
use Rattle.odb_device.specs.Images.{IsImage, EachImage}
use Rattle.odb_slots.specs.Slots.{OPEN, gate_at}
use Rattle.odb_slots.specs.Views.{spelled, view_by}
use Rattle.odb_slots.specs.Sets.{IsOneOf}
use Rattle.odb_slots.proofs.Places.{view_at, behind_open}
use Rattle.odb_bank.specs.declared.phase.Phase.{Phase}
use Rattle.odb_bank.specs.declared.phase.Phase.TheVariants.{Idle, Bodies, Gates}
use Rattle.odb_bank.specs.History.{Key, History, IsLast, GoesOn}
use Rattle.odb_bank.specs.Records.{Record, IsWithin}
use Rattle.odb_bank.specs.Stands.{Stands as Stand, IsWriteOf}
use Rattle.odb_bank.specs.Changes.{IsOfRun}
use Rattle.odb_bank.specs.Replayed.{state, changed_by}
use Rattle.odb_bank.specs.Known.{Known, sure, perhaps, sure_of, perhaps_of}
use Rattle.odb_bank.specs.Turns.{AllStand, HoldsRun}
use Rattle.odb_bank.specs.Spelled.{record_of_slot}
use Rattle.odb_bank.specs.Files.{StandsAt}
use Rattle.odb_bank.specs.Bank.{BankState, slot_limit, IsStandingFor, StandsFor, StandsByMark, StandsInPhase}
use Rattle.odb_bank.specs.Opening.{is_lawful, IsInOrder}
use Rattle.odb_bank.specs.Reading.{rows_in}
use Rattle.odb_bank.proofs.Steps.{stands_longer}
use Rattle.odb_bank.proofs.Standing.{all_closing}
use Rattle.odb_bank.proofs.Opening.{opens_to}

own : (n : ℕ) (body : List ℕ) (one other : ℕ → List ℕ) → record_of_slot n body other ≡ record_of_slot n body one
own n body one other = refl

pub by_marks : (h : History) (b : BankState) (file : Option File) → StandsFor h b file → EachImage (StandsByMark h b) file
by_marks h b None stands = tt
by_marks h b (Some f) stands = stands.images

-- a history that goes on
module _ (h longer : History) (on : GoesOn h longer) where
  last_on : (a : ℕ) (key : Key) (j : ℕ) → a ≤ h.count → IsLast h a key j → IsLast longer a key j
  last_on a key j low last = record {
    from = last.from;
    to = last.to;
    writes = let w = last.writes in (w.0, on.same j key (omega (arith, last.to)) ∙ w.1);
    none_after = λ k above to. on.same k key (omega arith) ∙ last.none_after k above to;
  }

  last_back : (a : ℕ) (key : Key) (j : ℕ) → a ≤ h.count → IsLast longer a key j → IsLast h a key j
  last_back a key j low last = record {
    from = last.from;
    to = last.to;
    writes = let w = last.writes in (w.0, sym (on.same j key (omega (arith, last.to))) ∙ w.1);
    none_after = λ k above to. sym (on.same k key (omega arith)) ∙ last.none_after k above to;
  }

  of_run_on : (a reached : ℕ) (r : Record) → reached ≤ h.count → IsOfRun h a reached r → IsOfRun longer a reached r
  of_run_on a reached r low is = record {
    above = is.above;
    last = last_on reached r.key r.stamp low is.last;
    writes = let last = is.last in on.same r.stamp r.key (omega (arith, last.to)) ∙ is.writes;
  }

  run_on : (a reached : ℕ) (S : ℕ → Type 0) (known : ℕ → Known) → HoldsRun h a reached S known → HoldsRun longer a reached S known
  run_on a reached S known run = record {
    within = omega (arith, run.within, on.count);
    each = λ n one. let r = run.each n one in (r.0, r.1, of_run_on a reached r.0 run.within r.2);
    all = λ key j last above. run.all key j (last_back reached key j run.within last) above;
  }

  all_on : (a : ℕ) (known : ℕ → Known) → a ≤ h.count → AllStand h a known → AllStand longer a known
  all_on a known low all view between = stands_longer h longer a view on low (all view between)

  pub at_longer : (bank mark : ℕ) (bytes : List ℕ) → StandsAt bank h mark bytes → StandsAt bank longer mark bytes
  at_longer bank mark bytes at = let stands = at.stands in record {
    small = at.small;
    within = omega (arith, at.within, on.count);
    limit = at.limit;
    holds = at.holds;
    stands = record {
      long = stands.long;
      spells = stands.spells;
      stands = stands_longer h longer mark (view_by record_of_slot (1024 * at.limit) bytes) on at.within stands.stands;
    };
  }

  module _ (b : BankState) where
    by_mark_on : (image : List ℕ) → StandsByMark h b image → StandsByMark longer b image
    by_mark_on image (inl kept) = inl (at_longer b.bank b.mark image kept)
    by_mark_on image (inr raised) = inr (raised.0, at_longer b.bank b.reached image raised.1)

    in_phase : (p : Phase) (known : ℕ → Known) → b.mark ≤ b.reached → b.reached ≤ h.count → StandsInPhase h b p known → StandsInPhase longer b p known
    in_phase Idle known low within so = (stands_longer h longer b.mark (perhaps_of known) on (omega arith) so.0, so.1)
    in_phase Bodies known low within so = (stands_longer h longer b.mark (sure_of known) on (omega arith) so.0, run_on b.mark b.reached (IsOneOf b.run) known so.1, so.2)
    in_phase Gates known low within so = (all_on b.mark known (omega arith) so.0, all_on b.reached known within so.1, so.2)

    pub for_longer : (file : Option File) → StandsFor h b file → StandsFor longer b file
    for_longer None stands = tt
    for_longer (Some f) stands = record {
      known = stands.known;
      is_known = stands.is_known;
      low = stands.low;
      within = omega (arith, stands.within, on.count);
      stands = in_phase b.phase stands.known stands.low stands.within stands.stands;
      images = λ image at. by_mark_on image (stands.images image at);
    }

-- bytes that stand are in order
module _ (h : History) (bank mark number : ℕ) (bytes : List ℕ) (small : h.count ≤ number) (at : StandsAt bank h mark bytes) where
  lawful_by : (n : ℕ) → n < 1024 * at.limit → (o : Option Record) → spelled record_of_slot n bytes ≡ o → gate_at n bytes ≡ OPEN → is_lawful number o ≡ false → ⊥
  lawful_by n low None none is_open bad = let stands = at.stands in stands.spells n low (is_open, none)
  lawful_by n low (Some r) some is_open bad =
      let stands = at.stands in
      let stand = stands.stands in
      let view = view_at record_of_slot own (1024 * at.limit) n bytes low ∙ behind_open (gate_at n bytes) (spelled record_of_slot n bytes) is_open ∙ some in
      let w : IsWriteOf h r = stand.truthful n r view in
      let inside : is_in_range 1 number r.stamp ≡ true = range_passes 1 number r.stamp w.from (omega (arith, w.to)) in
      cc (bad, inside)

  pub standing_in_order : (limit : ℕ) × IsInOrder bank number limit mark bytes
  standing_in_order = let stands = at.stands in (
    at.limit,
    record {
      head = record { holds = at.holds; not_above = omega (arith, at.within) };
      long = omega (arith, stands.long);
      slots = λ n low bad. lawful_by n low (spelled record_of_slot n bytes) refl bad.0 bad.1;
    },
  )

-- the rows of a bank that stands
module _ (h : History) (b : BankState) (f : File) (standing : IsStandingFor h b f) (image : List ℕ) (at : IsImage f image) where
  perhaps_within : IsWithin (slot_limit b) (perhaps_of standing.known)
  perhaps_within n past = let is = standing.is_known in let file = is.images image at in let slots = file.slots in ap perhaps (slots.beyond n past)

  sure_within : IsWithin (slot_limit b) (sure_of standing.known)
  sure_within n past = let is = standing.is_known in let file = is.images image at in let slots = file.slots in ap sure (slots.beyond n past)

  surely : (p : Phase) → StandsInPhase h b p standing.known → Stand h b.mark (sure_of standing.known)
  surely Idle so = all_closing h b.mark (slot_limit b) standing.known perhaps_within so.1 so.0 (sure_of standing.known) (λ n. inl refl)
  surely Bodies so = so.0
  surely Gates so = so.0 (sure_of standing.known) (λ n. inl refl)

  pub rows_changed : (key : Key) → changed_by h b.mark (h.count - b.mark) key (rows_in b standing.known key) ≡ state h h.count key
  rows_changed key = opens_to h b.mark (slot_limit b) (sure_of standing.known) key sure_within (omega (arith, standing.low, standing.within)) (surely b.phase standing.stands)
