-- A databank file that was opened.
use Rattle.std.proofs.Common.{◌≡◌, inl, inr, ℕ, ◌*◌, ◌^◌, ◌<◌, ◌≤◌, List, [], length, Option, Some, None, Err, sym, ◌∙◌, ap, subst, refl, arith}
use Rattle.std.specs.Prelude.{IfSome, option_map}
use Rattle.std.proofs.lemmas.Bool.{cases_eq}
use Rattle.odb_device.specs.World.{File, World, file_of}
use Rattle.odb_device.specs.Images.{TornFrom, kept}
use Rattle.odb_device.specs.Calls.{Keeps}
use Rattle.odb_device.specs.Moments.{WritesWithin}
use Rattle.odb_device.specs.Told.{IfTold, OnlyReads}
use Rattle.odb_device.proofs.Time.{joins, weakens, run_end}
use Rattle.odb_device.proofs.Bytes.{image_kept}
use Rattle.odb_device.proofs.Torn.{image_kept_bytes}
use Rattle.odb_extent.specs.Opened.{content_end, opened, holding, no_open_place, malformed, Opened, limit_in, fields_in}
use Rattle.odb_extent.specs.Standing.{ExtentState, limit_of, fields_of, IsSettled, Stands as ExtentStands}
use Rattle.odb_slots.specs.Slots.{OPEN, gate_at}
use Rattle.odb_slots.specs.Views.{spelled, view_by}
use Rattle.odb_slots.proofs.Places.{view_past, view_at, behind_open, behind_closed}
use Rattle.odb_bank.specs.declared.error.BankError.{BankError}
use Rattle.odb_bank.specs.declared.error.BankError.TheVariants.{Fault, Damaged, NotNext, Phase as WrongPhase, Limit, NoMemory}
use Rattle.odb_bank.specs.declared.kept.Kept.{Kept}
use Rattle.odb_bank.specs.declared.phase.Phase.{Phase}
use Rattle.odb_bank.specs.declared.phase.Phase.TheVariants.{Idle}
use Rattle.odb_bank.specs.History.{History}
use Rattle.odb_bank.specs.Records.{Record}
use Rattle.odb_bank.specs.Stands.{Stands as Stand}
use Rattle.odb_bank.specs.Known.{Known, either, perhaps, perhaps_of, Fits, IsFileOf}
use Rattle.odb_bank.specs.Turns.{DoubtsStale}
use Rattle.odb_bank.specs.Spelled.{record_of_slot}
use Rattle.odb_bank.specs.Fields.{bank_image}
use Rattle.odb_bank.specs.Files.{StandsAt, StandsAtMark}
use Rattle.odb_bank.specs.Bank.{BankState, IsBankFile, IsKnownIn, IsStandingFor, Stands, StandsFor, StandsInPhase, IsSound}
use Rattle.odb_bank.specs.Opening.{HasHead, AreLawful, is_lawful, IsBankOf, IsOpening, held_or_free, known_at}
use Rattle.odb_bank.specs.Finding.{AreSlotsOf, AreKeptInside, IsSlotsAnswer}
use Rattle.odb_bank.proofs.Steps.{stands_same}
use Rattle.odb_bank.proofs.Marks.{mark_same}

own : (n : ℕ) (body : List ℕ) (one other : ℕ → List ℕ) → record_of_slot n body other ≡ record_of_slot n body one
own n body one other = refl

-- the sync and the reads
pub opening_run : (file : ℕ) (old mid new : World) → WritesWithin file 0 0 old mid → OnlyReads file mid new → WritesWithin file 0 0 old new
opening_run file old mid new first reads =
    let P : Option File → Type 0 = TornFrom 0 0 (file_of file old) in
    joins file P old mid new first (weakens file (λ f. f ≡ file_of file mid) P mid new (λ o is. subst P (sym is) (run_end file P old mid first)) reads)

-- and what stays of the file
pub opening_keeps : (file : ℕ) (old mid new : World) → Keeps file old mid → OnlyReads file mid new → Keeps file old new
opening_keeps file old mid new keeps reads = run_end file (λ f. f ≡ file_of file mid) mid new reads ∙ keeps

-- what is told once all is on the disk was told before
pub kept_told : (file : ℕ) (old mid : World) (P : List ℕ → Type 0) → Keeps file old mid → IfTold file mid P → IfTold file old P
kept_told file old mid P keeps is = go (file_of file old) (subst (λ (o : Option File). IfSome o (λ f. P f.bytes)) keeps is)
  where
    go : (o : Option File) → IfSome (option_map kept o) (λ f. P f.bytes) → IfSome o (λ f. P f.bytes)
    go None p = tt
    go (Some f) p = p

-- what the pair holds
abbrev HoldsIt : ℕ → List ℕ → Opened → Type 0
HoldsIt limit fields what = what ≡ holding limit fields

pub no_head : (o : Option File) (bank number : ℕ) (what : Opened) → ((limit mark : ℕ) → what ≡ holding limit (bank_image bank mark) → mark ≤ number → ⊥) → IfSome o (λ f. opened 4096 f.bytes ≡ what)
    → IfSome o (λ f. IsOpening bank number (Err (Damaged 0)) f.bytes)
no_head None bank number what never is = tt
no_head (Some f) bank number what never is = inl (refl, λ limit mark head. never limit mark (sym is ∙ head.holds) head.not_above)

pub no_place_head : (bank number limit mark : ℕ) → no_open_place ≡ holding limit (bank_image bank mark) → mark ≤ number → ⊥
no_place_head bank number limit mark is low = cc is

pub malformed_head : (bank number limit mark : ℕ) → malformed ≡ holding limit (bank_image bank mark) → mark ≤ number → ⊥
malformed_head bank number limit mark is low = cc is

pub other_head : (bank number limit : ℕ) (fields : List ℕ) → ((mark : ℕ) → fields ≡ bank_image bank mark → mark ≤ number → ⊥)
    → (l mark : ℕ) → holding limit fields ≡ holding l (bank_image bank mark) → mark ≤ number → ⊥
other_head bank number limit fields none l mark is low = none mark (cc is) low

-- an opening that ends with what its slots answer
pub slots_refuse : (o : Option File) (bank number limit mark : ℕ) (fields : List ℕ) (e : BankError) → fields ≡ bank_image bank mark → mark ≤ number → IfSome o (λ f. opened 4096 f.bytes ≡ holding limit fields)
    → IfSome o (λ f. IsSlotsAnswer number limit (Err e) f.bytes) → IfSome o (λ f. IsOpening bank number (Err e) f.bytes)
slots_refuse None bank number limit mark fields e is low holds answer = tt
slots_refuse (Some f) bank number limit mark fields Fault is low holds answer = tt
slots_refuse (Some f) bank number limit mark fields (Damaged at) is low holds answer =
    let head : HasHead bank number limit mark f.bytes = record { holds = holds ∙ ap (holding limit) is; not_above = low } in
    inr (limit, mark, head, answer)
slots_refuse (Some f) bank number limit mark fields (NotNext m first) is low holds answer = absurd answer
slots_refuse (Some f) bank number limit mark fields (WrongPhase now) is low holds answer = absurd answer
slots_refuse (Some f) bank number limit mark fields Limit is low holds answer = absurd answer
slots_refuse (Some f) bank number limit mark fields NoMemory is low holds answer = tt

-- what is known of the slots of bytes that are all on the disk
module _ (number limit : ℕ) (bytes : List ℕ) (long : content_end limit ≤ length bytes) (lawful : AreLawful number (1024 * limit) bytes) where
  fits_by : (n : ℕ) → n < 1024 * limit → (o : Option Record) → spelled record_of_slot n bytes ≡ o → gate_at n bytes ≡ OPEN → Fits (held_or_free o) (gate_at n bytes) (spelled record_of_slot n bytes)
  fits_by n low None none is_open = absurd (lawful n low (is_open, ap (is_lawful number) none))
  fits_by n low (Some r) some is_open = (is_open, some)

  all_known : IsFileOf record_of_slot (1024 * limit) (known_at (1024 * limit) bytes) bytes
  all_known = record {
    long = omega arith;
    fits = λ n low. elim (cases_eq (gate_at n bytes) OPEN) [
      | inl is_open ↦
          let view = view_at record_of_slot own (1024 * limit) n bytes low ∙ behind_open (gate_at n bytes) (spelled record_of_slot n bytes) is_open in
          subst (λ (o : Option Record). Fits (held_or_free o) (gate_at n bytes) (spelled record_of_slot n bytes)) (sym view) (fits_by n low (spelled record_of_slot n bytes) refl is_open)
      | inr closed ↦
          let view = view_at record_of_slot own (1024 * limit) n bytes low ∙ behind_closed (gate_at n bytes) (spelled record_of_slot n bytes) closed in
          subst (λ (o : Option Record). Fits (held_or_free o) (gate_at n bytes) (spelled record_of_slot n bytes)) (sym view) closed
    ];
    beyond = λ n past. ap held_or_free (view_past record_of_slot own (1024 * limit) n bytes past);
  }

perhaps_view : (o : Option Record) → perhaps (held_or_free o) ≡ o
perhaps_view None = refl
perhaps_view (Some r) = refl

no_doubt : (o : Option Record) (r : Record) → held_or_free o ≡ either r → ⊥
no_doubt None r is = cc is
no_doubt (Some s) r is = cc is

-- the bank that is opened
module _ (b : BankState) (number : ℕ) (idle : b.phase ≡ Idle) where
  abbrev limit : ℕ
  limit = limit_of b.extents

  known_in : (f : File) → AreSlotsOf number limit b.slots f.bytes → ExtentStands b.extents (Some (kept f)) → IsKnownIn b (known_at (1024 * limit) f.bytes) (kept f)
  known_in f are stands = record {
    kept = are.known;
    images = λ image is.
        let same : image ≡ f.bytes = image_kept (kept f) image (refl, refl) is in
        subst (IsBankFile b (known_at (1024 * limit) f.bytes)) (sym same) (record {
          extents = stands f.bytes (image_kept_bytes f);
          slots = all_known number limit f.bytes are.long are.lawful;
        });
  }

  stands_now : (o : Option File) → IfSome o (λ f. AreSlotsOf number limit b.slots f.bytes) → ExtentStands b.extents (option_map kept o) → Stands b (option_map kept o)
  stands_now None are stands = tt
  stands_now (Some f) are stands = (known_at (1024 * limit) f.bytes, known_in f are stands)

  pub opened_stands : (file : ℕ) (old mid new : World) → Keeps file old mid → OnlyReads file mid new → IfTold file old (AreSlotsOf number limit b.slots) → ExtentStands b.extents (file_of file mid) → Stands b (file_of file new)
  opened_stands file old mid new keeps reads are stands =
      let there : file_of file new ≡ option_map kept (file_of file old) = run_end file (λ f. f ≡ file_of file mid) mid new reads ∙ keeps in
      subst (Stands b) (sym there) (stands_now (file_of file old) are (subst (ExtentStands b.extents) keeps stands))

  -- and the history that it stands for
  module _ (h : History) (fields : fields_of b.extents ≡ bank_image b.bank b.mark) (small : b.mark < 2 ^ 64) (bank_fits : b.bank < 2 ^ 32) (reached : b.reached ≡ b.mark) where
    standing_for : (f : File) → AreSlotsOf number limit b.slots f.bytes → ExtentStands b.extents (Some (kept f)) → opened 4096 f.bytes ≡ holding limit (fields_of b.extents) → StandsAtMark b.bank h f.bytes
        → IsStandingFor h b (kept f)
    standing_for f are stands holds at =
        let its = at.1 in
        let what : holding limit (fields_of b.extents) ≡ holding its.limit (bank_image b.bank at.0) = sym holds ∙ its.holds in
        let limits : its.limit ≡ limit = cc what in
        let images : bank_image b.bank at.0 ≡ bank_image b.bank b.mark = cc (what, fields) in
        let marks : at.0 ≡ b.mark = mark_same b.bank at.0 b.mark bank_fits its.small small images in
        let known : ℕ → Known = known_at (1024 * limit) f.bytes in
        let views = subst (λ (l : ℕ). Stand h at.0 (view_by record_of_slot (1024 * l) f.bytes)) limits its.stands.stands in
        let complete = subst (λ (m : ℕ). Stand h m (view_by record_of_slot (1024 * limit) f.bytes)) marks views in
        let all : Stand h b.mark (perhaps_of known) = stands_same h b.mark (view_by record_of_slot (1024 * limit) f.bytes) (perhaps_of known) (λ n. perhaps_view (view_by record_of_slot (1024 * limit) f.bytes n)) complete in
        let doubts : DoubtsStale b.mark known = λ n r is. absurd (no_doubt (view_by record_of_slot (1024 * limit) f.bytes n) r is) in
        record {
          known = known;
          is_known = known_in f are stands;
          low = omega arith;
          within = omega (arith, its.within);
          stands = subst (λ (p : Phase). StandsInPhase h b p known) (sym idle) (all, doubts);
          images = λ image is.
              let same : image ≡ f.bytes = image_kept (kept f) image (refl, refl) is in
              inl (subst (StandsAt b.bank h b.mark) (sym same) (subst (λ (m : ℕ). StandsAt b.bank h m f.bytes) marks its));
        }

    for_now : (o : Option File) → IfSome o (λ f. AreSlotsOf number limit b.slots f.bytes) → ExtentStands b.extents (option_map kept o) → IfSome o (λ f. opened 4096 f.bytes ≡ holding limit (fields_of b.extents))
        → IfSome o (λ f. StandsAtMark b.bank h f.bytes) → StandsFor h b (option_map kept o)
    for_now None are stands holds at = tt
    for_now (Some f) are stands holds at = standing_for f are stands holds at

    pub opened_stands_for : (file : ℕ) (old mid new : World) → Keeps file old mid → OnlyReads file mid new → IfTold file old (AreSlotsOf number limit b.slots) → ExtentStands b.extents (file_of file mid)
        → IfTold file old (λ bytes. opened 4096 bytes ≡ holding limit (fields_of b.extents)) → IfTold file old (StandsAtMark b.bank h) → StandsFor h b (file_of file new)
    opened_stands_for file old mid new keeps reads are stands holds at =
        let there : file_of file new ≡ option_map kept (file_of file old) = run_end file (λ f. f ≡ file_of file mid) mid new reads ∙ keeps in
        subst (StandsFor h b) (sym there) (for_now (file_of file old) are (subst (ExtentStands b.extents) keeps stands) holds at)

  -- it is that of its bytes
  of_bytes : (o : Option File) (bank : ℕ) → fields_of b.extents ≡ bank_image bank b.mark → b.mark ≤ number → IfSome o (λ f. AreSlotsOf number limit b.slots f.bytes)
      → IfSome o (λ f. opened 4096 f.bytes ≡ holding limit (fields_of b.extents)) → IfSome o (λ f. IsBankOf bank number b f.bytes)
  of_bytes None bank fields low are holds = tt
  of_bytes (Some f) bank fields low are holds = record {
    in_order = record {
      head = record { holds = holds ∙ ap (holding limit) fields; not_above = low };
      long = are.long;
      slots = are.lawful;
    };
    known = are.known;
  }

  pub opened_of_bytes : (file : ℕ) (old : World) (bank : ℕ) → fields_of b.extents ≡ bank_image bank b.mark → b.mark ≤ number → IfTold file old (AreSlotsOf number limit b.slots)
      → IfTold file old (λ bytes. opened 4096 bytes ≡ holding limit (fields_of b.extents)) → IfTold file old (IsBankOf bank number b)
  opened_of_bytes file old bank fields low are holds = of_bytes (file_of file old) bank fields low are holds

-- it is sound
pub opened_sound : (file bank mark number : ℕ) (e : ExtentState) (slots : List Kept) → e.pair.file ≡ file → e.most ≡ 4096 → limit_of e ≤ 4096 → fields_of e ≡ bank_image bank mark → IsSettled e → AreKeptInside (1024 * limit_of e) slots
    → IsSound file (record { extents = e; bank = bank; mark = mark; reached = mark; phase = Idle; run = []; slots = slots })
opened_sound file bank mark number e slots its most high fields settled inside = record {
  number = its;
  most = most;
  high = high;
  fields = fields;
  tried = ap fields_in settled.tried ∙ fields;
  limits = omega (arith, ap limit_in settled.tried);
  reached = omega arith;
  inside = inside.inside;
  apart = λ i j d low within e. omega (arith, inside.ascending i j d low within);
  run_inside = λ k d low. absurd (omega arith);
  run_ascending = λ i j d low within. absurd (omega arith);
  run_kept = λ k d low shut. let is_open = inside.opened k d low in cc (is_open, shut);
}
