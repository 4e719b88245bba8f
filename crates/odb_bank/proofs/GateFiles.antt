-- What writing the gates of a run leaves of the file, and of what it stands for.
use Rattle.std.proofs.Common.{◌≡◌, ◌≢◌, inl, inr, ℕ, ◌^◌, ◌<◌, ◌≤◌, Bool, true, false, List, [], ◌∷◌, length, get_or, Option, Some, None, sym, ◌∙◌, ap, subst, refl, arith}
use Rattle.std.specs.Prelude.{if◌then◌else◌, map, slice_get}
use Rattle.std.specs.List.{All, AllPairs}
use Rattle.std.proofs.lemmas.List.{length-map}
use Rattle.std.proofs.lemmas.Option.{slice_get-get_or, get_or_from_slice_get}
use Rattle.odb_device.specs.World.{File, World, file_of}
use Rattle.odb_device.specs.Images.{IsImage, EachImage}
use Rattle.odb_device.specs.Moments.{Runs}
use Rattle.odb_device.specs.TornSets.{TornInFrom}
use Rattle.odb_device.proofs.Time.{weakens}
use Rattle.odb_extent.specs.Standing.{limit_of, limit_tried, fields_of, fields_tried, IsFileOf as IsExtentFile, HoldsAt, HoldsKept}
use Rattle.odb_slots.specs.Slots.{OPEN}
use Rattle.odb_slots.specs.Sets.{GatesOf, IsOneOf, HaveGates}
use Rattle.odb_bank.specs.declared.kept.Gate.{Gate}
use Rattle.odb_bank.specs.declared.kept.Gate.TheVariants.{Shut, Open, Doubtful}
use Rattle.odb_bank.specs.declared.kept.Kept.{Kept}
use Rattle.odb_bank.specs.declared.phase.Phase.{Phase}
use Rattle.odb_bank.specs.declared.phase.Phase.TheVariants.{Idle, Bodies, Gates}
use Rattle.odb_bank.specs.History.{History}
use Rattle.odb_bank.specs.Records.{Record}
use Rattle.odb_bank.specs.Stands.{Stands as Stand}
use Rattle.odb_bank.specs.Known.{Known, held, either, behind_gate, sure, perhaps, sure_of, Become}
use Rattle.odb_bank.specs.Turns.{AllStand, IsQuiet, IsQuietBeside, Waits, HoldsRun}
use Rattle.odb_bank.specs.Fields.{bank_image}
use Rattle.odb_bank.specs.Files.{StandsAt}
use Rattle.odb_bank.specs.Bank.{BankState, slot_limit, AreKnownBy, IsBankFile, IsKnownIn, Stands, IsStandingFor, StandsFor, StandsByMark, StandsInPhase, IsUsed, IsSound, KeepsRun, TriesMark}
use Rattle.odb_bank.specs.Gates.{is_in, with_gate}
use Rattle.odb_bank.proofs.Steps.{stands_same}
use Rattle.odb_bank.proofs.Standing.{all_opening, all_opened}
use Rattle.odb_bank.proofs.Holding.{image_at}
use Rattle.odb_bank.proofs.GateTurn.{map_at, at_map, slot_with, out_one, noted, HaveRecords, become_noted, run_records, kept_noted, image_noted, image_opened}

-- nothing but the mark kept is tried
pub record IsMarked (b : BankState) : Type 0 where
  pub holds : (bytes : List ℕ) → IsExtentFile b.extents bytes → HoldsKept b.extents bytes
  pub limits : limit_of b.extents ≤ limit_tried b.extents
  pub most : b.extents.most ≡ 4096
  pub fields : fields_of b.extents ≡ bank_image b.bank b.mark
  pub tried : fields_tried b.extents ≡ bank_image b.bank b.mark
  pub small : b.mark < 2 ^ 64

module _ (b : BankState) (marked : IsMarked b) (h : History) (within : b.mark ≤ h.count) (known : ℕ → Known) (image : List ℕ) (is : IsBankFile b known image) (all : AllStand h b.mark known) where
  at_limit : (l : ℕ) (fields : List ℕ) → limit_of b.extents ≤ l → fields ≡ bank_image b.bank b.mark → HoldsAt b.extents l fields image → StandsAt b.bank h b.mark image
  at_limit l fields low same at = image_at b.extents b.bank known image is.slots h b.mark l marked.small within marked.most low (subst (λ (f : List ℕ). HoldsAt b.extents l f image) same at) all

  pub marked_image : StandsAt b.bank h b.mark image
  marked_image = elim (marked.holds image is.extents) [
    | inl kept ↦ at_limit (limit_of b.extents) (fields_of b.extents) (omega arith) marked.fields kept
    | inr tried ↦ at_limit (limit_tried b.extents) (fields_tried b.extents) marked.limits marked.tried tried
  ]

-- the bank in another phase, with other notes of its gates
abbrev pub with_slots : BankState → Phase → List Kept → BankState
with_slots b phase slots = record b { phase = phase; slots = slots }

pub again_with : (run : List ℕ) (slots : List Kept) → map (with_gate run Open) (map (with_gate run Doubtful) slots) ≡ map (with_gate run Open) slots
again_with run slots = go slots
  where
    one : (it : Kept) (b : Bool) → is_in run it.slot ≡ b → with_gate run Open (with_gate run Doubtful it) ≡ with_gate run Open it
    one it true is = ap (λ (c : Bool). with_gate run Open (if c then record it { gate = Doubtful } else it)) is
        ∙ ap (λ (c : Bool). if c then record it { gate = Open } else record it { gate = Doubtful }) is
        ∙ sym (ap (λ (c : Bool). if c then record it { gate = Open } else it) is)
    one it false is = ap (λ (c : Bool). with_gate run Open (if c then record it { gate = Doubtful } else it)) is

    go : (xs : List Kept) → map (with_gate run Open) (map (with_gate run Doubtful) xs) ≡ map (with_gate run Open) xs
    go [] = refl
    go (x ∷ xs) = let head = one x (is_in run x.slot) refl in let rest = go xs in cc (head, rest)

module _ (b : BankState) (file : ℕ) (sound : IsSound file b) (phase : b.phase ≡ Bodies) where
  run_low : (n : ℕ) → IsOneOf b.run n → n < slot_limit b
  run_low n one = let all = sound.run_inside one.0 0 one.1 in omega (arith, all, one.2)

  run_used : (n : ℕ) → IsOneOf b.run n → IsUsed b.slots n
  run_used = let keeps : KeepsRun b Bodies = subst (λ (p : Phase). KeepsRun b p) phase sound.run_kept in keeps.0

  run_shut : All (λ it. it.gate ≡ Shut → IsOneOf b.run it.slot) b.slots
  run_shut = let keeps : KeepsRun b Bodies = subst (λ (p : Phase). KeepsRun b p) phase sound.run_kept in keeps.1

  -- the file, where this is known of it
  module _ (known : ℕ → Known) (f : File) (is : IsKnownIn b known f) where
    there : HaveRecords b.run known
    there = run_records b.run b.slots known is.kept run_used

    module _ (g : File) (end : ℕ) (torn : TornInFrom (GatesOf (IsOneOf b.run)) end (Some f) (Some g)) where
      pub doubted_images : (image : List ℕ) → IsImage g image → IsBankFile b (noted b.run either known) image
      doubted_images image at = let was = torn image at in image_noted b b.run known end was.0 image there run_low (is.images was.0 was.1) was.2

      pub doubted_in : (p : Phase) (slots : List Kept) → slots ≡ map (with_gate b.run Doubtful) b.slots → IsKnownIn (with_slots b p slots) (noted b.run either known) g
      doubted_in p slots same = record {
        kept = subst (λ (l : List Kept). AreKnownBy l (noted b.run either known)) (sym same) (kept_noted b.run Doubtful b.slots known is.kept);
        images = λ image at. let file = doubted_images image at in record { extents = file.extents; slots = file.slots };
      }

      pub opened_in : (p : Phase) (slots : List Kept) → slots ≡ map (with_gate b.run Open) b.slots → EachImage (HaveGates OPEN b.run (length b.run)) (Some g)
          → IsKnownIn (with_slots b p slots) (noted b.run held known) g
      opened_in p slots same done = record {
        kept = subst (λ (l : List Kept). AreKnownBy l (noted b.run held known)) (sym same) (kept_noted b.run Open b.slots known is.kept);
        images = λ image at. let file = image_opened b b.run known image there (doubted_images image at) (done image at) in record { extents = file.extents; slots = file.slots };
      }

-- while the gates of the run are in doubt, and once they are open
waits_behind : (k : Known) (r : Record) → Waits k r → behind_gate k ≡ Some r
waits_behind k r (inl e) = ap behind_gate e
waits_behind k r (inr e) = ap behind_gate e

waits_sure : (k : Known) (r : Record) → Waits k r → sure k ≡ None
waits_sure k r (inl e) = ap sure e
waits_sure k r (inr e) = ap sure e

module _ (h : History) (a reached : ℕ) (S : ℕ → Type 0) (known later : ℕ → Known) (run : HoldsRun h a reached S known) (quiet : IsQuietBeside S known) where
  module _ (become : Become S either known later) where
    later_is : (n : ℕ) → S n → (r : Record) → Waits (known n) r → later n ≡ either r
    later_is n one r waits = elim (become n) [
      | inl other ↦ absurd (other.0 one)
      | inr this ↦ let t = this.1 in let behind = waits_behind (known n) r waits in let same : t.0 ≡ r = cc (t.1, behind) in t.2 ∙ ap either same
    ]

    sure_later : (n : ℕ) → sure (later n) ≡ sure (known n)
    sure_later n = elim (become n) [
      | inl other ↦ ap sure other.1
      | inr this ↦ let t = this.1 in let r = run.each n this.0 in ap sure t.2 ∙ sym (waits_sure (known n) r.0 r.1)
    ]

    run_later : HoldsRun h a reached S later
    run_later = record {
      within = run.within;
      each = λ n one. let r = run.each n one in (r.0, inr (later_is n one r.0 r.1), r.2);
      all = λ key j last above. let r = run.all key j last above in (r.0, r.1, r.2, inr (later_is r.0 r.2 r.1 r.3), r.4, r.5);
    }

    quiet_later : IsQuietBeside S later
    quiet_later n out = elim (become n) [
      | inl other ↦ ap perhaps other.1 ∙ quiet n out ∙ sym (ap sure other.1)
      | inr this ↦ absurd (out this.0)
    ]

  all_quiet : Become S held known later → (n : ℕ) → perhaps (later n) ≡ sure (later n)
  all_quiet become n = elim (become n) [
    | inl other ↦ ap perhaps other.1 ∙ quiet n other.0 ∙ sym (ap sure other.1)
    | inr this ↦ let t = this.1 in ap perhaps t.2 ∙ sym (ap sure t.2)
  ]

module _ (b : BankState) (file : ℕ) (sound : IsSound file b) (phase : b.phase ≡ Bodies) (h : History) (f : File) (standing : IsStandingFor h b f) where
  stands_so : StandsInPhase h b Bodies standing.known
  stands_so = subst (λ (p : Phase). StandsInPhase h b p standing.known) phase standing.stands

  records_there : HaveRecords b.run standing.known
  records_there = let is = standing.is_known in run_records b.run b.slots standing.known is.kept (run_used b file sound phase)

  S : ℕ → Type 0
  S = IsOneOf b.run

  becomes : (to : Record → Known) → Become (IsOneOf b.run) to standing.known (noted b.run to standing.known)
  becomes to = become_noted b.run to standing.known records_there

  pub all_doubted : AllStand h b.mark (noted b.run either standing.known)
  all_doubted =
      let so = stands_so in
      all_opening h b.mark b.reached (IsOneOf b.run) standing.known (noted b.run either standing.known) either (λ r. refl) (λ r. inl refl) so.2 so.1 (becomes either) b.mark standing.low so.0

  pub moment_at : (marked : IsMarked b) (g : File) (end : ℕ) → TornInFrom (GatesOf (IsOneOf b.run)) end (Some f) (Some g) → (image : List ℕ) → IsImage g image → StandsAt b.bank h b.mark image
  moment_at marked g end torn image at =
      marked_image b marked h (omega (arith, standing.low, standing.within)) (noted b.run either standing.known) image
      (doubted_images b file sound phase standing.known f standing.is_known g end torn image at) all_doubted

  module _ (marked : IsMarked b) (g : File) (end : ℕ) (torn : TornInFrom (GatesOf (IsOneOf b.run)) end (Some f) (Some g)) (slots : List Kept) where
    pub stands_doubted : slots ≡ map (with_gate b.run Doubtful) b.slots → IsStandingFor h (with_slots b Bodies slots) g
    stands_doubted same =
        let so = stands_so in
        let known = standing.known in
        let later = noted b.run either known in
        let stand : Stand h b.mark (sure_of later) = stands_same h b.mark (sure_of known) (sure_of later) (sure_later h b.mark b.reached (IsOneOf b.run) known later so.1 so.2 (becomes either)) so.0 in
        record {
          known = later;
          is_known = doubted_in b file sound phase known f standing.is_known g end torn Bodies slots same;
          low = standing.low;
          within = standing.within;
          stands = (stand, run_later h b.mark b.reached (IsOneOf b.run) known later so.1 so.2 (becomes either), quiet_later h b.mark b.reached (IsOneOf b.run) known later so.1 so.2 (becomes either));
          images = λ image at. inl (moment_at marked g end torn image at);
        }

    pub stands_open : slots ≡ map (with_gate b.run Open) b.slots → EachImage (HaveGates OPEN b.run (length b.run)) (Some g) → IsStandingFor h (with_slots b Gates slots) g
    stands_open same done =
        let so = stands_so in
        let known = standing.known in
        let later = noted b.run held known in
        let quiet : IsQuiet later = all_quiet h b.mark b.reached (IsOneOf b.run) known later so.1 so.2 (becomes held) in
        record {
          known = later;
          is_known = opened_in b file sound phase known f standing.is_known g end torn Gates slots same done;
          low = standing.low;
          within = standing.within;
          stands = (
            all_opening h b.mark b.reached (IsOneOf b.run) known later held (λ r. refl) (λ r. inr refl) so.2 so.1 (becomes held) b.mark standing.low so.0,
            all_opened h b.mark b.reached (IsOneOf b.run) known later held (λ r. refl) (λ r. inr refl) so.2 so.1 (becomes held) standing.low quiet so.0,
            quiet,
          );
          images = λ image at. inl (moment_at marked g end torn image at);
        }

-- of a file that may not be told
module _ (b : BankState) (file : ℕ) (sound : IsSound file b) (phase : b.phase ≡ Bodies) (end : ℕ) where
  pub gates_doubt : (p : Phase) (slots : List Kept) (o now : Option File) → slots ≡ map (with_gate b.run Doubtful) b.slots → Stands b o → TornInFrom (GatesOf (IsOneOf b.run)) end o now → Stands (with_slots b p slots) now
  gates_doubt p slots None now same stands torn = subst (Stands (with_slots b p slots)) (sym torn) tt
  gates_doubt p slots (Some f) None same stands torn = tt
  gates_doubt p slots (Some f) (Some g) same stands torn = (noted b.run either stands.0, doubted_in b file sound phase stands.0 f stands.1 g end torn p slots same)

  pub gates_open : (p : Phase) (slots : List Kept) (o now : Option File) → slots ≡ map (with_gate b.run Open) (map (with_gate b.run Doubtful) b.slots) → Stands b o → TornInFrom (GatesOf (IsOneOf b.run)) end o now
      → EachImage (HaveGates OPEN b.run (length b.run)) now → Stands (with_slots b p slots) now
  gates_open p slots None now same stands torn done = subst (Stands (with_slots b p slots)) (sym torn) tt
  gates_open p slots (Some f) None same stands torn done = tt
  gates_open p slots (Some f) (Some g) same stands torn done = (noted b.run held stands.0, opened_in b file sound phase stands.0 f stands.1 g end torn p slots (same ∙ again_with b.run b.slots) done)

  pub history_doubts : (marked : IsMarked b) (h : History) (slots : List Kept) (o now : Option File) → slots ≡ map (with_gate b.run Doubtful) b.slots → StandsFor h b o → TornInFrom (GatesOf (IsOneOf b.run)) end o now
      → StandsFor h (with_slots b Bodies slots) now
  history_doubts marked h slots None now same stands torn = subst (StandsFor h (with_slots b Bodies slots)) (sym torn) tt
  history_doubts marked h slots (Some f) None same stands torn = tt
  history_doubts marked h slots (Some f) (Some g) same stands torn = stands_doubted b file sound phase h f stands marked g end torn slots same

  pub history_opens : (marked : IsMarked b) (h : History) (slots : List Kept) (o now : Option File) → slots ≡ map (with_gate b.run Open) (map (with_gate b.run Doubtful) b.slots) → StandsFor h b o → TornInFrom (GatesOf (IsOneOf b.run)) end o now
      → EachImage (HaveGates OPEN b.run (length b.run)) now → StandsFor h (with_slots b Gates slots) now
  history_opens marked h slots None now same stands torn done = subst (StandsFor h (with_slots b Gates slots)) (sym torn) tt
  history_opens marked h slots (Some f) None same stands torn done = tt
  history_opens marked h slots (Some f) (Some g) same stands torn done = stands_open b file sound phase h f stands marked g end torn slots (same ∙ again_with b.run b.slots) done

  pub moments_stand : (marked : IsMarked b) (h : History) (o now : Option File) → StandsFor h b o → TornInFrom (GatesOf (IsOneOf b.run)) end o now → EachImage (StandsByMark h b) now
  moments_stand marked h None now stands torn = subst (EachImage (StandsByMark h b)) (sym torn) tt
  moments_stand marked h (Some f) None stands torn = tt
  moments_stand marked h (Some f) (Some g) stands torn = λ image at. inl (moment_at b file sound phase h f stands marked g end torn image at)

  -- at each moment
  pub gates_run : (marked : IsMarked b) (h : History) (at : ℕ) (old new : World) → StandsFor h b (file_of at old) → Runs at (TornInFrom (GatesOf (IsOneOf b.run)) end (file_of at old)) old new → Runs at (EachImage (StandsByMark h b)) old new
  gates_run marked h at old new stands run = weakens at (TornInFrom (GatesOf (IsOneOf b.run)) end (file_of at old)) (EachImage (StandsByMark h b)) old new (λ o torn. moments_stand marked h (file_of at old) o stands torn) run

-- what memory keeps stays sound
slot_at : (run : List ℕ) (gate : Gate) (xs : List Kept) (k : ℕ) (d : Kept) → k < length (map (with_gate run gate) xs) → (x : Kept) × (slice_get xs k ≡ Some x) × ((get_or (map (with_gate run gate) xs) k d).slot ≡ x.slot)
slot_at run gate xs k d low =
    let there = map_at (with_gate run gate) xs k (get_or (map (with_gate run gate) xs) k d) (slice_get-get_or (map (with_gate run gate) xs) k d low) in
    (there.0, there.1, ap (λ (x : Kept). x.slot) there.2 ∙ slot_with run gate there.0)

module _ (file : ℕ) (b : BankState) (sound : IsSound file b) (run : List ℕ) (gate : Gate) where
  inside_noted : All (λ it. it.slot < slot_limit b) (map (with_gate run gate) b.slots)
  inside_noted k d low =
      let there = slot_at run gate b.slots k d low in
      let was : k < length b.slots = omega (arith, low, length-map b.slots (with_gate run gate)) in
      let inside = sound.inside k there.0 was in
      let same = get_or_from_slice_get b.slots k there.0 there.0 there.1 in
      omega (arith, inside, there.2, ap (λ (x : Kept). x.slot) same)

  apart_noted : AllPairs (λ a c. a.slot ≢ c.slot) (map (with_gate run gate) b.slots)
  apart_noted i j d low within e =
      let long = length-map b.slots (with_gate run gate) in
      let one = slot_at run gate b.slots i d (omega arith) in
      let other = slot_at run gate b.slots j d within in
      let here = get_or_from_slice_get b.slots i one.0 d one.1 in
      let there = get_or_from_slice_get b.slots j other.0 d other.1 in
      let same : (get_or b.slots i d).slot ≡ (get_or b.slots j d).slot = omega (arith, e, one.2, other.2, ap (λ (x : Kept). x.slot) here, ap (λ (x : Kept). x.slot) there) in
      sound.apart i j d low (omega (arith, within, long)) same

  used_noted : (n : ℕ) → IsUsed b.slots n → IsUsed (map (with_gate run gate) b.slots) n
  used_noted n used = (used.0, with_gate run gate used.1, at_map (with_gate run gate) b.slots used.0 used.1 used.2, slot_with run gate used.1 ∙ used.3)

  module _ (p : Phase) (tried : TriesMark b p) (keeps : KeepsRun (with_slots b p (map (with_gate run gate) b.slots)) p) where
    pub sound_by : IsSound file (with_slots b p (map (with_gate run gate) b.slots))
    sound_by = record {
      number = sound.number;
      most = sound.most;
      high = sound.high;
      fields = sound.fields;
      tried = tries p tried;
      limits = sound.limits;
      reached = sound.reached;
      inside = inside_noted;
      apart = apart_noted;
      run_inside = sound.run_inside;
      run_ascending = sound.run_ascending;
      run_kept = keeps;
    }
      where
        tries : (q : Phase) → TriesMark b q → TriesMark (with_slots b p (map (with_gate run gate) b.slots)) q
        tries Idle t = t
        tries Bodies t = t
        tries Gates t = t

module _ (file : ℕ) (b : BankState) (sound : IsSound file b) (phase : b.phase ≡ Bodies) where
  tried_so : TriesMark b Bodies
  tried_so = subst (λ (p : Phase). TriesMark b p) phase sound.tried

  -- a note of a gate that isn't closed
  not_shut : (gate : Gate) → (gate ≡ Shut → ⊥) → (x : Kept) → (x.gate ≡ Shut → IsOneOf b.run x.slot) → (c : Bool) → is_in b.run x.slot ≡ c → (if c then record x { gate = gate } else x).gate ≡ Shut → ⊥
  not_shut gate other x shut true is e = other e
  not_shut gate other x shut false is e = out_one b.run x.slot is (shut e)

  no_shut : (gate : Gate) → (gate ≡ Shut → ⊥) → All (λ it. it.gate ≢ Shut) (map (with_gate b.run gate) b.slots)
  no_shut gate other k d low e =
      let there = map_at (with_gate b.run gate) b.slots k (get_or (map (with_gate b.run gate) b.slots) k d) (slice_get-get_or (map (with_gate b.run gate) b.slots) k d low) in
      let x = there.0 in
      let was : k < length b.slots = omega (arith, low, length-map b.slots (with_gate b.run gate)) in
      let same = get_or_from_slice_get b.slots k x x there.1 in
      let shut : x.gate ≡ Shut → IsOneOf b.run x.slot = subst (λ (y : Kept). y.gate ≡ Shut → IsOneOf b.run y.slot) same (run_shut b file sound phase k x was) in
      not_shut gate other x shut (is_in b.run x.slot) refl (sym (ap (λ (y : Kept). y.gate) there.2) ∙ e)

  pub marked_so : ((bytes : List ℕ) → IsExtentFile b.extents bytes → HoldsKept b.extents bytes) → b.mark < 2 ^ 64 → IsMarked b
  marked_so holds small = record { holds = holds; limits = sound.limits; most = sound.most; fields = sound.fields; tried = tried_so; small = small }

  pub sound_doubted : (slots : List Kept) → slots ≡ map (with_gate b.run Doubtful) b.slots → IsSound file (with_slots b Bodies slots)
  sound_doubted slots same = subst (λ (l : List Kept). IsSound file (with_slots b Bodies l)) (sym same)
      (sound_by file b sound b.run Doubtful Bodies tried_so ((λ n one. used_noted file b sound b.run Doubtful n (run_used b file sound phase n one)), (λ k d low e. absurd (no_shut Doubtful (λ f. cc f) k d low e))))

  pub sound_open : (slots : List Kept) → slots ≡ map (with_gate b.run Open) (map (with_gate b.run Doubtful) b.slots) → IsSound file (with_slots b Gates slots)
  sound_open slots same = subst (λ (l : List Kept). IsSound file (with_slots b Gates l)) (sym (same ∙ again_with b.run b.slots))
      (sound_by file b sound b.run Open Gates (inl tried_so) (no_shut Open (λ f. cc f)))
