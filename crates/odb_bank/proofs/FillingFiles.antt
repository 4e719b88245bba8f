-- What filling free slots leaves of the file, and of what it stands for.
use Rattle.std.proofs.Common.{◌≡◌, ◌≢◌, inl, inr, ℕ, ◌+◌, ◌<◌, ◌≤◌, List, ◌++◌, length, get_or, Option, Some, None, sym, ◌∙◌, ap, subst, refl, arith}
use Rattle.std.specs.Prelude.{slice_get, IfSome}
use Rattle.std.specs.List.{All, AllPairs}
use Rattle.std.specs.List.Sorted.{IsPermutation}
use Rattle.std.proofs.lemmas.List.Elements.{All-append}
use Rattle.std.proofs.lemmas.Option.{slice_get_within, get_or_from_slice_get, slice_get-get_or}
use Rattle.odb_device.specs.World.{File, World, file_of}
use Rattle.odb_device.specs.Images.{IsImage, EachImage, ReadsImage}
use Rattle.odb_device.specs.Moments.{Runs}
use Rattle.odb_device.specs.TornSets.{TornIn, TornInFrom}
use Rattle.odb_device.proofs.Time.{weakens}
use Rattle.odb_device.proofs.TornSets.{torn_in_widens}
use Rattle.odb_extent.specs.Standing.{limit_of, IsContent}
use Rattle.odb_extent.specs.Laws.{stands_content}
use Rattle.odb_slots.specs.Sets.{BodiesOf, IsOneOf, HasSlot, HasItems, HasRoom}
use Rattle.odb_slots.specs.Bodies.{IsInGrammar}
use Rattle.odb_slots.specs.declared.item.SlotItem.{SlotItem}
use Rattle.odb_model.specs.declared.entry.Entry.{Entry}
use Rattle.odb_model.specs.State.{IsNumberedFrom}
use Rattle.odb_bank.specs.declared.kept.Gate.{Gate}
use Rattle.odb_bank.specs.declared.kept.Gate.TheVariants.{Open, Shut}
use Rattle.odb_bank.specs.declared.kept.Kept.{Kept}
use Rattle.odb_bank.specs.declared.phase.Phase.{Phase}
use Rattle.odb_bank.specs.declared.phase.Phase.TheVariants.{Idle}
use Rattle.odb_bank.specs.History.{History}
use Rattle.odb_bank.specs.Records.{Record, IsWithin}
use Rattle.odb_bank.specs.Stands.{Stands as Stand}
use Rattle.odb_bank.specs.Known.{Known, free, held, sure, perhaps, sure_of, perhaps_of}
use Rattle.odb_bank.specs.Turns.{AllStand, IsQuietBeside}
use Rattle.odb_bank.specs.Spelled.{record_of_slot, item_for, FitsSlot}
use Rattle.odb_bank.specs.Files.{StandsAt}
use Rattle.odb_bank.specs.Bank.{BankState, slot_limit, record_by, known_by, AreKnownBy, IsBankFile, IsKnownIn, Stands, IsStandingFor, StandsFor, StandsInPhase, IsUsed, TriesMark, IsSound}
use Rattle.odb_bank.specs.Begun.{HasItsGate, with_run, KeepsTold}
use Rattle.odb_bank.specs.Latest.{AreLatest}
use Rattle.odb_bank.specs.Filling.{kept_for, AreAssigned, AreOf}
use Rattle.odb_bank.proofs.Behind.{append_cases, append_right, item_there}
use Rattle.odb_bank.proofs.Choice.{find_slot}
use Rattle.odb_bank.proofs.Framing.{bodies_lie}
use Rattle.odb_bank.proofs.GateFiles.{IsMarked, marked_image}
use Rattle.odb_bank.proofs.KnownSlots.{known_bodies, known_filled}
use Rattle.odb_bank.proofs.Numbers.{run_within}
use Rattle.odb_bank.proofs.Permuted.{known_permuted, sound_permuted}
use Rattle.odb_bank.proofs.Spelling.{in_grammar}
use Rattle.odb_bank.proofs.Standing.{all_closing}
use Rattle.odb_bank.proofs.Steps.{stands_same}
use Rattle.odb_bank.proofs.FillingTurn.{filled_by, AreDistinct, kept_filled, are_filled, sure_filled, perhaps_filled, holds_run}

own : (n : ℕ) (body : List ℕ) (one other : ℕ → List ℕ) → record_of_slot n body other ≡ record_of_slot n body one
own n body one other = refl

-- each slot of a list that lies below a limit
pub low_by : (run : List ℕ) (limit : ℕ) → All (λ n. n < limit) run → (n : ℕ) → IsOneOf run n → n < limit
low_by run limit all n one = omega (arith, all one.0 0 one.1, one.2)

module _ (b : BankState) (file : ℕ) (sound : IsSound file b) (phase : b.phase ≡ Idle) (gates : All (λ it. it.gate ≡ Open) b.slots)
    (run : List ℕ) (records : List Record) (items : List SlotItem) (added : List Kept) (assigned : AreAssigned run records items added) (distinct : AreDistinct run)
    (low : (n : ℕ) → IsOneOf run n → n < slot_limit b) (unused : (k : ℕ) (it : Kept) → slice_get b.slots k ≡ Some it → (j : ℕ) → slice_get run j ≡ Some it.slot → ⊥) where
  -- the slot of an item is one of the run
  item_slot : (n : ℕ) → HasSlot items n → (j : ℕ) × (slice_get run j ≡ Some n)
  item_slot n has =
      let within = slice_get_within items has.0 has.1 has.2 in
      let there = item_there records has.0 (omega (arith, within, assigned.as_many)) in
      let given = assigned.each has.0 there.0 there.1 in
      let one = given.item in
      let two = has.2 in
      let same : has.1 ≡ item_for given.slot there.0 = cc (one, two) in
      let slot : given.slot ≡ n = sym (ap (λ (i : SlotItem). i.slot) same) ∙ has.3 in
      (has.0, given.is_slot ∙ ap Some slot)

  item_low : (n : ℕ) → HasSlot items n → n < slot_limit b
  item_low n has = let there = item_slot n has in low n (there.0, slice_get_within run there.0 n there.1, get_or_from_slice_get run there.0 n 0 there.1)

  slot_low : (j n : ℕ) → slice_get run j ≡ Some n → n < slot_limit b
  slot_low j n is = low n (j, slice_get_within run j n is, get_or_from_slice_get run j n 0 is)

  slot_at : (n : ℕ) (one : IsOneOf run n) → slice_get run one.0 ≡ Some n
  slot_at n one = slice_get-get_or run one.0 0 one.1 ∙ ap Some one.2

  -- what is written fits its slots
  given_item : (k : ℕ) (item : SlotItem) → slice_get items k ≡ Some item → (n : ℕ) × (r : Record) × (slice_get run k ≡ Some n) × (item ≡ item_for n r) × FitsSlot r
  given_item k item is =
      let there = item_there records k (omega (arith, slice_get_within items k item is, assigned.as_many)) in
      let given = assigned.each k there.0 there.1 in
      let one = given.item in
      (given.slot, there.0, given.is_slot, cc (one, is), given.fits)

  pub items_below : All (λ item. item.slot < 4194304) items
  items_below k d within =
      let there = given_item k (get_or items k d) (slice_get-get_or items k d within) in
      omega (arith, slot_low k there.0 there.2, ap (λ (i : SlotItem). i.slot) there.3, sound.high)

  pub items_grammar : All IsInGrammar items
  items_grammar k d within =
      let there = given_item k (get_or items k d) (slice_get-get_or items k d within) in
      subst IsInGrammar (sym there.3) (in_grammar there.0 there.1 there.4)

  pub items_apart : AllPairs (λ a c. a.slot ≢ c.slot) items
  items_apart i j d before within same =
      let one = given_item i (get_or items i d) (slice_get-get_or items i d (omega (arith, before, within))) in
      let other = given_item j (get_or items j d) (slice_get-get_or items j d within) in
      let slots : one.0 ≡ other.0 = sym (ap (λ (x : SlotItem). x.slot) one.3) ∙ same ∙ ap (λ (x : SlotItem). x.slot) other.3 in
      let places = distinct i j other.0 (one.2 ∙ ap Some slots) other.2 in
      omega (arith, before, places)

  pub items_room : (o : Option File) → ReadsImage o → Stands b o → IfSome o (λ f. HasRoom items f.bytes)
  items_room None reads stands = tt
  items_room (Some f) reads stands = λ k d within.
      let there = given_item k (get_or items k d) (slice_get-get_or items k d within) in
      let known = stands.1 in
      let here = known.images f.bytes reads in
      let long = here.slots.long in
      omega (arith, slot_low k there.0 there.2, ap (λ (i : SlotItem). i.slot) there.3, long)

  -- what memory keeps then
  in_added : (j : ℕ) (it : Kept) → slice_get added j ≡ Some it → (r : Record) × (slice_get run j ≡ Some it.slot) × (it ≡ kept_for it.slot r)
  in_added j it is =
      let there = item_there records j (omega (arith, slice_get_within added j it is, assigned.keeps)) in
      let given = assigned.each j there.0 there.1 in
      let keeps = given.keeps in
      let same : it ≡ kept_for given.slot there.0 = cc (is, keeps) in
      let slot : it.slot ≡ given.slot = ap (λ (x : Kept). x.slot) same in
      (there.0, given.is_slot ∙ ap Some (sym slot), same ∙ ap (λ (n : ℕ). kept_for n there.0) (sym slot))

  added_in : (k : ℕ) (d : Kept) → k < length added → (r : Record) × (slice_get run k ≡ Some (get_or added k d).slot) × (get_or added k d ≡ kept_for (get_or added k d).slot r)
  added_in k d within = in_added k (get_or added k d) (slice_get-get_or added k d within)

  added_one : (k : ℕ) (d : Kept) → k < length added → IsOneOf run (get_or added k d).slot
  added_one k d within =
      let there = added_in k d within in
      (k, slice_get_within run k (get_or added k d).slot there.1, get_or_from_slice_get run k (get_or added k d).slot 0 there.1)

  each_inside : All (λ it. it.slot < slot_limit b) (b.slots ++ added)
  each_inside = All-append (λ it. it.slot < slot_limit b) b.slots added sound.inside (λ k d within. let there = added_in k d within in slot_low k (get_or added k d).slot there.1)

  apart_old : (i j : ℕ) (a c : Kept) → i < j → slice_get b.slots i ≡ Some a → slice_get b.slots j ≡ Some c → a.slot ≡ c.slot → ⊥
  apart_old i j a c before at_i at_j same =
      let one = get_or_from_slice_get b.slots i a a at_i in
      let other = get_or_from_slice_get b.slots j c a at_j in
      sound.apart i j a before (slice_get_within b.slots j c at_j) (ap (λ (z : Kept). z.slot) one ∙ same ∙ sym (ap (λ (z : Kept). z.slot) other))

  apart_at : (i j : ℕ) (a c : Kept) → i < j → slice_get (b.slots ++ added) i ≡ Some a → slice_get (b.slots ++ added) j ≡ Some c → a.slot ≡ c.slot → ⊥
  apart_at i j a c before at_i at_j same = elim (append_cases b.slots added i a at_i) [
    | inl old_i ↦ elim (append_cases b.slots added j c at_j) [
      | inl old_j ↦ apart_old i j a c before old_i old_j same
      | inr new_j ↦ let there = in_added new_j.0 c new_j.1 in unused i a old_i new_j.0 (there.1 ∙ ap Some (sym same))
    ]
    | inr new_i ↦ elim (append_cases b.slots added j c at_j) [
      | inl old_j ↦ omega (arith, before, new_i.2, slice_get_within b.slots j c old_j)
      | inr new_j ↦
          let one = in_added new_i.0 a new_i.1 in
          let other = in_added new_j.0 c new_j.1 in
          let places = distinct new_i.0 new_j.0 c.slot (one.1 ∙ ap Some same) other.1 in
          omega (arith, before, new_i.2, new_j.2, places)
    ]
  ]

  each_apart : AllPairs (λ a c. a.slot ≢ c.slot) (b.slots ++ added)
  each_apart i j d before within same =
      apart_at i j (get_or (b.slots ++ added) i d) (get_or (b.slots ++ added) j d) before (slice_get-get_or (b.slots ++ added) i d (omega (arith, before, within))) (slice_get-get_or (b.slots ++ added) j d within) same

  run_used : (n : ℕ) → IsOneOf run n → IsUsed (b.slots ++ added) n
  run_used n one =
      let there = item_there records one.0 (omega (arith, one.1, assigned.slots)) in
      let given = assigned.each one.0 there.0 there.1 in
      let is = given.is_slot in
      let at = slot_at n one in
      let slot : given.slot ≡ n = cc (is, at) in
      (length b.slots + one.0, kept_for given.slot there.0, append_right b.slots added one.0 (kept_for given.slot there.0) given.keeps, slot)

  shut_run : All (λ it. it.gate ≡ Shut → IsOneOf run it.slot) (b.slots ++ added)
  shut_run = All-append (λ it. it.gate ≡ Shut → IsOneOf run it.slot) b.slots added
      (λ k d within shut. let open_gate = gates k d within in absurd (cc (open_gate, shut))) (λ k d within shut. added_one k d within)

  -- each gate is that of its slot
  pub gates_filled : All (HasItsGate run) (b.slots ++ added)
  gates_filled = All-append (HasItsGate run) b.slots added
      (λ k d within. inr ((λ one. unused k (get_or b.slots k d) (slice_get-get_or b.slots k d within) one.0 (slot_at (get_or b.slots k d).slot one)), gates k d within))
      (λ k d within. let there = added_in k d within in inl (added_one k d within, ap (λ (x : Kept). x.gate) there.2))

  pub filled_sound : (slots : List Kept) (reached : ℕ) → IsPermutation (b.slots ++ added) slots → b.mark ≤ reached → AllPairs (λ a c. a < c) run → IsSound file (with_run b slots run reached)
  filled_sound slots reached same high ascending = sound_permuted (with_run b (b.slots ++ added) run reached) file slots same (record {
    number = sound.number;
    most = sound.most;
    high = sound.high;
    fields = sound.fields;
    tried = subst (TriesMark b) phase sound.tried;
    limits = sound.limits;
    reached = high;
    inside = each_inside;
    apart = each_apart;
    run_inside = λ k d within. slot_low k (get_or run k d) (slice_get-get_or run k d within);
    run_ascending = ascending;
    run_kept = (run_used, shut_run);
  })

  module _ (known : ℕ → Known) (are : AreKnownBy b.slots known) where
    empty : (j n : ℕ) → slice_get run j ≡ Some n → known n ≡ free
    empty j n is = are.others n (λ k it at same. unused k it at j (is ∙ ap Some (sym same)))

    later : ℕ → Known
    later = filled_by run records known

    image_torn : (end : ℕ) (before image : List ℕ) → IsBankFile b known before → TornIn (BodiesOf (HasSlot items)) end before image → IsBankFile b known image
    image_torn end before image is torn = record {
      extents = stands_content b.extents end before image is.extents
          (torn_in_widens (BodiesOf (HasSlot items)) (IsContent (limit_of b.extents)) end end before image (bodies_lie (limit_of b.extents) (HasSlot items) item_low) (omega arith) torn);
      slots = known_bodies record_of_slot own (HasSlot items) (slot_limit b) end known before image (λ n has. let there = item_slot n has in empty there.0 n there.1) is.slots torn;
    }

    image_filled : (image : List ℕ) → HasItems items image → IsBankFile b known image → IsBankFile b (filled_by run records known) image
    image_filled image has is = record {
      extents = is.extents;
      slots = known_filled record_of_slot own items (slot_limit b) known (filled_by run records known) image (are_filled run records items added assigned distinct b.slots known are unused empty) has item_low is.slots;
    }

    -- nothing is in doubt
    quiet_by : (k : ℕ) (it : Kept) → slice_get b.slots k ≡ Some it → perhaps (known it.slot) ≡ sure (known it.slot)
    quiet_by k it is =
        let by = are.each k it is in
        let at = get_or_from_slice_get b.slots k it it is in
        let open_gate : it.gate ≡ Open = subst (λ (x : Kept). x.gate ≡ Open) at (gates k it (slice_get_within b.slots k it is)) in
        let so : known it.slot ≡ held (record_by it by.row) = by.is ∙ ap (λ (g : Gate). known_by g (record_by it by.row)) open_gate in
        ap perhaps so ∙ sym (ap sure so)

    quiet : (n : ℕ) → perhaps (known n) ≡ sure (known n)
    quiet n = elim (find_slot b.slots n) [
      | inr never ↦ let none = are.others n never in ap perhaps none ∙ sym (ap sure none)
      | inl there ↦ subst (λ (m : ℕ). perhaps (known m) ≡ sure (known m)) there.3 (quiet_by there.0 there.1 there.2)
    ]

    module _ (f g : File) (end : ℕ) (images : (image : List ℕ) → IsImage f image → IsBankFile b known image) (torn : TornInFrom (BodiesOf (HasSlot items)) end (Some f) (Some g)) where
      pub torn_images : (image : List ℕ) → IsImage g image → IsBankFile b known image
      torn_images image at = let was = torn image at in image_torn end was.0 image (images was.0 was.1) was.2

      pub same_known : IsKnownIn b known g
      same_known = record { kept = are; images = torn_images }

      pub filled_known : (slots : List Kept) (reached : ℕ) → IsPermutation (b.slots ++ added) slots → EachImage (HasItems items) (Some g) → IsKnownIn (with_run b slots run reached) (filled_by run records known) g
      filled_known slots reached same done = record {
        kept = known_permuted (b.slots ++ added) slots (filled_by run records known) same (kept_filled run records items added assigned distinct b.slots known are unused empty);
        images = λ image at. let is = image_filled image (done image at) (torn_images image at) in record { extents = is.extents; slots = is.slots };
      }

  -- and the history
  module _ (h : History) (f : File) (standing : IsStandingFor h b f) where
    so : StandsInPhase h b Idle standing.known
    so = subst (λ (p : Phase). StandsInPhase h b p standing.known) phase standing.stands

    its : AreKnownBy b.slots standing.known
    its = let is = standing.is_known in is.kept

    within_limit : IsWithin (slot_limit b) (perhaps_of standing.known)
    within_limit n past = elim (find_slot b.slots n) [
      | inr never ↦ ap perhaps (its.others n never)
      | inl there ↦
          let inside = sound.inside there.0 there.1 (slice_get_within b.slots there.0 there.1 there.2) in
          let same = get_or_from_slice_get b.slots there.0 there.1 there.1 there.2 in
          absurd (omega (arith, inside, there.3, ap (λ (z : Kept). z.slot) same))
    ]

    all_known : AllStand h b.mark standing.known
    all_known = let both = so in all_closing h b.mark (slot_limit b) standing.known within_limit both.1 both.0

    stand_sure : Stand h b.mark (sure_of (filled_by run records standing.known))
    stand_sure =
        let both = so in
        stands_same h b.mark (perhaps_of standing.known) (sure_of (filled_by run records standing.known))
        (λ n. sure_filled run records items added assigned distinct b.slots standing.known its unused (empty standing.known its) n ∙ sym (quiet standing.known its n)) both.0

    quiet_beside : IsQuietBeside (IsOneOf run) (filled_by run records standing.known)
    quiet_beside n out =
        perhaps_filled run records items added assigned distinct b.slots standing.known its unused (empty standing.known its) n
        ∙ quiet standing.known its n
        ∙ sym (sure_filled run records items added assigned distinct b.slots standing.known its unused (empty standing.known its) n)

    module _ (marked : IsMarked b) (g : File) (end : ℕ) (torn : TornInFrom (BodiesOf (HasSlot items)) end (Some f) (Some g)) where
      pub fill_moment : (image : List ℕ) → IsImage g image → StandsAt b.bank h b.mark image
      fill_moment image at =
          let is = standing.is_known in
          marked_image b marked h (omega (arith, standing.low, standing.within)) standing.known image (torn_images standing.known its f g end is.images torn image at) all_known

      pub same_standing : IsStandingFor h b g
      same_standing = let is = standing.is_known in record {
        known = standing.known;
        is_known = same_known standing.known its f g end is.images torn;
        low = standing.low;
        within = standing.within;
        stands = standing.stands;
        images = λ image at. inl (fill_moment image at);
      }

      pub filled_standing : (entries : List Entry) → IsNumberedFrom (b.mark + 1) entries → AreOf h b.bank entries → AreLatest b.bank entries records
          → (slots : List Kept) → IsPermutation (b.slots ++ added) slots → EachImage (HasItems items) (Some g) → IsStandingFor h (with_run b slots run (b.mark + length entries)) g
      filled_standing entries numbers of_h latest slots same done = let is = standing.is_known in let within = run_within h b.bank b.mark entries numbers of_h (omega (arith, standing.low, standing.within)) in record {
        known = filled_by run records standing.known;
        is_known = filled_known standing.known its f g end is.images torn slots (b.mark + length entries) same done;
        low = omega arith;
        within = within;
        stands = (
          stand_sure,
          holds_run run records items added assigned distinct b.slots standing.known its unused (empty standing.known its) h b.bank b.mark entries numbers of_h within latest,
          quiet_beside,
        );
        images = λ image at. inl (fill_moment image at);
      }

  -- of a file that may not be told
  module _ (end : ℕ) where
    pub fill_fails : (o now : Option File) → Stands b o → TornInFrom (BodiesOf (HasSlot items)) end o now → Stands b now
    fill_fails None now stands torn = subst (Stands b) (sym torn) tt
    fill_fails (Some f) None stands torn = tt
    fill_fails (Some f) (Some g) stands torn = let is = stands.1 in (stands.0, same_known stands.0 is.kept f g end is.images torn)

    pub fill_stands : (slots : List Kept) (reached : ℕ) (o now : Option File) → IsPermutation (b.slots ++ added) slots → Stands b o → TornInFrom (BodiesOf (HasSlot items)) end o now → EachImage (HasItems items) now → Stands (with_run b slots run reached) now
    fill_stands slots reached None now same stands torn done = subst (Stands (with_run b slots run reached)) (sym torn) tt
    fill_stands slots reached (Some f) None same stands torn done = tt
    fill_stands slots reached (Some f) (Some g) same stands torn done = let is = stands.1 in (filled_by run records stands.0, filled_known stands.0 is.kept f g end is.images torn slots reached same done)

    pub fill_told : (slots : List Kept) (reached : ℕ) (o now : Option File) → IsPermutation (b.slots ++ added) slots → TornInFrom (BodiesOf (HasSlot items)) end o now → EachImage (HasItems items) now → KeepsTold b (with_run b slots run reached) o now
    fill_told slots reached None now same torn done = tt
    fill_told slots reached (Some f) None same torn done = tt
    fill_told slots reached (Some f) (Some g) same torn done = λ known is. (
      filled_by run records known,
      filled_known known is.kept f g end is.images torn slots reached same done,
      λ n. (
        sure_filled run records items added assigned distinct b.slots known is.kept unused (empty known is.kept) n,
        perhaps_filled run records items added assigned distinct b.slots known is.kept unused (empty known is.kept) n,
      ),
    )

    pub fill_history_fails : (marked : IsMarked b) (h : History) (o now : Option File) → StandsFor h b o → TornInFrom (BodiesOf (HasSlot items)) end o now → StandsFor h b now
    fill_history_fails marked h None now stands torn = subst (StandsFor h b) (sym torn) tt
    fill_history_fails marked h (Some f) None stands torn = tt
    fill_history_fails marked h (Some f) (Some g) stands torn = same_standing h f stands marked g end torn

    pub fill_history : (marked : IsMarked b) (h : History) (entries : List Entry) → IsNumberedFrom (b.mark + 1) entries → AreOf h b.bank entries → AreLatest b.bank entries records
        → (slots : List Kept) (o now : Option File) → IsPermutation (b.slots ++ added) slots → StandsFor h b o → TornInFrom (BodiesOf (HasSlot items)) end o now → EachImage (HasItems items) now
        → StandsFor h (with_run b slots run (b.mark + length entries)) now
    fill_history marked h entries numbers of_h latest slots None now same stands torn done = subst (StandsFor h (with_run b slots run (b.mark + length entries))) (sym torn) tt
    fill_history marked h entries numbers of_h latest slots (Some f) None same stands torn done = tt
    fill_history marked h entries numbers of_h latest slots (Some f) (Some g) same stands torn done = filled_standing h f stands marked g end torn entries numbers of_h latest slots same done

    fill_moments : (marked : IsMarked b) (h : History) (o now : Option File) → StandsFor h b o → TornInFrom (BodiesOf (HasSlot items)) end o now → EachImage (StandsAt b.bank h b.mark) now
    fill_moments marked h None now stands torn = subst (EachImage (StandsAt b.bank h b.mark)) (sym torn) tt
    fill_moments marked h (Some f) None stands torn = tt
    fill_moments marked h (Some f) (Some g) stands torn = fill_moment h f stands marked g end torn

    pub fill_run : (marked : IsMarked b) (h : History) (at : ℕ) (old new : World) → StandsFor h b (file_of at old) → Runs at (TornInFrom (BodiesOf (HasSlot items)) end (file_of at old)) old new → Runs at (EachImage (StandsAt b.bank h b.mark)) old new
    fill_run marked h at old new stands runs = weakens at (TornInFrom (BodiesOf (HasSlot items)) end (file_of at old)) (EachImage (StandsAt b.bank h b.mark)) old new (λ o torn. fill_moments marked h (file_of at old) o stands torn) runs
