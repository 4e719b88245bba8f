-- From items to the slots of a file: which are lawful, and what is known of them.
use Rattle.std.proofs.Common.{◌≡◌, ◌≢◌, inl, inr, ℕ, ◌+◌, ◌<◌, ◌≤◌, true, false, List, length, get_or, Option, Some, None, Ok, Err, sym, ◌∙◌, ap, subst, refl, arith}
use Rattle.std.specs.Prelude.{slice_get, ⊤}
use Rattle.std.specs.List.{AllPairs}
use Rattle.std.proofs.lemmas.Bool.{cases_lt, cases_eq}
use Rattle.std.proofs.lemmas.Option.{slice_get-get_or, slice_get_within, get_or_from_slice_get}
use Rattle.odb_slots.specs.Slots.{OPEN, slot_place, gate_at, body_at, behind}
use Rattle.odb_slots.specs.Views.{item_of, spelled, IsMalformed}
use Rattle.odb_slots.specs.Answers.{IsSlotOf, AreRecords, IsLeastMalformed, AreItems}
use Rattle.odb_slots.specs.declared.error.SlotError.{SlotError}
use Rattle.odb_slots.specs.declared.error.SlotError.TheVariants.{Fault as SlotFault, Malformed, NoMemory as NoSlotMemory}
use Rattle.odb_slots.specs.declared.item.SlotItem.{SlotItem}
use Rattle.odb_slots.proofs.Places.{view_past, view_at, behind_open, behind_closed}
use Rattle.odb_slots.proofs.Listing.{listed_viewed, viewed_listed, slot_of_open}
use Rattle.odb_bank.specs.declared.error.BankError.{BankError}
use Rattle.odb_bank.specs.declared.error.BankError.TheVariants.{Fault, Damaged, NotNext, Phase as WrongPhase, Limit, NoMemory}
use Rattle.odb_bank.specs.declared.kept.Gate.TheVariants.{Open}
use Rattle.odb_bank.specs.declared.kept.Kept.{Kept}
use Rattle.odb_bank.specs.Known.{free, held}
use Rattle.odb_bank.specs.Spelled.{record_from, record_of_slot}
use Rattle.odb_bank.specs.Bank.{known_by, record_by, IsKnownBy, AreKnownBy}
use Rattle.odb_bank.specs.Opening.{is_lawful, IsDamagedSlot, AreLawful, IsLeastDamaged, held_or_free, known_at}
use Rattle.odb_bank.specs.Refusals.{refusal_of}
use Rattle.odb_bank.specs.Finding.{IsKeptItem, IsItemAnswer, IsSlotChecked, IsDamageBefore, KeepsItems, HasDamagedItem, IsPlaceOfDamage, AreKeptInside}
use Rattle.odb_bank.proofs.Items.{at_place}

own : (n : ℕ) (body : List ℕ) (one other : ℕ → List ℕ) → record_of_slot n body other ≡ record_of_slot n body one
own n body one other = refl

item_own : (n : ℕ) (body : List ℕ) (one other : ℕ → List ℕ) → item_of n body other ≡ item_of n body one
item_own n body one other = refl

-- what an open slot's item says of its record
spelled_by : (n : ℕ) (bytes : List ℕ) (o : Option SlotItem) → spelled item_of n bytes ≡ o → spelled record_of_slot n bytes ≡ record_from o
spelled_by n bytes o is = ap record_from is

-- one slot more is in order
pub lawful_more : (number n : ℕ) (bytes : List ℕ) → (IsDamagedSlot number n bytes → ⊥) → AreLawful number n bytes → AreLawful number (n + 1) bytes
lawful_more number n bytes fine so_far m low damaged = elim (cases_eq m n) [
  | inl last ↦ fine (subst (λ (k : ℕ). IsDamagedSlot number k bytes) last damaged)
  | inr earlier ↦ so_far m (omega arith) damaged
]

pub checked_none : (number n : ℕ) (bytes : List ℕ) → IsSlotOf n (Ok None) bytes → IsDamagedSlot number n bytes → ⊥
checked_none number n bytes answer damaged =
    let none : spelled item_of n bytes ≡ None = sym (behind_open (gate_at n bytes) (spelled item_of n bytes) damaged.0) ∙ sym answer.1 in
    answer.0 (damaged.0, none)

-- the item of a slot that answers with one
item_there : (n : ℕ) (bytes : List ℕ) (item : SlotItem) → IsSlotOf n (Ok (Some item)) bytes → (gate_at n bytes ≡ OPEN) × (spelled item_of n bytes ≡ Some item)
item_there n bytes item answer = elim (cases_eq (gate_at n bytes) OPEN) [
  | inl is_open ↦ (is_open, sym (behind_open (gate_at n bytes) (spelled item_of n bytes) is_open) ∙ sym answer.1)
  | inr closed ↦ let none = behind_closed (gate_at n bytes) (spelled item_of n bytes) closed in let some = answer.1 in absurd (cc (none, some))
]

pub checked_some : (number n : ℕ) (bytes : List ℕ) (item : SlotItem) (it : Kept) → IsSlotOf n (Ok (Some item)) bytes → IsKeptItem number item it → IsDamagedSlot number n bytes → ⊥
checked_some number n bytes item it answer kept damaged =
    let there = item_there n bytes item answer in
    let its : spelled record_of_slot n bytes ≡ Some kept.its = spelled_by n bytes (Some item) there.1 ∙ kept.spells in
    let lawful : is_lawful number (spelled record_of_slot n bytes) ≡ true = ap (is_lawful number) its ∙ kept.lawful in
    let not_so = damaged.1 in
    cc (lawful, not_so)

pub checked_item : (number n : ℕ) (bytes : List ℕ) (item : SlotItem) (e : BankError) → IsSlotOf n (Ok (Some item)) bytes → item.slot ≡ n → IsItemAnswer number item (Err e) → IsSlotChecked {T = ⊤} number n (Err e) bytes
checked_item number n bytes item Fault answer slot damaged = absurd damaged
checked_item number n bytes item (Damaged at) answer slot damaged =
    let there = item_there n bytes item answer in
    (damaged.place ∙ ap slot_place slot, (there.0, ap (is_lawful number) (spelled_by n bytes (Some item) there.1) ∙ damaged.unlawful))
checked_item number n bytes item (NotNext mark first) answer slot damaged = absurd damaged
checked_item number n bytes item (WrongPhase now) answer slot damaged = absurd damaged
checked_item number n bytes item Limit answer slot damaged = absurd damaged
checked_item number n bytes item NoMemory answer slot damaged = tt

malformed_damaged : (number n : ℕ) (bytes : List ℕ) → IsMalformed n bytes → IsDamagedSlot number n bytes
malformed_damaged number n bytes bad = (bad.0, ap (is_lawful number) (spelled_by n bytes None bad.1))

pub checked_refused : (number n : ℕ) (bytes : List ℕ) (e : SlotError) → IsSlotOf n (Err e) bytes → IsSlotChecked {T = ⊤} number n (Err (refusal_of e)) bytes
checked_refused number n bytes SlotFault answer = tt
checked_refused number n bytes (Malformed slot) answer = (ap slot_place answer.0, malformed_damaged number n bytes answer.1)
checked_refused number n bytes NoSlotMemory answer = tt

-- a search that ends at a slot
pub search_breaks : (number n limit : ℕ) (bytes : List ℕ) (e : BankError) → n < limit → IsSlotChecked {T = ⊤} number n (Err e) bytes → AreLawful number n bytes → IsDamageBefore {T = ⊤} number limit (Err e) bytes
search_breaks number n limit bytes Fault low is so_far = tt
search_breaks number n limit bytes (Damaged at) low is so_far =
    let least : IsLeastDamaged number limit bytes n = record { inside = low; damaged = is.1; least = so_far } in
    (n, is.0, least)
search_breaks number n limit bytes (NotNext mark first) low is so_far = absurd is
search_breaks number n limit bytes (WrongPhase now) low is so_far = absurd is
search_breaks number n limit bytes Limit low is so_far = absurd is
search_breaks number n limit bytes NoMemory low is so_far = tt

pub least_malformed : (number limit slot : ℕ) (bytes : List ℕ) → IsLeastMalformed limit bytes slot → AreLawful number slot bytes → IsPlaceOfDamage number limit (slot_place slot) bytes
least_malformed number limit slot bytes is so_far =
    let least : IsLeastDamaged number limit bytes slot = record { inside = is.inside; damaged = malformed_damaged number slot bytes is.is; least = so_far } in
    (slot, refl, least)

pub damage_widens : (number n limit at : ℕ) (bytes : List ℕ) → n ≤ limit → IsPlaceOfDamage number n at bytes → IsPlaceOfDamage number limit at bytes
damage_widens number n limit at bytes more is =
    let was = is.2 in
    let least : IsLeastDamaged number limit bytes is.0 = record { inside = omega (arith, was.inside); damaged = was.damaged; least = was.least } in
    (is.0, is.1, least)

-- of items whose slots ascend, one of a lower slot comes earlier
earlier : (items : List SlotItem) → AllPairs (λ (a b : SlotItem). a.slot < b.slot) items → (p : ℕ) (q : SlotItem) → slice_get items p ≡ Some q → (k : ℕ) (item : SlotItem) → slice_get items k ≡ Some item → item.slot < q.slot → k < p
earlier items ascending p q at k item is below = elim (cases_lt k p) [
  | inl before ↦ before
  | inr from ↦ elim (cases_eq k p) [
    | inl same ↦ let it : item ≡ q = cc (ap (slice_get items) same, is, at) in absurd (omega (arith, ap (λ (i : SlotItem). i.slot) it))
    | inr after ↦
        let low = slice_get_within items k item is in
        let pair = ascending p k item (omega arith) low in
        let one : get_or items p item ≡ q = get_or_from_slice_get items p q item at in
        let other : get_or items k item ≡ item = get_or_from_slice_get items k item item is in
        absurd (omega (arith, pair, ap (λ (i : SlotItem). i.slot) one, ap (λ (i : SlotItem). i.slot) other))
  ]
]

-- what a scan found
module _ (number limit : ℕ) (bytes : List ℕ) (items : List SlotItem) (are : AreRecords limit bytes items) where
  -- an open slot is in the list
  open_listed : (m : ℕ) → m < limit → gate_at m bytes ≡ OPEN → (item : SlotItem) × (spelled item_of m bytes ≡ Some item) × ((k : ℕ) × (slice_get items k ≡ Some item))
  open_listed m low is_open = go (spelled item_of m bytes) refl
    where
      go : (o : Option SlotItem) → spelled item_of m bytes ≡ o → (item : SlotItem) × (spelled item_of m bytes ≡ Some item) × ((k : ℕ) × (slice_get items k ≡ Some item))
      go None none = absurd (are.well_formed m low (is_open, none))
      go (Some item) some =
          let there = viewed_listed limit m bytes item low (view_at item_of item_own limit m bytes low ∙ behind_open (gate_at m bytes) (spelled item_of m bytes) is_open ∙ some) in
          (item, some, (there.0, ap (λ (l : List SlotItem). slice_get l there.0) are.list ∙ there.1))

  -- and what is in the list stands in its slot
  listed_open : (k : ℕ) (item : SlotItem) → slice_get items k ≡ Some item → (item.slot < limit) × (gate_at item.slot bytes ≡ OPEN) × (spelled item_of item.slot bytes ≡ Some item)
  listed_open k item is =
      let there = listed_viewed limit k bytes item (ap (λ (l : List SlotItem). slice_get l k) (sym are.list) ∙ is) in
      let seen : behind (gate_at item.slot bytes) (spelled item_of item.slot bytes) ≡ Some item = sym (view_at item_of item_own limit item.slot bytes there.0) ∙ there.1 in
      elim (cases_eq (gate_at item.slot bytes) OPEN) [
        | inl is_open ↦ (there.0, is_open, sym (behind_open (gate_at item.slot bytes) (spelled item_of item.slot bytes) is_open) ∙ seen)
        | inr closed ↦ let none = behind_closed (gate_at item.slot bytes) (spelled item_of item.slot bytes) closed in absurd (cc (none, seen))
      ]

  module _ (slots : List Kept) (keeps : KeepsItems number items slots) where
    kept_there : (k : ℕ) (item : SlotItem) → slice_get items k ≡ Some item → (it : Kept) × (slice_get slots k ≡ Some it) × IsKeptItem number item it
    kept_there k item is =
        let low = slice_get_within items k item is in
        let there = at_place slots k (omega (arith, keeps.as_many)) in
        (there.0, there.1, keeps.each k item there.0 is there.1)

    item_there_of : (k : ℕ) (it : Kept) → slice_get slots k ≡ Some it → (item : SlotItem) × (slice_get items k ≡ Some item) × IsKeptItem number item it
    item_there_of k it is =
        let low = slice_get_within slots k it is in
        let there = at_place items k (omega (arith, keeps.as_many)) in
        (there.0, there.1, keeps.each k there.0 it there.1 is)

    pub items_lawful : AreLawful number limit bytes
    items_lawful m low damaged =
        let there = open_listed m low damaged.0 in
        let place = there.2 in
        let kept = kept_there place.0 there.0 place.1 in
        let its = kept.2 in
        let lawful : is_lawful number (spelled record_of_slot m bytes) ≡ true = ap (is_lawful number) (spelled_by m bytes (Some there.0) there.1 ∙ its.spells) ∙ its.lawful in
        let not_so = damaged.1 in
        cc (lawful, not_so)

    -- what is known of the slot of an item
    item_known : (k : ℕ) (item : SlotItem) (it : Kept) → slice_get items k ≡ Some item → (kept : IsKeptItem number item it) → known_at limit bytes item.slot ≡ held kept.its
    item_known k item it is kept =
        let there = listed_open k item is in
        ap held_or_free
        (view_at record_of_slot own limit item.slot bytes there.0
        ∙ behind_open (gate_at item.slot bytes) (spelled record_of_slot item.slot bytes) there.1
        ∙ spelled_by item.slot bytes (Some item) there.2
        ∙ kept.spells)

    pub items_known : AreKnownBy slots (known_at limit bytes)
    items_known = record { each = each; others = others }
      where
        known_of : (it : Kept) (item : SlotItem) (kept : IsKeptItem number item it) → known_at limit bytes item.slot ≡ held kept.its → IsKnownBy it (known_at limit bytes it.slot)
        known_of it item kept is =
            let slot : it.slot ≡ item.slot = ap (λ (x : Kept). x.slot) kept.is in
            let same : kept.its ≡ record_by it kept.its.row = sym (ap (λ (x : Kept). record_by x kept.its.row) kept.is) in
            record {
              row = kept.its.row;
              has_row = sym (ap (λ (x : Kept). x.has_row) kept.is);
              is = ap (known_at limit bytes) slot ∙ is ∙ ap held same ∙ sym (ap (λ (x : Kept). known_by x.gate (record_by it kept.its.row)) kept.is);
            }

        each : (k : ℕ) (it : Kept) → slice_get slots k ≡ Some it → IsKnownBy it (known_at limit bytes it.slot)
        each k it is = let there = item_there_of k it is in known_of it there.0 there.2 (item_known k there.0 it there.1 there.2)

        others : (n : ℕ) → ((k : ℕ) (it : Kept) → slice_get slots k ≡ Some it → it.slot ≢ n) → known_at limit bytes n ≡ free
        others n none = elim (cases_lt n limit) [
          | inr past ↦ ap held_or_free (view_past record_of_slot own limit n bytes past)
          | inl low ↦ elim (cases_eq (gate_at n bytes) OPEN) [
            | inr closed ↦ ap held_or_free (view_at record_of_slot own limit n bytes low ∙ behind_closed (gate_at n bytes) (spelled record_of_slot n bytes) closed)
            | inl is_open ↦
                let there = open_listed n low is_open in
                let place = there.2 in
                let kept = kept_there place.0 there.0 place.1 in
                let it = kept.0 in
                let its = kept.2 in
                let seen = behind_open (gate_at n bytes) (spelled item_of n bytes) is_open ∙ there.1 in
                let slot : it.slot ≡ n = ap (λ (x : Kept). x.slot) its.is ∙ slot_of_open n (gate_at n bytes) (body_at n bytes) there.0 seen in
                absurd (none place.0 it kept.1 slot)
          ]
        ]

  -- the slot of the first item that isn't lawful
  module _ (at : ℕ) (ascending : AllPairs (λ (a b : SlotItem). a.slot < b.slot) items) (damaged : HasDamagedItem number at items) where
    there : (damaged.item.slot < limit) × (gate_at damaged.item.slot bytes ≡ OPEN) × (spelled item_of damaged.item.slot bytes ≡ Some damaged.item)
    there = listed_open damaged.place damaged.item damaged.is_item

    unlawful : is_lawful number (spelled record_of_slot damaged.item.slot bytes) ≡ false
    unlawful = ap (is_lawful number) (spelled_by damaged.item.slot bytes (Some damaged.item) there.2) ∙ damaged.damaged.unlawful

    least : AreLawful number damaged.item.slot bytes
    least m low bad =
        let inside = there.0 in
        let seen = open_listed m (omega arith) bad.0 in
        let item = seen.0 in
        let place = seen.2 in
        let slot : item.slot ≡ m = slot_of_open m (gate_at m bytes) (body_at m bytes) item (behind_open (gate_at m bytes) (spelled item_of m bytes) bad.0 ∙ seen.1) in
        let first : place.0 < damaged.place = earlier items ascending damaged.place damaged.item damaged.is_item place.0 item place.1 (omega arith) in
        let lawful : is_lawful number (spelled record_of_slot m bytes) ≡ true = ap (is_lawful number) (spelled_by m bytes (Some item) seen.1) ∙ damaged.before place.0 item first place.1 in
        let not_so = bad.1 in
        cc (lawful, not_so)

    pub items_damaged : IsPlaceOfDamage number limit at bytes
    items_damaged =
        let is_least : IsLeastDamaged number limit bytes damaged.item.slot = record { inside = there.0; damaged = (there.1, unlawful); least = least } in
        (damaged.item.slot, damaged.damaged.place, is_least)

-- of whatever file
slot_is : (number : ℕ) (items : List SlotItem) (slots : List Kept) → KeepsItems number items slots → (k : ℕ) (d : Kept) → k < length slots → (there : (item : SlotItem) × (slice_get items k ≡ Some item))
    → ((get_or slots k d).slot ≡ (get_or items k there.0).slot) × ((get_or slots k d).gate ≡ Open)
slot_is number items slots keeps k d low there =
    let kept = keeps.each k there.0 (get_or slots k d) there.1 (slice_get-get_or slots k d low) in
    let its : get_or items k there.0 ≡ there.0 = get_or_from_slice_get items k there.0 there.0 there.1 in
    (ap (λ (x : Kept). x.slot) kept.is ∙ sym (ap (λ (i : SlotItem). i.slot) its), ap (λ (x : Kept). x.gate) kept.is)

any_default : (items : List SlotItem) (j : ℕ) (a b : SlotItem) → j < length items → (get_or items j b).slot ≡ (get_or items j a).slot
any_default items j a b low =
    let one = slice_get-get_or items j a low in
    let other = slice_get-get_or items j b low in
    let same : get_or items j b ≡ get_or items j a = cc (one, other) in
    ap (λ (x : SlotItem). x.slot) same

pub kept_inside : (limit number : ℕ) (items : List SlotItem) (slots : List Kept) → AreItems limit items → KeepsItems number items slots → AreKeptInside limit slots
kept_inside limit number items slots are keeps = record {
  inside = λ k d low.
      let there = at_place items k (omega (arith, keeps.as_many)) in
      let its = slot_is number items slots keeps k d low there in
      let inside = are.inside k there.0 (omega (arith, keeps.as_many)) in
      omega (arith, inside, its.0);
  ascending = λ i j d low within.
      let a = at_place items i (omega (arith, keeps.as_many)) in
      let b = at_place items j (omega (arith, keeps.as_many)) in
      let one = slot_is number items slots keeps i d (omega arith) a in
      let other = slot_is number items slots keeps j d within b in
      let pair = are.ascending i j a.0 low (omega (arith, keeps.as_many)) in
      let same = any_default items j a.0 b.0 (omega (arith, keeps.as_many)) in
      omega (arith, pair, one.0, other.0, same);
  opened = λ k d low. let its = slot_is number items slots keeps k d low (at_place items k (omega (arith, keeps.as_many))) in its.1;
}
