-- One body more.
use Rattle.std.proofs.Common.{◌≡◌, ◌≢◌, inl, inr, ℕ, ◌+◌, ◌<◌, ◌≤◌, List, length, get_or, Some, sym, ◌∙◌, ap, subst, refl, arith}
use Rattle.std.specs.Prelude.{slice_get}
use Rattle.std.specs.List.{All, AllPairs}
use Rattle.std.proofs.lemmas.Bool.{cases_eq, cases_order}
use Rattle.std.proofs.lemmas.List.Elements.{All-get_or}
use Rattle.std.proofs.lemmas.Option.{slice_get_within, get_or_from_slice_get, slice_get-get_or}
use Rattle.odb_device.specs.Images.{overwritten, part}
use Rattle.odb_device.specs.TornSets.{InRange}
use Rattle.odb_device.proofs.Bytes.{length-overwritten, part-overwritten, part-overwritten_outside}
use Rattle.odb_slots.specs.Slots.{slot_place, body_at}
use Rattle.odb_slots.specs.Bodies.{IsInGrammar, IsTyped, slot_image, item_in}
use Rattle.odb_slots.specs.Sets.{BodiesOf, HasSlot, HasRoom, HasItem, HasItems}
use Rattle.odb_slots.specs.declared.item.SlotItem.{SlotItem}
use Rattle.odb_slots.proofs.Imaging.{item_again, length-slot_image}

-- there is room for all, and the first so many stand in their slots
pub record HaveItems (items : List SlotItem) (count : ℕ) (bytes : List ℕ) : Type 0 where
  pub room : HasRoom items bytes
  pub each : (k : ℕ) (item : SlotItem) → k < count → slice_get items k ≡ Some item → HasItem item bytes

-- an element by its place
pub each_of : (P : SlotItem → Type 0) (items : List SlotItem) (k : ℕ) (item : SlotItem) → slice_get items k ≡ Some item → All P items → P item
each_of P items k item there all =
    subst P (get_or_from_slice_get items k item item there) (All-get_or P items k item (slice_get_within items k item there) all)

apart_at : (items : List SlotItem) (i j : ℕ) (a b : SlotItem) → AllPairs (λ x y. x.slot ≢ y.slot) items → i < j
    → slice_get items i ≡ Some a → slice_get items j ≡ Some b → a.slot ≢ b.slot
apart_at items i j a b apart before here there same =
    apart i j a before (slice_get_within items j b there)
    (ap (λ (x : SlotItem). x.slot) (get_or_from_slice_get items i a a here) ∙ same ∙ sym (ap (λ (x : SlotItem). x.slot) (get_or_from_slice_get items j b a there)))

body_written : (n : ℕ) (body bytes : List ℕ) → length body ≡ 1023 → body_at n (overwritten (slot_place n + 1) body bytes) ≡ body
unfolding body_at
body_written n body bytes size =
    subst (λ (k : ℕ). part (slot_place n + 1) k (overwritten (slot_place n + 1) body bytes) ≡ body) size (part-overwritten (slot_place n + 1) body bytes)

other_body : (n m : ℕ) (body bytes : List ℕ) → length body ≡ 1023 → (m ≡ n → ⊥) → slot_place (m + 1) ≤ length bytes
    → body_at m (overwritten (slot_place n + 1) body bytes) ≡ body_at m bytes
unfolding body_at
other_body n m body bytes size differs long =
    part-overwritten_outside (slot_place n + 1) body bytes (slot_place m + 1) 1023 (omega arith) (elim (cases_order m n) [
      | inl same ↦ absurd (differs same)
      | inr (inl before) ↦ inl (omega arith)
      | inr (inr after) ↦ inr (omega (arith, size))
    ])

item_stands : (item : SlotItem) (bytes : List ℕ) → item_in item.slot (slot_image item) ≡ Some item → body_at item.slot bytes ≡ slot_image item → HasItem item bytes
item_stands item bytes again is = record { body = is; spells = ap (item_in item.slot) is ∙ again }

pub items_more : (items : List SlotItem) (count : ℕ) (item : SlotItem) (bytes : List ℕ) → AllPairs (λ x y. x.slot ≢ y.slot) items
    → slice_get items count ≡ Some item → IsInGrammar item → IsTyped item → HaveItems items count bytes
    → HaveItems items (count + 1) (overwritten (slot_place item.slot + 1) (slot_image item) bytes)
items_more items count item bytes apart this fits typed have =
    let size = length-slot_image item fits.narrow in
    let new : List ℕ = overwritten (slot_place item.slot + 1) (slot_image item) bytes in
    record {
      room = λ k d low. omega (arith, have.room k d low, length-overwritten (slot_place item.slot + 1) (slot_image item) bytes);
      each = λ k other low there. elim (cases_eq k count) [
        | inl last ↦ let same : item ≡ other = cc (ap (slice_get items) last, this, there) in
            subst (λ (o : SlotItem). HasItem o new) same
            (item_stands item new (item_again item fits typed) (body_written item.slot (slot_image item) bytes size))
        | inr earlier ↦ let below : k < count = omega arith in
            let stood = have.each k other below there in
            let same : body_at other.slot new ≡ body_at other.slot bytes =
            other_body item.slot other.slot (slot_image item) bytes size (apart_at items k count other item apart below there this) (each_of (λ i. slot_place (i.slot + 1) ≤ length bytes) items k other there have.room) in
            record { body = same ∙ stood.body; spells = ap (item_in other.slot) same ∙ stood.spells }
      ];
    }

-- all of them
pub items_all : (items : List SlotItem) (count : ℕ) (bytes : List ℕ) → length items ≤ count → HaveItems items count bytes → HasItems items bytes
items_all items count bytes all have = λ k d low. have.each k (get_or items k d) (omega arith) (slice_get-get_or items k d low)

pub body_inside : (items : List SlotItem) (count i n : ℕ) (item : SlotItem) → slice_get items count ≡ Some item → n ≡ 1023
    → InRange (slot_place item.slot + 1) n i → BodiesOf (HasSlot items) i
body_inside items count i n item this size inside = (item.slot, (count, item, this, refl), (inside.0, omega (arith, inside.1, size)))
