-- The list of a file's records has what its slots have.
use Rattle.std.proofs.Common.{◌≡◌, ◌⊎◌, inl, inr, ℕ, zero, suc, ◌<◌, List, [], ◌∷◌, ◌++◌, length, Option, Some, None, sym, ◌∙◌, ap, refl, arith}
use Rattle.std.specs.Prelude.{slice_get}
use Rattle.std.proofs.lemmas.Bool.{cases_eq, cond_both}
use Rattle.odb_slots.specs.Slots.{gate_at, body_at, behind}
use Rattle.odb_slots.specs.Bodies.{item_in, item_by, head_in}
use Rattle.odb_slots.specs.Views.{item_of, open_at, view_of, added, records_in}
use Rattle.odb_slots.specs.declared.item.SlotItem.{SlotItem}
use Rattle.odb_slots.proofs.Places.{view_at}

-- the places of a list with one item more
snoc_cases : {T : Type 0} → (xs : List T) (x y : T) (k : ℕ) → slice_get (xs ++ x ∷ []) k ≡ Some y → (slice_get xs k ≡ Some y) ⊎ (x ≡ y)
snoc_cases [] x y zero is = inr (cc is)
snoc_cases [] x y (suc k) is = inl is
snoc_cases (z ∷ xs) x y zero is = inl is
snoc_cases (z ∷ xs) x y (suc k) is = snoc_cases xs x y k is

snoc_first : {T : Type 0} → (xs : List T) (x y : T) (k : ℕ) → slice_get xs k ≡ Some y → slice_get (xs ++ x ∷ []) k ≡ Some y
snoc_first [] x y k is = absurd (cc is)
snoc_first (z ∷ xs) x y zero is = is
snoc_first (z ∷ xs) x y (suc k) is = snoc_first xs x y k is

snoc_last : {T : Type 0} → (xs : List T) (x : T) → slice_get (xs ++ x ∷ []) (length xs) ≡ Some x
snoc_last [] x = refl
snoc_last (z ∷ xs) x = snoc_last xs x

-- the item of a slot is of that slot
slot_of_item : (n : ℕ) (body : List ℕ) (item : SlotItem) → item_in n body ≡ Some item → item.slot ≡ n
slot_of_item n body item is = cond_both _ (Some (item_by n (head_in body) body)) None (λ (o : Option SlotItem). o ≡ Some item → item.slot ≡ n)
    (λ yes. λ e. let same : item_by n (head_in body) body ≡ item = cc e in ap (λ (i : SlotItem). i.slot) (sym same))
    (λ no. λ e. absurd (cc e)) is

pub slot_of_open : (n gate : ℕ) (body : List ℕ) (item : SlotItem) → behind gate (item_in n body) ≡ Some item → item.slot ≡ n
slot_of_open n gate body item is = cond_both _ (item_in n body) None (λ (o : Option SlotItem). o ≡ Some item → item.slot ≡ n)
    (λ yes. λ e. slot_of_item n body item e)
    (λ no. λ e. absurd (cc e)) is

-- each item of the list stands in its open slot
abbrev Stands : ℕ → List ℕ → SlotItem → Type 0
Stands n bytes item = (item.slot < n) × (open_at item_of item.slot bytes ≡ Some item)

pub listed_stands : (n k : ℕ) (bytes : List ℕ) (item : SlotItem) → slice_get (records_in n bytes) k ≡ Some item → Stands n bytes item
listed_stands zero k bytes item is = absurd (cc is)
listed_stands (suc n) k bytes item is = go (listed_stands n k bytes item) (open_at item_of n bytes) refl is
  where
    wider : Stands n bytes item → Stands (suc n) bytes item
    wider there = (omega (arith, there.0), there.1)

    go : (slice_get (records_in n bytes) k ≡ Some item → Stands n bytes item) → (found : Option SlotItem) → open_at item_of n bytes ≡ found → slice_get (added (records_in n bytes) found) k ≡ Some item → Stands (suc n) bytes item
    go before None here at = wider (before at)
    go before (Some last) here at = elim (snoc_cases (records_in n bytes) last item k at) [
      | inl earlier ↦ wider (before earlier)
      | inr same ↦
          let it : open_at item_of n bytes ≡ Some item = here ∙ ap Some same in
          let slot : item.slot ≡ n = slot_of_open n (gate_at n bytes) (body_at n bytes) item it in
          (omega arith, ap (λ (m : ℕ). open_at item_of m bytes) slot ∙ it)
    ]

-- and each open slot is in the list
pub open_listed : (n m : ℕ) (bytes : List ℕ) (item : SlotItem) → m < n → open_at item_of m bytes ≡ Some item → (k : ℕ) × (slice_get (records_in n bytes) k ≡ Some item)
open_listed zero m bytes item low is = absurd (omega arith)
open_listed (suc n) m bytes item low is = go (λ below. open_listed n m bytes item below is) (open_at item_of n bytes) refl
  where
    go : (m < n → (k : ℕ) × (slice_get (records_in n bytes) k ≡ Some item)) → (found : Option SlotItem) → open_at item_of n bytes ≡ found → (k : ℕ) × (slice_get (added (records_in n bytes) found) k ≡ Some item)
    go before None here = elim (cases_eq m n) [
      | inl last ↦ let none = ap (λ (j : ℕ). open_at item_of j bytes) last ∙ here in absurd (cc (none, is))
      | inr earlier ↦ before (omega arith)
    ]
    go before (Some last) here = elim (cases_eq m n) [
      | inl at ↦
          let same : last ≡ item = cc (ap (λ (j : ℕ). open_at item_of j bytes) at, here, is) in
          (length (records_in n bytes), snoc_last (records_in n bytes) last ∙ ap Some same)
      | inr earlier ↦ let found = before (omega arith) in (found.0, snoc_first (records_in n bytes) last item found.0 found.1)
    ]

-- in the words of a view
pub listed_viewed : (n k : ℕ) (bytes : List ℕ) (item : SlotItem) → slice_get (records_in n bytes) k ≡ Some item → (item.slot < n) × (view_of n bytes item.slot ≡ Some item)
listed_viewed n k bytes item is =
    let there = listed_stands n k bytes item is in
    (there.0, view_at item_of (λ m body one other. refl) n item.slot bytes there.0 ∙ there.1)

pub viewed_listed : (n m : ℕ) (bytes : List ℕ) (item : SlotItem) → m < n → view_of n bytes m ≡ Some item → (k : ℕ) × (slice_get (records_in n bytes) k ≡ Some item)
viewed_listed n m bytes item low is = open_listed n m bytes item low (sym (view_at item_of (λ j body one other. refl) n m bytes low) ∙ is)
