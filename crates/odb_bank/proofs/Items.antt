-- What memory keeps of items.
use Rattle.std.proofs.Common.{◌≡◌, ◌≢◌, ◌⊎◌, inl, inr, ℕ, zero, suc, ◌+◌, ◌<◌, ◌≤◌, Bool, true, false, List, [], ◌∷◌, ◌++◌, length, Option, Some, None, Result, Ok, Err, sym, ◌∙◌, ap, subst, refl, arith}
use Rattle.std.specs.Prelude.{◌==◌, not, slice_get, is_some, if◌then◌else◌}
use Rattle.std.specs.Int.{is_in_range}
use Rattle.odb_values.specs.declared.value.Value.{Value}
use Rattle.odb_codec.specs.Image.{KeyHasImage, RowHasImage, values_image}
use Rattle.odb_codec.specs.Reading.{read_key, read_row, IsFirstFault}
use Rattle.odb_codec.specs.declared.error.CodecError.{CodecError}
use Rattle.odb_codec.specs.declared.error.CodecError.TheVariants.{Malformed}
use Rattle.odb_codec.proofs.Entries.{key_read, row_read}
use Rattle.odb_codec.proofs.Keys.{range_passes}
use Rattle.odb_slots.specs.declared.item.SlotItem.{SlotItem}
use Rattle.odb_bank.specs.declared.error.BankError.{BankError}
use Rattle.odb_bank.specs.declared.error.BankError.TheVariants.{Fault, Damaged, NotNext, Phase as WrongPhase, Limit, NoMemory}
use Rattle.odb_bank.specs.declared.kept.Gate.TheVariants.{Open}
use Rattle.odb_bank.specs.declared.kept.Kept.{Kept}
use Rattle.odb_bank.specs.History.{Row}
use Rattle.odb_bank.specs.Spelled.{row_with, row_in, record_with, record_in}
use Rattle.odb_bank.specs.Opening.{is_lawful}
use Rattle.odb_bank.specs.Finding.{given, IsKeptItem, IsItemAnswer, KeepsItems, AreLawfulItems, AreItemsKept}

-- what is decoded is what reading gives
pub key_given : (bytes : List ℕ) (key : List Value) → KeyHasImage key → bytes ≡ values_image key → Some key ≡ given (read_key bytes)
key_given bytes key has is = sym (ap (λ (b : List ℕ). given (read_key b)) is ∙ ap given (key_read key has))

pub row_given : (bytes : List ℕ) (row : List Value) → RowHasImage row → bytes ≡ values_image row → Some row ≡ given (read_row bytes)
row_given bytes row has is = sym (ap (λ (b : List ℕ). given (read_row b)) is ∙ ap given (row_read row has))

pub malformed_given : {A B : Type 0} → (read : Result A ℕ) (bytes : List ℕ) (result : Result B CodecError) (e : CodecError) (at : ℕ) → ((n : ℕ) → result ≡ Err (Malformed n) → IsFirstFault read bytes n) → result ≡ Err e → e ≡ Malformed at → None ≡ given read
malformed_given read bytes result e at says is same = sym (ap given (says at (is ∙ ap (λ (x : CodecError). Err x) same)).fault)

given_ok : {A : Type 0} → (read : Result A ℕ) (x : A) → Some x ≡ given read → read ≡ Ok x
given_ok (Ok y) x is = let same : y ≡ x = cc is in ap Ok same
given_ok (Err left) x is = absurd (cc is)

-- an item that is kept
module _ (number : ℕ) (item : SlotItem) where
  stamped : item.stamp ≢ 0 → item.stamp ≤ number → is_in_range 1 number item.stamp ≡ true
  stamped some low = range_passes 1 number item.stamp (omega arith) low

  kept_with : (key : List Value) (row : Option Row) → read_key item.key ≡ Ok key → row_in item ≡ Some row → item.stamp ≢ 0 → item.stamp ≤ number
      → IsKeptItem number item (record { slot = item.slot; at = record { table = item.table; key = key }; stamp = item.stamp; has_row = is_some row; gate = Open })
  kept_with key row its rows some low = record {
    its = record { key = record { table = item.table; key = key }; row = row; stamp = item.stamp };
    spells = ap (λ (o : Result (List Value) ℕ). record_with item o (row_in item)) its ∙ ap (record_with item (Ok key)) rows;
    lawful = stamped some low;
    is = refl;
  }

  -- whose row is lawful
  row_marked : (b : Bool) (read : Result (List Value) ℕ) (row : Option Row) → (if b then Some None else row_with read) ≡ Some row → is_some row ≡ not b
  row_marked true read row is = let same : row ≡ None = sym (cc is) in ap is_some same
  row_marked false (Ok values) row is = let same : row ≡ Some values = sym (cc is) in ap is_some same
  row_marked false (Err left) row is = absurd (cc is)

  kept_so : (key : List Value) (o : Option (Option Row)) → row_in item ≡ o → is_some o ≡ true → read_key item.key ≡ Ok key → item.stamp ≢ 0 → item.stamp ≤ number
      → IsKeptItem number item (record { slot = item.slot; at = record { table = item.table; key = key }; stamp = item.stamp; has_row = not (item.kind == 2); gate = Open })
  kept_so key None is lawful its some low = absurd (cc lawful)
  kept_so key (Some row) is lawful its some low =
      subst (λ (b : Bool). IsKeptItem number item (record { slot = item.slot; at = record { table = item.table; key = key }; stamp = item.stamp; has_row = b; gate = Open }))
      (row_marked (item.kind == 2) (read_row item.row) row is) (kept_with key row its is some low)

  pub kept_lawfully : (bytes : List ℕ) (key : List Value) → bytes ≡ item.key → Some key ≡ given (read_key bytes) → is_some (row_in item) ≡ true → 1 ≤ item.stamp → item.stamp ≤ number
      → IsKeptItem number item (record { slot = item.slot; at = record { table = item.table; key = key }; stamp = item.stamp; has_row = not (item.kind == 2); gate = Open })
  kept_lawfully bytes key same keys lawful some low =
      kept_so key (row_in item) refl lawful (given_ok (read_key item.key) key (keys ∙ ap (λ (l : List ℕ). given (read_key l)) same)) (λ e. omega arith) low

-- lists that grow together
pub snoc_at : {T : Type 0} → (xs : List T) (x y : T) (k : ℕ) → slice_get (xs ++ x ∷ []) k ≡ Some y → (slice_get xs k ≡ Some y) ⊎ ((k ≡ length xs) × (x ≡ y))
snoc_at [] x y zero is = inr (refl, cc is)
snoc_at [] x y (suc k) is = inl is
snoc_at (z ∷ xs) x y zero is = inl is
snoc_at (z ∷ xs) x y (suc k) is = elim (snoc_at xs x y k is) [ inl e ↦ inl e | inr e ↦ inr (omega (arith, e.0), e.1) ]

pub at_place : {T : Type 0} → (xs : List T) (k : ℕ) → k < length xs → (x : T) × (slice_get xs k ≡ Some x)
at_place [] k low = absurd (omega arith)
at_place (x ∷ xs) zero low = (x, refl)
at_place (x ∷ xs) (suc k) low = at_place xs k (omega arith)

-- the items so far
pub record IsKeeping (number : ℕ) (items : List SlotItem) (count : ℕ) (slots : List Kept) : Type 0 where
  pub as_many : length slots ≡ count
  pub each : (k : ℕ) (item : SlotItem) (it : Kept) → slice_get items k ≡ Some item → slice_get slots k ≡ Some it → IsKeptItem number item it

pub keeping_none : (number : ℕ) (items : List SlotItem) → IsKeeping number items 0 []
keeping_none number items = record { as_many = refl; each = λ k item it is here. absurd (cc here) }

length_snoc : {T : Type 0} → (xs : List T) (x : T) → length (xs ++ x ∷ []) ≡ length xs + 1
length_snoc [] x = refl
length_snoc (y ∷ xs) x = omega (arith, length_snoc xs x)

pub keeping_more : (number : ℕ) (items : List SlotItem) (count : ℕ) (slots : List Kept) (item : SlotItem) (it : Kept) → IsKeeping number items count slots → slice_get items count ≡ Some item → IsKeptItem number item it
    → IsKeeping number items (count + 1) (slots ++ it ∷ [])
keeping_more number items count slots item it so_far here kept = record {
  as_many = omega (arith, length_snoc slots it, so_far.as_many);
  each = λ k other at is there. elim (snoc_at slots it at k there) [
    | inl before ↦ so_far.each k other at is before
    | inr last ↦
        let place : k ≡ count = last.0 ∙ so_far.as_many in
        let same : item ≡ other = cc (ap (slice_get items) place, here, is) in
        subst (λ (i : SlotItem). IsKeptItem number i at) same (subst (IsKeptItem number item) last.1 kept)
  ];
}

-- the items before are lawful
kept_lawful : (number : ℕ) (item : SlotItem) (it : Kept) → IsKeptItem number item it → is_lawful number (record_in item) ≡ true
kept_lawful number item it kept = ap (is_lawful number) kept.spells ∙ kept.lawful

lawful_before : (number : ℕ) (items : List SlotItem) (count : ℕ) (slots : List Kept) → IsKeeping number items count slots → AreLawfulItems number count items
lawful_before number items count slots so_far k item low is =
    let there = at_place slots k (omega (arith, so_far.as_many)) in
    kept_lawful number item there.0 (so_far.each k item there.0 is there.1)

pub keeping_breaks : (number : ℕ) (items : List SlotItem) (count : ℕ) (slots : List Kept) (item : SlotItem) (e : BankError) → IsKeeping number items count slots → slice_get items count ≡ Some item
    → IsItemAnswer number item (Err e) → AreItemsKept number items (Err e)
keeping_breaks number items count slots item Fault so_far here answer = absurd answer
keeping_breaks number items count slots item (Damaged at) so_far here answer = record { place = count; item = item; is_item = here; damaged = answer; before = lawful_before number items count slots so_far }
keeping_breaks number items count slots item (NotNext mark first) so_far here answer = absurd answer
keeping_breaks number items count slots item (WrongPhase now) so_far here answer = absurd answer
keeping_breaks number items count slots item Limit so_far here answer = absurd answer
keeping_breaks number items count slots item NoMemory so_far here answer = tt

pub keeping_done : (number : ℕ) (items : List SlotItem) (count : ℕ) (slots : List Kept) → IsKeeping number items count slots → count ≡ length items → KeepsItems number items slots
keeping_done number items count slots so_far all = record { as_many = so_far.as_many ∙ all; each = so_far.each }
