-- The record of a key, by what memory keeps.
use Rattle.std.proofs.Common.{◌≡◌, ◌≢◌, ◌⊎◌, inl, inr, ℕ, zero, suc, ◌+◌, ◌<◌, ◌≤◌, Bool, true, false, List, [], ◌∷◌, length, get_or, Option, Some, None, Result, Ok, Err, sym, ◌∙◌, ap, subst, refl, arith}
use Rattle.std.specs.Prelude.{slice_get, nat_lt, ◌==◌, ◌&&◌, ◌||◌, if◌then◌else◌}
use Rattle.std.specs.List.{All}
use Rattle.std.proofs.lemmas.Bool.{cases_lt, cases_eq, ltb-true, ltb-false, lt-ltb, le-ltb, eqb-true, eq-eqb, and_parts, and_from, or_parts}
use Rattle.std.proofs.lemmas.Option.{slice_get_within, get_or_from_slice_get}
use Rattle.odb_values.specs.declared.value.Value.{Value}
use Rattle.odb_values.specs.Value.{values_cmp}
use Rattle.odb_values.specs.ValueOrder.{values_cmp_total, values_cmp_exact}
use Rattle.std.specs.declared.cmp.Ordering.TheVariants.{Equal}
use Rattle.std.proofs.lemmas.Cmp.{tied_itself}
use Rattle.odb_codec.specs.Reading.{read_key, read_row}
use Rattle.odb_slots.specs.Slots.{gate_at}
use Rattle.odb_slots.specs.Views.{item_of, spelled}
use Rattle.odb_slots.specs.Answers.{IsSlotOf}
use Rattle.odb_slots.specs.declared.error.SlotError.TheVariants.{Malformed}
use Rattle.odb_slots.specs.declared.item.SlotItem.{SlotItem}
use Rattle.odb_slots.proofs.Places.{behind_open}
use Rattle.odb_bank.specs.declared.kept.Gate.{Gate}
use Rattle.odb_bank.specs.declared.kept.Gate.TheVariants.{Shut, Open, Doubtful}
use Rattle.odb_bank.specs.declared.kept.Kept.{Kept}
use Rattle.odb_bank.specs.History.{Key, Row}
use Rattle.odb_bank.specs.Records.{Record, record_of, row_of, bank_map, IsRecord}
use Rattle.odb_bank.specs.Known.{Known, held, sure, sure_of, Fits, IsFileOf}
use Rattle.odb_bank.specs.Spelled.{row_with, row_in, record_with, record_in, record_from, record_of_slot}
use Rattle.odb_bank.specs.Bank.{known_by, record_by, IsKnownBy, AreKnownBy}
use Rattle.odb_bank.specs.Finding.{given}
use Rattle.odb_bank.specs.Choosing.{IsFor, IsBestAt, IsBest, is_better, HasRowAt}
use Rattle.odb_bank.proofs.Reading.{record_is}

-- one place more
pub last_or_before : (n k : ℕ) → k < n + 1 → (k ≡ n) ⊎ (k < n)
last_or_before n k low = elim (cases_lt k n) [ inl before ↦ inr before | inr from ↦ inl (omega arith) ]

-- what `is_better` says
better_true : (a b : Kept) → is_better a b ≡ true → (a.stamp < b.stamp) ⊎ ((a.stamp ≡ b.stamp) × (b.slot < a.slot))
better_true a b is = elim (cases_lt a.stamp b.stamp) [
  | inl less ↦ inl less
  | inr more ↦
      let left : nat_lt a.stamp b.stamp ≡ false = le-ltb a.stamp b.stamp more in
      let right : (a.stamp == b.stamp && nat_lt b.slot a.slot) ≡ true = sym (ap (λ (t : Bool). t || (a.stamp == b.stamp && nat_lt b.slot a.slot)) left) ∙ is in
      let parts = and_parts (a.stamp == b.stamp) (nat_lt b.slot a.slot) right in
      inr (eqb-true a.stamp b.stamp parts.0, ltb-true b.slot a.slot parts.1)
]

better_false : (a b : Kept) → is_better a b ≡ false → (b.stamp ≤ a.stamp) × (b.stamp ≡ a.stamp → a.slot ≤ b.slot)
better_false a b is =
    let parts = or_parts (nat_lt a.stamp b.stamp) (a.stamp == b.stamp && nat_lt b.slot a.slot) is in (
      ltb-false a.stamp b.stamp parts.0,
      λ same. elim (cases_lt b.slot a.slot) [
        | inr fine ↦ fine
        | inl lower ↦ let both = and_from (a.stamp == b.stamp) (nat_lt b.slot a.slot) (eq-eqb a.stamp b.stamp (sym same)) (lt-ltb b.slot a.slot lower) in let not_so = parts.1 in absurd (cc (both, not_so))
      ],
    )

module _ (key : Key) (slots : List Kept) (n : ℕ) (it : Kept) (here : slice_get slots n ≡ Some it) where
  at_last : (k : ℕ) (other : Kept) → k ≡ n → slice_get slots k ≡ Some other → other ≡ it
  at_last k other last is = cc (ap (slice_get slots) last, here, is)

  -- it isn't of the key
  pub best_stays : (best : Option ℕ) → (IsFor key it → ⊥) → IsBest key slots n best → IsBest key slots (n + 1) best
  best_stays None not_its none = λ k other low is its. elim (last_or_before n k low) [
    | inl last ↦ not_its (subst (IsFor key) (at_last k other last is) its)
    | inr before ↦ none k other before is its
  ]
  best_stays (Some place) not_its so_far =
      let best = so_far.1 in
      let wider : IsBestAt key slots (n + 1) place so_far.0 = record {
        below = omega (arith, best.below);
        is_it = best.is_it;
        its = best.its;
        none_above = λ k other low is its. elim (last_or_before n k low) [
          | inl last ↦ absurd (not_its (subst (IsFor key) (at_last k other last is) its))
          | inr before ↦ best.none_above k other before is its
        ];
        least = λ k other low is its same. elim (last_or_before n k low) [
          | inl last ↦ absurd (not_its (subst (IsFor key) (at_last k other last is) its))
          | inr before ↦ best.least k other before is its same
        ];
      } in
      (so_far.0, wider)

  -- it is the first one
  pub best_first : IsFor key it → IsBest key slots n None → IsBest key slots (n + 1) (Some n)
  best_first its none =
      let best : IsBestAt key slots (n + 1) n it = record {
        below = omega arith;
        is_it = here;
        its = its;
        none_above = λ k other low is for_it. elim (last_or_before n k low) [
          | inl last ↦ omega (arith, ap (λ (x : Kept). x.stamp) (at_last k other last is))
          | inr before ↦ absurd (none k other before is for_it)
        ];
        least = λ k other low is for_it same. elim (last_or_before n k low) [
          | inl last ↦ omega (arith, ap (λ (x : Kept). x.slot) (at_last k other last is))
          | inr before ↦ absurd (none k other before is for_it)
        ];
      } in
      (it, best)

  module _ (place : ℕ) (so_far : Kept) (there : slice_get slots place ≡ Some so_far) (best : IsBest key slots n (Some place)) where
    same_best : best.0 ≡ so_far
    same_best = let was = best.1 in cc (was.is_it, there)

    was_best : IsBestAt key slots n place so_far
    was_best = subst (IsBestAt key slots n place) same_best best.1

    -- it is better
    pub best_takes : IsFor key it → is_better so_far it ≡ true → IsBest key slots (n + 1) (Some n)
    best_takes its better =
        let wins = better_true so_far it better in
        let now : IsBestAt key slots (n + 1) n it = record {
          below = omega arith;
          is_it = here;
          its = its;
          none_above = λ k other low is for_it. elim (last_or_before n k low) [
            | inl last ↦ omega (arith, ap (λ (x : Kept). x.stamp) (at_last k other last is))
            | inr before ↦ elim wins [
              | inl greater ↦ omega (arith, greater, was_best.none_above k other before is for_it)
              | inr equal ↦ omega (arith, equal.0, was_best.none_above k other before is for_it)
            ]
          ];
          least = λ k other low is for_it same. elim (last_or_before n k low) [
            | inl last ↦ omega (arith, ap (λ (x : Kept). x.slot) (at_last k other last is))
            | inr before ↦ elim wins [
              | inl greater ↦ absurd (omega (arith, greater, was_best.none_above k other before is for_it, same))
              | inr equal ↦ omega (arith, equal.1, was_best.least k other before is for_it (same ∙ sym equal.0))
            ]
          ];
        } in
        (it, now)

    -- or it isn't
    pub best_keeps : is_better so_far it ≡ false → IsBest key slots (n + 1) (Some place)
    best_keeps not_better =
        let loses = better_false so_far it not_better in
        let now : IsBestAt key slots (n + 1) place so_far = record {
          below = omega (arith, was_best.below);
          is_it = was_best.is_it;
          its = was_best.its;
          none_above = λ k other low is for_it. elim (last_or_before n k low) [
            | inl last ↦ omega (arith, loses.0, ap (λ (x : Kept). x.stamp) (at_last k other last is))
            | inr before ↦ was_best.none_above k other before is for_it
          ];
          least = λ k other low is for_it same. elim (last_or_before n k low) [
            | inl last ↦ let its = at_last k other last is in omega (arith, loses.1 (ap (λ (x : Kept). x.stamp) (sym its) ∙ same), ap (λ (x : Kept). x.slot) its)
            | inr before ↦ was_best.least k other before is for_it same
          ];
        } in
        (so_far, now)

-- keys of one table
pub same_key : (at : Key) (table : ℕ) (key : List Value) → at.table ≡ table → values_cmp at.key key ≡ Equal → at ≡ record { table = table; key = key }
same_key at table key one other = ap (λ (t : ℕ). record { table = t; key = at.key }) one ∙ ap (λ (k : List Value). record { table = table; key = k }) (values_cmp_exact at.key key other)

pub key_equal : (at : Key) (table : ℕ) (key : List Value) → at ≡ record { table = table; key = key } → values_cmp at.key key ≡ Equal
key_equal at table key same = ap (λ (k : Key). values_cmp k.key key) same ∙ tied_itself values_cmp_total key

pub best_begins : (key : Key) (slots : List Kept) → IsBest key slots 0 None
best_begins key slots k it low is its = omega arith

-- whether something is kept of a slot
abbrev pub IsThere : List Kept → ℕ → Type 0
IsThere slots n = (k : ℕ) × (it : Kept) × (slice_get slots k ≡ Some it) × (it.slot ≡ n)

abbrev pub IsNone : List Kept → ℕ → Type 0
IsNone slots n = (k : ℕ) (it : Kept) → slice_get slots k ≡ Some it → it.slot ≢ n

none_more : (x : Kept) (slots : List Kept) (n : ℕ) → x.slot ≢ n → IsNone slots n → IsNone (x ∷ slots) n
none_more x slots n other none zero it is e = let same : x ≡ it = cc is in other (ap (λ (y : Kept). y.slot) same ∙ e)
none_more x slots n other none (suc k) it is e = none k it is e

pub find_slot : (slots : List Kept) (n : ℕ) → IsThere slots n ⊎ IsNone slots n
find_slot [] n = inr (λ k it is e. cc is)
find_slot (x ∷ slots) n = elim (cases_eq x.slot n) [
  | inl here ↦ inl (0, x, refl, here)
  | inr other ↦ elim (find_slot slots n) [
    | inl there ↦ inl (suc there.0, there.1, there.2, there.3)
    | inr none ↦ inr (none_more x slots n other none)
  ]
]

-- what is open for sure is kept with an open gate
sure_open : (gate : Gate) (r w : Record) (k : Known) → k ≡ known_by gate r → sure k ≡ Some w → (gate ≡ Open) × (w ≡ r)
sure_open Shut r w k is some = absurd (cc (ap sure is, some))
sure_open Open r w k is some = (refl, cc (ap sure is, some))
sure_open Doubtful r w k is some = absurd (cc (ap sure is, some))

-- a record that is open for sure, and what is kept of it
pub record IsKeptAt (slots : List Kept) (n : ℕ) (w : Record) : Type 0 where
  pub place : ℕ
  pub it : Kept
  pub is_it : slice_get slots place ≡ Some it
  pub slot : it.slot ≡ n
  pub is_open : it.gate ≡ Open
  pub row : Option Row
  pub is : w ≡ record_by it row

module _ (slots : List Kept) (known : ℕ → Known) (are : AreKnownBy slots known) (limit : ℕ) (inside : All (λ it. it.slot < limit) slots) where
  kept_by : (n : ℕ) (w : Record) → sure (known n) ≡ Some w → IsThere slots n ⊎ IsNone slots n → IsKeptAt slots n w
  kept_by n w some (inr none) = let is_free = are.others n none in absurd (cc (ap sure is_free, some))
  kept_by n w some (inl there) =
      let it = there.1 in
      let by : IsKnownBy it (known n) = subst (λ (m : ℕ). IsKnownBy it (known m)) there.3 (are.each there.0 it there.2) in
      let both = sure_open it.gate (record_by it by.row) w (known n) by.is some in
      record { place = there.0; it = it; is_it = there.2; slot = there.3; is_open = both.0; row = by.row; is = both.1 }

  pub kept_at : (n : ℕ) (w : Record) → sure (known n) ≡ Some w → IsKeptAt slots n w
  kept_at n w some = kept_by n w some (find_slot slots n)

  slot_below : (k : ℕ) (it : Kept) → slice_get slots k ≡ Some it → it.slot < limit
  slot_below k it is =
      let low = slice_get_within slots k it is in
      let there : get_or slots k it ≡ it = get_or_from_slice_get slots k it it is in
      omega (arith, inside k it low, ap (λ (x : Kept). x.slot) there)

  module _ (key : Key) where
    -- no record of the key is open for sure
    none_by : IsBest key slots (length slots) None → (found : Option Record) → IsRecord limit (sure_of known) key found → row_of found ≡ None
    none_by none None is = refl
    none_by none (Some w) is =
        let kept = kept_at is.slot w is.is_open in
        let at : kept.it.at ≡ key = sym (ap (λ (r : Record). r.key) kept.is) ∙ is.of_key in
        absurd (none kept.place kept.it (slice_get_within slots kept.place kept.it kept.is_it) kept.is_it (kept.is_open, at))

    pub none_row : IsBest key slots (length slots) None → bank_map limit (sure_of known) key ≡ None
    none_row none = none_by none (record_of limit (sure_of known) key) (record_is limit (sure_of known) key)

    -- its record is the best one's
    module _ (place : ℕ) (it : Kept) (best : IsBestAt key slots (length slots) place it) (by : IsKnownBy it (known it.slot)) where
      there : sure (known it.slot) ≡ Some (record_by it by.row)
      there = ap sure (by.is ∙ ap (λ (g : Gate). known_by g (record_by it by.row)) best.its.0)

      below : it.slot < limit
      below = slot_below place it best.is_it

      row_by : (found : Option Record) → IsRecord limit (sure_of known) key found → row_of found ≡ by.row
      row_by None none = absurd (none it.slot (record_by it by.row) below there best.its.1)
      row_by (Some w) is =
          let kept = kept_at is.slot w is.is_open in
          let at : kept.it.at ≡ key = sym (ap (λ (x : Record). x.key) kept.is) ∙ is.of_key in
          let stamps : w.stamp ≡ kept.it.stamp = ap (λ (x : Record). x.stamp) kept.is in
          let low = slice_get_within slots kept.place kept.it kept.is_it in
          let most : kept.it.stamp ≤ it.stamp = best.none_above kept.place kept.it low kept.is_it (kept.is_open, at) in
          let late : it.stamp ≤ w.stamp = is.none_above it.slot (record_by it by.row) below there best.its.1 in
          let equal : kept.it.stamp ≡ it.stamp = omega (arith, stamps) in
          let first : it.slot ≤ kept.it.slot = best.least kept.place kept.it low kept.is_it (kept.is_open, at) equal in
          let least : is.slot ≤ it.slot = is.least it.slot (record_by it by.row) below there best.its.1 (omega (arith, stamps, equal)) in
          let slot : is.slot ≡ it.slot = omega (arith, kept.slot) in
          let same : w ≡ record_by it by.row = cc (ap (λ (m : ℕ). sure (known m)) slot, is.is_open, there) in
          ap (λ (x : Record). x.row) same

      pub best_row : bank_map limit (sure_of known) key ≡ by.row
      best_row = row_by (record_of limit (sure_of known) key) (record_is limit (sure_of known) key)

-- what the bytes of the slot have
module _ (limit : ℕ) (known : ℕ → Known) (bytes : List ℕ) (is : IsFileOf record_of_slot limit known bytes) where
  pub has_row_at : (it : Kept) (row : List Value) → it.slot < limit → it.gate ≡ Open → (by : IsKnownBy it (known it.slot)) → by.row ≡ Some row → HasRowAt it.slot row bytes
  has_row_at it row low is_open by has =
      let held_so : known it.slot ≡ held (record_by it by.row) = by.is ∙ ap (λ (g : Gate). known_by g (record_by it by.row)) is_open in
      let both : Fits (held (record_by it by.row)) (gate_at it.slot bytes) (spelled record_of_slot it.slot bytes) =
      subst (λ (k : Known). Fits k (gate_at it.slot bytes) (spelled record_of_slot it.slot bytes)) held_so (is.fits it.slot low) in
      record { is_open = both.0; its = record_by it by.row; spells = both.1; has = has }

-- the row that an item of such a slot has
row_read_by : (row : List Value) (kind : Bool) (read : Result (List Value) ℕ) → (if kind then Some None else row_with read) ≡ Some (Some row) → Some row ≡ given read
row_read_by row true read e = absurd (cc e)
row_read_by row false (Ok values) e = sym (cc e)
row_read_by row false (Err left) e = absurd (cc e)

row_had_by : (item : SlotItem) (r : Record) (key : Result (List Value) ℕ) (o : Option (Option Row)) → record_with item key o ≡ Some r → o ≡ Some r.row
row_had_by item r (Ok key) (Some row) e =
    let same : r ≡ record { key = record { table = item.table; key = key }; row = row; stamp = item.stamp } = sym (cc e) in
    sym (ap (λ (x : Record). Some x.row) same)
row_had_by item r (Ok key) None e = absurd (cc e)
row_had_by item r (Err left) o e = absurd (cc e)

row_of_item : (item : SlotItem) (r : Record) (row : List Value) → record_in item ≡ Some r → r.row ≡ Some row → Some row ≡ given (read_row item.row)
row_of_item item r row is has = row_read_by row (item.kind == 2) (read_row item.row) (row_had_by item r (read_key item.key) (row_in item) is ∙ ap Some has)

-- what is read of it
module _ (slot : ℕ) (row : List Value) (bytes : List ℕ) (has : HasRowAt slot row bytes) where
  pub item_row : (item : SlotItem) (found : Option (List Value)) → IsSlotOf slot (Ok (Some item)) bytes → found ≡ given (read_row item.row) → found ≡ Some row
  item_row item found answer is =
      let it : spelled item_of slot bytes ≡ Some item = sym (behind_open (gate_at slot bytes) (spelled item_of slot bytes) has.is_open) ∙ sym answer.1 in
      let its : record_in item ≡ Some has.its = sym (ap record_from it) ∙ has.spells in
      is ∙ sym (row_of_item item has.its row its has.has)

  pub no_item : IsSlotOf slot (Ok None) bytes → ⊥
  no_item answer =
      let none : spelled item_of slot bytes ≡ None = sym (behind_open (gate_at slot bytes) (spelled item_of slot bytes) has.is_open) ∙ sym answer.1 in
      answer.0 (has.is_open, none)

  pub not_malformed : (at : ℕ) → IsSlotOf slot (Err (Malformed at)) bytes → ⊥
  not_malformed at answer =
      let bad = answer.1 in
      let none : record_from (spelled item_of slot bytes) ≡ None = ap record_from bad.1 in
      let some = has.spells in
      cc (none, some)
