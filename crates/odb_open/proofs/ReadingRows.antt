-- The rows of a databank file as it reads: of each key the row of its record.
use Rattle.std.proofs.Common.{◌≡◌, ℕ, zero, suc, ◌+◌, ◌<◌, ◌≤◌, Bool, true, false, ◌||◌, cond, List, [], ◌∷◌, Option, Some, None, refl, sym, ap, ◌∙◌, inl, inr, arith}
use Rattle.std.specs.List.{list_any, filter_map, range_with_len, cons_option}
use Rattle.std.specs.Ordering.{eq_by_cmp, is_eq}
use Rattle.std.specs.declared.cmp.Ordering.{Ordering}
use Rattle.std.specs.declared.cmp.Ordering.TheVariants.{Less, Equal, Greater}
use Rattle.std.specs.Cmp.{tied_itself}
use Rattle.std.specs.FinMap.{empty, get, get-empty}
use Rattle.std.proofs.lemmas.Bool.{cases_eq}
use Rattle.odb_model.specs.declared.table_key.TableKey.{TableKey}
use Rattle.odb_model.specs.State.{State, table_key_cmp, changed}
use Rattle.odb_model.proofs.Replay.{table_key_cmp_total, table_key_cmp_exact, get-changed_at}
use Rattle.odb_bank.specs.History.{Row}
use Rattle.odb_bank.specs.Records.{Record, View, record_of, row_of, bank_map, IsRecord}
use Rattle.odb_bank.proofs.Reading.{record_is}
use Rattle.odb_open.specs.Files.{open_records, rows_with}

-- the record is one of the key
abbrev is_of : TableKey → Record → Bool
is_of key r = eq_by_cmp table_key_cmp key r.key

either : (a b : Bool) (x y : Option Row) → cond b x (cond a x y) ≡ cond (a || b) x y
either true true x y = refl
either true false x y = refl
either false b x y = refl

or_true : (b : Bool) → (b || true) ≡ true
or_true true = refl
or_true false = refl

same_key : (key : TableKey) (r : Record) → r.key ≡ key → is_of key r ≡ true
same_key key r e = ap (λ (k : TableKey). eq_by_cmp table_key_cmp key k) e ∙ ap is_eq (tied_itself table_key_cmp_total key)

module _ (slots : ℕ) (view : View) (key : TableKey) where
  same_row : (r : Record) (s : State) (o : Ordering) → table_key_cmp key r.key ≡ o → cond (is_eq o) (bank_map slots view r.key) (get s key) ≡ cond (is_eq o) (bank_map slots view key) (get s key)
  same_row r s Less e = refl
  same_row r s Equal e = ap (bank_map slots view) (sym (table_key_cmp_exact key r.key e))
  same_row r s Greater e = refl

  row_here : (r : Record) (s : State) → get (changed s r.key (bank_map slots view r.key)) key ≡ cond (is_of key r) (bank_map slots view key) (get s key)
  row_here r s = get-changed_at s r.key (bank_map slots view r.key) key ∙ same_row r s (table_key_cmp key r.key) refl

  rows_at : (rs : List Record) (s : State) → get (rows_with slots view s rs) key ≡ cond (list_any (is_of key) rs) (bank_map slots view key) (get s key)
  rows_at [] s = refl
  rows_at (r ∷ rs) s =
      rows_at rs (changed s r.key (bank_map slots view r.key))
      ∙ ap (λ (o : Option Row). cond (list_any (is_of key) rs) (bank_map slots view key) o) (row_here r s)
      ∙ either (is_of key r) (list_any (is_of key) rs) (bank_map slots view key) (get s key)

  -- an open record of the key is among those that are read

  first : (r : Record) (o : Option Record) (rest : List Record) → o ≡ Some r → is_of key r ≡ true → list_any (is_of key) (cons_option o rest) ≡ true
  first r o rest e same =
      ap (λ (x : Option Record). list_any (is_of key) (cons_option x rest)) e
      ∙ ap (λ (b : Bool). b || list_any (is_of key) rest) same

  later : (o : Option Record) (rest : List Record) → list_any (is_of key) rest ≡ true → list_any (is_of key) (cons_option o rest) ≡ true
  later None rest e = e
  later (Some q) rest e = ap (λ (b : Bool). is_of key q || b) e ∙ or_true (is_of key q)

  any_open : (r : Record) (slot n a : ℕ) → view slot ≡ Some r → is_of key r ≡ true → a ≤ slot → slot < a + n → list_any (is_of key) (filter_map view (range_with_len a n)) ≡ true
  any_open r slot zero a there same low high = absurd (omega (arith, low, high))
  any_open r slot (suc n) a there same low high = elim (cases_eq a slot) [
    | inl here ↦ first r (view a) (filter_map view (range_with_len (a + 1) n)) (ap view here ∙ there) same
    | inr other ↦ later (view a) (filter_map view (range_with_len (a + 1) n)) (any_open r slot n (a + 1) there same (omega arith) (omega arith))
  ]

  clash : true ≡ false → ⊥
  clash e = cc

  no_row : (found : Option Record) → IsRecord slots view key found → list_any (is_of key) (open_records slots view) ≡ false → row_of found ≡ None
  no_row None is none = refl
  no_row (Some r) is none =
      absurd (clash (sym (any_open r is.slot slots 0 is.is_open (same_key key r is.of_key) (omega arith) (omega (arith, is.below))) ∙ none))

  by_any : (b : Bool) → list_any (is_of key) (open_records slots view) ≡ b → cond b (bank_map slots view key) None ≡ bank_map slots view key
  by_any true e = refl
  by_any false e = sym (no_row (record_of slots view key) (record_is slots view key) e)

  pub rows_are : get (rows_with slots view empty (open_records slots view)) key ≡ bank_map slots view key
  rows_are =
      rows_at (open_records slots view) empty
      ∙ ap (λ (o : Option Row). cond (list_any (is_of key) (open_records slots view)) (bank_map slots view key) o) (get-empty table_key_cmp key)
      ∙ by_any (list_any (is_of key) (open_records slots view)) refl
