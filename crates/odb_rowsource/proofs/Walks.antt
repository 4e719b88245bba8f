-- A walk gets the rows of a range in their order.
use Rattle.std.proofs.Common.{◌≡◌, ℕ, zero, suc, ◌+◌, Bool, true, false, cond, List, [], ◌∷◌, map, refl, sym, ap, subst, ◌∙◌, arith, Option, None, Some}
use Rattle.std.specs.Prelude.{option_map, slice_get}
use Rattle.std.specs.List.{find, filter, AllByRecursion}
use Rattle.std.specs.List.Sorted.{IsStrictlySortedBy}
use Rattle.std.specs.declared.cmp.Ordering.{Ordering}
use Rattle.std.specs.declared.cmp.Ordering.TheVariants.{Less, Equal, Greater}
use Rattle.std.specs.Ordering.{nat_cmp, ordering_then, is_lt}
use Rattle.std.specs.Cmp.{tied_itself}
use Rattle.std.specs.FinMap.{entries, entries_sorted}
use Rattle.std.proofs.lemmas.Cmp.{nat_cmp_total}
use Rattle.std.proofs.lemmas.Map.Keys.{sorted_head, sorted_tail}
use Rattle.odb_values.specs.declared.value.Value.{Value}
use Rattle.odb_values.specs.declared.range.Range.{Range}
use Rattle.odb_values.specs.Value.{values_cmp}
use Rattle.odb_values.specs.ValueOrder.{values_cmp_total}
use Rattle.odb_model.specs.declared.table_key.TableKey.{TableKey}
use Rattle.odb_model.specs.State.{State, table_key_cmp, is_in, part_in}
use Rattle.odb_model.proofs.Parts.{entries-retain_keys}
use Rattle.odb_model.proofs.Keys.{keys_ascend}
use Rattle.odb_rowsource.specs.declared.row_source.KeyedRow.{KeyedRow}
use Rattle.odb_rowsource.specs.RowSource.{is_above, keyed_row, next_in, rows_in}
use Rattle.odb_rowsource.proofs.Nexts.{flipped, in_table}

abbrev Rows : Type 0
Rows = List (TableKey × List Value)

abbrev key_of : TableKey × List Value → TableKey
key_of e = e.0

-- each row is of one table
abbrev OfTable : ℕ → TableKey × List Value → Type 0
OfTable table e = e.0 ≡ record { table = table; key = e.0.key }

of_table : (range : Range) (es : Rows) → AllByRecursion (OfTable range.table) (filter (λ e. is_in range e.0) es)
of_table range [] = tt
of_table range (e ∷ es) = by (is_in range e.0) refl (of_table range es) where
  by : (b : Bool) → is_in range e.0 ≡ b → AllByRecursion (OfTable range.table) (filter (λ x. is_in range x.0) es)
      → AllByRecursion (OfTable range.table) (cond b (e ∷ filter (λ x. is_in range x.0) es) (filter (λ x. is_in range x.0) es))
  by true i rest = (in_table range e.0 i, rest)
  by false i rest = rest

-- keys of one table stand as their values do
one_table : (t : ℕ) (a b : TableKey × List Value) → OfTable t a → OfTable t b → table_key_cmp a.0 b.0 ≡ values_cmp a.0.key b.0.key
one_table t a b p q =
    ap (λ k. table_key_cmp k b.0) p ∙ ap (table_key_cmp (record { table = t; key = a.0.key })) q
    ∙ ap (λ o. ordering_then o (values_cmp a.0.key b.0.key)) (tied_itself nat_cmp_total t)

-- whether a row is above another
abbrev above : TableKey × List Value → TableKey × List Value → Bool
above e x = is_lt (values_cmp e.0.key x.0.key)

-- a row that comes first is followed by the next one
first_above : (t : ℕ) (e : TableKey × List Value) (xs : Rows) → OfTable t e → AllByRecursion (OfTable t) xs
    → AllByRecursion (λ k. table_key_cmp e.0 k ≡ Less) (map key_of xs) → find (above e) xs ≡ slice_get xs 0
first_above t e [] p all greater = refl
first_above t e (x ∷ xs) p all greater =
    ap (λ o. cond (is_lt o) (Some x) (find (above e) xs)) (sym (one_table t e x p all.0) ∙ greater.0)

-- what comes before a row isn't above it
not_above : (t : ℕ) (x e : TableKey × List Value) → OfTable t x → OfTable t e → table_key_cmp x.0 e.0 ≡ Less → above e x ≡ false
not_above t x e p q less = ap is_lt (sym (one_table t e x q p) ∙ flipped x.0 e.0 Less less)

at_place : (t : ℕ) (x e : TableKey × List Value) (xs : Rows) (n : ℕ) → AllByRecursion (OfTable t) xs
    → AllByRecursion (λ k. table_key_cmp x.0 k ≡ Less) (map key_of xs) → slice_get xs n ≡ Some e → (OfTable t e) × (table_key_cmp x.0 e.0 ≡ Less)
at_place t x e [] n all greater found = cc
at_place t x e (y ∷ ys) zero all greater found =
    let same : y ≡ e = cc in
    (subst (λ (z : TableKey × List Value). OfTable t z) same all.0, subst (λ (z : TableKey × List Value). table_key_cmp x.0 z.0 ≡ Less) same greater.0)
at_place t x e (y ∷ ys) (suc n) all greater found = at_place t x e ys n all.1 greater.1 found

next_above : (t : ℕ) (es : Rows) (n : ℕ) (e : TableKey × List Value) → AllByRecursion (OfTable t) es → IsStrictlySortedBy table_key_cmp (map key_of es)
    → slice_get es n ≡ Some e → find (above e) es ≡ slice_get es (suc n)
next_above t [] n e all sorted found = cc
next_above t (x ∷ xs) zero e all sorted found =
    let same : x ≡ e = cc in
    subst (λ (z : TableKey × List Value). find (above z) (x ∷ xs) ≡ slice_get xs 0) same
    (ap (λ o. cond (is_lt o) (Some x) (find (above x) xs)) (tied_itself values_cmp_total x.0.key)
    ∙ first_above t x xs all.0 all.1 (sorted_head table_key_cmp x.0 (map key_of xs) sorted))
next_above t (x ∷ xs) (suc n) e all sorted found =
    let place = at_place t x e xs n all.1 (sorted_head table_key_cmp x.0 (map key_of xs) sorted) found in
    ap (λ b. cond b (Some x) (find (above e) xs)) (not_above t x e all.0 place.0 place.1)
    ∙ next_above t xs n e all.1 (sorted_tail table_key_cmp x.0 (map key_of xs) sorted) found

slice_get-rows : (es : Rows) (n : ℕ) → slice_get (map keyed_row es) n ≡ option_map keyed_row (slice_get es n)
slice_get-rows [] n = refl
slice_get-rows (e ∷ es) zero = refl
slice_get-rows (e ∷ es) (suc n) = slice_get-rows es n

pub walk-begins : (range : Range) (s : State) → next_in range None s ≡ slice_get (rows_in range s) 0
walk-begins range s = by (entries (part_in range s)) where
  by : (es : Rows) → option_map keyed_row (find (λ e. is_above None e.0.key) es) ≡ slice_get (map keyed_row es) 0
  by [] = refl
  by (e ∷ es) = refl

row_is : (o : Option (TableKey × List Value)) (r : KeyedRow) → option_map keyed_row o ≡ Some r → (e : TableKey × List Value) × (o ≡ Some e) × (keyed_row e ≡ r)
row_is None r e = cc
row_is (Some x) r e = (x, refl, cc)

pub walk-goes_on : (range : Range) (s : State) (n : ℕ) (r : KeyedRow) → slice_get (rows_in range s) n ≡ Some r
    → next_in range (Some r.key) s ≡ slice_get (rows_in range s) (n + 1)
walk-goes_on range s n r found =
    let es : Rows = entries (part_in range s) in
    let row = row_is (slice_get es n) r (sym (slice_get-rows es n) ∙ found) in
    let one : AllByRecursion (OfTable range.table) es =
    subst (λ (xs : Rows). AllByRecursion (OfTable range.table) xs) (sym (entries-retain_keys s (is_in range))) (of_table range (entries s)) in
    let next : n + 1 ≡ suc n = omega arith in
    ap (λ (x : KeyedRow). next_in range (Some x.key) s) (sym row.2)
    ∙ ap (option_map keyed_row) (next_above range.table es n row.0 one (keys_ascend es (entries_sorted (part_in range s))) row.1)
    ∙ sym (slice_get-rows es (suc n)) ∙ ap (slice_get (rows_in range s)) (sym next)
