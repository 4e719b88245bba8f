-- The rows of a range above a key, as a walk meets them.
use Rattle.std.proofs.Common.{◌≡◌, ℕ, ◌<◌, Bool, true, false, List, [], ◌∷◌, map, length, cond, refl, sym, ap, subst, ◌∙◌, arith, Option, None, Some}
use Rattle.std.specs.Prelude.{option_map}
use Rattle.std.specs.declared.cmp.Ordering.{Ordering}
use Rattle.std.specs.declared.cmp.Ordering.TheVariants.{Less, Equal, Greater}
use Rattle.std.specs.List.{find, filter, AllByRecursion}
use Rattle.std.specs.List.Sorted.{IsStrictlySortedBy}
use Rattle.std.specs.Ordering.{ordering_then, is_lt, ordering_reverse}
use Rattle.std.specs.FinMap.{entries, entries_sorted}
use Rattle.std.specs.Cmp.{tied_itself}
use Rattle.std.proofs.lemmas.Cmp.{nat_cmp_total}
use Rattle.std.proofs.lemmas.Map.Keys.{sorted_head, sorted_tail}
use Rattle.std.proofs.lemmas.List.Elements.{filter_passes, recursion_from_All}
use Rattle.odb_values.specs.declared.value.Value.{Value}
use Rattle.odb_values.specs.declared.range.Range.{Range}
use Rattle.odb_values.specs.Value.{values_cmp}
use Rattle.odb_values.specs.ValueOrder.{values_cmp_total}
use Rattle.odb_model.specs.declared.table_key.TableKey.{TableKey}
use Rattle.odb_model.specs.State.{State, table_key_cmp, is_in, part_in}
use Rattle.odb_model.proofs.Parts.{entries-retain_keys}
use Rattle.odb_model.proofs.Keys.{keys_ascend}
use Rattle.odb_rowsource.specs.declared.row_source.KeyedRow.{KeyedRow}
use Rattle.odb_rowsource.specs.RowSource.{is_above, keyed_row, next_in, entry_of, rows_above}
use Rattle.odb_rowsource.proofs.Nexts.{in_table}

abbrev pub Entry : Type 0
Entry = TableKey × List Value

abbrev above : Option (List Value) → Entry → Bool
above after e = is_above after e.0.key

-- one row is before another by its key
abbrev pub IsBefore : Entry → Entry → Type 0
IsBefore x y = values_cmp x.0.key y.0.key ≡ Less

-- a row is that of this table
abbrev pub IsIn : ℕ → Entry → Type 0
IsIn t e = e.0 ≡ record { table = t; key = e.0.key }

-- each row is before those behind it
abbrev pub Ascend : List Entry → Type 0
Ascend [] = Unit {0}
Ascend (x ∷ xs) = AllByRecursion (IsBefore x) xs × Ascend xs

pub same_table : (t : ℕ) (a b : List Value) → table_key_cmp (record { table = t; key = a }) (record { table = t; key = b }) ≡ values_cmp a b
same_table t a b = ap (λ o. ordering_then o (values_cmp a b)) (tied_itself nat_cmp_total t)

before : (t : ℕ) (x y : Entry) → IsIn t x → IsIn t y → table_key_cmp x.0 y.0 ≡ Less → IsBefore x y
before t x y p q e =
    sym (ap (λ k. table_key_cmp k y.0) p ∙ ap (λ k. table_key_cmp (record { table = t; key = x.0.key }) k) q ∙ same_table t x.0.key y.0.key) ∙ e

all_before : (t : ℕ) (x : Entry) (xs : List Entry) → IsIn t x → AllByRecursion (IsIn t) xs → AllByRecursion (λ k. table_key_cmp x.0 k ≡ Less) (map (λ e. e.0) xs) → AllByRecursion (IsBefore x) xs
all_before t x [] p all less = tt
all_before t x (y ∷ ys) p all less = (before t x y p all.0 less.0, all_before t x ys p all.1 less.1)

ascend : (t : ℕ) (es : List Entry) → AllByRecursion (IsIn t) es → IsStrictlySortedBy table_key_cmp (map (λ e. e.0) es) → Ascend es
ascend t [] all sorted = tt
ascend t (x ∷ xs) all sorted =
    (all_before t x xs all.0 all.1 (sorted_head table_key_cmp x.0 (map (λ e. e.0) xs) sorted), ascend t xs all.1 (sorted_tail table_key_cmp x.0 (map (λ e. e.0) xs) sorted))

is_less : (o : Ordering) → is_lt o ≡ true → o ≡ Less
is_less Less e = refl
is_less Equal e = cc
is_less Greater e = cc

-- what is above a key stays above it behind
above-later : (after : Option (List Value)) (x y : Entry) → above after x ≡ true → IsBefore x y → above after y ≡ true
above-later None x y e less = refl
above-later (Some last) x y e less = ap is_lt (values_cmp_total.trans last x.0.key y.0.key (is_less (values_cmp last x.0.key) e) less)

all-above : (after : Option (List Value)) (x : Entry) (xs : List Entry) → above after x ≡ true → AllByRecursion (IsBefore x) xs → filter (above after) xs ≡ xs
all-above after x [] e all = refl
all-above after x (y ∷ ys) e all =
    ap (λ b. cond b (y ∷ filter (above after) ys) (filter (above after) ys)) (above-later after x y e all.0) ∙ ap (λ r. y ∷ r) (all-above after x ys e all.1)

behind-itself : (x : Entry) (xs : List Entry) → AllByRecursion (IsBefore x) xs → filter (above (Some x.0.key)) xs ≡ xs
behind-itself x [] all = refl
behind-itself x (y ∷ ys) all =
    ap (λ o. cond (is_lt o) (y ∷ filter (above (Some x.0.key)) ys) (filter (above (Some x.0.key)) ys)) all.0 ∙ ap (λ r. y ∷ r) (behind-itself x ys all.1)

not-above-itself : (x : Entry) → above (Some x.0.key) x ≡ false
not-above-itself x = ap is_lt (tied_itself values_cmp_total x.0.key)

not-above-later : (x y : Entry) → IsBefore x y → above (Some y.0.key) x ≡ false
not-above-later x y less = ap is_lt (values_cmp_total.antisymm y.0.key x.0.key ∙ ap ordering_reverse less)

found : (P : Entry → Type 0) (p : Entry → Bool) (xs : List Entry) (e : Entry) → AllByRecursion P xs → find p xs ≡ Some e → P e
found P p [] e all is = cc
found P p (x ∷ xs) e all is =
    elim (p x) as (λ b. cond b (Some x) (find p xs) ≡ Some e → P e) [
      | true ↦ λ same. let one : x ≡ e = cc in subst P one all.0
      | false ↦ λ more. found P p xs e all.1 more
    ] is

-- of rows in key order the first one above a key is followed by those above its own
first-above : (after : Option (List Value)) (es : List Entry) (e : Entry) → Ascend es → find (above after) es ≡ Some e → filter (above after) es ≡ e ∷ filter (above (Some e.0.key)) es
first-above after [] e ascends is = cc
first-above after (x ∷ xs) e ascends is =
    elim (above after x) as (λ b. above after x ≡ b → cond b (Some x) (find (above after) xs) ≡ Some e → cond b (x ∷ filter (above after) xs) (filter (above after) xs) ≡ e ∷ filter (above (Some e.0.key)) (x ∷ xs)) [
      | true ↦ λ here same.
          let one : x ≡ e = cc in
          let rest : filter (above (Some x.0.key)) (x ∷ xs) ≡ xs =
          ap (λ b. cond b (x ∷ filter (above (Some x.0.key)) xs) (filter (above (Some x.0.key)) xs)) (not-above-itself x) ∙ behind-itself x xs ascends.0 in
          subst (λ (y : Entry). x ∷ filter (above after) xs ≡ y ∷ filter (above (Some y.0.key)) (x ∷ xs)) one (ap (λ r. x ∷ r) (all-above after x xs here ascends.0 ∙ sym rest))
      | false ↦ λ here more.
          let less : IsBefore x e = found (IsBefore x) (above after) xs e ascends.0 more in
          first-above after xs e ascends.1 more
          ∙ ap (λ b. e ∷ cond b (x ∷ filter (above (Some e.0.key)) xs) (filter (above (Some e.0.key)) xs)) (sym (not-above-later x e less))
    ] refl is

none-above : (p : Entry → Bool) (es : List Entry) → find p es ≡ None → filter p es ≡ []
none-above p [] is = refl
none-above p (x ∷ xs) is =
    elim (p x) as (λ b. cond b (Some x) (find p xs) ≡ None → cond b (x ∷ filter p xs) (filter p xs) ≡ []) [ true ↦ λ e. cc | false ↦ λ e. none-above p xs e ] is

module _ (range : Range) (s : State) where
  in-range : AllByRecursion (λ e. is_in range e.0 ≡ true) (entries (part_in range s))
  in-range =
      subst (AllByRecursion (λ (e : Entry). is_in range e.0 ≡ true)) (sym (entries-retain_keys s (is_in range)))
      (recursion_from_All (λ (e : Entry). is_in range e.0 ≡ true) (filter (λ e. is_in range e.0) (entries s)) (filter_passes (λ (e : Entry). is_in range e.0) (entries s)))

  all-in : (es : List Entry) → AllByRecursion (λ e. is_in range e.0 ≡ true) es → AllByRecursion (IsIn range.table) es
  all-in [] all = tt
  all-in (x ∷ xs) all = (in_table range x.0 all.0, all-in xs all.1)

  -- the rows of a range have its table and ascend
  pub part-in : AllByRecursion (IsIn range.table) (entries (part_in range s))
  part-in = all-in (entries (part_in range s)) in-range

  pub part-ascends : Ascend (entries (part_in range s))
  part-ascends = ascend range.table (entries (part_in range s)) part-in (keys_ascend (entries (part_in range s)) (entries_sorted (part_in range s)))

  none-found : (o : Option Entry) → None ≡ option_map keyed_row o → o ≡ None
  none-found None e = refl
  none-found (Some x) e = cc

  some-found : (r : KeyedRow) (o : Option Entry) → Some r ≡ option_map keyed_row o → (e : Entry) × (o ≡ Some e) × (r ≡ keyed_row e)
  some-found r None e = cc
  some-found r (Some x) e = (x, refl, (cc))

  -- where a source gives no row, none is left above the key
  pub next-none : (after : Option (List Value)) → None ≡ next_in range after s → rows_above range after s ≡ []
  next-none after e = none-above (above after) (entries (part_in range s)) (none-found (find (above after) (entries (part_in range s))) e)

  -- where it gives one, that is the first of those that are left
  pub next-some : (after : Option (List Value)) (r : KeyedRow) → Some r ≡ next_in range after s → rows_above range after s ≡ entry_of range.table r ∷ rows_above range (Some r.key) s
  next-some after r e =
      let there = some-found r (find (above after) (entries (part_in range s))) e in
      let same : entry_of range.table r ≡ there.0 =
      ap (entry_of range.table) there.2 ∙ ap (λ (k : TableKey). (k, there.0.1)) (sym (found (IsIn range.table) (above after) (entries (part_in range s)) there.0 part-in there.1)) in
      let keyed : r.key ≡ there.0.0.key = ap (λ (x : KeyedRow). x.key) there.2 in
      first-above after (entries (part_in range s)) there.0 part-ascends there.1
      ∙ ap (λ (x : Entry). x ∷ rows_above range (Some there.0.0.key) s) (sym same)
      ∙ ap (λ k. entry_of range.table r ∷ rows_above range (Some k) s) (sym keyed)

  -- fewer rows are left behind a row
  pub above-fewer : (after : Option (List Value)) (r : KeyedRow) → Some r ≡ next_in range after s → length (rows_above range (Some r.key) s) < length (rows_above range after s)
  above-fewer after r e = let one = ap length (next-some after r e) in omega arith
