-- A walk over the rows of a state goes on from a row's place.
use Rattle.std.proofs.Common.{◌≡◌, Bool, true, false, ◌&&◌, not, ℕ, List, [], ◌∷◌, map, cond, refl, ap, sym, subst, ◌∙◌, Option, None, Some}
use Rattle.std.specs.Prelude.{option_map, MatchOption, IfSome, slice_get}
use Rattle.std.specs.Borrow.{Bor}
use Rattle.std.specs.declared.cmp.Ordering.{Ordering}
use Rattle.std.specs.declared.cmp.Ordering.TheVariants.{Less, Equal, Greater}
use Rattle.std.specs.Cmp.{tied_itself}
use Rattle.std.specs.BTreeMap.Range.{is_from_start, entries_between}
use Rattle.std.specs.declared.ops.Bound.TheVariants.{Excluded, Unbounded}
use Rattle.std.specs.List.{AllByRecursion, list_all, find, filter}
use Rattle.std.specs.List.Sorted.{IsStrictlySortedBy}
use Rattle.std.specs.Ordering.{is_eq, is_lt, eq_by_cmp}
use Rattle.std.specs.FinMap.{entries, entries_sorted}
use Rattle.std.proofs.lemmas.Map.Keys.{sorted_head, sorted_tail}
use Rattle.odb_values.specs.declared.value.Value.{Value}
use Rattle.odb_values.specs.declared.range.Range.{Range}
use Rattle.odb_model.specs.declared.table_key.TableKey.{TableKey}
use Rattle.odb_model.specs.State.{State, table_key_cmp, is_in}
use Rattle.odb_model.proofs.Keys.{keys_ascend}
use Rattle.odb_model.proofs.Replay.{table_key_cmp_total, table_key_cmp_exact}
use Rattle.odb_rowsource.specs.RowSource.{keyed_row, next_in}
use Rattle.odb_rowsource.specs.Stand.{stand, is_behind, is_from}
use Rattle.odb_rowsource.proofs.Splits as splits
use Rattle.odb_rowsource.proofs.Nexts.{next_in-first}
use Rattle.odb_rowsource.proofs.Stands.{is_next, from-next, next-from, next-stops, from-up}
use Rattle.odb_keytable.specs.declared.spot.Spot.{Spot}
use Rattle.odb_keytable.specs.declared.place.Place.{Place}
use Rattle.odb_keytable.specs.declared.spot.Spot.TheVariants.{At, Start, Past}
use Rattle.odb_keytable.specs.Spot.{is_row, table_key_at, spot_cmp, spot_at}
use Rattle.odb_keytable.specs.Begin.{begin_of, begin_from}
use Rattle.odb_keytable.specs.Table.{rows_at, state_of, AreRows, row_entry, is_inside_row, where_passes, lent_entry}
use Rattle.odb_keytable.specs.Place.{IsLeft, IsPlace, goes_on}
use Rattle.odb_keytable.proofs.Begins.{spots_at, begin-reached}
use Rattle.odb_keytable.proofs.RowPlaces.{Entries, row_spot, both, first_row, other_rows, entries-state_of}

abbrev Rows : Type 0
Rows = List (TableKey × List Value)

find-head : {A : Type 0} (p : A → Bool) (xs : List A) → slice_get (filter p xs) 0 ≡ find p xs
find-head p [] = refl
find-head p (x ∷ xs) = by (p x) (find-head p xs) where
  by : (b : Bool) → slice_get (filter p xs) 0 ≡ find p xs → slice_get (cond b (x ∷ filter p xs) (filter p xs)) 0 ≡ cond b (Some x) (find p xs)
  by true more = refl
  by false more = more

-- rows in order, of which those from one on pass
module _ (p : TableKey → Bool) (up : (a b : TableKey) → table_key_cmp a b ≡ Less → p a ≡ true → p b ≡ true) where
  all_kept : (k : TableKey) (es : Rows) → p k ≡ true → AllByRecursion (λ q. table_key_cmp k q ≡ Less) (map (λ e. e.0) es) → filter (λ e. p e.0) es ≡ es
  all_kept k [] is all = refl
  all_kept k (e ∷ es) is all =
      ap (λ b. cond b (e ∷ filter (λ x. p x.0) es) (filter (λ x. p x.0) es)) (up k e.0 all.0 is) ∙ ap (λ xs. e ∷ xs) (all_kept k es is all.1)

  kept_passes : (es : Rows) (e : TableKey × List Value) (more : Rows) → filter (λ x. p x.0) es ≡ e ∷ more → p e.0 ≡ true
  kept_passes [] e more is = cc
  kept_passes (y ∷ ys) e more is = by (p y.0) refl is (kept_passes ys e more) where
    by : (b : Bool) → p y.0 ≡ b → cond b (y ∷ filter (λ x. p x.0) ys) (filter (λ x. p x.0) ys) ≡ e ∷ more → (filter (λ x. p x.0) ys ≡ e ∷ more → p e.0 ≡ true) → p e.0 ≡ true
    by true passes is later = let same : y ≡ e = cc in ap (λ x. p x.0) (sym same) ∙ passes
    by false passes is later = later is

  all_behind : (k : TableKey) (es : Rows) → AllByRecursion (λ q. table_key_cmp k q ≡ Less) (map (λ e. e.0) es) → filter (λ e. is_lt (table_key_cmp k e.0)) es ≡ es
  all_behind k [] all = refl
  all_behind k (e ∷ es) all =
      ap (λ o. cond (is_lt o) (e ∷ filter (λ x. is_lt (table_key_cmp k x.0)) es) (filter (λ x. is_lt (table_key_cmp k x.0)) es)) all.0
      ∙ ap (λ xs. e ∷ xs) (all_behind k es all.1)

  -- behind the first that passes are those above it
  pub kept-behind : (es : Rows) (e : TableKey × List Value) (more : Rows) → IsStrictlySortedBy table_key_cmp (map (λ x. x.0) es) → filter (λ x. p x.0) es ≡ e ∷ more
      → more ≡ filter (λ x. is_lt (table_key_cmp e.0 x.0)) es
  kept-behind [] e more sorted is = cc
  kept-behind (y ∷ ys) e more sorted is =
      by (p y.0) refl is (kept-behind ys e more (sorted_tail table_key_cmp y.0 (map (λ x. x.0) ys) sorted)) where
        above : AllByRecursion (λ q. table_key_cmp y.0 q ≡ Less) (map (λ x. x.0) ys)
        above = sorted_head table_key_cmp y.0 (map (λ x. x.0) ys) sorted

        kept : TableKey → Rows → Rows
        kept k xs = filter (λ x. is_lt (table_key_cmp k x.0)) xs

        itself : y ≡ e → kept e.0 (y ∷ ys) ≡ ys
        itself same =
            ap (λ (x : TableKey × List Value). kept x.0 (y ∷ ys)) (sym same)
            ∙ ap (λ o. cond (is_lt o) (y ∷ kept y.0 ys) (kept y.0 ys)) (tied_itself table_key_cmp_total y.0)
            ∙ all_behind y.0 ys above

        not_above : p y.0 ≡ false → p e.0 ≡ true → (o : Ordering) → table_key_cmp e.0 y.0 ≡ o → is_lt o ≡ false
        not_above out passes Less less = let no : false ≡ true = sym out ∙ up e.0 y.0 less passes in cc
        not_above out passes Equal less = refl
        not_above out passes Greater less = refl

        by : (b : Bool) → p y.0 ≡ b → cond b (y ∷ filter (λ x. p x.0) ys) (filter (λ x. p x.0) ys) ≡ e ∷ more
            → (filter (λ x. p x.0) ys ≡ e ∷ more → more ≡ kept e.0 ys) → more ≡ kept e.0 (y ∷ ys)
        by true passes is later =
            let same : y ≡ e = cc in
            let rest : filter (λ x. p x.0) ys ≡ more = cc in
            sym rest ∙ all_kept y.0 ys passes above ∙ sym (itself same)
        by false out is later =
            later is ∙ sym (ap (λ b. cond b (y ∷ kept e.0 ys) (kept e.0 ys)) (not_above out (kept_passes ys e more is) (table_key_cmp e.0 y.0) refl))

AreRows-filter : (p : Spot × List Value → Bool) (es : Entries) → AreRows es → AreRows (filter p es)
AreRows-filter p [] h = refl
AreRows-filter p (e ∷ es) h = by (p e) (AreRows-filter p es (other_rows e es h)) where
  by : (b : Bool) → AreRows (filter p es) → AreRows (cond b (e ∷ filter p es) (filter p es))
  by true rest = both (is_row e.0) (list_all (λ x. is_row x.0) (filter p es)) (first_row e es h) rest
  by false rest = rest

module _ (range : Range) (after : Option (List Value)) where
  and_kept : (b : Bool) → (b && not false) ≡ b
  and_kept true = refl
  and_kept false = refl

  -- the entries that a search reaches are the rows from where the next one may be
  reached_rows : (es : Entries) → AreRows es → rows_at (entries_between spot_cmp (begin_from range after) Unbounded es) ≡ filter (λ e. is_from range after e.0) (rows_at es)
  reached_rows [] h = refl
  reached_rows (e ∷ es) h =
      let begun : Bool = is_from_start spot_cmp (begin_from range after) e.0 in
      let same : begun ≡ is_from range after (table_key_at e.0) =
      ap (is_from_start spot_cmp (begin_from range after)) (sym (row_spot e.0 (first_row e es h))) ∙ begin-reached range after (table_key_at e.0) in
      ap (λ b. rows_at (cond b (e ∷ entries_between spot_cmp (begin_from range after) Unbounded es) (entries_between spot_cmp (begin_from range after) Unbounded es))) (and_kept begun ∙ same)
      ∙ mapped (is_from range after (table_key_at e.0)) e (entries_between spot_cmp (begin_from range after) Unbounded es)
      ∙ ap (λ xs. cond (is_from range after (table_key_at e.0)) (row_entry e ∷ xs) xs) (reached_rows es (other_rows e es h))
    where
      mapped : (b : Bool) (x : Spot × List Value) (xs : Entries) → rows_at (cond b (x ∷ xs) xs) ≡ cond b (row_entry x ∷ rows_at xs) (rows_at xs)
      mapped true x xs = refl
      mapped false x xs = refl

  pub left-reached : (es : Entries) → AreRows es → IsStrictlySortedBy spot_cmp (map (λ e. e.0) es) → IsLeft range after (state_of es) (entries_between spot_cmp (begin_from range after) Unbounded es)
  left-reached es h ordered = record {
    rows = AreRows-filter _ es h;
    left = reached_rows es h ∙ sym (ap (filter (λ e. is_from range after e.0)) (entries-state_of es h ordered));
  }

  -- what comes first is a row's place
  first_inside : (rest : Entries) → AreRows rest
      → splits.where_passes (λ e. is_in range e.0) (slice_get (rows_at rest) 0) ≡ option_map row_entry (where_passes (is_inside_row range) (slice_get rest 0))
  first_inside [] h = refl
  first_inside (e ∷ es) h = inside (is_row e.0) (is_in range (table_key_at e.0)) (first_row e es h) where
    inside : (r i : Bool) → r ≡ true → cond i (Some (row_entry e)) None ≡ option_map row_entry (cond (r && i) (Some e) None)
    inside true true f = refl
    inside true false f = refl
    inside false i f = cc

  -- the next row of a range is the first entry that is left, where that is inside
  pub next-left : (s : State) (rest : Entries) → IsLeft range after s rest
      → next_in range after s ≡ option_map keyed_row (option_map row_entry (where_passes (is_inside_row range) (slice_get rest 0)))
  next-left s rest is =
      next_in-first range after s
      ∙ ap (option_map keyed_row)
      (splits.find-wanted (λ e. e.0) (λ e. is_from range after e.0) (λ e. is_next range after e.0) (λ e. is_in range e.0)
      (λ e. from-next range after e.0) (λ e. next-from range after e.0) (λ e f. next-stops range after e.0 f.0) (entries s) (keys_ascend (entries s) (entries_sorted s))
      ∙ ap (splits.where_passes (λ e. is_in range e.0)) (sym (find-head (λ e. is_from range after e.0) (entries s)) ∙ ap (λ (es : Rows). slice_get es 0) (sym is.left))
      ∙ first_inside rest is.rows)

  -- behind the first entry that is left are the rows behind its place
  pub place-first : (s : State) (e : Spot × List Value) (more : Entries) (table : ℕ) (key : List Value) → e.0 ≡ At table key → IsLeft range after s (e ∷ more) → IsPlace s table key more
  place-first s e more table key at is = record {
    rows = other_rows e more is.rows;
    behind =
        kept-behind (is_from range after) (from-up range after) (entries s) (row_entry e) (rows_at more) (keys_ascend (entries s) (entries_sorted s)) (sym is.left)
        ∙ ap (λ (k : Spot). filter (λ (x : TableKey × List Value). is_lt (table_key_cmp (table_key_at k) x.0)) (entries s)) at;
  }

parts : (a b : Bool) → (a && b) ≡ true → (a ≡ true) × (b ≡ true)
parts true b e = (refl, e)
parts false b e = cc

not_false : (b : Bool) → not b ≡ true → b ≡ false
not_false true e = cc
not_false false e = refl

filter-same : {A : Type 0} (p q : A → Bool) → ((x : A) → p x ≡ q x) → (xs : List A) → filter p xs ≡ filter q xs
filter-same p q same [] = refl
filter-same p q same (x ∷ xs) = ap (λ b. cond b (x ∷ filter p xs) (filter p xs)) (same x) ∙ ap (λ ys. cond (q x) (x ∷ ys) ys) (filter-same p q same xs)

tied_is : (q k : TableKey) → eq_by_cmp table_key_cmp q k ≡ true → q ≡ k
tied_is q k e = by (table_key_cmp q k) refl e where
  by : (o : Ordering) → table_key_cmp q k ≡ o → is_eq o ≡ true → q ≡ k
  by Less p f = cc
  by Equal p f = table_key_cmp_exact q k p
  by Greater p f = cc

-- from a key that isn't before a range on what is behind it is left
from_behind : (range : Range) (last : List Value) (at : TableKey) → is_lt (stand range (record { table = range.table; key = last })) ≡ false
    → is_behind range.table (Some last) at ≡ is_from range (Some last) at
from_behind range last at high =
    let last_at : TableKey = record { table = range.table; key = last } in
    sym (ap is_lt (spots_at last_at at))
    ∙ sym (ap (λ b. is_from_start spot_cmp (cond b (begin_of range) (Excluded (At range.table last))) (spot_at at)) high)
    ∙ begin-reached range (Some last) at

pub left-place : (range : Range) (after : Option (List Value)) (s : State) (table : ℕ) (key : List Value) (rest : Entries) → goes_on table key range after ≡ true → IsPlace s table key rest → IsLeft range after s rest
left-place range None s table key rest on is = cc
left-place range (Some last) s table key rest on is =
    let last_at : TableKey = record { table = range.table; key = last } in
    let at : TableKey = record { table = table; key = key } in
    let two = parts (eq_by_cmp table_key_cmp last_at at) (not (is_lt (stand range last_at))) on in
    let same : last_at ≡ at = tied_is last_at at two.0 in
    record {
      rows = is.rows;
      left = is.behind
          ∙ ap (λ (k : TableKey). filter (λ (x : TableKey × List Value). is_lt (table_key_cmp k x.0)) (entries s)) (sym same)
          ∙ filter-same (λ x. is_behind range.table (Some last) x.0) (λ x. is_from range (Some last) x.0) (λ x. from_behind range last x.0 (not_false (is_lt (stand range last_at)) two.1)) (entries s);
    }

-- what an iterator gives is the first of what it has
pub first-is : (s t : Entries) (r : Option (Bor Spot × Bor (List Value))) → MatchOption r ((s ≡ []) × (t ≡ [])) (λ x. s ≡ lent_entry x ∷ t) → option_map lent_entry r ≡ slice_get s 0
first-is s t None h = sym (ap (λ (es : Entries). slice_get es 0) h.0)
first-is s t (Some x) h = sym (ap (λ (es : Entries). slice_get es 0) h)

-- the place of the first entry that is left
pub placed-left : (range : Range) (after : Option (List Value)) (s : State) (rest more : Entries) (r : Option (Bor Spot × Bor (List Value))) (o : Option Place)
    → MatchOption r ((rest ≡ []) × (more ≡ [])) (λ x. rest ≡ lent_entry x ∷ more)
    → IfSome o (λ p. option_map (λ (x : Bor Spot × Bor (List Value)). x.0.now) r ≡ Some (At p.table p.key.now)) → IfSome o (λ p. p.rest ≡ more)
    → IsLeft range after s rest → IfSome o (λ p. IsPlace s p.table p.key.now p.rest)
placed-left range after s rest more r None steps at kept is = tt
placed-left range after s rest more None (Some p) steps at kept is = cc
placed-left range after s rest more (Some x) (Some p) steps at kept is =
    let here : x.0.now ≡ At p.table p.key.now = cc in
    subst (λ (es : Entries). IsPlace s p.table p.key.now es) (sym kept)
    (place-first range after s (lent_entry x) more p.table p.key.now here (subst (λ (es : Entries). IsLeft range after s es) steps is))

-- the place that a step goes to from another
pub place-gone : (range : Range) (after : Option (List Value)) (s : State) (old new : Place) (more : Entries) (r : Option (Bor Spot × Bor (List Value)))
    → MatchOption r ((old.rest ≡ []) × (more ≡ [])) (λ x. old.rest ≡ lent_entry x ∷ more)
    → (r ≡ None → new ≡ record old { rest = more })
    → ((table : ℕ) (key : List Value) → option_map (λ (x : Bor Spot × Bor (List Value)). x.0.now) r ≡ Some (At table key) → (new.table ≡ table) × (new.key.now ≡ key))
    → new.rest ≡ more
    → IsPlace s old.table old.key.now old.rest → IsLeft range after s old.rest → IsPlace s new.table new.key.now new.rest
place-gone range after s old new more None steps none at kept here is =
    subst (λ (p : Place). IsPlace s p.table p.key.now p.rest) (sym (none refl))
    (subst (λ (es : Entries). IsPlace s old.table old.key.now es) (steps.0 ∙ sym steps.1) here)
place-gone range after s old new more (Some x) steps none at kept here is =
    let left : IsLeft range after s (lent_entry x ∷ more) = subst (λ (es : Entries). IsLeft range after s es) steps is in
    by x.0.now refl (first_row (lent_entry x) more left.rows) left where
      by : (spot : Spot) → x.0.now ≡ spot → is_row x.0.now ≡ true → IsLeft range after s (lent_entry x ∷ more) → IsPlace s new.table new.key.now new.rest
      by (At table key) is_at row left =
          let two = at table key (ap Some is_at) in
          let there : IsPlace s table key more = place-first range after s (lent_entry x) more table key is_at left in
          let with_rest : IsPlace s table key new.rest = subst (λ (es : Entries). IsPlace s table key es) (sym kept) there in
          let with_key : IsPlace s table new.key.now new.rest = subst (λ (k : List Value). IsPlace s table k new.rest) (sym two.1) with_rest in
          subst (λ (t : ℕ). IsPlace s t new.key.now new.rest) (sym two.0) with_key
      by (Start table values) is_at row left = let no : false ≡ true = sym (ap is_row is_at) ∙ row in cc
      by (Past table values) is_at row left = let no : false ≡ true = sym (ap is_row is_at) ∙ row in cc
