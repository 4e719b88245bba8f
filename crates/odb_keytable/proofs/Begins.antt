-- The search begins below just those keys of a range that are above the last one.
use Rattle.std.proofs.Common.{◌≡◌, ℕ, ◌≤◌, Bool, true, false, ◌&&◌, not, cond, List, [], ◌∷◌, ◌++◌, refl, sym, ap, ◌∙◌, arith, Option, None, Some}
use Rattle.std.specs.declared.cmp.Ordering.{Ordering}
use Rattle.std.specs.declared.cmp.Ordering.TheVariants.{Less, Equal, Greater}
use Rattle.std.specs.declared.ops.Bound.TheVariants.{Included, Excluded}
use Rattle.std.specs.Ordering.{nat_cmp, ordering_then, ordering_reverse, ordering_index, is_lt, is_le, is_eq}
use Rattle.std.specs.BTreeMap.Range.{is_from_start}
use Rattle.std.proofs.lemmas.Cmp.{nat_cmp_total}
use Rattle.odb_values.specs.declared.value.Value.{Value}
use Rattle.odb_values.specs.declared.edge.Edge.{Edge}
use Rattle.odb_values.specs.declared.edge.Edge.TheVariants.{Free, Closed, Beyond}
use Rattle.odb_values.specs.declared.range.Range.{Range}
use Rattle.odb_values.specs.Value.{value_cmp, values_cmp}
use Rattle.odb_values.specs.ValueOrder.{value_cmp_total}
use Rattle.odb_model.specs.declared.table_key.TableKey.{TableKey}
use Rattle.odb_model.specs.State.{table_key_cmp}
use Rattle.odb_rowsource.specs.Stand.{is_free, reaches, stays_under, key_stand, stand, is_behind, is_from}
use Rattle.odb_model.proofs.Replay.{table_key_cmp_total, table_key_cmp_exact}
use Rattle.odb_rowsource.proofs.Stands.{stand-up}
use Rattle.odb_keytable.specs.declared.spot.Spot.TheVariants.{At, Start}
use Rattle.odb_keytable.specs.Spot.{spot_at, marked_cmp, spot_cmp}
use Rattle.odb_keytable.specs.Begin.{begin_at, begin_of, begin_from}

-- without a mark, spots stand as their values do
pub marked-none : (xs ys : List Value) → marked_cmp false false xs ys ≡ values_cmp xs ys
marked-none [] [] = refl
marked-none [] (y ∷ ys) = refl
marked-none (x ∷ xs) [] = refl
marked-none (x ∷ xs) (y ∷ ys) = ap (ordering_then (value_cmp x y)) (marked-none xs ys)

-- whether a key isn't before a range, by its values
abbrev reached : List Value → Edge → Edge → List Value → Bool
reached prefix low high key = not (is_lt (key_stand prefix low high key))

le_turned : (o p : Ordering) (b : Bool) → is_le p ≡ b → is_le (ordering_then o p) ≡ cond (is_eq o) b (is_lt o)
le_turned Less p b e = refl
le_turned Equal p b e = e
le_turned Greater p b e = refl

lt_turned : (o p : Ordering) (b : Bool) → is_lt p ≡ b → is_lt (ordering_then o p) ≡ cond (is_eq o) b (is_lt o)
lt_turned Less p b e = refl
lt_turned Equal p b e = e
lt_turned Greater p b e = refl

not_turned : (o p : Ordering) → not (is_lt (ordering_then (ordering_reverse o) p)) ≡ cond (is_eq o) (not (is_lt p)) (is_lt o)
not_turned Less p = refl
not_turned Equal p = refl
not_turned Greater p = refl

reached_more : (p x : Value) (prefix : List Value) (low high : Edge) (key : List Value)
    → reached (p ∷ prefix) low high (x ∷ key) ≡ cond (is_eq (value_cmp p x)) (reached prefix low high key) (is_lt (value_cmp p x))
reached_more p x prefix low high key =
    ap (λ o. not (is_lt (ordering_then o (key_stand prefix low high key)))) (value_cmp_total.antisymm x p)
    ∙ not_turned (value_cmp p x) (key_stand prefix low high key)

under_reached : (a b : Bool) → not (is_lt (cond a (cond b Equal Greater) Less)) ≡ a
under_reached true true = refl
under_reached true false = refl
under_reached false b = refl

le_ends : (o p : Ordering) → is_le p ≡ true → is_le (ordering_then o p) ≡ is_le o
le_ends Less p e = refl
le_ends Equal p e = e
le_ends Greater p e = refl

lt_ends : (o p : Ordering) → is_le p ≡ false → is_le (ordering_then o p) ≡ is_lt o
lt_ends Less p e = refl
lt_ends Equal p e = e
lt_ends Greater p e = refl

-- with no edge
free_begin : (prefix key : List Value) → is_le (marked_cmp false false prefix key) ≡ reached prefix Free Free key
free_begin [] [] = refl
free_begin [] (x ∷ key) = refl
free_begin (p ∷ prefix) [] = refl
free_begin (p ∷ prefix) (x ∷ key) =
    le_turned (value_cmp p x) (marked_cmp false false prefix key) (reached prefix Free Free key) (free_begin prefix key)
    ∙ sym (reached_more p x prefix Free Free key)

-- with a high edge alone
module _ (high : Edge) (bounds : is_free high ≡ false) where
  high_begin : (prefix key : List Value) → is_lt (marked_cmp false false prefix key) ≡ reached prefix Free high key
  high_begin [] [] = ap (λ b. not (is_lt (cond b Equal Less))) (sym bounds)
  high_begin [] (x ∷ key) = sym (under_reached true (stays_under high x))
  high_begin (p ∷ prefix) [] = refl
  high_begin (p ∷ prefix) (x ∷ key) =
      lt_turned (value_cmp p x) (marked_cmp false false prefix key) (reached prefix Free high key) (high_begin prefix key)
      ∙ sym (reached_more p x prefix Free high key)

module _ (v : Value) (high : Edge) where
  none_behind : (key : List Value) → is_le (marked_cmp false false [] key) ≡ true
  none_behind [] = refl
  none_behind (x ∷ key) = refl

  closed_begin : (prefix key : List Value) → is_le (marked_cmp false false (prefix ++ v ∷ []) key) ≡ reached prefix (Closed v) high key
  closed_begin [] [] = refl
  closed_begin [] (x ∷ key) = le_ends (value_cmp v x) (marked_cmp false false [] key) (none_behind key) ∙ sym (under_reached (reaches (Closed v) x) (stays_under high x))
  closed_begin (p ∷ prefix) [] = refl
  closed_begin (p ∷ prefix) (x ∷ key) =
      le_turned (value_cmp p x) (marked_cmp false false (prefix ++ v ∷ []) key) (reached prefix (Closed v) high key) (closed_begin prefix key)
      ∙ sym (reached_more p x prefix (Closed v) high key)

  all_behind : (key : List Value) → is_le (marked_cmp true false [] key) ≡ false
  all_behind [] = refl
  all_behind (x ∷ key) = refl

  beyond_begin : (prefix key : List Value) → is_le (marked_cmp true false (prefix ++ v ∷ []) key) ≡ reached prefix (Beyond v) high key
  beyond_begin [] [] = refl
  beyond_begin [] (x ∷ key) = lt_ends (value_cmp v x) (marked_cmp true false [] key) (all_behind key) ∙ sym (under_reached (reaches (Beyond v) x) (stays_under high x))
  beyond_begin (p ∷ prefix) [] = refl
  beyond_begin (p ∷ prefix) (x ∷ key) =
      le_turned (value_cmp p x) (marked_cmp true false (prefix ++ v ∷ []) key) (reached prefix (Beyond v) high key) (beyond_begin prefix key)
      ∙ sym (reached_more p x prefix (Beyond v) high key)

is_free-is : (edge : Edge) → is_free edge ≡ true → edge ≡ Free
is_free-is Free e = refl
is_free-is (Closed v) e = cc
is_free-is (Beyond v) e = cc

module _ (table : ℕ) (at : TableKey) where
  -- the same of table keys, where the tables stand first
  table_reached : (o : Ordering) → not (is_lt (ordering_then (nat_cmp at.table table) o)) ≡ cond (is_eq (nat_cmp table at.table)) (not (is_lt o)) (is_lt (nat_cmp table at.table))
  table_reached o = ap (λ p. not (is_lt (ordering_then p o))) (nat_cmp_total.antisymm at.table table) ∙ not_turned (nat_cmp table at.table) o

  low_reached : (prefix : List Value) (low high : Edge)
      → is_from_start spot_cmp (begin_at table prefix low high) (spot_at at) ≡ not (is_lt (ordering_then (nat_cmp at.table table) (key_stand prefix low high at.key)))
  low_reached prefix Free high = elim (is_free high) as (λ b. is_free high ≡ b
      → is_from_start spot_cmp (cond b (Included (Start table prefix)) (Excluded (Start table prefix))) (spot_at at) ≡ not (is_lt (ordering_then (nat_cmp at.table table) (key_stand prefix Free high at.key)))) [
        | true ↦ λ e. le_turned (nat_cmp table at.table) (marked_cmp false false prefix at.key) (reached prefix Free high at.key) (free_begin prefix at.key ∙ ap (λ h. reached prefix Free h at.key) (sym (is_free-is high e)))
            ∙ sym (table_reached (key_stand prefix Free high at.key))
        | false ↦ λ e. lt_turned (nat_cmp table at.table) (marked_cmp false false prefix at.key) (reached prefix Free high at.key) (high_begin high e prefix at.key)
            ∙ sym (table_reached (key_stand prefix Free high at.key))
      ] refl
  low_reached prefix (Closed v) high =
      le_turned (nat_cmp table at.table) (marked_cmp false false (prefix ++ v ∷ []) at.key) (reached prefix (Closed v) high at.key) (closed_begin v high prefix at.key)
      ∙ sym (table_reached (key_stand prefix (Closed v) high at.key))
  low_reached prefix (Beyond v) high =
      le_turned (nat_cmp table at.table) (marked_cmp true false (prefix ++ v ∷ []) at.key) (reached prefix (Beyond v) high at.key) (beyond_begin v high prefix at.key)
      ∙ sym (table_reached (key_stand prefix (Beyond v) high at.key))

-- rows' places stand as their table keys do
pub spots_at : (a b : TableKey) → spot_cmp (spot_at a) (spot_at b) ≡ table_key_cmp a b
spots_at a b = ap (ordering_then (nat_cmp a.table b.table)) (marked-none a.key b.key)

module _ (range : Range) (last : List Value) (at : TableKey) where
  abbrev last_at : TableKey
  last_at = record { table = range.table; key = last }

  not_less_above : (o p : Ordering) → not (is_lt o) ≡ true → ordering_index o ≤ ordering_index p → not (is_lt p) ≡ true
  not_less_above Less p e up = cc
  not_less_above Equal Less e up = absurd (omega arith)
  not_less_above Greater Less e up = absurd (omega arith)
  not_less_above o Equal e up = refl
  not_less_above o Greater e up = refl

  lt_is : (o : Ordering) → is_lt o ≡ true → o ≡ Less
  lt_is Less e = refl
  lt_is Equal e = cc
  lt_is Greater e = cc

  index_less : (o p : Ordering) → is_lt p ≡ true → ordering_index o ≤ ordering_index p → is_lt o ≡ true
  index_less Less p e up = refl
  index_less Equal Less e up = absurd (omega arith)
  index_less Equal Equal e up = cc
  index_less Equal Greater e up = cc
  index_less Greater Less e up = absurd (omega arith)
  index_less Greater Equal e up = cc
  index_less Greater Greater e up = cc

  flip_greater : table_key_cmp last_at at ≡ Greater → table_key_cmp at last_at ≡ Less
  flip_greater e = table_key_cmp_total.antisymm at last_at ∙ ap ordering_reverse e

  -- before a range only what is before it is passed
  behind_low : is_lt (stand range last_at) ≡ true → not (is_lt (stand range at)) ≡ true → is_behind range.table (Some last) at ≡ true
  behind_low low from = by (table_key_cmp last_at at) refl where
    by : (o : Ordering) → table_key_cmp last_at at ≡ o → is_lt (table_key_cmp last_at at) ≡ true
    by Less e = ap is_lt e
    by Equal e = let no : not true ≡ true = sym (ap not (ap is_lt (sym (ap (stand range) (table_key_cmp_exact last_at at e))) ∙ low)) ∙ from in cc
    by Greater e = let less : is_lt (stand range at) ≡ true = index_less (stand range at) (stand range last_at) low (stand-up range at last_at (flip_greater e)) in
        let no : not true ≡ true = sym (ap not less) ∙ from in cc

  and_given : (a b : Bool) → (a ≡ true → b ≡ true) → a ≡ (a && b)
  and_given true b h = sym (h refl)
  and_given false b h = refl

  given_and : (a b : Bool) → (b ≡ true → a ≡ true) → b ≡ (a && b)
  given_and a true h = sym (ap (λ c. c && true) (h refl))
  given_and true false h = refl
  given_and false false h = refl

  -- from inside a range on what is behind isn't before it
  behind_high : is_lt (stand range last_at) ≡ false → is_behind range.table (Some last) at ≡ true → not (is_lt (stand range at)) ≡ true
  behind_high high behind = not_less_above (stand range last_at) (stand range at) (ap not high) (stand-up range last_at at (lt_is (table_key_cmp last_at at) behind))

  last_reached : is_from_start spot_cmp (begin_from range (Some last)) (spot_at at) ≡ is_from range (Some last) at
  last_reached = elim (is_lt (stand range last_at)) as (λ b. is_lt (stand range last_at) ≡ b
      → is_from_start spot_cmp (cond b (begin_of range) (Excluded (At range.table last))) (spot_at at) ≡ is_from range (Some last) at) [
        | true ↦ λ low. low_reached range.table at range.prefix range.low range.high ∙ and_given (not (is_lt (stand range at))) (is_behind range.table (Some last) at) (behind_low low)
        | false ↦ λ high. ap is_lt (spots_at last_at at) ∙ given_and (not (is_lt (stand range at))) (is_behind range.table (Some last) at) (behind_high high)
      ] refl

and_true : (a : Bool) → a ≡ (a && true)
and_true true = refl
and_true false = refl

-- the search begins just where the next key may be
pub begin-reached : (range : Range) (after : Option (List Value)) (at : TableKey) → is_from_start spot_cmp (begin_from range after) (spot_at at) ≡ is_from range after at
begin-reached range None at = low_reached range.table at range.prefix range.low range.high ∙ and_true (not (is_lt (stand range at)))
begin-reached range (Some last) at = last_reached range last at
