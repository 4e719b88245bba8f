-- The walk over the rows of a range that a WHERE keeps.
use Rattle.std.proofs.Common.{◌≡◌, true, false, [], ◌∷◌, List, cond, sym, ap, subst, ◌∙◌, Option, None, Some, option_map}
use Rattle.std.specs.List.{filter}
use Rattle.odb_values.specs.declared.value.Value.{Value}
use Rattle.odb_values.specs.declared.range.Range.{Range}
use Rattle.odb_model.specs.State.{State}
use Rattle.odb_rowsource.specs.declared.row_source.KeyedRow.{KeyedRow}
use Rattle.odb_rowsource.specs.RowSource.{next_in, entry_of, rows_above}
use Rattle.odb_rowsource.proofs.Above.{next-none, next-some}
use Rattle.odb_eval.specs.declared.filter.Filter.{Filter}
use Rattle.odb_exec.specs.Walk.{is_kept, rows_left, IsFirstLeft}

module _ (range : Range) (s : State) where
  module _ (f : Option Filter) where
    -- no row is left
    pub left-none : (after : Option (List Value)) → None ≡ next_in range after s → rows_left range f after s ≡ []
    left-none after e = ap (filter (is_kept f)) (next-none range s after e)

    left-next : (after : Option (List Value)) (r : KeyedRow) → Some r ≡ next_in range after s
        → rows_left range f after s ≡ cond (is_kept f (entry_of range.table r)) (entry_of range.table r ∷ rows_left range f (Some r.key) s) (rows_left range f (Some r.key) s)
    left-next after r e = ap (filter (is_kept f)) (next-some range s after r e)

    -- the row is kept: it is the first one that is left
    pub left-kept : (after : Option (List Value)) (r : KeyedRow) → Some r ≡ next_in range after s → is_kept f (entry_of range.table r) ≡ true
        → rows_left range f after s ≡ entry_of range.table r ∷ rows_left range f (Some r.key) s
    left-kept after r e kept = left-next after r e ∙ ap (λ b. cond b (entry_of range.table r ∷ rows_left range f (Some r.key) s) (rows_left range f (Some r.key) s)) kept

    -- it isn't: those that are left stand behind it
    pub left-passed : (after : Option (List Value)) (r : KeyedRow) → Some r ≡ next_in range after s → is_kept f (entry_of range.table r) ≡ false
        → rows_left range f after s ≡ rows_left range f (Some r.key) s
    left-passed after r e kept = left-next after r e ∙ ap (λ b. cond b (entry_of range.table r ∷ rows_left range f (Some r.key) s) (rows_left range f (Some r.key) s)) kept

-- what a call of the walk says of the rows that are left, on the state that the source told at first
module _ {T : Type 0} (range : Range) (f : Option Filter) (keyed : T → KeyedRow) (k last : Option (List Value)) (u s : State) (o : Option T)
    (first : IsFirstLeft range f k u (option_map keyed o)) (same_key : k ≡ last) (same : u ≡ s) where
  pub step-some : (r : T) → o ≡ Some r → rows_left range f last s ≡ entry_of range.table (keyed r) ∷ rows_left range f (Some (keyed r).key) s
  step-some r e =
      let here : rows_left range f k u ≡ entry_of range.table (keyed r) ∷ rows_left range f (Some (keyed r).key) u = subst (λ (p : Option T). IsFirstLeft range f k u (option_map keyed p)) e first in
      ap (λ (x : Option (List Value)). rows_left range f x s) (sym same_key)
      ∙ ap (λ (v : State). rows_left range f k v) (sym same) ∙ here
      ∙ ap (λ (v : State). entry_of range.table (keyed r) ∷ rows_left range f (Some (keyed r).key) v) same

  pub step-none : o ≡ None → rows_left range f last s ≡ []
  step-none e =
      let here : rows_left range f k u ≡ [] = subst (λ (p : Option T). IsFirstLeft range f k u (option_map keyed p)) e first in
      ap (λ (x : Option (List Value)). rows_left range f x s) (sym same_key) ∙ ap (λ (v : State). rows_left range f k v) (sym same) ∙ here
