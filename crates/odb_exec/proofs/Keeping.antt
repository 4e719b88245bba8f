-- The rows that a walk meets are those that the WHERE keeps of the whole table.
use Rattle.std.proofs.Common.{◌≡◌, Bool, true, false, ◌&&◌, ◌==◌, List, [], ◌∷◌, refl, sym, ap, ◌∙◌, Option, None, eq-eqb}
use Rattle.std.specs.List.{filter}
use Rattle.std.specs.FinMap.{entries}
use Rattle.odb_values.specs.declared.range.Range.{Range}
use Rattle.odb_model.specs.declared.predicate.Predicate.{Predicate}
use Rattle.odb_model.specs.declared.table_key.TableKey.{TableKey}
use Rattle.odb_model.specs.State.{State, is_in, part_in}
use Rattle.odb_model.specs.Table.{Table, IsTable}
use Rattle.odb_model.specs.Truth.{matches}
use Rattle.odb_model.specs.Where.{range_of}
use Rattle.odb_model.specs.Meaning.{values_of, kept_rows}
use Rattle.odb_model.proofs.Parts.{entries-retain_keys, filter-filter, filter-same, rows_of-part}
use Rattle.odb_model.proofs.Agree.{covers}
use Rattle.odb_model.proofs.Keyed.{placed}
use Rattle.odb_rowsource.proofs.Nexts.{in_table}
use Rattle.odb_eval.specs.declared.filter.Filter.{Filter}
use Rattle.odb_eval.specs.Bound.{IsWhereOf}
use Rattle.odb_exec.specs.Walk.{is_kept, rows_left}
use Rattle.odb_rowsource.proofs.Above.{Entry}

all_of : (es : List Entry) → filter (λ e. true) es ≡ es
all_of [] = refl
all_of (e ∷ es) = ap (λ r. e ∷ r) (all_of es)

module _ (t : Table) (is : IsTable t) (p : Option Predicate) (f : Option Filter) (bound : IsWhereOf t p f) (s : State) where
  abbrev range : Range
  range = range_of t p

  abbrev keep : Entry → Bool
  keep e = matches t.columns p (values_of t e)

  abbrev both : Entry → Bool
  both e = (t.number == e.0.table) && keep e

  -- in the range the table is this one
  same_kept : (e : Entry) (b : Bool) → is_in range e.0 ≡ b → (b && is_kept f e) ≡ (b && both e)
  same_kept e true inside =
      bound e.0.key e.1
      ∙ sym (ap (λ c. c && keep e) (eq-eqb t.number e.0.table (sym (ap (λ (k : TableKey). k.table) (in_table range e.0 inside)))))
  same_kept e false inside = refl

  pub kept-left : rows_left range f None s ≡ kept_rows t p s
  kept-left =
      ap (filter (is_kept f)) (all_of (entries (part_in range s)))
      ∙ ap (filter (is_kept f)) (entries-retain_keys s (is_in range))
      ∙ filter-filter (is_kept f) (λ e. is_in range e.0) (entries s)
      ∙ filter-same (λ e. is_in range e.0 && is_kept f e) (λ e. is_in range e.0 && both e) (λ e. same_kept e (is_in range e.0) refl) (entries s)
      ∙ sym (filter-filter both (λ e. is_in range e.0) (entries s))
      ∙ sym (ap (filter both) (entries-retain_keys s (is_in range)))
      ∙ sym (rows_of-part t.number range keep (λ e. covers t (placed t is) p e) s)
