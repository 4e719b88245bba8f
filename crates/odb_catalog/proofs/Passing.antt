-- The walk over the rows of databanks.
use Rattle.std.proofs.Common.{◌≡◌, ℕ, suc, Bool, true, false, ◌&&◌, ◌==◌, cond, nat_lt, List, [], ◌∷◌, ◌++◌, length, refl, sym, ap, ◌∙◌, Option, Some, None, is_some, option_map, find, arith}
use Rattle.std.proofs.lemmas.Bool.Decides.{nat_tests}
use Rattle.std.specs.List.{filter, cons_option}
use Rattle.std.specs.FinMap.{entries, retain_keys}
use Rattle.odb_values.specs.declared.value.Value.{Value}
use Rattle.odb_model.specs.declared.table_key.TableKey.{TableKey}
use Rattle.odb_values.specs.declared.edge.Edge.TheVariants.{Free}
use Rattle.odb_values.specs.declared.range.Range.{Range}
use Rattle.odb_model.specs.State.{State, part_in, rows_of}
use Rattle.odb_model.specs.Table.{is_named}
use Rattle.odb_model.specs.Databanks.{Databank, may_be_copy, that_count, databank_rows}
use Rattle.odb_rowsource.specs.RowSource.{is_above, keyed_row, next_in, rows_above}
use Rattle.odb_catalog.specs.Databanks.{number_found, files_after}

-- the number of the first of these databanks that counts and has this name
abbrev pub number_among : List ℕ → List ℕ → List Databank → Option ℕ
number_among name files banks = option_map (λ b. b.number) (find (λ b. is_named name b.name) (that_count files banks))

-- a row that tells of the one looked for
pub found-here : (name files : List ℕ) (b : Option Databank) (banks : List Databank) (n : ℕ) → number_found files name b ≡ Some n → number_among name files (cons_option b banks) ≡ Some n
found-here name files None banks n e = cc
found-here name files (Some b) banks n e =
    elim (may_be_copy files b.file) as (λ f. cond (f && is_named name b.name) (Some b.number) None ≡ Some n
    → option_map (λ (x : Databank). x.number) (find (λ x. is_named name x.name) (cond f (b ∷ that_count (files ++ b.file ∷ []) banks) (that_count files banks))) ≡ Some n) [
      | true ↦ elim (is_named name b.name) as (λ t. cond t (Some b.number) None ≡ Some n
          → option_map (λ (x : Databank). x.number) (cond t (Some b) (find (λ x. is_named name x.name) (that_count (files ++ b.file ∷ []) banks))) ≡ Some n) [
            | true ↦ λ f. f
            | false ↦ λ f. cc
          ]
      | false ↦ λ f. cc
    ] e

-- one that doesn't
pub found-later : (name files : List ℕ) (b : Option Databank) (banks : List Databank) → number_found files name b ≡ None → number_among name files (cons_option b banks) ≡ number_among name (files_after files b) banks
found-later name files None banks e = refl
found-later name files (Some b) banks e =
    elim (may_be_copy files b.file) as (λ f. cond (f && is_named name b.name) (Some b.number) None ≡ None
    → option_map (λ (x : Databank). x.number) (find (λ x. is_named name x.name) (cond f (b ∷ that_count (files ++ b.file ∷ []) banks) (that_count files banks)))
    ≡ number_among name (cond f (files ++ b.file ∷ []) files) banks) [
      | true ↦ elim (is_named name b.name) as (λ t. cond t (Some b.number) None ≡ None
          → option_map (λ (x : Databank). x.number) (cond t (Some b) (find (λ x. is_named name x.name) (that_count (files ++ b.file ∷ []) banks))) ≡ number_among name (files ++ b.file ∷ []) banks) [
            | true ↦ λ f. cc
            | false ↦ λ f. refl
          ]
      | false ↦ λ f. refl
    ] e

-- all rows are above no key
pub all-above : (es : List (TableKey × List Value)) → filter (λ e. is_above None e.0.key) es ≡ es
all-above [] = refl
all-above (e ∷ es) = ap (λ r. e ∷ r) (all-above es)

pub rows-all : (s : State) → rows_above databank_rows None s ≡ entries (part_in databank_rows s)
rows-all s = all-above (entries (part_in databank_rows s))

first_of_all : (es : List (TableKey × List Value)) → is_some (option_map keyed_row (find (λ e. is_above None e.0.key) es)) ≡ nat_lt 0 (length es)
first_of_all [] = refl
first_of_all (e ∷ es) = sym (positive (length es))
  where
    positive : (n : ℕ) → nat_lt 0 (suc n) ≡ true
    positive n = grind (arith, nat_tests)

and_whole : (b : Bool) → (b && true) ≡ b
and_whole true = refl
and_whole false = refl

-- the whole of a table
abbrev pub whole : ℕ → Range
whole table = record { table = table; prefix = []; low = Free; high = Free }

-- a table has a row just where the first of its rows is there
pub any-row : (table : ℕ) (s : State) → is_some (next_in (whole table) None s) ≡ nat_lt 0 (length (rows_of table s))
any-row table s =
    first_of_all (entries (part_in (whole table) s))
    ∙ ap (λ (p : TableKey → Bool). nat_lt 0 (length (entries (retain_keys s p)))) (λ i at. and_whole (table == at.table) i)
