-- Walks over the rows of the dictionary and of a table.
use Rattle.std.proofs.Common.{◌≡◌, ℕ, ◌+◌, ◌-◌, ◌^◌, ◌&&◌, ◌==◌, Bool, true, false, min, List, ◌∷◌, length, refl, sym, ap, ◌∙◌, subst, Option, Some, None, arith}
use Rattle.std.specs.List.{cons_option}
use Rattle.std.specs.FinMap.{entries, retain_keys}
use Rattle.odb_values.specs.declared.value.Value.{Value}
use Rattle.odb_values.specs.declared.range.Range.{Range}
use Rattle.odb_model.specs.declared.table_key.TableKey.{TableKey}
use Rattle.odb_model.specs.State.{State, part_in, rows_of}
use Rattle.odb_rowsource.specs.declared.row_source.KeyedRow.{KeyedRow}
use Rattle.odb_rowsource.specs.RowSource.{rows_above, next_in}
use Rattle.odb_rowsource.proofs.Above.{next-none, next-some}
use Rattle.odb_catalog.proofs.Passing.{all-above}
use Rattle.odb_check.specs.declared.found.FoundTable.{FoundTable}
use Rattle.odb_check.specs.Tables.{Named, table_rows, table_told, tables_told}
use Rattle.odb_check.specs.Told.{capped}
use Rattle.odb_check.specs.Left.{whole}
use Rattle.odb_check.specs.Found.{IsTold, IsFound, named_of}

-- what the source gave is the next row of the state at first
pub given : (range wanted : Range) (k last : Option (List Value)) (u s : State) (o : Option KeyedRow) → o ≡ next_in range k u → range ≡ wanted → k ≡ last → u ≡ s → o ≡ next_in wanted last s
given range wanted k last u s o e p q r =
    e ∙ ap (λ (x : Range). next_in x k u) p ∙ ap (λ (x : Option (List Value)). next_in wanted x u) q ∙ ap (next_in wanted last) r

-- a row on the way that tells of no table
pub told_later : (s : State) (last : Option (List Value)) (r : KeyedRow) (o : Option FoundTable) → Some r ≡ next_in table_rows last s → IsTold r o → o ≡ None
    → tables_told (rows_above table_rows (Some r.key) s) ≡ tables_told (rows_above table_rows last s)
told_later s last r o next told is =
    let none : table_told r.key r.row ≡ None = subst (IsTold r) is told in
    let rest = tables_told (rows_above table_rows (Some r.key) s) in
    sym (ap tables_told (next-some table_rows s last r next) ∙ ap (λ (t : Option Named). cons_option t rest) none)

-- one that tells of one
pub told_here : (s : State) (last : Option (List Value)) (r : KeyedRow) (o : Option FoundTable) (f : FoundTable) → Some r ≡ next_in table_rows last s → IsTold r o → o ≡ Some f → IsFound s last (Some f)
told_here s last r o f next told is =
    let here = subst (IsTold r) is told in
    let rest = tables_told (rows_above table_rows (Some r.key) s) in
    ap tables_told (next-some table_rows s last r next) ∙ ap (λ (t : Option Named). cons_option t rest) here.0
    ∙ ap (λ (k : List Value). named_of f ∷ tables_told (rows_above table_rows (Some k) s)) (sym here.1)

-- no row is left
pub told_none : (s : State) (last : Option (List Value)) → None ≡ next_in table_rows last s → IsFound s last None
told_none s last none = ap tables_told (next-none table_rows s last none)

-- what is found of the tables that are left from the last row on is found of those from the first on
pub found_first : (s : State) (first last : Option (List Value)) (o : Option FoundTable) → tables_told (rows_above table_rows last s) ≡ tables_told (rows_above table_rows first s) → IsFound s last o → IsFound s first o
found_first s first last None same found = sym same ∙ found
found_first s first last (Some f) same found = sym same ∙ found

and_whole : (b : Bool) → (b && true) ≡ b
and_whole true = refl
and_whole false = refl

-- all rows of a table are above no key
pub whole_rows : (table : ℕ) (s : State) → rows_above (whole table) None s ≡ rows_of table s
whole_rows table s =
    all-above (entries (part_in (whole table) s)) ∙ ap (λ (p : TableKey → Bool). entries (retain_keys s p)) (λ i at. and_whole (table == at.table) i)

-- so many rows are counted, and the others are left
pub record IsCounted (count : ℕ) (table : ℕ) (last : Option (List Value)) (s : State) : Type 0 where
  pub passed : ℕ
  pub is : count ≡ capped passed
  pub all : passed + length (rows_above (whole table) last s) ≡ length (rows_of table s)

pub count_begins : (table : ℕ) (s : State) → IsCounted 0 table None s
count_begins table s = record { passed = 0; is = refl; all = let same = ap length (whole_rows table s) in omega arith }

pub count_goes_on : (count more table : ℕ) (last : Option (List Value)) (s : State) (r : KeyedRow) → Some r ≡ next_in (whole table) last s → more ≡ min (count + 1) (2 ^ 64 - 1) → IsCounted count table last s → IsCounted more table (Some r.key) s
count_goes_on count more table last s r next is counted =
    let one = ap length (next-some (whole table) s last r next) in
    let before = counted.is in
    let all = counted.all in
    record { passed = counted.passed + 1; is = omega arith; all = omega arith }

pub count_ends : (count table : ℕ) (last : Option (List Value)) (s : State) → None ≡ next_in (whole table) last s → IsCounted count table last s → count ≡ capped (length (rows_of table s))
count_ends count table last s none counted =
    let nothing = ap length (next-none (whole table) s last none) in
    let all = counted.all in
    let same : counted.passed ≡ length (rows_of table s) = omega arith in
    counted.is ∙ ap capped same
