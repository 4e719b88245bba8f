-- What is left of a listing behind each of its lines.
use Rattle.std.proofs.Common.{◌≡◌, ℕ, Bool, true, false, cond, ◌||◌, List, [], ◌∷◌, ◌++◌, length, flat_map, refl, sym, ap, ◌∙◌, subst, Option, Some, None, Result, Ok, Err, IfOk, String, string_bytes}
use Rattle.std.specs.FinMap.{entries}
use Rattle.odb_values.specs.declared.value.Value.{Value}
use Rattle.odb_model.specs.declared.table_key.TableKey.{TableKey}
use Rattle.odb_model.specs.State.{State, part_in, rows_of}
use Rattle.odb_model.specs.Table.{Table, in_columns}
use Rattle.odb_rowsource.specs.declared.row_source.KeyedRow.{KeyedRow}
use Rattle.odb_rowsource.specs.RowSource.{rows_above, next_in}
use Rattle.odb_rowsource.proofs.Above.{next-none, next-some}
use Rattle.odb_catalog.proofs.Passing.{all-above}
use Rattle.odb_check.specs.declared.listing.Listing.{Listing}
use Rattle.odb_check.specs.declared.listing.OpenTable.{OpenTable}
use Rattle.odb_check.specs.declared.found.FoundTable.{FoundTable}
use Rattle.odb_check.specs.Tables.{Named, named_kv, table_rows, tables_told, with_kv, comes_before_kv}
use Rattle.odb_check.specs.Told.{capped, number_line, row_line, row_lines, table_line, table_lines, check_lines}
use Rattle.odb_check.specs.Left.{whole, number_left, rows_left, tables_left, table_lines_left, lines_left, Tells, TellsRow, TellsTable, TellsFixed}
use Rattle.odb_check.specs.Found.{IsFound, OpensFound, named_of}
use Rattle.odb_check.proofs.Walks.{whole_rows}

-- a table none of whose rows is told yet
abbrev pub fresh : Table → OpenTable
fresh t = record { table = t; last = None }

abbrev pub whole_listing : Bool → ℕ → Listing
whole_listing with_rows number = record { with_rows = with_rows; number = Some number; table = None; after = None; is_kv_told = false }

abbrev with_table : Listing → Option OpenTable → Listing
with_table listing open_table = record listing { table = open_table }

abbrev joined : Option ℕ → List (List ℕ) → List (List ℕ) → List (List ℕ)
joined number rows tables = (number_left number ++ rows) ++ tables

-- the number is told
pub number_told : (s : State) (old : Listing) (number : ℕ) → old.number ≡ Some number → lines_left s old ≡ number_line number ∷ lines_left s (record old { number = None })
number_told s old number is = ap (λ (n : Option ℕ). joined n (rows_left s old.table) (table_lines_left s old)) is

-- a row is told
pub row_told : (s : State) (old new : Listing) (line : List ℕ) → old.number ≡ None → rows_left s old.table ≡ line ∷ rows_left s new.table → new ≡ record old { table = new.table } → lines_left s old ≡ line ∷ lines_left s new
row_told s old new line none rows is =
    let tables : table_lines_left s new ≡ table_lines_left s old = ap (table_lines_left s) is in
    let number : new.number ≡ old.number = ap (λ (l : Listing). l.number) is in
    ap (λ (n : Option ℕ). joined n (rows_left s old.table) (table_lines_left s old)) none
    ∙ ap (λ (r : List (List ℕ)). joined None r (table_lines_left s old)) rows
    ∙ ap (λ (t : List (List ℕ)). line ∷ joined None (rows_left s new.table) t) (sym tables)
    ∙ ap (λ (n : Option ℕ). line ∷ joined n (rows_left s new.table) (table_lines_left s new)) (sym (number ∙ none))

-- the rows of a table are done
pub rows_done : (s : State) (old new : Listing) → old.number ≡ None → rows_left s old.table ≡ [] → new ≡ record old { table = None } → lines_left s old ≡ lines_left s new
rows_done s old new none rows is =
    let same : lines_left s new ≡ joined old.number [] (table_lines_left s old) = ap (lines_left s) is in
    ap (λ (r : List (List ℕ)). joined old.number r (table_lines_left s old)) rows ∙ sym same

-- without a number and a table that is being told the tables alone are left
pub tables_alone : (s : State) (l : Listing) → l.number ≡ None → l.table ≡ None → lines_left s l ≡ table_lines_left s l
tables_alone s l none shut =
    ap (λ (n : Option ℕ). joined n (rows_left s l.table) (table_lines_left s l)) none ∙ ap (λ (t : Option OpenTable). joined None (rows_left s t) (table_lines_left s l)) shut

-- a table is told
pub table_told_next : (s : State) (old new : Listing) (line : List ℕ) → old.number ≡ None → old.table ≡ None → table_lines_left s old ≡ line ∷ rows_left s new.table ++ table_lines_left s new → new.number ≡ old.number
    → lines_left s old ≡ line ∷ lines_left s new
table_told_next s old new line none shut tables number =
    tables_alone s old none shut ∙ tables ∙ ap (λ (n : Option ℕ). line ∷ joined n (rows_left s new.table) (table_lines_left s new)) (sym (number ∙ none))

-- the first of some tables is opened
pub opened : (f : Named → List (List ℕ)) (all ts : List Named) (t : Named) (line : List ℕ) (rows : List (List ℕ)) → all ≡ t ∷ ts → f t ≡ line ∷ rows → flat_map f all ≡ line ∷ rows ++ flat_map f ts
opened f all ts t line rows is first = ap (flat_map f) is ∙ ap (λ (x : List (List ℕ)). x ++ flat_map f ts) first

-- KV stands before all that don't come before it
pub kv_first : (ts : List Named) (t : Named) (rest : List Named) → ts ≡ t ∷ rest → comes_before_kv t.name ≡ false → with_kv ts ≡ named_kv ∷ ts
kv_first ts t rest is behind =
    ap with_kv is ∙ ap (λ (b : Bool). cond b (t ∷ with_kv rest) (named_kv ∷ t ∷ rest)) behind ∙ ap (λ (x : List Named). named_kv ∷ x) (sym is)

pub kv_alone : (ts : List Named) → ts ≡ [] → with_kv ts ≡ named_kv ∷ ts
kv_alone ts is = ap with_kv is ∙ ap (λ (x : List Named). named_kv ∷ x) (sym is)

-- behind those that come before it
pub kv_later : (ts : List Named) (t : Named) (rest : List Named) → ts ≡ t ∷ rest → comes_before_kv t.name ≡ true → with_kv ts ≡ t ∷ with_kv rest
kv_later ts t rest is before = ap with_kv is ∙ ap (λ (b : Bool). cond b (t ∷ with_kv rest) (named_kv ∷ t ∷ rest)) before

-- the table found is the next one, where KV is told or comes behind it
pub next_found : (s : State) (after : Option (List Value)) (told : Bool) (found : FoundTable) → IsFound s after (Some found) → (told || comes_before_kv found.name) ≡ true
    → tables_left s after told ≡ named_of found ∷ tables_left s (Some found.key) told
next_found s after true found is first = is
next_found s after false found is first = kv_later (tables_told (rows_above table_rows after s)) (named_of found) (tables_told (rows_above table_rows (Some found.key) s)) is first

-- else KV is
pub next_kv : (s : State) (after : Option (List Value)) (o : Option FoundTable) → IsFound s after o → ((found : FoundTable) → o ≡ Some found → comes_before_kv found.name ≡ false) → tables_left s after false ≡ named_kv ∷ tables_left s after true
next_kv s after None is behind = kv_alone (tables_told (rows_above table_rows after s)) is
next_kv s after (Some found) is behind = kv_first (tables_told (rows_above table_rows after s)) (named_of found) (tables_told (rows_above table_rows (Some found.key) s)) is (behind found refl)

-- or none, where it is told already
pub next_none : (s : State) (after : Option (List Value)) (o : Option FoundTable) → IsFound s after o → ((found : FoundTable) → o ≡ Some found → ⊥) → tables_left s after true ≡ []
next_none s after None is none = is
next_none s after (Some found) is none = absurd (none found refl)

-- a table is opened: its rows come next, where rows are told
pub opens_rows : (s : State) (t : Named) (old new : Listing) (count : ℕ) (line : List ℕ) → old.with_rows ≡ true → new ≡ record old { table = Some (fresh t.table) } → count ≡ capped (length (rows_of t.table.number s)) → line ≡ table_line t.name count
    → (table_lines old.with_rows s t ≡ line ∷ rows_left s new.table) × (new ≡ record old { table = new.table })
opens_rows s t old new count line rows is counted text =
    let shut : new.table ≡ Some (fresh t.table) = ap (λ (l : Listing). l.table) is in
    let all : List (List ℕ) = row_lines t.table (rows_of t.table.number s) in (
      ap (λ (w : Bool). table_lines w s t) rows
          ∙ ap (λ (n : ℕ). table_line t.name n ∷ all) (sym counted)
          ∙ ap (λ (b : List ℕ). b ∷ all) (sym text)
          ∙ ap (λ (es : List (TableKey × List Value)). line ∷ row_lines t.table es) (sym (whole_rows t.table.number s))
          ∙ ap (λ (o : Option OpenTable). line ∷ rows_left s o) (sym shut),
      is ∙ ap (λ (o : Option OpenTable). with_table old o) (sym shut),
    )

pub opens_alone : (s : State) (t : Named) (old new : Listing) (count : ℕ) (line : List ℕ) → old.with_rows ≡ false → old.table ≡ None → new ≡ old → count ≡ capped (length (rows_of t.table.number s)) → line ≡ table_line t.name count
    → (table_lines old.with_rows s t ≡ line ∷ rows_left s new.table) × (new ≡ record old { table = new.table })
opens_alone s t old new count line rows none is counted text =
    let shut : new.table ≡ old.table = ap (λ (l : Listing). l.table) is in
    let nothing : List (List ℕ) = [] in (
      ap (λ (w : Bool). table_lines w s t) rows
          ∙ ap (λ (n : ℕ). table_line t.name n ∷ nothing) (sym counted)
          ∙ ap (λ (b : List ℕ). b ∷ nothing) (sym text)
          ∙ ap (λ (o : Option OpenTable). line ∷ rows_left s o) (sym (shut ∙ none)),
      is ∙ ap (λ (o : Option OpenTable). with_table old o) (sym shut),
    )

-- the next row of a table is told
pub open_told : (s : State) (t : Table) (last : Option (List Value)) (r : KeyedRow) (line : List ℕ) → Some r ≡ next_in (whole t.number) last s → line ≡ row_line (in_columns t r.key r.row)
    → row_lines t (rows_above (whole t.number) last s) ≡ line ∷ row_lines t (rows_above (whole t.number) (Some r.key) s)
open_told s t last r line next text =
    ap (row_lines t) (next-some (whole t.number) s last r next) ∙ ap (λ (b : List ℕ). b ∷ row_lines t (rows_above (whole t.number) (Some r.key) s)) (sym text)

-- none is left
pub open_done : (s : State) (t : Table) (last : Option (List Value)) → None ≡ next_in (whole t.number) last s → row_lines t (rows_above (whole t.number) last s) ≡ []
open_done s t last none = ap (row_lines t) (next-none (whole t.number) s last none)

-- at first all is left
pub all_left : (s : State) (with_rows : Bool) (number : ℕ) → lines_left s (whole_listing with_rows number) ≡ check_lines with_rows number s
all_left s with_rows number =
    ap (λ (es : List (TableKey × List Value)). number_line number ∷ flat_map (table_lines with_rows s) (with_kv (tables_told es))) (all-above (entries (part_in table_rows s)))

-- the table found is told
pub found_told : (s : State) (old new : Listing) (o : Option FoundTable) (found : FoundTable) (line : List ℕ) → IsFound s old.after o → o ≡ Some found → (old.is_kv_told || comes_before_kv found.name) ≡ true
    → table_lines old.with_rows s (named_of found) ≡ line ∷ rows_left s new.table → new ≡ record old { table = new.table; after = Some found.key }
    → (table_lines_left s old ≡ line ∷ rows_left s new.table ++ table_lines_left s new) × (new.number ≡ old.number)
found_told s old new o found line is some first told after =
    let tables = next_found s old.after old.is_kv_told found (subst (IsFound s old.after) some is) first in
    let same : table_lines_left s new ≡ flat_map (table_lines old.with_rows s) (tables_left s (Some found.key) old.is_kv_told) = ap (table_lines_left s) after in (
      opened (table_lines old.with_rows s) (tables_left s old.after old.is_kv_told) (tables_left s (Some found.key) old.is_kv_told) (named_of found) line (rows_left s new.table) tables told
          ∙ ap (λ (x : List (List ℕ)). line ∷ rows_left s new.table ++ x) (sym same),
      ap (λ (l : Listing). l.number) after,
    )

-- KV is told
pub fixed_told : (s : State) (old new : Listing) (o : Option FoundTable) (line : List ℕ) → IsFound s old.after o → ((found : FoundTable) → o ≡ Some found → (old.is_kv_told || comes_before_kv found.name) ≡ false)
    → old.is_kv_told ≡ false → table_lines old.with_rows s named_kv ≡ line ∷ rows_left s new.table → new ≡ record old { table = new.table; is_kv_told = true }
    → (table_lines_left s old ≡ line ∷ rows_left s new.table ++ table_lines_left s new) × (new.number ≡ old.number)
fixed_told s old new o line is behind untold told after =
    let later : (found : FoundTable) → o ≡ Some found → comes_before_kv found.name ≡ false = λ found some. sym (ap (λ (b : Bool). b || comes_before_kv found.name) untold) ∙ behind found some in
    let tables : tables_left s old.after old.is_kv_told ≡ named_kv ∷ tables_left s old.after true = ap (tables_left s old.after) untold ∙ next_kv s old.after o is later in
    let same : table_lines_left s new ≡ flat_map (table_lines old.with_rows s) (tables_left s old.after true) = ap (table_lines_left s) after in (
      opened (table_lines old.with_rows s) (tables_left s old.after old.is_kv_told) (tables_left s old.after true) named_kv line (rows_left s new.table) tables told
          ∙ ap (λ (x : List (List ℕ)). line ∷ rows_left s new.table ++ x) (sym same),
      ap (λ (l : Listing). l.number) after,
    )

-- no table is left
pub no_table : (s : State) (old : Listing) (o : Option FoundTable) → IsFound s old.after o → ((found : FoundTable) → o ≡ Some found → (old.is_kv_told || comes_before_kv found.name) ≡ false) → old.is_kv_told ≡ true → table_lines_left s old ≡ []
no_table s old o is behind told =
    let none : (found : FoundTable) → o ≡ Some found → ⊥ = λ found some. let bad : true ≡ false = sym (ap (λ (b : Bool). b || comes_before_kv found.name) told) ∙ behind found some in cc in
    ap (λ (b : Bool). flat_map (table_lines old.with_rows s) (tables_left s old.after b)) told ∙ ap (flat_map (table_lines old.with_rows s)) (next_none s old.after o is none)

-- what `next_fixed` tells the tables that are left tell
pub tells_fixed : {A : Type 0} (s : State) (old new : Listing) (o : Option FoundTable) (r : Option (String A)) → IsFound s old.after o → ((found : FoundTable) → o ≡ Some found → (old.is_kv_told || comes_before_kv found.name) ≡ false)
    → TellsFixed s old r new → TellsTable s old r new
tells_fixed s old new o None is behind told = (no_table s old o is behind told.0, told.1)
tells_fixed s old new o (Some line) is behind told = fixed_told s old new o (string_bytes line) is behind told.0 told.1 told.2

-- and `open_found`
pub tells_found : {A : Type 0} (s : State) (old new : Listing) (o : Option FoundTable) (found : FoundTable) (r : Option (String A)) → IsFound s old.after o → o ≡ Some found → (old.is_kv_told || comes_before_kv found.name) ≡ true
    → OpensFound s found old r new → TellsTable s old r new
tells_found s old new o found None is some first told = absurd told
tells_found s old new o found (Some line) is some first told = found_told s old new o found (string_bytes line) is some first told.0 told.1

-- a line is told of the rows of the open table
pub tells_row : {A : Type 0} (s : State) (old new : Listing) (line : String A) → old.number ≡ None → TellsRow s old (Some line) new → lines_left s old ≡ string_bytes line ∷ lines_left s new
tells_row s old new line none told = row_told s old new (string_bytes line) none told.0 told.1

-- or of the tables
pub tells_table : {A : Type 0} (s : State) (old mid new : Listing) (r : Option (String A)) → old.number ≡ None → TellsRow {A = A} s old None mid → TellsTable s mid r new → Tells (lines_left s old) r (lines_left s new)
tells_table s old mid new None none done told =
    let same : lines_left s old ≡ lines_left s mid = rows_done s old mid none done.0 done.1 in
    let shut : mid.table ≡ None = ap (λ (l : Listing). l.table) done.1 in
    let number : mid.number ≡ None = ap (λ (l : Listing). l.number) done.1 ∙ none in
    let nothing : lines_left s mid ≡ [] = tables_alone s mid number shut ∙ told.0 in
    (same ∙ nothing, ap (lines_left s) told.1 ∙ nothing)
tells_table s old mid new (Some line) none done told =
    let same : lines_left s old ≡ lines_left s mid = rows_done s old mid none done.0 done.1 in
    let shut : mid.table ≡ None = ap (λ (l : Listing). l.table) done.1 in
    let number : mid.number ≡ None = ap (λ (l : Listing). l.number) done.1 ∙ none in
    same ∙ table_told_next s mid new (string_bytes line) number shut told.0 told.1

-- the table found is opened
pub of_found : {A E : Type 0} (s : State) (old new : Listing) (found : FoundTable) (r : Result (Option (String A)) E) → (old.is_kv_told || comes_before_kv found.name) ≡ true → IfOk r (λ line. OpensFound s found old line new)
    → IfOk r (λ line. IsFound s old.after (Some found) → TellsTable s old line new)
of_found s old new found (Ok line) first told = λ is. tells_found s old new (Some found) found line is refl first told
of_found s old new found (Err e) first told = tt

-- or the fixed one
pub of_fixed : {A E : Type 0} (s : State) (old new : Listing) (found : FoundTable) (r : Result (Option (String A)) E) → (old.is_kv_told || comes_before_kv found.name) ≡ false → IfOk r (λ line. TellsFixed s old line new)
    → IfOk r (λ line. IsFound s old.after (Some found) → TellsTable s old line new)
of_fixed s old new found (Ok line) behind told = λ is. tells_fixed s old new (Some found) line is (λ other some. let same : found ≡ other = cc in subst (λ (f : FoundTable). (old.is_kv_told || comes_before_kv f.name) ≡ false) same behind) told
of_fixed s old new found (Err e) behind told = tt

-- what is found of the state that a source tells after a look at it
pub at_found : {A E : Type 0} (s u : State) (old new : Listing) (after : Option (List Value)) (o : Option FoundTable) (found : FoundTable) (r : Result (Option (String A)) E) → u ≡ s → after ≡ old.after → IsFound s after o → o ≡ Some found
    → IfOk r (λ line. IsFound u old.after (Some found) → TellsTable u old line new) → IfOk r (λ line. TellsTable s old line new)
at_found s u old new after o found (Ok line) same from is some told =
    let here : IsFound s old.after (Some found) = subst (λ (a : Option (List Value)). IsFound s a (Some found)) from (subst (IsFound s after) some is) in
    subst (λ (x : State). TellsTable x old line new) same (told (subst (λ (x : State). IsFound x old.after (Some found)) (sym same) here))
at_found s u old new after o found (Err e) same from is some told = tt

pub at_none : {A E : Type 0} (s u : State) (old new : Listing) (after : Option (List Value)) (o : Option FoundTable) (r : Result (Option (String A)) E) → u ≡ s → after ≡ old.after → IsFound s after o → o ≡ None
    → IfOk r (λ line. TellsFixed u old line new) → IfOk r (λ line. TellsTable s old line new)
at_none s u old new after o (Ok line) same from is none told =
    let here : IsFound s old.after None = subst (λ (a : Option (List Value)). IsFound s a None) from (subst (IsFound s after) none is) in
    tells_fixed s old new None line here (λ found some. cc) (subst (λ (x : State). TellsFixed x old line new) same told)
at_none s u old new after o (Err e) same from is none told = tt

-- a line behind the rows of a table
pub after_rows : {A E : Type 0} (s u : State) (old mid new : Listing) (r : Result (Option (String A)) E) → u ≡ s → old.number ≡ None → TellsRow {A = A} s old None mid → IfOk r (λ line. TellsTable u mid line new)
    → IfOk r (λ line. Tells (lines_left s old) line (lines_left s new))
after_rows s u old mid new (Ok line) same none done told = tells_table s old mid new line none done (subst (λ (x : State). TellsTable x mid line new) same told)
after_rows s u old mid new (Err e) same none done told = tt
