use Rattle.std.proofs.Common.{◌≡◌, ℕ, List, Option, Some, None, refl, sym, ap, ◌∙◌, arith}
use Rattle.odb_values.specs.declared.value.Value.{Value}
use Rattle.odb_values.specs.declared.range.Range.{Range}
use Rattle.odb_model.specs.declared.table_key.TableKey.{TableKey}
use Rattle.odb_model.specs.State.{State}
use Rattle.odb_model.specs.Databanks.{databank_rows, databank_of, databanks_told}
use Rattle.odb_rowsource.specs.declared.row_source.KeyedRow.{KeyedRow}
use Rattle.odb_rowsource.specs.RowSource.{rows_above, next_in}
use Rattle.odb_rowsource.proofs.Above.{next-none, next-some, above-fewer}
use Rattle.odb_catalog.specs.Databanks.{number_found, files_after}
use Rattle.odb_catalog.proofs.Passing.{number_among, found-here, found-later, rows-all}
use Rattle.odb_catalog.proofs.lookup.further_databank.Goals as goal

pub loop-last-init : goal.loop-last-init
loop-last-init g c = record {
  state = refl;
  counts = λ file. omega arith;
  left = ap (λ (es : List (TableKey × List Value)). number_among c.args.name.now c.args.files.items (databanks_told es)) (rows-all (g.R.RowSource.state c.args.rows.now));
}

-- a row on the way, whose databank isn't the one looked for
passed : (name files later : List ℕ) (s : State) (last : Option (List Value)) (r : KeyedRow) → Some r ≡ next_in databank_rows last s → number_found files name (databank_of r.key r.row) ≡ None
    → later ≡ files_after files (databank_of r.key r.row)
    → number_among name later (databanks_told (rows_above databank_rows (Some r.key) s)) ≡ number_among name files (databanks_told (rows_above databank_rows last s))
passed name files later s last r found none after =
    let rest = databanks_told (rows_above databank_rows (Some r.key) s) in
    ap (λ (fs : List ℕ). number_among name fs rest) after
    ∙ sym (found-later name files (databank_of r.key r.row) rest none)
    ∙ ap (λ (es : List (TableKey × List Value)). number_among name files (databanks_told es)) (sym (next-some databank_rows s last r found))

-- or is
reached : (name files : List ℕ) (s : State) (last : Option (List Value)) (r : KeyedRow) (n : ℕ) → Some r ≡ next_in databank_rows last s → number_found files name (databank_of r.key r.row) ≡ Some n
    → Some n ≡ number_among name files (databanks_told (rows_above databank_rows last s))
reached name files s last r n found here =
    sym (found-here name files (databank_of r.key r.row) (databanks_told (rows_above databank_rows (Some r.key) s)) n here)
    ∙ ap (λ (es : List (TableKey × List Value)). number_among name files (databanks_told es)) (sym (next-some databank_rows s last r found))

-- no row is left
ended : (name files : List ℕ) (s : State) (last : Option (List Value)) → None ≡ next_in databank_rows last s → None ≡ number_among name files (databanks_told (rows_above databank_rows last s))
ended name files s last none = ap (λ (es : List (TableKey × List Value)). number_among name files (databanks_told es)) (sym (next-none databank_rows s last none))

-- what the source gave is the next row of the state at first
given : (range : Range) (k last : Option (List Value)) (u s : State) (o : Option KeyedRow) → o ≡ next_in range k u → range ≡ databank_rows → k ≡ last → u ≡ s → o ≡ next_in databank_rows last s
given range k last u s o e p q r =
    e ∙ ap (λ (x : Range). next_in x k u) p ∙ ap (λ (x : Option (List Value)). next_in databank_rows x u) q ∙ ap (next_in databank_rows last) r

pub loop-last-smaller : goal.loop-last-smaller
loop-last-smaller g c =
    let s : State = g.R.RowSource.state c.args.rows.now in
    let next : c.in_ok-row.field-0 ≡ next_in databank_rows c.loop-last.last s =
    given c.in_ok-range.range _ c.loop-last.last (g.R.RowSource.state c.loop-last.rows) s c.in_ok-row.field-0 c.in_ok-row.ensures.row c.in_ok-range.ensures c.as_ref.ensures.value c.loop-last.invariant.state in
    above-fewer databank_rows s c.loop-last.last c.in-Some.row (sym c.in-Some.is ∙ next)

pub loop-last-preserved : goal.loop-last-preserved
loop-last-preserved g c =
    let s : State = g.R.RowSource.state c.args.rows.now in
    let next : c.in_ok-row.field-0 ≡ next_in databank_rows c.loop-last.last s =
    given c.in_ok-range.range _ c.loop-last.last (g.R.RowSource.state c.loop-last.rows) s c.in_ok-row.field-0 c.in_ok-row.ensures.row c.in_ok-range.ensures c.as_ref.ensures.value c.loop-last.invariant.state in
    record {
      state = c.next.ensures.state ∙ c.loop-last.invariant.state;
      counts = λ file. omega (arith, c.loop-last.invariant.counts file, c.next.ensures.counts file);
      left = passed c.args.name.now c.loop-last.files.items c.pass_row.new.files.items s c.loop-last.last c.in-Some.row (sym c.in-Some.is ∙ next)
          (sym c.in_ok-number.ensures.found ∙ c.in_default-2.is) (c.in_ok-number.ensures.files c.in_default-2.is)
          ∙ c.loop-last.invariant.left;
    }

pub returns-in-Some-2-clause-number : goal.returns-in-Some-2-clause-number
returns-in-Some-2-clause-number g c =
    let s : State = g.R.RowSource.state c.args.rows.now in
    let next : c.in_ok-row.field-0 ≡ next_in databank_rows c.loop-last.last s =
    given c.in_ok-range.range _ c.loop-last.last (g.R.RowSource.state c.loop-last.rows) s c.in_ok-row.field-0 c.in_ok-row.ensures.row c.in_ok-range.ensures c.as_ref.ensures.value c.loop-last.invariant.state in
    reached c.args.name.now c.loop-last.files.items s c.loop-last.last c.in-Some.row c.in-Some-2.number (sym c.in-Some.is ∙ next) (sym c.in_ok-number.ensures.found ∙ c.in-Some-2.is)
    ∙ c.loop-last.invariant.left

pub returns-clause-number : goal.returns-clause-number
returns-clause-number g c =
    let s : State = g.R.RowSource.state c.args.rows.now in
    let next : c.in_ok-row.field-0 ≡ next_in databank_rows c.loop-last.last s =
    given c.in_ok-range.range _ c.loop-last.last (g.R.RowSource.state c.loop-last.rows) s c.in_ok-row.field-0 c.in_ok-row.ensures.row c.in_ok-range.ensures c.as_ref.ensures.value c.loop-last.invariant.state in
    ended c.args.name.now c.loop-last.files.items s c.loop-last.last (sym c.in_default.is ∙ next) ∙ c.loop-last.invariant.left
