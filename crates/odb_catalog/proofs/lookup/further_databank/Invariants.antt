use Rattle.std.proofs.Common.{◌≡◌, length}
use Rattle.std.specs.FinMap.{entries}
use Rattle.odb_model.specs.State.{part_in}
use Rattle.odb_model.specs.Databanks.{databank_rows, databanks_told}
use Rattle.odb_rowsource.specs.RowSource.{NoneFell, rows_above}
use Rattle.odb_catalog.proofs.Passing.{number_among}
use Rattle.odb_catalog.proofs.lookup.further_databank.Given as goal

-- what is looked for is what is left to look for behind the last row
abbrev pub invariant-loop-last : goal.invariant-loop-last
invariant-loop-last g l = record {
  state : g.R.RowSource.state l.rows ≡ g.R.RowSource.state l.fn.rows;
  counts : NoneFell (g.R.RowSource.faults l.fn.rows) (g.R.RowSource.faults l.rows);
  left : number_among l.name l.files.items (databanks_told (rows_above databank_rows l.last (g.R.RowSource.state l.fn.rows)))
      ≡ number_among l.name l.fn.files.items (databanks_told (entries (part_in databank_rows (g.R.RowSource.state l.fn.rows))));
}

abbrev pub decreases-loop-last : goal.decreases-loop-last
decreases-loop-last g l = length (rows_above databank_rows l.last (g.R.RowSource.state l.fn.rows))
