use Rattle.std.proofs.Common.{◌≡◌, length}
use Rattle.std.specs.List.{filter}
use Rattle.std.specs.Option.{option_copied}
use Rattle.odb_rowsource.specs.RowSource.{next_in, NoneFell}
use Rattle.odb_rowsource.specs.Intentions.{laid_over}
use Rattle.odb_rowsource.proofs.Stands.{is_next}
use Rattle.odb_rowsource.proofs.overlay.show_over.Given as goal

abbrev pub invariant-loop-intention : goal.invariant-loop-intention
invariant-loop-intention g l =
    (g.R.RowSource.state l.base ≡ g.R.RowSource.state l.fn.base)
    × NoneFell (g.R.RowSource.faults l.fn.base) (g.R.RowSource.faults l.base)
    × (next_in l.range (option_copied l.last) (laid_over (g.R.RowSource.state l.fn.base) l.own.items)
    ≡ next_in l.range (option_copied l.fn.after) (laid_over (g.R.RowSource.state l.fn.base) l.own.items))

abbrev pub decreases-loop-intention : goal.decreases-loop-intention
decreases-loop-intention g l = length (filter (λ j. is_next l.range (option_copied l.last) j.table_key) l.own.items)
