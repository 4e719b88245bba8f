use Rattle.std.proofs.Common.{None}
use Rattle.std.specs.Option.{option_copied}
use Rattle.odb_bank.specs.LeastAbove.{IsFirstAbove}
use Rattle.odb_bank.proofs.latest.first_above.Given as goal

abbrev pub invariant-loop-i : goal.invariant-loop-i
invariant-loop-i l = IsFirstAbove l.bank (option_copied l.above) l.writes l.i None
