use Rattle.std.specs.Option.{option_copied}
use Rattle.odb_bank.specs.LeastAbove.{IsLeast}
use Rattle.odb_bank.proofs.latest.least_above.Given as goal

abbrev pub invariant-loop-i : goal.invariant-loop-i
invariant-loop-i l = IsLeast l.bank (option_copied l.above) l.entries l.i l.least
