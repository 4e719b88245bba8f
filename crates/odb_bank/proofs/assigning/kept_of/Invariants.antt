use Rattle.std.proofs.Common.{map}
use Rattle.odb_bank.specs.Additions.{record_of}
use Rattle.odb_bank.specs.Filling.{AreKeptFor}
use Rattle.odb_bank.proofs.assigning.kept_of.Given as goal

abbrev pub invariant-loop-i : goal.invariant-loop-i
invariant-loop-i l = AreKeptFor l.free (map record_of l.additions) l.kept.items l.i
