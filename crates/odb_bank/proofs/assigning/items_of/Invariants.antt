use Rattle.std.proofs.Common.{map}
use Rattle.odb_bank.specs.Additions.{record_of}
use Rattle.odb_bank.specs.Filling.{AreItemsFor}
use Rattle.odb_bank.proofs.assigning.items_of.Given as goal

abbrev pub invariant-loop-i : goal.invariant-loop-i
invariant-loop-i l = AreItemsFor l.free (map record_of l.additions) l.items.items l.i
