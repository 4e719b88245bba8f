use Rattle.std.proofs.Common.{◌≡◌, length}
use Rattle.odb_model.specs.Window.{start_within}
use Rattle.odb_validate.specs.Window.{forget}
use Rattle.odb_validate.proofs.window.Window.make_room.Given as goal

abbrev pub invariant-loop-self : goal.invariant-loop-self
invariant-loop-self l =
    forget l.self (start_within l.most l.self.entries)
    ≡ forget l.initial.self (start_within l.most l.initial.self.entries)

abbrev pub decreases-loop-self : goal.decreases-loop-self
decreases-loop-self l = length l.self.entries
