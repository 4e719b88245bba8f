use Rattle.std.proofs.Common.{sym, subst, List, arith}
use Rattle.odb_model.specs.declared.intention.Intention.{Intention}
use Rattle.odb_rowsource.specs.Intentions.{AreIntentions}
use Rattle.odb_rowsource.proofs.Intended.{AreIntentions-none}
use Rattle.odb_rowsource.proofs.intentions.Intentions.new.Goals as goal

pub invariant_of-result : goal.invariant_of-result
invariant_of-result c =
    (subst (λ (intentions : List Intention). AreIntentions intentions) (sym c.new.ensures.items) AreIntentions-none, omega arith)
