use Rattle.std.proofs.Common.{refl}
use Rattle.odb_slots.specs.Views.{item_of}
use Rattle.odb_slots.specs.Sets.{IsOneOf}
use Rattle.odb_slots.proofs.Places.{bodies_torn, gates_torn}
use Rattle.odb_slots.proofs.laws.leaves_records.Goals as goal

pub returns-clause-bodies : goal.returns-clause-bodies
returns-clause-bodies c = λ slots. bodies_torn item_of (λ n body one other. refl) (IsOneOf slots)

pub returns-clause-gates : goal.returns-clause-gates
returns-clause-gates c = λ slots. gates_torn item_of (λ n body one other. refl) (IsOneOf slots)
