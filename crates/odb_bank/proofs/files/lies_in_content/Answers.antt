use Rattle.odb_slots.specs.Sets.{IsOneOf, HasSlot}
use Rattle.odb_bank.proofs.Framing.{known_asks, gates_lie, bodies_lie}
use Rattle.odb_bank.proofs.files.lies_in_content.Goals as goal

pub returns-clause-known : goal.returns-clause-known
returns-clause-known c = known_asks

pub returns-clause-gates : goal.returns-clause-gates
returns-clause-gates c = λ limit slots. gates_lie limit (IsOneOf slots)

pub returns-clause-bodies : goal.returns-clause-bodies
returns-clause-bodies c = λ limit items. bodies_lie limit (HasSlot items)
