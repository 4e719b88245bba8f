use Rattle.odb_slots.specs.Sets.{IsOneOf, HasSlot}
use Rattle.odb_bank.proofs.KnownSlots.{known_between, known_gates, known_opened, known_closed, known_bodies, known_filled, known_grows}
use Rattle.odb_bank.proofs.known.keeps_known.Goals as goal

pub returns-clause-records : goal.returns-clause-records
returns-clause-records c = known_between

pub returns-clause-gates : goal.returns-clause-gates
returns-clause-gates c = λ spell own slots. known_gates spell own (IsOneOf slots)

pub returns-clause-opened : goal.returns-clause-opened
returns-clause-opened c = known_opened

pub returns-clause-closed : goal.returns-clause-closed
returns-clause-closed c = known_closed

pub returns-clause-bodies : goal.returns-clause-bodies
returns-clause-bodies c = λ spell own items. known_bodies spell own (HasSlot items)

pub returns-clause-filled : goal.returns-clause-filled
returns-clause-filled c = known_filled

pub returns-clause-grows : goal.returns-clause-grows
returns-clause-grows c = known_grows
