use Rattle.odb_slots.specs.Sets.{IsOneOf}
use Rattle.odb_bank.proofs.Staleness.{stale_durably, map_sure, doubts_stay}
use Rattle.odb_bank.proofs.known.closes_stale.Goals as goal

pub returns-clause-durable : goal.returns-clause-durable
returns-clause-durable c = stale_durably

pub returns-clause-doubts : goal.returns-clause-doubts
returns-clause-doubts c = λ mark slots. doubts_stay mark (IsOneOf slots)

pub returns-clause-rows : goal.returns-clause-rows
returns-clause-rows c = map_sure
