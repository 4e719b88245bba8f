use Rattle.std.proofs.Common.{◌+◌, length, refl, ap, inl, inr}
use Rattle.odb_device.specs.World.{file_of}
use Rattle.odb_transdb.specs.Worlds.{Forces}
use Rattle.odb_transdb.proofs.Standing.{stands_settled}
use Rattle.odb_transdb.proofs.Composing.{forces_same, forces_full}
use Rattle.odb_transdb.proofs.transdb.Transdb.force.Given.{Over}
use Rattle.odb_transdb.proofs.transdb.Transdb.force.Goals as goal
use Rattle.odb_transdb.proofs.transdb.Transdb.force.Goals.{After-force_settled}

pub returns-then-room-need-clause-forces : goal.returns-then-room-need-clause-forces
returns-then-room-need-clause-forces g c = λ stands. forces_full c.args.payload.now (13 + length c.args.payload.now) c.room-room.result c.args.self.now (g.S.Outside.world c.args.store.now) stands

-- from where the pair is settled
forced : (g : Over) (c : After-force_settled g) → Forces c.args.payload.now c.force_settled.result c.settle.new.self c.force_settled.new.self (g.S.Outside.world c.settle.new.store) (g.S.Outside.world c.force_settled.new.store)
forced g c = record {
  entry = c.force_settled.ensures.entry;
  forced = c.force_settled.ensures.forced;
  faulted = c.force_settled.ensures.before;
  doubt = c.force_settled.ensures.doubt;
  only = c.force_settled.ensures.only;
}

pub returns-in-Ok-clause-forces : goal.returns-in-Ok-clause-forces
returns-in-Ok-clause-forces g c = λ stands.
    let quiet = c.settle.ensures.quiet (stands_settled c.args.self.now (file_of 0 (g.S.Outside.world c.args.store.now)) stands).settled in
    forces_same c.args.payload.now c.force_settled.result c.args.self.now c.settle.new.self c.force_settled.new.self (g.S.Outside.world c.args.store.now) (g.S.Outside.world c.settle.new.store)
    (g.S.Outside.world c.force_settled.new.store) quiet.1 (ap g.S.Outside.world quiet.2) (forced g c)

pub returns-in-Ok-clause-settles : goal.returns-in-Ok-clause-settles
returns-in-Ok-clause-settles g c = λ room all since. record {
  mid = g.S.Outside.world c.settle.new.store;
  settled = c.settle.new.self;
  settling = c.settle.ensures.run all since;
  rest = inl (c.in-Ok.ensures.stands, forced g c);
}

pub returns-in-Err-clause-settles : goal.returns-in-Err-clause-settles
returns-in-Err-clause-settles g c = λ room all since. record {
  mid = g.S.Outside.world c.settle.new.store;
  settled = c.settle.new.self;
  settling = c.settle.ensures.run all since;
  rest = inr (record { fault = refl; same = refl; nothing = refl; unsettled = c.in-Err.ensures.unsettled; rose = c.in-Err.ensures.cause });
}
