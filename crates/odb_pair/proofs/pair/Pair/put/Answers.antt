use Rattle.std.proofs.Common.{false, ap}
use Rattle.odb_pair.specs.Standing.{PairState}
use Rattle.odb_pair.proofs.Putting.{Leaves, leaves_closed, leaves_filled, leaves_opened, stands_settled, holds_new}
use Rattle.odb_pair.proofs.pair.Pair.put.Given.{Over}
use Rattle.odb_pair.proofs.pair.Pair.put.Goals as goal
use Rattle.odb_pair.proofs.pair.Pair.put.Goals.{After-close, After-fill, After-open_gate}

-- what the parts leave, whatever the last of them answered
closed : (g : Over) (c : After-close g) → Leaves c.args.self.now c.args.value.now (g.S.Outside.world c.args.store.now) (g.S.Outside.world c.close.new.store)
closed g c =
    let w = g.S.Outside.world c.args.store.now in
    let w1 = g.S.Outside.world c.close.new.store in
    leaves_closed c.args.self.now _ c.args.value.now w w1 (ap (λ (k : PairState). record k { settled = false }) c.self.view_is) c.close.ensures.run

filled : (g : Over) (c : After-fill g) → Leaves c.args.self.now c.args.value.now (g.S.Outside.world c.args.store.now) (g.S.Outside.world c.fill.new.store)
filled g c =
    let w = g.S.Outside.world c.args.store.now in
    let w1 = g.S.Outside.world c.close.new.store in
    let w2 = g.S.Outside.world c.fill.new.store in
    leaves_filled c.args.self.now _ c.close.new.self c.args.value.now w w1 w2 (ap (λ (k : PairState). record k { settled = false }) c.self.view_is) c.close.ensures.run
    c.in_ok-close.ensures.ok c.fill.ensures.run

opened : (g : Over) (c : After-open_gate g) → Leaves c.args.self.now c.args.value.now (g.S.Outside.world c.args.store.now) (g.S.Outside.world c.open_gate.new.store)
opened g c =
    let w = g.S.Outside.world c.args.store.now in
    let w1 = g.S.Outside.world c.close.new.store in
    let w2 = g.S.Outside.world c.fill.new.store in
    let w3 = g.S.Outside.world c.open_gate.new.store in
    leaves_opened c.args.self.now _ c.close.new.self c.args.value.now w w1 w2 w3 (ap (λ (k : PairState). record k { settled = false }) c.self.view_is) c.close.ensures.run
    c.in_ok-close.ensures.ok c.fill.ensures.run c.open_gate.ensures.run

pub returns-in_err-close-clause-run : goal.returns-in_err-close-clause-run
returns-in_err-close-clause-run g c = closed g (goal.at.returns-in_err-close-clause-run g c).After-close

pub returns-in_err-fill-clause-run : goal.returns-in_err-fill-clause-run
returns-in_err-fill-clause-run g c = filled g (goal.at.returns-in_err-fill-clause-run g c).After-fill

pub returns-in_err-open_gate-clause-run : goal.returns-in_err-open_gate-clause-run
returns-in_err-open_gate-clause-run g c = opened g (goal.at.returns-in_err-open_gate-clause-run g c).After-open_gate

pub returns-clause-run : goal.returns-clause-run
returns-clause-run g c = opened g (goal.at.returns-clause-run g c).After-open_gate

pub returns-clause-stands : goal.returns-clause-stands
returns-clause-stands g c =
    stands_settled c.args.self.now _ c.close.new.self c.open_gate.new.self c.args.value.now (g.S.Outside.world c.open_gate.new.store) (ap (λ (k : PairState). record k { settled = false }) c.self.view_is) c.in_ok-close.ensures.ok
    c.open_gate.ensures.stands _ c.self-2.view_is

pub returns-clause-holds : goal.returns-clause-holds
returns-clause-holds g c =
    holds_new c.args.self.now _ c.close.new.self c.open_gate.new.self c.args.value.now (g.S.Outside.world c.open_gate.new.store) (ap (λ (k : PairState). record k { settled = false }) c.self.view_is) c.in_ok-close.ensures.ok
    c.open_gate.ensures.stands c.in_ok-open_gate.ensures.ok
