use Rattle.odb_device.proofs.Talking.{saying_failed, saying_call, saying_only}
use Rattle.odb_device.proofs.steps.say_all.Goals as goal

pub returns-in_err-said-clause-moments : goal.returns-in_err-said-clause-moments
returns-in_err-said-clause-moments g c =
    let w = g.C.Outside.world c.args.console.now in
    let w1 = g.C.Outside.world c.loop-said.console in
    let w2 = g.C.Outside.world c.say.new.self in
    let said = c.in_err-said.ensures in
    saying_only c.args.bytes.now w w2 c.loop-said.said (saying_failed c.args.bytes.now w w1 w2 c.loop-said.said c.loop-said.invariant said.call said.input said.failed)

pub loop-said-preserved : goal.loop-said-preserved
loop-said-preserved g c =
    let w = g.C.Outside.world c.args.console.now in
    let w1 = g.C.Outside.world c.loop-said.console in
    let w2 = g.C.Outside.world c.say.new.self in
    let said = c.in_ok-said.ensures in
    saying_call c.args.bytes.now w w1 w2 c.loop-said.said c.in_ok-said.field-0 c.loop-said.invariant said.bound.1 said.call said.input said.said

pub returns-clause-moments : goal.returns-clause-moments
returns-clause-moments g c =
    saying_only c.args.bytes.now (g.C.Outside.world c.args.console.now) (g.C.Outside.world c.loop-said.console) c.loop-said.said c.loop-said.invariant
