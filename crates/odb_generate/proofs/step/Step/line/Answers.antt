use Rattle.odb_generate.proofs.step.Step.line.Goals as goal

pub returns-in-Less : goal.returns-in-Less
returns-in-Less c = rw (c.in-Less.is, ← c.taken_from.ensures) c.less_line.ensures

pub returns-in-More : goal.returns-in-More
returns-in-More c = rw (c.in-More.is, ← c.added_to.ensures) c.more_line.ensures
