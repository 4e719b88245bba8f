use Rattle.std.proofs.Common.{◌∙◌}
use Rattle.odb_exec.specs.Rows.{is_among}
use Rattle.odb_exec.proofs.Tuples.{put-among}
use Rattle.odb_exec.proofs.insert.put_behind.Goals as goal

pub returns-then-branch-clause-earlier : goal.returns-then-branch-clause-earlier
returns-then-branch-clause-earlier c = λ q.
    c.in_ok-insert.ensures.updates.0 q
    ∙ put-among c.in_ok-copy.field-0 c.args.write.key q (is_among c.args.earlier.now.keys q) c.in_ok-copy.ensures
