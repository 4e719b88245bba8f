use Rattle.std.proofs.Common.{string_bytes}
use Rattle.odb_model.specs.Canonical.{predicate_text, within}
use Rattle.odb_print.specs.Shown.{shown_of}
use Rattle.odb_print.proofs.Appends.{left_written}
use Rattle.odb_print.proofs.predicates.+predicate.Goals as goal

pub put_left-returns : goal.put_left-returns
put_left-returns t c =
    left_written (string_bytes c.args.out.now) (string_bytes c.put_open.new.out) (predicate_text c.args.left.now) (string_bytes c.in_ok-behind.behind) (string_bytes c.push_str.new.self) (string_bytes c.put_within.new.out)
    (within c.args.least (shown_of c.args.left.now)) c.args.word.now (within c.args.right_least (shown_of c.args.right.now)) c.in_ok-behind.ensures c.in_ok-push_str.ensures.bytes c.in_ok-put_within.ensures
