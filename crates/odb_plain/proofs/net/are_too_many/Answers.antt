use Rattle.std.proofs.Common.{◌≤◌, ◌+◌, length, ◌∙◌, ap, sym, nat_lt, arith}
use Rattle.odb_model.specs.Transaction.{last_from}
use Rattle.odb_plain.proofs.Counts.{few_enough, length-more}
use Rattle.odb_plain.proofs.net.are_too_many.Goals as goal

pub returns-then-write_set-writes : goal.returns-then-write_set-writes
returns-then-write_set-writes c = sym (few_enough c.args.write_set.now c.args.writes.now (omega arith))

pub returns : goal.returns
returns c =
    let last = c.in_ok-put_all_last.ensures ∙ ap (λ m. last_from m c.args.writes.now) c.in_ok-last.ensures in
    ap (nat_lt 4096) (c.len.ensures.len ∙ length-more c.args.write_set.now c.args.writes.now c.put_all_last.new.last.entries c.len.ensures.ordered last)
