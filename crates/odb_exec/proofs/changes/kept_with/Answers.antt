use Rattle.std.proofs.Common.{◌∙◌, ◌++◌, ◌∷◌, [], ap, arith}
use Rattle.odb_exec.proofs.Counts.{written-more}
use Rattle.odb_exec.proofs.changes.kept_with.Goals as goal

pub returns-then-keys-gt-MOST_WRITES : goal.returns-then-keys-gt-MOST_WRITES
returns-then-keys-gt-MOST_WRITES c = λ writes stands un.
    omega (arith, written-more c.args.written.now.items writes c.args.write un, stands.keys, c.new_keys.ensures, c.if-keys-gt-MOST_WRITES.true)

pub returns : goal.returns
returns c = λ writes stands un. record {
  writes = c.in_ok-push.ensures.items ∙ ap (λ l. l ++ c.args.write ∷ []) stands.writes;
  keys = omega (arith, written-more c.args.written.now.items writes c.args.write un, stands.keys, c.new_keys.ensures);
}
