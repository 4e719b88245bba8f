use Rattle.std.proofs.Common.{◌∙◌, ap, arith, length}
use Rattle.odb_exec.proofs.Counts.{written-first}
use Rattle.odb_exec.proofs.changes.Changes.new.Goals as goal

pub invariant_of-result : goal.invariant_of-result
invariant_of-result c = record { few = omega (arith, c.as_slice.ensures.always.few, ap length c.as_slice.ensures.value) }

pub returns : goal.returns
returns c = record {
  writes = c.new.ensures.items;
  keys = ap length c.as_slice.ensures.value ∙ written-first c.args.written.now.items c.as_slice.ensures.always.ascending;
}
