use Rattle.std.proofs.Common.{arith}
use Rattle.std.proofs.lemmas.List.Sorted.{IsPermutation-refl}
use Rattle.odb_bank.proofs.InOrder.{put_more, put_all_of}
use Rattle.odb_bank.proofs.opens.tree_of.Goals as goal

pub loop-it-init : goal.loop-it-init
loop-it-init c = rw c.new-tree.ensures (IsPermutation-refl c.args.slots.items)

pub loop-it-preserved : goal.loop-it-preserved
loop-it-preserved c =
    put_more c.args.slots.items c.loop-it.tree c.loop-it.slots.items c.pop.new.self.items c.put.new.self c.in-Some.it c.in_ok-new.field-0 c.in_ok-new.ensures c.in-Some.ensures.items c.put.ensures c.loop-it.invariant

pub returns : goal.returns
returns c = put_all_of c.args.slots.items c.loop-it.tree c.loop-it.slots.items (omega (arith, c.in_default.ensures.cases.0, c.loop-it.slots.ok.0)) c.loop-it.invariant
