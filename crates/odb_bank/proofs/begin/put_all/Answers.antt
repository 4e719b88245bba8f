use Rattle.std.proofs.Common.{◌++◌, refl, arith}
use Rattle.std.proofs.lemmas.List.Sorted.{IsPermutation-refl}
use Rattle.odb_bank.proofs.InOrder.{put_more, put_all_of}
use Rattle.odb_bank.proofs.begin.put_all.Goals as goal

pub loop-placed-init : goal.loop-placed-init
loop-placed-init c = IsPermutation-refl (c.args.slots.now ++ c.args.kept.items)

pub loop-placed-preserved : goal.loop-placed-preserved
loop-placed-preserved c =
    put_more (c.args.slots.now ++ c.args.kept.items) c.loop-placed.slots c.loop-placed.kept.items c.pop.new.self.items c.put.new.self c.in-Some.placed c.in-Some.placed refl c.in-Some.ensures.items c.put.ensures c.loop-placed.invariant

pub returns : goal.returns
returns c = put_all_of (c.args.slots.now ++ c.args.kept.items) c.loop-placed.slots c.loop-placed.kept.items (omega (arith, c.in_default.ensures.cases.0, c.loop-placed.kept.ok.0)) c.loop-placed.invariant
