use Rattle.std.proofs.Common.{refl, arith}
use Rattle.std.specs.Prelude.{slice_index}
use Rattle.odb_bank.proofs.UsedSlots.{taking_none, taking_more}
use Rattle.odb_bank.proofs.room.set_of.Goals as goal

pub loop-slot-init : goal.loop-slot-init
loop-slot-init c = taking_none c.args.used.now c.new-set.result c.new-set.ensures.empty

pub loop-slot-preserved : goal.loop-slot-preserved
loop-slot-preserved c =
    taking_more c.args.used.now c.loop-slot.slot-index c.loop-slot.set c.insert.new.self (slice_index c.args.used.now c.loop-slot.slot-index) refl (omega arith) c.loop-slot.invariant c.in_ok-insert.ensures.updates.0

pub returns : goal.returns
returns c = record {
  used_only = c.loop-slot.invariant.used_only;
  all = λ n one. c.loop-slot.invariant.so_far n one.0 (omega (arith, one.1)) one.2;
}
