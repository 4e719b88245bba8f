use Rattle.std.proofs.Common.{◌≤◌, length}
use Rattle.odb_bank.proofs.FreeSlots.{IsFinding}
use Rattle.odb_bank.proofs.room.free_slots.Given as goal

abbrev pub invariant-loop-slot : goal.invariant-loop-slot
invariant-loop-slot l = record {
  finds : IsFinding l.used l.slot-counter l.free.items;
  few : length l.free.items ≤ l.count;
}
