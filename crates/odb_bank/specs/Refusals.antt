-- What a refusal of slots is here.
use Rattle.odb_slots.specs.Slots.{slot_place}
use Rattle.odb_slots.specs.declared.error.SlotError.{SlotError}
use Rattle.odb_slots.specs.declared.error.SlotError.TheVariants.{Fault as SlotFault, Malformed, NoMemory as NoSlotMemory}
use Rattle.odb_bank.specs.declared.error.BankError.{BankError}
use Rattle.odb_bank.specs.declared.error.BankError.TheVariants.{Fault, Damaged, NoMemory}

abbrev pub refusal_of : SlotError → BankError
refusal_of SlotFault = Fault
refusal_of (Malformed slot) = Damaged (slot_place slot)
refusal_of NoSlotMemory = NoMemory
