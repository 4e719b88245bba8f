use Rattle.std.proofs.Common.{◌-◌, length, arith}
use Rattle.std.specs.Prelude.{slice_index}
use Rattle.odb_slots.proofs.Finding.{open_some, open_none}
use Rattle.odb_slots.proofs.slot.open_item.Goals as goal

pub returns-in-Some-clause-answer : goal.returns-in-Some-clause-answer
returns-in-Some-clause-answer c =
    open_some c.args.slot (slice_index c.args.bytes.now 0) (length c.args.bytes.now - 1) c.args.bytes.now c.in-Some.item c.in_ok-item.field-0 (omega arith) (omega (arith, c.requires)) c.in_ok-item.ensures.item c.in-Some.is

pub returns-in-None-clause-answer : goal.returns-in-None-clause-answer
returns-in-None-clause-answer c =
    open_none c.args.slot (slice_index c.args.bytes.now 0) (length c.args.bytes.now - 1) c.args.bytes.now c.in_ok-item.field-0 (omega arith) (omega (arith, c.requires)) c.in_ok-item.ensures.item c.in-None.is
