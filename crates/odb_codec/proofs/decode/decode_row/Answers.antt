use Rattle.std.proofs.Common.{length, ap, ◌∙◌, arith}
use Rattle.odb_codec.specs.Reading.{read_row}
use Rattle.odb_codec.proofs.Within.{fault_inside, row_fault_within}
use Rattle.odb_codec.proofs.Entries.{row_found, row_read}
use Rattle.odb_codec.proofs.Decoding.{place_is, no_fault, one_value}
use Rattle.odb_codec.proofs.decode.decode_row.Goals as goal

pub malformed-requires : goal.malformed-requires
malformed-requires c =
    let fault = rw c.in-Err-Fault.field-0-is at c.in-Err-Fault.ensures in
    fault_inside (length c.args.bytes.now) (read_row c.args.bytes.now) c.in-Err-Fault.left (row_fault_within c.args.bytes.now) fault

pub returns-in-Ok-clause-found : goal.returns-in-Ok-clause-found
returns-in-Ok-clause-found c = row_found c.args.bytes.now c.in-Ok.row (λ i. omega (arith, c.type_inv.bytes i)) c.in-Ok.ensures

pub returns-in-Ok-clause-only : goal.returns-in-Ok-clause-only
returns-in-Ok-clause-only c = λ e has is. one_value (read_row c.args.bytes.now) c.in-Ok.row _ c.in-Ok.ensures (ap (read_row) is ∙ row_read e has)

pub returns-in-Err-Fault-clause-only : goal.returns-in-Err-Fault-clause-only
returns-in-Err-Fault-clause-only c = λ e has is.
    let fault = rw c.in-Err-Fault.field-0-is at c.in-Err-Fault.ensures in
    no_fault (read_row c.args.bytes.now) c.in-Err-Fault.left _ fault (ap (read_row) is ∙ row_read e has)

pub returns-in-Err-Fault-clause-malformed : goal.returns-in-Err-Fault-clause-malformed
returns-in-Err-Fault-clause-malformed c = λ at same.
    let fault = rw c.in-Err-Fault.field-0-is at c.in-Err-Fault.ensures in
    let inside = fault_inside (length c.args.bytes.now) (read_row c.args.bytes.now) c.in-Err-Fault.left (row_fault_within c.args.bytes.now) fault in
    place_is (read_row c.args.bytes.now) c.args.bytes.now c.in-Err-Fault.left at c.malformed.result inside fault c.malformed.ensures same
