use Rattle.odb_codec.specs.Reading.{read_row}
use Rattle.odb_bank.proofs.Items.{row_given, malformed_given}
use Rattle.odb_bank.proofs.decoding.row_in.Goals as goal

pub returns-in-Ok : goal.returns-in-Ok
returns-in-Ok c = let found = c.in-Ok.ensures.found in row_given c.args.bytes.now c.in-Ok.row found.0 found.1

pub returns-in-Err-Malformed : goal.returns-in-Err-Malformed
returns-in-Err-Malformed c =
    malformed_given (read_row c.args.bytes.now) c.args.bytes.now c.decode_row.result c.in-Err-Malformed.field-0 c.in-Err-Malformed.field-0-0 c.decode_row.ensures.malformed
    c.in-Err-Malformed.is c.in-Err-Malformed.field-0-is
