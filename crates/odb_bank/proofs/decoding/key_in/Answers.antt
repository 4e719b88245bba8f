use Rattle.odb_codec.specs.Reading.{read_key}
use Rattle.odb_bank.proofs.Items.{key_given, malformed_given}
use Rattle.odb_bank.proofs.decoding.key_in.Goals as goal

pub returns-in-Ok : goal.returns-in-Ok
returns-in-Ok c = let found = c.in-Ok.ensures.found in key_given c.args.bytes.now c.in-Ok.key found.0 found.1

pub returns-in-Err-Malformed : goal.returns-in-Err-Malformed
returns-in-Err-Malformed c =
    malformed_given (read_key c.args.bytes.now) c.args.bytes.now c.decode_key.result c.in-Err-Malformed.field-0 c.in-Err-Malformed.field-0-0 c.decode_key.ensures.malformed
    c.in-Err-Malformed.is c.in-Err-Malformed.field-0-is
