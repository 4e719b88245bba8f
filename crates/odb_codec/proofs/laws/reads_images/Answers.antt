use Rattle.odb_codec.proofs.Entries.{entry_again, key_read, row_read}
use Rattle.odb_codec.proofs.laws.reads_images.Goals as goal

pub returns-clause-entry : goal.returns-clause-entry
returns-clause-entry c = entry_again

pub returns-clause-key : goal.returns-clause-key
returns-clause-key c = key_read

pub returns-clause-row : goal.returns-clause-row
returns-clause-row c = row_read
