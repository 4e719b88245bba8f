use Rattle.odb_model.specs.Window.{window_writes}
use Rattle.odb_validate.proofs.Suffixes.{start_within-length, start_within-fits, start_within-longest}
use Rattle.odb_validate.proofs.laws.finds_longest_suffix.Goals as goal

pub returns-clause-within : goal.returns-clause-within
returns-clause-within c = start_within-length window_writes

pub returns-clause-fits : goal.returns-clause-fits
returns-clause-fits c = start_within-fits window_writes

pub returns-clause-longest : goal.returns-clause-longest
returns-clause-longest c = start_within-longest window_writes
