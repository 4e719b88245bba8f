use Rattle.odb_open.proofs.Prefix.{opens_to_prefix, kept_opens}
use Rattle.odb_open.proofs.laws.opens_to_prefix.Goals as goal

pub returns-clause-prefix : goal.returns-clause-prefix
returns-clause-prefix c = λ choices image h t reads format small sound admissible. opens_to_prefix choices image h t reads format small sound admissible

pub returns-clause-kept : goal.returns-clause-kept
returns-clause-kept c = λ m choices image t sound format keeps reads admissible. kept_opens m choices image t sound format keeps reads admissible
