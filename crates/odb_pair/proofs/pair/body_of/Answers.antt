use Rattle.std.proofs.Common.{◌∙◌, rules}
use Rattle.std.proofs.lemmas.Slice.{between-put_mid}
use Rattle.odb_pair.proofs.pair.body_of.Goals as goal

pub returns-clause-value : goal.returns-clause-value
returns-clause-value c = between-put_mid 8 40 _ c.copy_from_slice-2.new.self 48 (search rules) (search rules) ∙ c.copy_from_slice-2.ensures.after
