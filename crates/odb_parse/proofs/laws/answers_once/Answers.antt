use Rattle.odb_parse.proofs.Once.{one_answer}
use Rattle.odb_parse.proofs.laws.answers_once.Goals as goal

pub returns : goal.returns
returns c = one_answer
