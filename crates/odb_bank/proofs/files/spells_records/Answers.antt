use Rattle.std.proofs.Common.{refl}
use Rattle.odb_bank.proofs.Spelling.{in_grammar, spelled_again}
use Rattle.odb_bank.proofs.files.spells_records.Goals as goal

pub returns-clause-grammar : goal.returns-clause-grammar
returns-clause-grammar c = in_grammar

pub returns-clause-again : goal.returns-clause-again
returns-clause-again c = spelled_again

pub returns-clause-own : goal.returns-clause-own
returns-clause-own c = λ n body one other. refl
