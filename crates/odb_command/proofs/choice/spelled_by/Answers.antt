use Rattle.std.proofs.Common.{[]}
use Rattle.odb_command.proofs.Choices.{none_with_word}
use Rattle.odb_command.proofs.choice.spelled_by.Goals as goal

pub returns-in_default-clause-usage : goal.returns-in_default-clause-usage
returns-in_default-clause-usage c = λ e. none_with_word c.args.words.now c.loop-word.word-index (record { ref_ptr = (0, 0); now = [] }) c.loop-word-test.true c.in_default.ensures.none
