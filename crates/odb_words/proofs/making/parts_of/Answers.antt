use Rattle.odb_words.proofs.Makes.{begins}
use Rattle.odb_words.proofs.making.parts_of.Goals as goal

pub of_words-requires : goal.of_words-requires
of_words-requires c = begins c.args.opening.now
