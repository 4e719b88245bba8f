use Rattle.std.proofs.Common.{rules}
use Rattle.std.proofs.lemmas.Bool.Decides.{Decides-eqb}
use Rattle.std.proofs.lemmas.Slice.Eq.{strip_suffix_is}
use Rattle.odb_play.proofs.bytes.before.Goals as goal

pub returns-clause-found : goal.returns-clause-found
returns-clause-found c =
    let cases = strip_suffix_is Decides-eqb c.args.bytes.now c.args.suffix.now c.strip_suffix.result c.strip_suffix.ensures.cases in
    search (rules, cases)

pub returns-clause-none : goal.returns-clause-none
returns-clause-none c =
    let cases = strip_suffix_is Decides-eqb c.args.bytes.now c.args.suffix.now c.strip_suffix.result c.strip_suffix.ensures.cases in
    search (rules, cases)
