use Rattle.std.proofs.Common.{rules}
use Rattle.std.proofs.lemmas.Bool.Decides.{Decides-eqb}
use Rattle.std.proofs.lemmas.Slice.Eq.{strip_prefix_is}
use Rattle.odb_play.proofs.bytes.after.Goals as goal

pub returns-clause-found : goal.returns-clause-found
returns-clause-found c =
    let cases = strip_prefix_is Decides-eqb c.args.bytes.now c.args.prefix.now c.strip_prefix.result c.strip_prefix.ensures.cases in
    search (rules, cases)

pub returns-clause-none : goal.returns-clause-none
returns-clause-none c =
    let cases = strip_prefix_is Decides-eqb c.args.bytes.now c.args.prefix.now c.strip_prefix.result c.strip_prefix.ensures.cases in
    search (rules, cases)
