use Rattle.std.proofs.Common.{◌≡◌, sym, ◌∙◌, ap}
use Rattle.odb_pair.specs.Standing.{PairState}
use Rattle.odb_pair.proofs.Opens.{opens_settled}
use Rattle.odb_pair.proofs.pair.Pair.settled.Goals as goal

pub returns-clause-holds : goal.returns-clause-holds
returns-clause-holds c = λ is bytes h.
    let p = c.args.self.now in
    let same : p.tried ≡ p.value = ap (λ (k : PairState). k.tried) (sym c.self.view_is) ∙ c.self.invariant.settled is ∙ ap (λ (k : PairState). k.value) c.self.view_is in
    opens_settled p bytes same h
