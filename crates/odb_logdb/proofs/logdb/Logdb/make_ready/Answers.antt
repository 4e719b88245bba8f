use Rattle.std.proofs.Common.{◌≡◌, sym, ◌∙◌, ap, subst}
use Rattle.odb_logdb.specs.declared.state.ListState.TheVariants.{Known}
use Rattle.odb_logdb.specs.Standing.{LogState, IsLogdb}
use Rattle.odb_logdb.proofs.Readied.{ready_known}
use Rattle.odb_logdb.proofs.logdb.Logdb.make_ready.Goals as goal

pub returns-in-Known-clause-ready : goal.returns-in-Known-clause-ready
returns-in-Known-clause-ready g c =
    let l = c.args.self.now in
    let w = g.S.Outside.world c.args.store.now in
    let is : IsLogdb l = subst IsLogdb c.self.view_is c.self.invariant in
    let known : l.state ≡ Known = ap (λ (x : LogState). x.state) (sym c.self.view_is) ∙ c.in-Known.is in
    ready_known l w is known (g.met.S.Store.reads_image c.args.store.now 1) c.requires.stands
