use Rattle.std.proofs.Common.{◌≡◌, ◌≤◌, ◌∙◌, sym, ap, subst, arith}
use Rattle.odb_reclog.specs.Standing.{Log}
use Rattle.odb_reclog.specs.Told.{IfTold}
use Rattle.odb_logdb.specs.Answers.{GivesFrom}
use Rattle.odb_device.specs.World.{file_of}
use Rattle.odb_logdb.specs.Standing.{LogState, first_of}
use Rattle.odb_logdb.specs.declared.state.ListState.TheVariants.{Known}
use Rattle.odb_logdb.proofs.Walked.{entries_known, quiet_standing}
use Rattle.odb_logdb.proofs.logdb.Logdb.entries_from.Goals as goal

pub returns-in-Known-clause-entries : goal.returns-in-Known-clause-entries
returns-in-Known-clause-entries g c =
    let l = c.args.self.now in
    let known : l.state ≡ Known = ap (λ (x : LogState). x.state) (sym c.self.view_is) ∙ c.in-Known.is in
    let low : first_of l ≤ c.args.from = omega (arith, c.if-from-first.false, c.first.ensures) in
    entries_known l (file_of 1 (g.S.Outside.world c.args.store.now)) c.args.from c.entries_in.result known (g.met.S.Store.reads_image c.args.store.now 1) c.requires.stands low
    (subst (λ (x : Log). IfTold 1 (g.S.Outside.world c.args.store.now) (GivesFrom l x c.args.from c.entries_in.result)) (ap (λ (x : LogState). x.log) c.self.view_is) c.entries_in.ensures.told)

pub returns-in-Dirty-clause-run : goal.returns-in-Dirty-clause-run
returns-in-Dirty-clause-run g c = quiet_standing c.args.self.now (g.S.Outside.world c.args.store.now) c.requires.stands
