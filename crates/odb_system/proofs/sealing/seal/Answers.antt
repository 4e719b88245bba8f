use Rattle.odb_system.proofs.Behind.{fit_sealed}
use Rattle.odb_system.proofs.sealing.seal.Goals as goal

pub returns-in-Ok-seal-clause-fit : goal.returns-in-Ok-seal-clause-fit
returns-in-Ok-seal-clause-fit g c =
    fit_sealed c.args.book.now c.seal.new.self c.args.entry c.in-Ok.copy c.args.image _ c.args.rows.now c.push.new.self c.requires.ready c.seal.ensures.aligned c.in-Ok-seal.ensures.sealed.2 c.in-Ok-seal.ensures.log.advanced
    c.requires.fit c.in-Ok.ensures.keyed c.in-Ok.ensures.placed c.push.ensures
