use Rattle.std.proofs.Common.{◌≡◌, List}
use Rattle.odb_device.specs.World.{file_of}
use Rattle.odb_model.specs.declared.entry.Entry.{Entry}
use Rattle.odb_transdb.specs.declared.opening.OpenedTransdb.{OpenedTransdb}
use Rattle.odb_transdb.specs.Opened.{holding}
use Rattle.odb_transdb.specs.Standing.{Db}
use Rattle.odb_transdb.proofs.Finds.{open_answer, open_refusal}
use Rattle.odb_transdb.proofs.Leaving.{opened_left, error_left}
use Rattle.odb_transdb.proofs.transdb.Transdb.open.Goals as goal

pub returns-in-Ok-clause-answer : goal.returns-in-Ok-clause-answer
returns-in-Ok-clause-answer g c =
    open_answer (file_of 0 (g.S.Outside.world c.args.store.now)) c.in-Ok.opened.transdb c.in-Ok.opened.entries c.in-Ok.ensures.answer

pub returns-in-Err-clause-answer : goal.returns-in-Err-clause-answer
returns-in-Err-clause-answer g c =
    open_refusal {T = OpenedTransdb} (λ found what. what ≡ holding found.transdb.header found.entries) (λ (db : Db) what. (entries : List Entry) × (what ≡ holding db.header entries)) (file_of 0 (g.S.Outside.world c.args.store.now)) c.in-Err.error
    c.in-Err.ensures.answer

pub returns-in-Ok-clause-leaves : goal.returns-in-Ok-clause-leaves
returns-in-Ok-clause-leaves g c =
    opened_left c.open_with_entries.result c.in-Ok.opened c.in-Ok.opened.transdb (g.S.Outside.world c.args.store.now) (g.S.Outside.world c.open_with_entries.new.store) c.in-Ok.is c.open_with_entries.ensures.leaves

pub returns-in-Err-clause-leaves : goal.returns-in-Err-clause-leaves
returns-in-Err-clause-leaves g c =
    error_left c.open_with_entries.result c.in-Err.error (g.S.Outside.world c.args.store.now) (g.S.Outside.world c.open_with_entries.new.store) c.in-Err.is c.open_with_entries.ensures.leaves
