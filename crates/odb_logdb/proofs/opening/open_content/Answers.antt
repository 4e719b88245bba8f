use Rattle.std.proofs.Common.{◌≡◌, Result, Ok, Err, sym, ◌∙◌, ap, subst}
use Rattle.std.specs.Prelude.{IfSome}
use Rattle.std.proofs.lemmas.Result.{err_from_is_err_and}
use Rattle.odb_device.specs.World.{World, file_of}
use Rattle.odb_logdb.specs.declared.state.ListState.{ListState}
use Rattle.odb_logdb.specs.declared.error.LogdbError.{LogdbError}
use Rattle.odb_logdb.specs.Opened.{opened}
use Rattle.odb_logdb.specs.Standing.{LogState, IsLogdb, Stands}
use Rattle.odb_logdb.specs.Answers.{IsOpenAnswer}
use Rattle.odb_logdb.specs.Worlds.{OnlyClosesGate}
use Rattle.odb_logdb.proofs.Opens.{length_refused, opened_leaves, all_leaves, refused_at, answered_at, entries_still, stands_at, made_at}
use Rattle.odb_logdb.proofs.Gates.{gate_look, gate_reads, gate_open}
use Rattle.odb_logdb.proofs.opening.open_content.Given.{Over}
use Rattle.odb_logdb.proofs.opening.open_content.Goals as goal
use Rattle.odb_logdb.proofs.opening.open_content.Goals.{After-open_log}

-- a refusal that `?` hands on
handed : (w : World) (r : Result LogState LogdbError) (err : LogdbError) → r ≡ Err err → IfSome (file_of 1 w) (λ f. IsOpenAnswer (Err err) (opened f.bytes)) → IfSome (file_of 1 w) (λ f. IsOpenAnswer r (opened f.bytes))
handed w r err is here = subst (λ (x : Result LogState LogdbError). IfSome (file_of 1 w) (λ f. IsOpenAnswer x (opened f.bytes))) (sym is) here

pub returns-in_err-check_length-clause-answer : goal.returns-in_err-check_length-clause-answer
returns-in_err-check_length-clause-answer g c =
    let w = g.S.Outside.world c.args.store.now in
    let err = c.in_err-check_length.field-0.0 in
    let p = err_from_is_err_and c.from_residual.result c.from_residual.ensures.1 in
    handed w c.from_residual.result err (p.1 ∙ ap Err p.2)
    (length_refused c.args.extents c.args.fields c.limit-limit.result (file_of 1 w) err c.requires.found.fields c.limit-limit.ensures.value c.requires.found.found c.in_err-check_length.ensures.told)

pub returns-in_err-log-clause-leaves : goal.returns-in_err-log-clause-leaves
returns-in_err-log-clause-leaves g c =
    let w = g.S.Outside.world c.args.store.now in
    let w1 = g.S.Outside.world c.check_length.new.store in
    let w2 = g.S.Outside.world c.open_log.new.store in
    opened_leaves c.args.extents c.args.fields w w1 w2 c.limit-limit.result c.list_start-start.result c.content_end-end.result c.limit-limit.ensures.value c.content_end-end.ensures c.list_start-start.ensures.value
    (g.met.S.Store.reads_image c.args.store.now 1) (g.met.S.Store.reads_image c.open_log.new.store 1) c.requires.found c.in_ok-check_length.ensures.told c.check_length.ensures.run c.open_log.ensures.run

pub returns-in_err-check_entries-clause-leaves : goal.returns-in_err-check_entries-clause-leaves
returns-in_err-check_entries-clause-leaves g c =
    let w = g.S.Outside.world c.args.store.now in
    let w1 = g.S.Outside.world c.check_length.new.store in
    let w2 = g.S.Outside.world c.open_log.new.store in
    let w3 = g.S.Outside.world c.check_entries.new.store in
    all_leaves c.args.extents c.args.fields w w1 w2 c.limit-limit.result c.list_start-start.result c.content_end-end.result c.limit-limit.ensures.value c.content_end-end.ensures c.list_start-start.ensures.value
    (g.met.S.Store.reads_image c.args.store.now 1) (g.met.S.Store.reads_image c.open_log.new.store 1) c.requires.found c.in_ok-check_length.ensures.told c.check_length.ensures.run c.open_log.ensures.run
    w3 c.check_entries.ensures.run c.in_ok-log.log c.in_ok-log.ensures.opened

pub returns-in_err-check_entries-clause-answer : goal.returns-in_err-check_entries-clause-answer
returns-in_err-check_entries-clause-answer g c =
    let w = g.S.Outside.world c.args.store.now in
    let w1 = g.S.Outside.world c.check_length.new.store in
    let w2 = g.S.Outside.world c.open_log.new.store in
    let w3 = g.S.Outside.world c.check_entries.new.store in
    let err = c.in_err-check_entries.field-0.0 in
    let p = err_from_is_err_and c.from_residual-in_err-check_entries.result c.from_residual-in_err-check_entries.ensures.1 in
    handed w c.from_residual-in_err-check_entries.result err (p.1 ∙ ap Err p.2)
    (refused_at c.args.extents c.args.fields w w1 w2 c.limit-limit.result c.list_start-start.result c.content_end-end.result c.limit-limit.ensures.value c.content_end-end.ensures c.list_start-start.ensures.value
    (g.met.S.Store.reads_image c.args.store.now 1) (g.met.S.Store.reads_image c.open_log.new.store 1) c.requires.found c.in_ok-check_length.ensures.told c.check_length.ensures.run c.open_log.ensures.run
    w3 c.check_entries.ensures.run c.in_ok-log.log c.in_ok-log.ensures.opened err c.in_err-check_entries.ensures.told)

pub returns-clause-leaves : goal.returns-clause-leaves
returns-clause-leaves g c =
    let w = g.S.Outside.world c.args.store.now in
    let w1 = g.S.Outside.world c.check_length.new.store in
    let w2 = g.S.Outside.world c.open_log.new.store in
    let w3 = g.S.Outside.world c.check_entries.new.store in
    all_leaves c.args.extents c.args.fields w w1 w2 c.limit-limit.result c.list_start-start.result c.content_end-end.result c.limit-limit.ensures.value c.content_end-end.ensures c.list_start-start.ensures.value
    (g.met.S.Store.reads_image c.args.store.now 1) (g.met.S.Store.reads_image c.open_log.new.store 1) c.requires.found c.in_ok-check_length.ensures.told c.check_length.ensures.run c.open_log.ensures.run
    w3 c.check_entries.ensures.run c.in_ok-log.log c.in_ok-log.ensures.opened

pub returns-clause-entries : goal.returns-clause-entries
returns-clause-entries g c =
    let w = g.S.Outside.world c.args.store.now in
    let w1 = g.S.Outside.world c.check_length.new.store in
    let w2 = g.S.Outside.world c.open_log.new.store in
    let w3 = g.S.Outside.world c.check_entries.new.store in
    entries_still c.args.extents c.args.fields w w1 w2 c.limit-limit.result c.list_start-start.result c.content_end-end.result c.limit-limit.ensures.value c.content_end-end.ensures c.list_start-start.ensures.value
    (g.met.S.Store.reads_image c.args.store.now 1) (g.met.S.Store.reads_image c.open_log.new.store 1) c.requires.found c.in_ok-check_length.ensures.told c.check_length.ensures.run c.open_log.ensures.run
    w3 c.check_entries.ensures.run c.in_ok-log.log c.in_ok-log.ensures.opened

pub returns-clause-answer : goal.returns-clause-answer
returns-clause-answer g c =
    let w = g.S.Outside.world c.args.store.now in
    let w1 = g.S.Outside.world c.check_length.new.store in
    let w2 = g.S.Outside.world c.open_log.new.store in
    let w3 = g.S.Outside.world c.check_entries.new.store in
    let P : ListState → Type 0 = λ (s : ListState). IfSome (file_of 1 w) (λ f. IsOpenAnswer (Ok (record { extents = c.args.extents; fields = c.args.fields; log = c.in_ok-log.log; state = s })) (opened f.bytes)) in
    subst P (sym c.list_state-state.ensures)
    (answered_at c.args.extents c.args.fields w w1 w2 c.limit-limit.result c.list_start-start.result c.content_end-end.result c.limit-limit.ensures.value c.content_end-end.ensures c.list_start-start.ensures.value
    (g.met.S.Store.reads_image c.args.store.now 1) (g.met.S.Store.reads_image c.open_log.new.store 1) c.requires.found c.in_ok-check_length.ensures.told c.check_length.ensures.run c.open_log.ensures.run
    w3 c.check_entries.ensures.run c.in_ok-log.log c.in_ok-log.ensures.opened c.in_ok-check_entries.ensures.told)

pub returns-clause-stands : goal.returns-clause-stands
returns-clause-stands g c =
    let w = g.S.Outside.world c.args.store.now in
    let w1 = g.S.Outside.world c.check_length.new.store in
    let w2 = g.S.Outside.world c.open_log.new.store in
    let w3 = g.S.Outside.world c.check_entries.new.store in
    let P : ListState → Type 0 = λ (s : ListState). Stands (record { extents = c.args.extents; fields = c.args.fields; log = c.in_ok-log.log; state = s }) (file_of 1 w3) in
    subst P (sym c.list_state-state.ensures)
    (stands_at c.args.extents c.args.fields w w1 w2 c.limit-limit.result c.list_start-start.result c.content_end-end.result c.limit-limit.ensures.value c.content_end-end.ensures c.list_start-start.ensures.value
    (g.met.S.Store.reads_image c.args.store.now 1) (g.met.S.Store.reads_image c.open_log.new.store 1) c.requires.found c.in_ok-check_length.ensures.told c.check_length.ensures.run c.open_log.ensures.run
    w3 c.check_entries.ensures.run c.in_ok-log.log c.in_ok-log.ensures.opened c.in_ok-check_entries.ensures.told)

pub invariant_of-result : goal.invariant_of-result
invariant_of-result g c =
    let w = g.S.Outside.world c.args.store.now in
    let w1 = g.S.Outside.world c.check_length.new.store in
    let w2 = g.S.Outside.world c.open_log.new.store in
    let w3 = g.S.Outside.world c.check_entries.new.store in
    let P : ListState → Type 0 = λ (s : ListState). IsLogdb (record { extents = c.args.extents; fields = c.args.fields; log = c.in_ok-log.log; state = s }) in
    subst P (sym c.list_state-state.ensures)
    (made_at c.args.extents c.args.fields w w1 w2 c.limit-limit.result c.list_start-start.result c.content_end-end.result c.limit-limit.ensures.value c.content_end-end.ensures c.list_start-start.ensures.value
    (g.met.S.Store.reads_image c.args.store.now 1) (g.met.S.Store.reads_image c.open_log.new.store 1) c.requires.found c.in_ok-check_length.ensures.told c.check_length.ensures.run c.open_log.ensures.run
    w3 c.check_entries.ensures.run c.in_ok-log.log c.in_ok-log.ensures.opened c.limit-limit.ensures.range.0 c.limit-limit.ensures.range.1)

-- the gate that an opening closes
closes : (g : Over) (c : After-open_log g) → OnlyClosesGate (g.S.Outside.world c.args.store.now) (g.S.Outside.world c.open_log.new.store)
closes g c =
    gate_open c.args.extents c.args.fields (g.S.Outside.world c.args.store.now) (g.S.Outside.world c.check_length.new.store) (g.S.Outside.world c.open_log.new.store) c.limit-limit.result c.list_start-start.result c.content_end-end.result c.limit-limit.ensures.value
    c.content_end-end.ensures c.list_start-start.ensures.value c.requires.found c.in_ok-check_length.ensures.told c.check_length.ensures.run c.open_log.ensures.gate

pub returns-in_err-check_length-clause-gate : goal.returns-in_err-check_length-clause-gate
returns-in_err-check_length-clause-gate g c = gate_look (g.S.Outside.world c.args.store.now) (g.S.Outside.world c.check_length.new.store) c.check_length.ensures.run

pub returns-in_err-log-clause-gate : goal.returns-in_err-log-clause-gate
returns-in_err-log-clause-gate g c = closes g (goal.at.returns-in_err-log-clause-gate g c).After-open_log

pub returns-in_err-check_entries-clause-gate : goal.returns-in_err-check_entries-clause-gate
returns-in_err-check_entries-clause-gate g c =
    gate_reads (g.S.Outside.world c.args.store.now) (g.S.Outside.world c.open_log.new.store) (g.S.Outside.world c.check_entries.new.store) (closes g (goal.at.returns-in_err-check_entries-clause-gate g c).After-open_log) c.check_entries.ensures.run

pub returns-clause-gate : goal.returns-clause-gate
returns-clause-gate g c =
    gate_reads (g.S.Outside.world c.args.store.now) (g.S.Outside.world c.open_log.new.store) (g.S.Outside.world c.check_entries.new.store) (closes g (goal.at.returns-clause-gate g c).After-open_log) c.check_entries.ensures.run
