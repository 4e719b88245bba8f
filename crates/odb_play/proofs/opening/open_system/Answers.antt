use Rattle.std.proofs.Common.{◌∙◌, Err, ap, sym, subst}
use Rattle.odb_model.specs.declared.status.Status.{Status}
use Rattle.odb_model.specs.declared.status.Status.TheVariants.{NotHeld}
use Rattle.odb_device.specs.World.{file_of}
use Rattle.odb_transdb.proofs.Standing.{stands_settled}
use Rattle.odb_play.specs.Opening.{IsRefused}
use Rattle.odb_play.proofs.Starting.{started_with, begins_with, refused_with, refused_behind}
use Rattle.odb_play.proofs.opening.open_system.Goals as goal

pub start-requires-clause-settled : goal.start-requires-clause-settled
start-requires-clause-settled g c =
    (stands_settled c.in-Ok.opened.transdb (file_of 0 (g.H.Outside.world c.open_with_entries.new.store)) c.in-Ok.ensures.opened.stands).settled

pub start-requires-clause-begins : goal.start-requires-clause-begins
start-requires-clause-begins g c =
    let found = c.in-Ok.ensures.opened in
    begins_with c.in-Ok.opened.transdb c.in-Ok.opened.entries (sym c.first-first.ensures ∙ c.if-first-ne1.false) found.usable found.placed found.numbers.0 found.numbers.1 found.width

pub returns-in-Ok-start-clause-started : goal.returns-in-Ok-start-clause-started
returns-in-Ok-start-clause-started g c =
    let found = c.in-Ok.ensures in
    let begun = c.in-Ok-start.ensures in
    started_with c.in-Ok-start.system c.in-Ok.opened.transdb c.in-Ok.opened.entries (g.H.Outside.world c.args.host.now) (g.H.Outside.world c.open_with_entries.new.store) c.open_with_entries.ensures.leaves.run found.answer found.leaves.entries found.opened.stands
    (sym c.first-first.ensures ∙ c.if-first-ne1.false) begun.stands begun.log.0 begun.log.1

pub returns-in-Err-clause-refused : goal.returns-in-Err-clause-refused
returns-in-Err-clause-refused g c =
    let old = g.H.Outside.world c.args.host.now in
    let new = g.H.Outside.world c.open_with_entries.new.store in
    subst (λ (status : Status). IsRefused status old new) (sym c.status_of.ensures)
    (refused_with c.in-Err.error old new c.open_with_entries.ensures.leaves.run c.open_with_entries.ensures.leaves.gates
    (λ other. c.open_with_entries.ensures.leaves.closed (λ same. other (cc (c.in-Err.is, same))))
    (λ none. c.open_with_entries.ensures.leaves.nothing (c.in-Err.is ∙ ap Err none)))

pub returns-then-first-ne1-clause-refused : goal.returns-then-first-ne1-clause-refused
returns-then-first-ne1-clause-refused g c =
    refused_behind (NotHeld 2 0 c.first-first.result) (g.H.Outside.world c.args.host.now) (g.H.Outside.world c.open_with_entries.new.store) c.open_with_entries.ensures.leaves.run
    c.open_with_entries.ensures.leaves.gates (c.open_with_entries.ensures.leaves.closed (λ same. absurd (cc (c.in-Ok.is, same)))) (λ same. absurd (cc same))
