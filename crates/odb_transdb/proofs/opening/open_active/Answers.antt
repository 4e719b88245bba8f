use Rattle.std.proofs.Common.{◌≡◌, ℕ, ◌+◌, ◌-◌, length, Ok, Err, sym, ap, ◌∙◌, subst, arith}
use Rattle.std.proofs.lemmas.Result.{err_from_is_err_and}
use Rattle.odb_reclog.specs.Records.{end_of_list}
use Rattle.odb_transdb.specs.declared.error.TransdbError.TheVariants.{Fault}
use Rattle.odb_transdb.specs.Header.{side_start, active_first}
use Rattle.odb_transdb.specs.Walking.{AddsPart}
use Rattle.odb_transdb.proofs.Walking.{end_later}
use Rattle.odb_device.specs.World.{file_of}
use Rattle.odb_transdb.proofs.Leaving.{left_then}
use Rattle.odb_transdb.proofs.Placed.{kept_found, within_found}
use Rattle.odb_transdb.proofs.opening.open_active.Goals as goal

pub returns-in_err-found-clause-leaves : goal.returns-in_err-found-clause-leaves
returns-in_err-found-clause-leaves g c =
    let h = c.args.header.now in
    let e = c.in_err-found.field-0.0 in
    let p = err_from_is_err_and c.from_residual.result c.from_residual.ensures.1 in
    left_then h h.active c.open_side.result c.from_residual.result (g.S.Outside.world c.args.store.now) (g.S.Outside.world c.open_side.new.store)
    (λ other (same : c.open_side.result ≡ Err Fault).
    let fault : e ≡ Fault = cc (c.in_err-found.was, same) in
    other (p.1 ∙ ap Err (p.2 ∙ fault))) c.open_side.ensures.leaves

pub returns-in_err-add_payloads-clause-leaves : goal.returns-in_err-add_payloads-clause-leaves
returns-in_err-add_payloads-clause-leaves g c =
    let h = c.args.header.now in
    left_then h h.active c.open_side.result c.from_residual-in_err-add_payloads.result (g.S.Outside.world c.args.store.now) (g.S.Outside.world c.open_side.new.store)
    (λ other (same : c.open_side.result ≡ Err Fault). absurd (cc (c.in_ok-found.was, same))) c.open_side.ensures.leaves

pub returns-clause-leaves : goal.returns-clause-leaves
returns-clause-leaves g c =
    let h = c.args.header.now in
    left_then h h.active c.open_side.result (Ok c.in_ok-found.found.log) (g.S.Outside.world c.args.store.now) (g.S.Outside.world c.open_side.new.store)
    (λ other (same : c.open_side.result ≡ Err Fault). absurd (cc (c.in_ok-found.was, same))) c.open_side.ensures.leaves

pub returns-clause-opened : goal.returns-clause-opened
returns-clause-opened g c =
    let h = c.args.header.now in
    let first = active_first h in
    let start = side_start h h.active in
    let found = c.in_ok-found.ensures.opened in
    let log = c.in_ok-found.found.log in
    let payloads = c.in_ok-found.found.payloads in
    let old = c.args.entries.now.items in
    let new = c.add_payloads.new.entries.items in
    record {
      stands = found.stands;
      of_side = found.of_side;
      usable = found.usable;
      number = omega (arith, found.count.number);
      place = omega (arith, end_later start payloads, found.count.place, found.of_side.start);
      part = subst (λ (n : ℕ). AddsPart first first n (log.place - log.start) old new) found.count.number
          (subst (λ (p : ℕ). AddsPart first first (first + length payloads) (p - log.start) old new) found.count.place
          (subst (λ (s : ℕ). AddsPart first first (first + length payloads) (end_of_list start payloads - s) old new) (sym found.of_side.start) c.in_ok-add_payloads.ensures.part));
    }

pub returns-clause-places : goal.returns-clause-places
returns-clause-places g c =
    let h = c.args.header.now in
    let found = c.in_ok-found.ensures.opened in
    let log = c.in_ok-found.found.log in
    let payloads = c.in_ok-found.found.payloads in
    let places = c.add_payloads.new.places in
    let steps = c.in_ok-add_payloads.ensures.steps in (
      within_found h h.active log payloads places found.of_side found.count steps,
      kept_found h h.active log payloads places (file_of 0 (g.S.Outside.world c.open_side.new.store)) found.of_side steps found.still,
    )
