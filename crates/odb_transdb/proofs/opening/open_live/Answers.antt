use Rattle.std.proofs.Common.{◌≡◌, ◌≢◌, ℕ, ◌+◌, ◌-◌, ◌++◌, [], List, length, Result, Ok, Err, sym, ◌∙◌, ap, subst, rules}
use Rattle.std.specs.Prelude.{IfSome}
use Rattle.std.proofs.lemmas.Result.{err_from_is_err_and}
use Rattle.odb_device.specs.World.{file_of}
use Rattle.odb_values.specs.Listed.{Listed}
use Rattle.odb_reclog.specs.Records.{end_of_list}
use Rattle.odb_model.specs.declared.entry.Entry.{Entry}
use Rattle.odb_model.specs.declared.side.OtherSide.TheVariants.{Live}
use Rattle.odb_transdb.specs.declared.error.TransdbError.{TransdbError}
use Rattle.odb_transdb.specs.declared.opening.LiveSide.{LiveSide}
use Rattle.odb_transdb.specs.declared.error.TransdbError.TheVariants.{Fault}
use Rattle.odb_transdb.specs.Standing.{IsOfSide}
use Rattle.odb_transdb.specs.Leaving.{LeavesOther}
use Rattle.odb_transdb.specs.Header.{side_start, first_on, other_of, active_first}
use Rattle.odb_transdb.specs.Opened.{Opened, side_list, entries_from, with_sides}
use Rattle.odb_transdb.specs.Answers.{IsAnswerBy}
use Rattle.odb_transdb.specs.Walking.{IsReadOf, AddsPart}
use Rattle.odb_transdb.specs.Opening.{EndsRight, GoesOn}
use Rattle.odb_transdb.proofs.Opens.{told_wrong}
use Rattle.odb_transdb.proofs.Shown.{live_refused, live_numbered}
use Rattle.odb_transdb.proofs.Leaving.{live_log, live_reads, live_left}
use Rattle.odb_transdb.proofs.Placed.{kept_found, within_found}
use Rattle.odb_transdb.proofs.opening.open_live.Given.{Over}
use Rattle.odb_transdb.proofs.opening.open_live.Goals as goal
use Rattle.odb_transdb.proofs.opening.open_live.Goals.{After-open_side, After-add_payloads}

pub returns-then-next_number-first_on-clause-told : goal.returns-then-next_number-first_on-clause-told
returns-then-next_number-first_on-clause-told g c =
    let h = c.args.header.now in
    let log = c.in_ok-found.found.log in
    let o = file_of 0 (g.S.Outside.world c.args.store.now) in
    let live : h.other ≡ Live = search rules in
    let other : log.next ≢ active_first h = λ (same : log.next ≡ active_first h). c.if-next_number-first_on.true (c.next_number.ensures ∙ same ∙ sym c.first_on.ensures) in
    let ends : IfSome o (λ f. GoesOn h (other_of h) f.bytes log) = subst (λ (s : ℕ). IfSome o (λ f. GoesOn h s f.bytes log)) c.other_side-side.ensures c.in_ok-found.ensures.opened.ends in
    told_wrong h o log c.place.result live c.place.ensures.value ends other

-- the log ends where the active side begins
ends : (g : Over) (c : After-add_payloads g) → first_on c.args.header.now (other_of c.args.header.now) + length c.in_ok-found.found.payloads ≡ active_first c.args.header.now
ends g c =
    let h = c.args.header.now in
    subst (λ (s : ℕ). first_on h s + length c.in_ok-found.found.payloads ≡ active_first h) c.other_side-side.ensures
    (c.in_ok-found.ensures.opened.count.number ∙ sym c.next_number.ensures ∙ c.if-next_number-first_on.false ∙ c.first_on.ensures)

pub returns-in_err-add_payloads-clause-told : goal.returns-in_err-add_payloads-clause-told
returns-in_err-add_payloads-clause-told g c =
    let h = c.args.header.now in
    let o = file_of 0 (g.S.Outside.world c.args.store.now) in
    let live : h.other ≡ Live = search rules in
    let payloads = c.in_ok-found.found.payloads in
    let e = c.in_err-add_payloads.field-0.0 in
    let p = err_from_is_err_and c.from_residual-in_err-add_payloads.result c.from_residual-in_err-add_payloads.ensures.1 in
    let read : IfSome o (λ f. payloads ≡ side_list h (other_of h) f.bytes) =
    subst (λ (s : ℕ). IfSome o (λ f. payloads ≡ side_list h s f.bytes)) c.other_side-side.ensures c.in_ok-found.ensures.opened.payloads_are in
    let P : List Entry → Unit {0} → Type 0 = λ (all : List Entry) (done : Unit {0}). c.add_payloads.new.entries.items ≡ c.new-entries.result.items ++ all in
    let told : IsReadOf P (entries_from (first_on h (other_of h)) (side_start h (other_of h)) payloads) (Err e) =
    subst (λ (s : ℕ). IsReadOf P (entries_from (first_on h s) (side_start h s) payloads) (Err e)) c.other_side-side.ensures c.in_err-add_payloads.ensures.told in
    subst (λ (r : Result LiveSide TransdbError). IfSome o (λ f. IsAnswerBy (λ _ _. EndsRight h f.bytes) r (with_sides h h.other f.bytes))) (sym (p.1 ∙ ap Err p.2))
    (live_refused h live payloads P (λ f (x : LiveSide) (what : Opened). EndsRight h f.bytes) o e read (ends g (goal.at.returns-in_err-add_payloads-clause-told g c).After-add_payloads) told)

pub returns-clause-opened : goal.returns-clause-opened
returns-clause-opened g c =
    let at = (goal.at.returns-clause-opened g c).After-add_payloads in
    let h = c.args.header.now in
    let now = file_of 0 (g.S.Outside.world c.open_side.new.store) in
    let live : h.other ≡ Live = search rules in
    let found = c.in_ok-found.ensures.opened in
    let log = c.in_ok-found.found.log in
    let payloads = c.in_ok-found.found.payloads in
    let base = c.new-entries.result.items in
    let items = c.add_payloads.new.entries.items in
    let none : base ≡ [] = ap (λ (l : Listed Entry). l.items) c.new-entries.ensures in
    let s = other_of h in
    let part : AddsPart (first_on h s) (first_on h s) (first_on h s + length payloads) (end_of_list (side_start h s) payloads - side_start h s) base items =
    subst (λ (s : ℕ). AddsPart (first_on h s) (first_on h s) (first_on h s + length payloads) (end_of_list (side_start h s) payloads - side_start h s) base items) c.other_side-side.ensures c.in_ok-add_payloads.ensures.part in
    let told : IsReadOf (λ (all : List Entry) (done : Unit {0}). items ≡ base ++ all) (entries_from (first_on h s) (side_start h s) payloads) (Ok tt) =
    subst (λ (s : ℕ). IsReadOf (λ (all : List Entry) (done : Unit {0}). items ≡ base ++ all) (entries_from (first_on h s) (side_start h s) payloads) (Ok tt)) c.other_side-side.ensures c.in_ok-add_payloads.ensures.told in
    let all : items ≡ told.0 = told.2 ∙ ap (λ (l : List Entry). l ++ told.0) none in
    record {
      log = live_log h log live (subst (λ (s : ℕ). IsOfSide h s log) c.other_side-side.ensures found.of_side) (sym c.next_number.ensures ∙ c.if-next_number-first_on.false ∙ c.first_on.ensures) found.usable;
      stands = found.stands;
      read = live_reads h now payloads items live (subst (λ (s : ℕ). IfSome now (λ f. payloads ≡ side_list h s f.bytes)) c.other_side-side.ensures found.still) (told.1 ∙ ap Ok (sym all));
      numbers = live_numbered h live payloads (end_of_list (side_start h s) payloads - side_start h s) base items none (ends g at) part;
    }

pub returns-clause-places : goal.returns-clause-places
returns-clause-places g c =
    let h = c.args.header.now in
    let found = c.in_ok-found.ensures.opened in
    let log = c.in_ok-found.found.log in
    let payloads = c.in_ok-found.found.payloads in
    let places = c.add_payloads.new.places in
    let side = c.other_side-side.result in
    let steps = c.in_ok-add_payloads.ensures.steps in (
      within_found h side log payloads places found.of_side found.count steps,
      kept_found h side log payloads places (file_of 0 (g.S.Outside.world c.open_side.new.store)) found.of_side steps found.still,
    )

-- the side's log was opened
side_is : {T : Type 0} (g : Over) (c : After-open_side g) (result : Result T TransdbError) → c.args.header.now.other ≡ Live → (result ≢ Err Fault → c.open_side.result ≢ Err Fault)
    → LeavesOther c.args.header.now result (g.S.Outside.world c.args.store.now) (g.S.Outside.world c.open_side.new.store)
side_is g c result live whole =
    live_left c.args.header.now c.other_side-side.result c.open_side.result result (g.S.Outside.world c.args.store.now) (g.S.Outside.world c.open_side.new.store) live c.other_side-side.ensures whole c.open_side.ensures.leaves

pub returns-in_err-found-clause-leaves : goal.returns-in_err-found-clause-leaves
returns-in_err-found-clause-leaves g c =
    let live : c.args.header.now.other ≡ Live = search rules in
    let e = c.in_err-found.field-0.0 in
    let p = err_from_is_err_and c.from_residual-in_err-found.result c.from_residual-in_err-found.ensures.1 in
    side_is g (goal.at.returns-in_err-found-clause-leaves g c).After-open_side c.from_residual-in_err-found.result live
    (λ other (same : c.open_side.result ≡ Err Fault).
    let fault : e ≡ Fault = cc (c.in_err-found.was, same) in
    other (p.1 ∙ ap Err (p.2 ∙ fault)))

pub returns-then-next_number-first_on-clause-leaves : goal.returns-then-next_number-first_on-clause-leaves
returns-then-next_number-first_on-clause-leaves g c =
    let live : c.args.header.now.other ≡ Live = search rules in
    side_is g (goal.at.returns-then-next_number-first_on-clause-leaves g c).After-open_side _ live (λ other (same : c.open_side.result ≡ Err Fault). absurd (cc (c.in_ok-found.was, same)))

pub returns-in_err-add_payloads-clause-leaves : goal.returns-in_err-add_payloads-clause-leaves
returns-in_err-add_payloads-clause-leaves g c =
    let live : c.args.header.now.other ≡ Live = search rules in
    side_is g (goal.at.returns-in_err-add_payloads-clause-leaves g c).After-open_side c.from_residual-in_err-add_payloads.result live (λ other (same : c.open_side.result ≡ Err Fault). absurd (cc (c.in_ok-found.was, same)))

pub returns-clause-leaves : goal.returns-clause-leaves
returns-clause-leaves g c =
    let live : c.args.header.now.other ≡ Live = search rules in
    side_is g (goal.at.returns-clause-leaves g c).After-open_side _ live (λ other (same : c.open_side.result ≡ Err Fault). absurd (cc (c.in_ok-found.was, same)))
