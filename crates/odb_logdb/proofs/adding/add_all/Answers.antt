use Rattle.std.proofs.Common.{◌≡◌, ℕ, ◌+◌, ◌-◌, List, ◌∷◌, ◌++◌, length, take, drop, Result, Ok, Err, inl, inr, refl, sym, ap, ◌∙◌, subst, arith}
use Rattle.std.proofs.lemmas.Result.{err_from_is_err_and}
use Rattle.odb_device.specs.World.{World}
use Rattle.odb_device.proofs.Time.{rose_behind}
use Rattle.odb_codec.specs.Reading.{read_entry}
use Rattle.odb_entries.specs.Listed.{entries_from}
use Rattle.odb_entries.proofs.Entries.{count_read}
use Rattle.odb_model.specs.declared.entry.Entry.{Entry}
use Rattle.odb_logdb.specs.declared.fields.LogFields.{LogFields}
use Rattle.odb_logdb.specs.declared.error.AddError.{AddError}
use Rattle.odb_logdb.specs.Adding.{IsHeld, AddsOne, AddsAll}
use Rattle.odb_logdb.proofs.Lists.{IsNext, next_read, end_more}
use Rattle.odb_logdb.proofs.Added.{adding_none, adding_more, adding_ends, adding_all, item_next, moved_none}
use Rattle.odb_logdb.proofs.adding.add_all.Given.{Over}
use Rattle.odb_logdb.proofs.adding.add_all.Goals as goal
use Rattle.odb_logdb.proofs.adding.add_all.Goals.{After-add_record}

-- the step at a payload
module _ (g : Over) (c : After-add_record g) where
  abbrev w : World
  w = g.S.Outside.world c.args.store.now

  abbrev mid : World
  mid = g.S.Outside.world c.loop-payload.store

  abbrev now : World
  now = g.S.Outside.world c.add_record.new.store

  abbrev k : ℕ
  k = c.loop-payload.payload-index

  abbrev payload : List ℕ
  payload = c.as_slice.result.now

  here : drop k c.args.payloads.now ≡ payload ∷ drop (k + 1) c.args.payloads.now
  here = item_next c.args.payloads.now k c.payload-item.result payload (omega arith) c.payload-item.is c.as_slice.ensures

  next : (given : List Entry) → entries_from c.args.log.now.next 0 c.args.payloads.now ≡ Ok given → IsNext c.args.log.now.next k payload given
  next given read = next_read k c.args.log.now.next 0 c.args.payloads.now given payload (drop (k + 1) c.args.payloads.now) read here

  adds : (f : LogFields) (entries given : List Entry) → IsHeld c.args.extents.now f c.args.log.now entries w → (read : entries_from c.args.log.now.next 0 c.args.payloads.now ≡ Ok given)
      → AddsOne c.add_record.new.extents f c.add_record.new.log (entries ++ take k given) (next given read).one c.add_record.result mid now
  adds f entries given held read =
      let n = next given read in
      c.add_record.ensures.adds f (entries ++ take k given) n.one (c.loop-payload.invariant.adds f entries given held read).held
      (subst (λ (m : ℕ). read_entry m payload ≡ Ok n.one) (sym c.loop-payload.invariant.next) n.is)

pub loop-payload-init : goal.loop-payload-init
loop-payload-init g c = record {
  adds = λ f entries given held read. adding_none c.args.extents.now f c.args.log.now entries given (g.S.Outside.world c.args.store.now) held;
  next = omega arith;
  place = refl;
  within = inl refl;
}

pub add_record-requires-clause-held : goal.add_record-requires-clause-held
add_record-requires-clause-held g c =
    let a = c.requires.held in
    let r = c.requires.read in
    (a.0, a.1 ++ take c.loop-payload.payload-index r.0, (c.loop-payload.invariant.adds a.0 a.1 r.0 a.2 r.1).held)

pub loop-payload-preserved : goal.loop-payload-preserved
loop-payload-preserved g c =
    let a = (goal.at.loop-payload-preserved g c).After-add_record in
    let m = c.in_ok-add_record.ensures.moves in
    record {
      adds = λ f entries given held read.
          let n = next g a given read in
          adding_more c.add_record.new.extents c.loop-payload.extents f c.loop-payload.log c.add_record.new.log entries given (k g a) n.one c.in_ok-add_record.field-0 (w g a) (mid g a) (now g a) n.more
          (c.loop-payload.invariant.adds f entries given held read)
          (subst (λ (r : Result (Unit {0}) AddError). AddsOne c.add_record.new.extents f c.add_record.new.log (entries ++ take (k g a) given) n.one r (mid g a) (now g a)) c.in_ok-add_record.was (adds g a f entries given held read));
      next = omega (arith, m.0, c.loop-payload.invariant.next);
      place = omega (arith, m.1, c.loop-payload.invariant.place, end_more (k g a) c.args.log.now.place c.args.payloads.now (payload g a) (drop (k g a + 1) c.args.payloads.now) (here g a));
      within = inr m.2;
    }

pub returns-in_err-add_record-clause-adds : goal.returns-in_err-add_record-clause-adds
returns-in_err-add_record-clause-adds g c = λ f entries given held read.
    let a = (goal.at.returns-in_err-add_record-clause-adds g c).After-add_record in
    let err = c.in_err-add_record.field-0.0 in
    let p = err_from_is_err_and c.from_residual.result c.from_residual.ensures.1 in
    let n = next g a given read in
    let moved = moved_none (length (payload g a)) c.loop-payload.log c.add_record.new.log err c.in_err-add_record.ensures.moves in
    let count : k g a ≡ c.add_record.new.log.next - c.args.log.now.next = omega (arith, moved.0, c.loop-payload.invariant.next) in
    let ends = adding_ends c.add_record.new.extents c.loop-payload.extents f c.loop-payload.log c.add_record.new.log entries given (k g a) n.one err (w g a) (mid g a) (now g a) n.more (c.loop-payload.invariant.adds f entries given held read)
    (subst (λ (r : Result (Unit {0}) AddError). AddsOne c.add_record.new.extents f c.add_record.new.log (entries ++ take (k g a) given) n.one r (mid g a) (now g a)) c.in_err-add_record.was (adds g a f entries given held read)) in
    subst (λ (r : Result (Unit {0}) AddError). AddsAll c.add_record.new.extents f c.add_record.new.log entries given (c.add_record.new.log.next - c.args.log.now.next) r (w g a) (now g a)) (sym (p.1 ∙ ap Err p.2))
    (subst (λ (m : ℕ). AddsAll {T = Unit {0}} c.add_record.new.extents f c.add_record.new.log entries given m (Err err) (w g a) (now g a)) count ends)

pub returns-in_err-add_record-clause-fault : goal.returns-in_err-add_record-clause-fault
returns-in_err-add_record-clause-fault g c = λ is.
    let p = err_from_is_err_and c.from_residual.result c.from_residual.ensures.1 in
    let a = c.requires.held in
    let r = c.requires.read in
    rose_behind 1 1 (g.S.Outside.world c.args.store.now) (g.S.Outside.world c.loop-payload.store) (g.S.Outside.world c.add_record.new.store) (c.loop-payload.invariant.adds a.0 a.1 r.0 a.2 r.1).run.only
    (c.add_record.ensures.fault (c.in_err-add_record.was ∙ sym (p.1 ∙ ap Err p.2) ∙ is))

pub returns-in_err-add_record-clause-doubt : goal.returns-in_err-add_record-clause-doubt
returns-in_err-add_record-clause-doubt g c = λ is.
    let p = err_from_is_err_and c.from_residual.result c.from_residual.ensures.1 in
    let a = c.requires.held in
    let r = c.requires.read in
    rose_behind 1 1 (g.S.Outside.world c.args.store.now) (g.S.Outside.world c.loop-payload.store) (g.S.Outside.world c.add_record.new.store) (c.loop-payload.invariant.adds a.0 a.1 r.0 a.2 r.1).run.only
    (c.add_record.ensures.doubt (c.in_err-add_record.was ∙ sym (p.1 ∙ ap Err p.2) ∙ is))

pub returns-clause-adds : goal.returns-clause-adds
returns-clause-adds g c = λ f entries given held read.
    let w = g.S.Outside.world c.args.store.now in
    let now = g.S.Outside.world c.loop-payload.store in
    let k = c.loop-payload.payload-index in
    let count : k ≡ c.loop-payload.log.next - c.args.log.now.next = omega (arith, c.loop-payload.invariant.next) in
    let many = count_read c.args.log.now.next 0 c.args.payloads.now given read in
    subst (λ (m : ℕ). AddsAll {T = Unit {0}} c.loop-payload.extents f c.loop-payload.log entries given m (Ok tt) w now) count
    (adding_all c.loop-payload.extents f c.loop-payload.log entries given k w now (omega (arith, many)) (c.loop-payload.invariant.adds f entries given held read))
