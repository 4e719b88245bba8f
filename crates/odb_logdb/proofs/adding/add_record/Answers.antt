use Rattle.std.proofs.Common.{◌≡◌, ℕ, ◌+◌, List, [], ◌∷◌, ◌++◌, length, Ok, sym, ap, ◌∙◌, subst}
use Rattle.odb_device.specs.World.{World}
use Rattle.odb_device.specs.Calls.{FileCountRose}
use Rattle.odb_device.proofs.Time.{rose_behind}
use Rattle.odb_extent.specs.Standing.{ExtentState}
use Rattle.odb_reclog.specs.Regions.{IsWritten}
use Rattle.odb_reclog.specs.Standing.{Log}
use Rattle.odb_codec.specs.Reading.{read_entry}
use Rattle.odb_model.specs.declared.entry.Entry.{Entry}
use Rattle.odb_logdb.specs.declared.fields.LogFields.{LogFields}
use Rattle.odb_logdb.specs.Adding.{IsHeld, IsDoubtful, KeepsHeld}
use Rattle.odb_logdb.proofs.Held.{ok_of, err_of}
use Rattle.odb_logdb.proofs.Behind.{keeps_then}
use Rattle.odb_logdb.proofs.Added.{adds_full, adds_fault, adds_doubt, adds_done, body_of_entry, can_open}
use Rattle.odb_logdb.proofs.adding.add_record.Given.{Over}
use Rattle.odb_logdb.proofs.adding.add_record.Goals as goal
use Rattle.odb_logdb.proofs.adding.add_record.Goals.{After-write_record}

-- what is held once the record is written, or was to be
module _ (g : Over) (c : After-write_record g) where
  abbrev w : World
  w = g.S.Outside.world c.args.store.now

  abbrev mid : World
  mid = g.S.Outside.world c.make_room.new.store

  abbrev now : World
  now = g.S.Outside.world c.write_record.new.store

  abbrev e : ExtentState
  e = c.make_room.new.extents

  abbrev log : Log
  log = c.write_record.new.log

  roomy : (f : LogFields) (entries : List Entry) → IsHeld c.args.extents.now f c.args.log.now entries w → KeepsHeld e f c.make_room.new.log entries w mid
  roomy f entries held = c.make_room.ensures.keeps f entries held

  written : (f : LogFields) (entries : List Entry) → IsHeld c.args.extents.now f c.args.log.now entries w → KeepsHeld e f log entries w now
  written f entries held =
      let k = roomy f entries held in
      keeps_then e e f c.make_room.new.log log entries w mid now k (c.write_record.ensures.keeps e f entries k.held)

pub returns-then-room-need-clause-adds : goal.returns-then-room-need-clause-adds
returns-then-room-need-clause-adds g c = λ f entries one held read.
    adds_full c.args.extents.now f c.args.log.now entries one (13 + length c.args.payload.now) c.saturating_sub-room.result (g.S.Outside.world c.args.store.now) held

pub returns-then-is_err-clause-adds : goal.returns-then-is_err-clause-adds
returns-then-is_err-clause-adds g c = λ f entries one held read.
    adds_fault c.make_room.new.extents f c.make_room.new.log entries one (g.S.Outside.world c.args.store.now) (g.S.Outside.world c.make_room.new.store) (c.make_room.ensures.keeps f entries held)

pub write_record-requires-clause-held : goal.write_record-requires-clause-held
write_record-requires-clause-held g c =
    let a = c.requires.held in
    (c.make_room.new.extents, (a.0, a.1, (c.make_room.ensures.keeps a.0 a.1 a.2).held))

pub returns-then-is_err-2-clause-adds : goal.returns-then-is_err-2-clause-adds
returns-then-is_err-2-clause-adds g c = λ f entries one held read.
    let a = (goal.at.returns-then-is_err-2-clause-adds g c).After-write_record in
    adds_fault (e g a) f (log g a) entries one (w g a) (now g a) (written g a f entries held)

pub returns-then-is_err-2-clause-fault : goal.returns-then-is_err-2-clause-fault
returns-then-is_err-2-clause-fault g c = λ is.
    let a = (goal.at.returns-then-is_err-2-clause-fault g c).After-write_record in
    let r = c.requires.held in
    rose_behind 1 1 (w g a) (mid g a) (now g a) (roomy g a r.0 r.1 r.2).run.only
    (err_of (FileCountRose 1 (mid g a) (now g a)) c.write_record.result (sym c.is_err-2.ensures.value ∙ c.if-is_err-2.true) c.write_record.ensures.cause)

pub open_gate-requires-clause-held : goal.open_gate-requires-clause-held
open_gate-requires-clause-held g c =
    let a = (goal.at.open_gate-requires-clause-held g c).After-write_record in
    let r = c.requires.held in
    (e g a, (r.0, r.1, (written g a r.0 r.1 r.2).held))

pub open_gate-requires-clause-ready : goal.open_gate-requires-clause-ready
open_gate-requires-clause-ready g c =
    let a = (goal.at.open_gate-requires-clause-ready g c).After-write_record in
    let r = c.requires.held in
    let is = ok_of (IsWritten c.args.payload.now c.make_room.new.log (log g a) (now g a)) c.write_record.result (sym c.is_err-2.ensures.value ∙ c.if-is_err-2.false) c.write_record.ensures.written in
    can_open (e g a) r.0 c.args.payload.now c.make_room.new.log (log g a) r.1 (now g a) (written g a r.0 r.1 r.2).held c.write_record.ensures.same is

pub returns-then-is_err-3-clause-adds : goal.returns-then-is_err-3-clause-adds
returns-then-is_err-3-clause-adds g c = λ f entries one held read.
    let a = (goal.at.returns-then-is_err-3-clause-adds g c).After-write_record in
    let is = ok_of (IsWritten c.args.payload.now c.make_room.new.log (log g a) (now g a)) c.write_record.result (sym c.is_err-2.ensures.value ∙ c.if-is_err-2.false) c.write_record.ensures.written in
    let next : c.make_room.new.log.next ≡ c.args.log.now.next = ap (λ (l : Log). l.next) c.make_room.ensures.log in
    let body = body_of_entry c.args.payload.now c.make_room.new.log (log g a) one (now g a) (roomy g a f entries held).held.live.log_file c.write_record.ensures.same.next is (subst (λ (n : ℕ). read_entry n c.args.payload.now ≡ Ok one) (sym next) read) in
    let k = written g a f entries held in
    let opens = c.open_gate.ensures.adds (e g a) f entries one k.held body in
    let last = g.S.Outside.world c.open_gate.new.store in
    adds_doubt (e g a) f (log g a) c.open_gate.new.log entries one c.open_gate.result (w g a) (now g a) last k opens
    (err_of (IsDoubtful (e g a) f c.open_gate.new.log entries last) c.open_gate.result (sym c.is_err-3.ensures.value ∙ c.if-is_err-3.true) opens.doubt)

pub returns-then-is_err-3-clause-doubt : goal.returns-then-is_err-3-clause-doubt
returns-then-is_err-3-clause-doubt g c = λ is.
    let a = (goal.at.returns-then-is_err-3-clause-doubt g c).After-write_record in
    let r = c.requires.held in
    let last = g.S.Outside.world c.open_gate.new.store in
    rose_behind 1 1 (w g a) (now g a) last (written g a r.0 r.1 r.2).run.only
    (err_of (FileCountRose 1 (now g a) last) c.open_gate.result (sym c.is_err-3.ensures.value ∙ c.if-is_err-3.true) c.open_gate.ensures.cause)

pub returns-clause-adds : goal.returns-clause-adds
returns-clause-adds g c = λ f entries one held read.
    let a = (goal.at.returns-clause-adds g c).After-write_record in
    let is = ok_of (IsWritten c.args.payload.now c.make_room.new.log (log g a) (now g a)) c.write_record.result (sym c.is_err-2.ensures.value ∙ c.if-is_err-2.false) c.write_record.ensures.written in
    let next : c.make_room.new.log.next ≡ c.args.log.now.next = ap (λ (l : Log). l.next) c.make_room.ensures.log in
    let body = body_of_entry c.args.payload.now c.make_room.new.log (log g a) one (now g a) (roomy g a f entries held).held.live.log_file c.write_record.ensures.same.next is (subst (λ (n : ℕ). read_entry n c.args.payload.now ≡ Ok one) (sym next) read) in
    let k = written g a f entries held in
    let opens = c.open_gate.ensures.adds (e g a) f entries one k.held body in
    let last = g.S.Outside.world c.open_gate.new.store in
    adds_done (e g a) f (log g a) c.open_gate.new.log entries one c.open_gate.result (w g a) (now g a) last k opens
    (ok_of (IsHeld (e g a) f c.open_gate.new.log (entries ++ one ∷ []) last) c.open_gate.result (sym c.is_err-3.ensures.value ∙ c.if-is_err-3.false) opens.added)
