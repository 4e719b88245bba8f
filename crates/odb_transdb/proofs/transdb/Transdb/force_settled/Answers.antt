use Rattle.std.proofs.Common.{◌≡◌, ◌<◌, false, Ok, sym, ◌∙◌, ap, arith}
use Rattle.std.specs.Prelude.{is_err}
use Rattle.odb_device.specs.World.{World, file_of}
use Rattle.odb_device.specs.Calls.{FileCountRose}
use Rattle.odb_reclog.specs.Standing.{Log}
use Rattle.odb_codec.specs.Reading.{read_entry}
use Rattle.odb_device.specs.Moments.{Runs}
use Rattle.odb_model.specs.declared.entry.Entry.{Entry}
use Rattle.odb_transdb.specs.Opened.{entries_in}
use Rattle.odb_transdb.specs.Steps.{IsWritten}
use Rattle.odb_transdb.specs.Answers.{HoldsAllOrMore}
use Rattle.odb_transdb.specs.Worlds.{IsRecorded, WritesFromGate}
use Rattle.odb_transdb.proofs.Leaving.{clear_tail}
use Rattle.odb_transdb.proofs.Forced.{entry_read, keeps_or_adds, is_written, forced_run, forced_entries, forced_doubt, behind_gate, from_gate, ok_of, err_of}
use Rattle.odb_transdb.proofs.transdb.Transdb.force_settled.Given.{Over}
use Rattle.odb_transdb.proofs.transdb.Transdb.force_settled.Goals as goal
use Rattle.odb_transdb.proofs.transdb.Transdb.force_settled.Goals.{After-write_record, After-open_gate}

module _ (g : Over) (c : After-open_gate g) where
  abbrev w : World
  w = g.S.Outside.world c.args.store.now

  abbrev m : World
  m = g.S.Outside.world c.write_record.new.store

  abbrev now : World
  now = g.S.Outside.world c.open_gate.new.store

  is_ok : is_err c.write_record.result ≡ false
  is_ok = sym c.is_err.ensures.value ∙ c.if-is_err.false

  done : IsRecorded c.args.payload.now c.args.self.now c.write_record.new.self w m
  done = ok_of (IsRecorded c.args.payload.now c.args.self.now c.write_record.new.self w m) c.write_record.result is_ok c.write_record.ensures.recorded

  mid_written : (e : Entry) → read_entry c.args.self.now.active.next c.args.payload.now ≡ Ok e → IsWritten c.write_record.new.self e (file_of 0 m)
  mid_written e one = is_written c.args.self.now c.write_record.new.self w m c.args.payload.now c.write_record.ensures.settled done.payload_is e one

  run : (e : Entry) → read_entry c.args.self.now.active.next c.args.payload.now ≡ Ok e → Runs 0 (HoldsAllOrMore c.args.self.now (entries_in (file_of 0 w)) e) w now
  run e one =
      forced_run c.args.self.now c.write_record.new.self w m c.args.payload.now c.write_record.ensures.settled done.payload_is now c.write_record.ensures.run e
      (c.open_gate.ensures.entry e (mid_written e one)).run

  -- what a log at its gate is
  header : c.open_gate.new.self.header ≡ c.args.self.now.header
  header = c.open_gate.ensures.same ∙ c.write_record.ensures.settled.header

-- the record stands behind its gate
pub open_gate-requires : goal.open_gate-requires
open_gate-requires g c =
    let mid = c.write_record.new.self in
    let settled = c.write_record.ensures.settled in
    let is_ok = sym c.is_err.ensures.value ∙ c.if-is_err.false in
    let done = ok_of (IsRecorded c.args.payload.now c.args.self.now mid (g.S.Outside.world c.args.store.now) (g.S.Outside.world c.write_record.new.store)) c.write_record.result is_ok c.write_record.ensures.recorded in
    record {
      ready = record {
        usable = settled.usable;
        room = omega (arith, c.requires.room, c.write_record.ensures.end, settled.place);
        behind = omega (arith, done.behind, settled.place);
        has_body = done.has_body;
        body = done.body;
        stands = settled.stands;
      };
    }

pub returns-then-is_err-clause-entry : goal.returns-then-is_err-clause-entry
returns-then-is_err-clause-entry g c = λ e one. record {
  run = keeps_or_adds c.args.self.now e (g.S.Outside.world c.args.store.now) (g.S.Outside.world c.write_record.new.store) c.write_record.ensures.run;
  added = tt;
}

pub returns-then-is_err-clause-before : goal.returns-then-is_err-clause-before
returns-then-is_err-clause-before g c = λ _.
    let w = g.S.Outside.world c.args.store.now in
    let m = g.S.Outside.world c.write_record.new.store in
    record {
      keeps = c.write_record.ensures.run;
      settles = c.write_record.ensures.settled;
      gate = c.write_record.ensures.gate;
      rose = err_of (FileCountRose 0 w m) c.write_record.result (sym c.is_err.ensures.value ∙ c.if-is_err.true) c.write_record.ensures.cause;
    }

pub returns-in-Ok-clause-entry : goal.returns-in-Ok-clause-entry
returns-in-Ok-clause-entry g c = λ e one.
    let a = (goal.at.returns-in-Ok-clause-entry g c).After-open_gate in
    record {
      run = run g a e one;
      added = forced_entries c.args.self.now c.write_record.new.self (w g a) (m g a) c.args.payload.now c.write_record.ensures.settled (done g a).payload_is (now g a) c.write_record.ensures.run e
          (c.in-Ok.ensures.entry e (mid_written g a e one)).added;
    }

pub returns-in-Ok-clause-forced : goal.returns-in-Ok-clause-forced
returns-in-Ok-clause-forced g c =
    let a = (goal.at.returns-in-Ok-clause-forced g c).After-open_gate in
    let e = entry_read c.args.self.now.active.next c.args.payload.now c.requires.payload in
    let ok = c.in-Ok.ensures.opened in
    let same = c.keep_place.ensures.log in
    let settled = c.write_record.ensures.settled in
    let stands = c.in-Ok.ensures.stands e.0 (mid_written g a e.0 e.1) in
    record {
      stands = c.keep_place.ensures.stands (file_of 0 (now g a)) (g.met.S.Store.reads_image c.open_gate.new.store 0) stands;
      advanced = record {
        header = same.header ∙ header g a;
        next = omega (arith, ap (λ (l : Log). l.next) same.active, ok.next, settled.next);
        place = omega (arith, ap (λ (l : Log). l.place) same.active, ok.place, (done g a).behind);
        usable = ap (λ (l : Log). l.in_doubt) same.active ∙ ok.usable;
      };
      clear = clear_tail c.args.self.now c.write_record.new.self c.open_gate.new.self (m g a) (now g a) c.requires.placed c.write_record.ensures.placed c.open_gate.ensures.placed
          settled.header (header g a) settled.stands c.open_gate.ensures.only stands ok.place;
    }

pub returns-in-Err-clause-entry : goal.returns-in-Err-clause-entry
returns-in-Err-clause-entry g c = λ e one. record { run = run g (goal.at.returns-in-Err-clause-entry g c).After-open_gate e one; added = tt }

pub returns-in-Err-clause-doubt : goal.returns-in-Err-clause-doubt
returns-in-Err-clause-doubt g c = λ number is.
    let a = (goal.at.returns-in-Err-clause-doubt g c).After-open_gate in
    let settled = c.write_record.ensures.settled in
    record {
      gate = forced_doubt c.args.self.now c.write_record.new.self (w g a) (m g a) c.args.payload.now settled (done g a).payload_is (now g a) c.write_record.ensures.run (done g a).body (done g a).tail
          c.open_gate.ensures.calls c.open_gate.ensures.only c.in-Err.ensures.cause;
      place = (c.in-Err.ensures.err.0 ∙ settled.next, c.in-Err.ensures.err.1 ∙ settled.place);
    }

pub returns-then-is_err-clause-placed : goal.returns-then-is_err-clause-placed
returns-then-is_err-clause-placed g c = record {
  header = c.write_record.ensures.settled.header;
  before = c.requires.placed;
  after = c.write_record.ensures.placed;
}

pub returns-in-Ok-clause-placed : goal.returns-in-Ok-clause-placed
returns-in-Ok-clause-placed g c = record {
  header = c.keep_place.ensures.log.header ∙ header g (goal.at.returns-in-Ok-clause-placed g c).After-open_gate;
  before = c.requires.placed;
  after = c.keep_place.ensures.placed;
}

pub returns-in-Err-clause-placed : goal.returns-in-Err-clause-placed
returns-in-Err-clause-placed g c = record {
  header = header g (goal.at.returns-in-Err-clause-placed g c).After-open_gate;
  before = c.requires.placed;
  after = c.open_gate.ensures.placed;
}

-- there is room for the gate, so it is the first byte that is written
room : (g : Over) (c : After-write_record g) → c.args.self.now.active.place < c.args.self.now.active.end
room g c = omega (arith, c.requires.room)

only : (g : Over) (c : After-open_gate g) → c.args.self.now.active.place < c.args.self.now.active.end → WritesFromGate c.args.self.now (g.S.Outside.world c.args.store.now) (g.S.Outside.world c.open_gate.new.store)
only g c has_room =
    from_gate c.args.self.now has_room c.write_record.new.self (w g c) (m g c) (now g c) c.write_record.ensures.settled.place c.write_record.ensures.gate c.open_gate.ensures.only

pub returns-then-is_err-clause-only : goal.returns-then-is_err-clause-only
returns-then-is_err-clause-only g c =
    behind_gate c.args.self.now (room g (goal.at.returns-then-is_err-clause-only g c).After-write_record) (g.S.Outside.world c.args.store.now) (g.S.Outside.world c.write_record.new.store)
    c.write_record.ensures.gate

pub returns-in-Ok-clause-only : goal.returns-in-Ok-clause-only
returns-in-Ok-clause-only g c =
    let at = goal.at.returns-in-Ok-clause-only g c in
    only g at.After-open_gate (room g at.After-write_record)

pub returns-in-Err-clause-only : goal.returns-in-Err-clause-only
returns-in-Err-clause-only g c =
    let at = goal.at.returns-in-Err-clause-only g c in
    only g at.After-open_gate (room g at.After-write_record)
