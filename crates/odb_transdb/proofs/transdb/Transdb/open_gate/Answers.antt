use Rattle.std.proofs.Common.{◌≡◌, ℕ, ◌≤◌, [], ◌∷◌, sym, ap, ◌∙◌, subst}
use Rattle.std.specs.Prelude.{OnOk, IfOk}
use Rattle.odb_device.specs.World.{World, file_of}
use Rattle.odb_device.specs.Images.{TornFrom}
use Rattle.odb_device.specs.Calls.{IsOnePut}
use Rattle.odb_device.specs.Moments.{Runs}
use Rattle.odb_reclog.specs.Records.{OPEN}
use Rattle.odb_reclog.specs.Standing.{Log, Stands as LogStands, SameRegion, HasItsBody}
use Rattle.odb_reclog.specs.Regions.{IsAdded}
use Rattle.odb_model.specs.declared.entry.Entry.{Entry}
use Rattle.odb_transdb.specs.Opened.{entries_in}
use Rattle.odb_transdb.specs.Standing.{Db, IsDb, Stands}
use Rattle.odb_transdb.specs.Answers.{HoldsAllOrMore}
use Rattle.odb_transdb.specs.Steps.{IsWritten}
use Rattle.odb_transdb.specs.Worlds.{AddsEntry, IsAtGate}
use Rattle.odb_transdb.specs.Leaving.{MovesOn}
use Rattle.odb_transdb.specs.contracts.transdb.Transdb.{the_view}
use Rattle.odb_transdb.proofs.Standing.{with_active, stands_log, is_placed}
use Rattle.odb_transdb.proofs.Forcing.{HasRoom, IsReady, opening_run, opening_entries, opening_stands, opening_only, ok_then, moves_on, gate_db}
use Rattle.odb_transdb.proofs.transdb.Transdb.open_gate.Given.{Over}
use Rattle.odb_transdb.proofs.transdb.Transdb.open_gate.Goals as goal
use Rattle.odb_transdb.proofs.transdb.Transdb.open_gate.Goals.{After-open_gate}

module _ (g : Over) (c : After-open_gate g) (e : Entry) (is_written : IsWritten c.args.self.now e (file_of 0 (g.S.Outside.world c.args.store.now))) where
  abbrev db : Db
  db = the_view c.self.inside

  abbrev w : World
  w = g.S.Outside.world c.args.store.now

  abbrev now : World
  now = g.S.Outside.world c.open_gate.new.store

  abbrev log : Log
  log = c.open_gate.new.self

  ready : IsReady db w
  ready = record {
    is = c.self.invariant;
    room = subst HasRoom (sym c.self.view_is) c.requires.ready.room;
    usable = ap (λ (d : Db). d.active.in_doubt) c.self.view_is ∙ c.requires.ready.usable;
    stands = subst (λ (d : Db). Stands d (file_of 0 w)) (sym c.self.view_is) c.requires.ready.stands;
    reads = g.met.S.Store.reads_image c.args.store.now 0;
  }

  written : IsWritten db e (file_of 0 w)
  written = subst (λ (d : Db). IsWritten d e (file_of 0 w)) (sym c.self.view_is) is_written

  run : Runs 0 (HoldsAllOrMore db (entries_in (file_of 0 w)) e) w now
  run = opening_run db log w now ready c.open_gate.ensures.run e written

  region : SameRegion db.active log
  region = c.open_gate.ensures.region

  abbrev Added : Type 0
  Added = IsAdded db.active log w now

  entries : OnOk c.open_gate.result (AddsEntry e w now)
  entries = ok_then Added (AddsEntry e w now) c.open_gate.result
      (λ added. opening_entries db log w now ready c.open_gate.ensures.run e written (g.met.S.Store.reads_image c.open_gate.new.store 0) region added.stands added.list added.next) c.open_gate.ensures.added

  stands : OnOk c.open_gate.result (Stands (with_active db log) (file_of 0 now))
  stands = ok_then Added (Stands (with_active db log) (file_of 0 now)) c.open_gate.result
      (λ added. opening_stands db log w now ready c.open_gate.ensures.run e written (g.met.S.Store.reads_image c.open_gate.new.store 0) region added.stands added.list added.next) c.open_gate.ensures.added

-- the gate of the log that the fields have
pub open_gate-requires : goal.open_gate-requires
open_gate-requires g c =
    let db = the_view c.self.inside in
    let w = g.S.Outside.world c.args.store.now in
    let file : db.active.file ≡ 0 = c.self.invariant.active.file in
    let at : IsAtGate db w = subst (λ (d : Db). IsAtGate d w) (sym c.self.view_is) c.requires.ready in
    record {
      ready = record {
        usable = at.usable;
        written = at.has_body;
        stands = subst (λ (k : ℕ). LogStands db.active (file_of k w)) (sym file) (stands_log db (file_of 0 w) at.stands);
        body = subst (λ (k : ℕ). HasItsBody db.active (file_of k w)) (sym file) at.body;
      };
    }

pub returns-clause-entry : goal.returns-clause-entry
returns-clause-entry g c = λ e written.
    let a = (goal.at.returns-clause-entry g c).After-open_gate in
    record {
      run = subst (λ (d : Db). Runs 0 (HoldsAllOrMore d (entries_in (file_of 0 (g.S.Outside.world c.args.store.now))) e) (g.S.Outside.world c.args.store.now) (g.S.Outside.world c.open_gate.new.store)) c.self.view_is (run g a e written);
      added = entries g a e written;
    }

pub returns-clause-opened : goal.returns-clause-opened
returns-clause-opened g c =
    let log = c.open_gate.new.self in
    let r = c.open_gate.result in
    subst (λ (d : Db). IfOk r (λ n. MovesOn n d.active log)) c.self.view_is
    (moves_on r (the_view c.self.inside).active log (g.S.Outside.world c.args.store.now) (g.S.Outside.world c.open_gate.new.store) c.open_gate.ensures.number c.open_gate.ensures.added)

pub returns-clause-stands : goal.returns-clause-stands
returns-clause-stands g c = λ e written. stands g (goal.at.returns-clause-stands g c).After-open_gate e written

pub returns-clause-only : goal.returns-clause-only
returns-clause-only g c =
    let w = g.S.Outside.world c.args.store.now in
    let now = g.S.Outside.world c.open_gate.new.store in
    subst (λ (d : Db). Runs 0 (TornFrom d.active.place 1 (file_of 0 w)) w now) c.self.view_is (opening_only (the_view c.self.inside) w now c.self.invariant c.open_gate.ensures.run)

pub returns-clause-calls : goal.returns-clause-calls
returns-clause-calls g c =
    let w = g.S.Outside.world c.args.store.now in
    let now = g.S.Outside.world c.open_gate.new.store in
    let db = the_view c.self.inside in
    subst (λ (d : Db). IsOnePut 0 d.active.place (OPEN ∷ []) w now) c.self.view_is
    (subst (λ (k : ℕ). IsOnePut k db.active.place (OPEN ∷ []) w now) c.self.invariant.active.file c.open_gate.ensures.calls)

-- the fields as the call leaves them
left : (g : Over) (c : After-open_gate g) → IsDb (with_active (the_view c.self.inside) c.open_gate.new.self)
left g c =
    let db = the_view c.self.inside in
    let behind : db.active.place ≤ db.active.clear_from = subst (λ (d : Db). d.active.place ≤ d.active.clear_from) (sym c.self.view_is) c.requires.ready.behind in
    gate_db db c.open_gate.new.self (g.S.Outside.world c.args.store.now) (g.S.Outside.world c.open_gate.new.store) c.open_gate.result c.self.invariant c.open_gate.ensures.region behind c.open_gate.ensures.added c.open_gate.ensures.err

pub invariant_of-self : goal.invariant_of-self
invariant_of-self g c = left g (goal.at.invariant_of-self g c).After-open_gate

pub returns-clause-placed : goal.returns-clause-placed
returns-clause-placed g c = is_placed (with_active (the_view c.self.inside) c.open_gate.new.self) (left g (goal.at.returns-clause-placed g c).After-open_gate)
