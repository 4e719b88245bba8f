use Rattle.std.proofs.Common.{◌≡◌, ℕ, sym, ap, ◌∙◌, subst, arith}
use Rattle.odb_device.specs.World.{World, file_of}
use Rattle.odb_device.specs.Images.{ReadsImage}
use Rattle.odb_device.specs.Moments.{Runs}
use Rattle.odb_reclog.specs.Told.{IfTold}
use Rattle.odb_reclog.specs.Records.{payload_at}
use Rattle.odb_reclog.specs.Standing.{Log, Stands as LogStands, HasItsBody}
use Rattle.odb_transdb.specs.Opened.{entries_in}
use Rattle.odb_transdb.specs.Standing.{Db, Stands, IsSettledIn}
use Rattle.odb_transdb.specs.Answers.{HoldsAll}
use Rattle.odb_transdb.specs.contracts.transdb.Transdb.{the_view}
use Rattle.odb_transdb.proofs.Standing.{with_active, is_placed, stands_log}
use Rattle.odb_reclog.specs.Regions.{WritesBehind, IsWritten}
use Rattle.odb_transdb.specs.Worlds.{WritesBehindGate, RewritesTail, IsRecorded}
use Rattle.odb_transdb.proofs.Forcing.{HasRoom, IsReady, behind_db, step_gate, step_run, step_settled, steps_gate, steps_tail, steps_run, steps_settled, ok_then}
use Rattle.odb_transdb.proofs.transdb.Transdb.write_record.Given.{Over}
use Rattle.odb_transdb.proofs.transdb.Transdb.write_record.Goals as goal
use Rattle.odb_transdb.proofs.transdb.Transdb.write_record.Goals.{After-clear_tail, After-write_body}

-- of the log as its fields are
module _ (g : Over) (c : After-clear_tail g) where
  abbrev db : Db
  db = the_view c.self.inside

  abbrev w : World
  w = g.S.Outside.world c.args.store.now

  abbrev mid : World
  mid = g.S.Outside.world c.clear_tail.new.store

  abbrev cleared : Log
  cleared = c.clear_tail.new.self

  ready : IsReady db w
  ready = record {
    is = c.self.invariant;
    room = subst HasRoom (sym c.self.view_is) (omega (arith, c.requires.fits));
    usable = ap (λ (d : Db). d.active.in_doubt) c.self.view_is ∙ c.requires.usable;
    stands = subst (λ (d : Db). Stands d (file_of 0 w)) (sym c.self.view_is) c.requires.stands;
    reads = g.met.S.Store.reads_image c.args.store.now 0;
  }

  left : WritesBehind db.active cleared w mid
  left = c.clear_tail.ensures.behind

  clear_run : Runs 0 (HoldsAll db (entries_in (file_of 0 w))) w mid
  clear_run = step_run db cleared w mid ready left

  clear_settled : IsSettledIn (file_of 0 w) (file_of 0 mid) db (with_active db cleared)
  clear_settled = step_settled db cleared w mid ready left (g.met.S.Store.reads_image c.clear_tail.new.store 0)

  written : (new : Log) (now : World) → WritesBehind cleared new mid now → Runs 0 (HoldsAll db (entries_in (file_of 0 w))) w now
  written new now two = steps_run db cleared new w mid now ready left (g.met.S.Store.reads_image c.clear_tail.new.store 0) two

  written_settled : (new : Log) (now : World) → WritesBehind cleared new mid now → ReadsImage (file_of 0 now) → IsSettledIn (file_of 0 w) (file_of 0 now) db (with_active db new)
  written_settled new now two after = steps_settled db cleared new w mid now ready left (g.met.S.Store.reads_image c.clear_tail.new.store 0) two after

pub clear_tail-requires-clause-stands : goal.clear_tail-requires-clause-stands
clear_tail-requires-clause-stands g c =
    let w = g.S.Outside.world c.args.store.now in
    let db = the_view c.self.inside in
    let stands : Stands db (file_of 0 w) = subst (λ (d : Db). Stands d (file_of 0 w)) (sym c.self.view_is) c.requires.stands in
    subst (λ (k : ℕ). LogStands db.active (file_of k w)) (sym c.self.invariant.active.file) (stands_log db (file_of 0 w) stands)

pub returns-in_err-clear_tail-clause-run : goal.returns-in_err-clear_tail-clause-run
returns-in_err-clear_tail-clause-run g c =
    let a = (goal.at.returns-in_err-clear_tail-clause-run g c).After-clear_tail in
    subst (λ (d : Db). Runs 0 (HoldsAll d (entries_in (file_of 0 (w g a)))) (w g a) (mid g a)) c.self.view_is (clear_run g a)

pub returns-in_err-clear_tail-clause-settled : goal.returns-in_err-clear_tail-clause-settled
returns-in_err-clear_tail-clause-settled g c =
    let a = (goal.at.returns-in_err-clear_tail-clause-settled g c).After-clear_tail in
    subst (λ (d : Db). IsSettledIn (file_of 0 (w g a)) (file_of 0 (mid g a)) d (with_active (db g a) (cleared g a))) c.self.view_is (clear_settled g a)

-- the body is written at the file that the log has, as it was before
its_file : (g : Over) (c : After-write_body g)
    → WritesBehind c.clear_tail.new.self c.write_body.new.self (g.S.Outside.world c.clear_tail.new.store) (g.S.Outside.world c.write_body.new.store)
its_file g c = c.write_body.ensures.behind

pub returns-clause-run : goal.returns-clause-run
returns-clause-run g c =
    let at = goal.at.returns-clause-run g c in
    let a = at.After-clear_tail in
    let now = g.S.Outside.world c.write_body.new.store in
    subst (λ (d : Db). Runs 0 (HoldsAll d (entries_in (file_of 0 (w g a)))) (w g a) now) c.self.view_is (written g a c.write_body.new.self now (its_file g at.After-write_body))

pub returns-clause-settled : goal.returns-clause-settled
returns-clause-settled g c =
    let at = goal.at.returns-clause-settled g c in
    let a = at.After-clear_tail in
    let now = g.S.Outside.world c.write_body.new.store in
    subst (λ (d : Db). IsSettledIn (file_of 0 (w g a)) (file_of 0 now) d (with_active (db g a) c.write_body.new.self)) c.self.view_is
    (written_settled g a c.write_body.new.self now (its_file g at.After-write_body) (g.met.S.Store.reads_image c.write_body.new.store 0))

pub returns-in_err-clear_tail-clause-gate : goal.returns-in_err-clear_tail-clause-gate
returns-in_err-clear_tail-clause-gate g c =
    let a = (goal.at.returns-in_err-clear_tail-clause-gate g c).After-clear_tail in
    subst (λ (d : Db). WritesBehindGate d (w g a) (mid g a)) c.self.view_is (step_gate (db g a) (cleared g a) (w g a) (mid g a) (ready g a) (left g a))

pub returns-clause-gate : goal.returns-clause-gate
returns-clause-gate g c =
    let at = goal.at.returns-clause-gate g c in
    let a = at.After-clear_tail in
    let now = g.S.Outside.world c.write_body.new.store in
    subst (λ (d : Db). WritesBehindGate d (w g a) now) c.self.view_is
    (steps_gate (db g a) (cleared g a) c.write_body.new.self (w g a) (mid g a) now (ready g a) (left g a) (g.met.S.Store.reads_image c.clear_tail.new.store 0) (its_file g at.After-write_body))

pub returns-clause-recorded : goal.returns-clause-recorded
returns-clause-recorded g c =
    let at = goal.at.returns-clause-recorded g c in
    let a = at.After-clear_tail in
    let now = g.S.Outside.world c.write_body.new.store in
    let new = c.write_body.new.self in
    let payload = c.args.payload.now in
    let file : (cleared g a).file ≡ 0 = (left g a).same.file ∙ c.self.invariant.active.file in
    let tail : RewritesTail (db g a) (w g a) now =
    steps_tail (db g a) (cleared g a) new (w g a) (mid g a) now (ready g a) (left g a) (g.met.S.Store.reads_image c.clear_tail.new.store 0) (its_file g at.After-write_body) c.in_ok-clear_tail.ensures.clear.0 in
    ok_then (IsWritten payload (cleared g a) new now) (IsRecorded payload c.args.self.now (with_active (db g a) new) (w g a) now) c.write_body.result
    (λ body. record {
      has_body = body.has_body;
      body = subst (λ (k : ℕ). HasItsBody new (file_of k now)) file body.body;
      payload_is = subst (λ (k : ℕ). IfTold k now (λ bytes. payload_at new.place bytes ≡ payload)) file body.payload_is;
      behind = omega (arith, body.behind, (left g a).same.place, ap (λ (d : Db). d.active.place) c.self.view_is);
      tail = subst (λ (d : Db). RewritesTail d (w g a) now) c.self.view_is tail;
    })
    c.write_body.ensures.written

pub returns-in_err-clear_tail-clause-placed : goal.returns-in_err-clear_tail-clause-placed
returns-in_err-clear_tail-clause-placed g c = is_placed (with_active (the_view c.self.inside) c.clear_tail.new.self) (behind_db (the_view c.self.inside) c.clear_tail.new.self c.clear_tail.ensures.behind.same c.self.invariant)

pub returns-clause-placed : goal.returns-clause-placed
returns-clause-placed g c =
    let db = the_view c.self.inside in
    is_placed (with_active db c.write_body.new.self)
    (behind_db (with_active db c.clear_tail.new.self) c.write_body.new.self c.write_body.ensures.behind.same (behind_db db c.clear_tail.new.self c.clear_tail.ensures.behind.same c.self.invariant))
