use Rattle.std.proofs.Common.{◌≡◌, ◌+◌, ◌-◌, ◌^◌, ◌<◌, ◌≤◌, ℕ, Bool, true, false, List, length, refl, sym, ap, subst, arith, rules}
use Rattle.std.specs.Prelude.{IfSome, option_map}
use Rattle.std.specs.Int.{w64, to_be_bytes}
use Rattle.odb_device.specs.World.{World, file_of}
use Rattle.odb_device.specs.Images.{ReadsImage, TornFrom, part, overwritten, written, kept}
use Rattle.odb_device.specs.Moments.{Runs}
use Rattle.odb_reclog.specs.Moments.{KeepsLists}
use Rattle.odb_reclog.specs.contracts.log.RecLog.{the_view}
use Rattle.odb_reclog.specs.Records.{payload_at}
use Rattle.odb_reclog.specs.Standing.{Log, IsLog, Stands, HasBody, HasItsBody, list_of}
use Rattle.odb_reclog.proofs.Standing.{touched_log, is_touched, body_written}
use Rattle.odb_device.proofs.Time.{begins}
use Rattle.odb_reclog.proofs.Gates.{keeps_same}
use Rattle.odb_reclog.proofs.Files.{behind_run, behind_stands, behind_list, has_body, reads_body}
use Rattle.odb_reclog.proofs.log.RecLog.write_body.Given.{Over}
use Rattle.odb_reclog.proofs.log.RecLog.write_body.Goals.{After-put_body}
use Rattle.odb_reclog.proofs.log.RecLog.write_body.Goals as goal

-- of the log as its caller sees it
module _ (g : Over) (c : After-put_body g) where
  abbrev log : Log
  log = c.args.self.now

  abbrev w : World
  w = g.S.Outside.world c.args.store.now

  abbrev now : World
  now = g.S.Outside.world c.put_body.new.store

  abbrev n : ℕ
  n = length c.args.payload.now

  abbrev new : Bool → Log → Log
  new body l = touched_log l (l.place + (13 + n)) body

  is_log : IsLog log
  is_log = subst IsLog c.self.view_is c.self.invariant

  fits : log.place + 13 + n ≤ log.end
  fits = omega (arith, c.room-room.ensures, c.if-room-need.false, ap (λ (l : Log). l.place) c.self.view_is, ap (λ (l : Log). l.end) c.self.view_is)

  run : Runs log.file (TornFrom (log.place + 1) (12 + n) (file_of log.file w)) w now
  run = subst (λ (l : Log). Runs l.file (TornFrom (l.place + 1) (12 + n) (file_of l.file w)) w now) c.self.view_is c.put_body.ensures.run

  reads : ReadsImage (file_of log.file now)
  reads = g.met.S.Store.reads_image c.put_body.new.store log.file

  left_run : Runs log.file (KeepsLists log.start log.end log.first (log.place + 1) (log.end - (log.place + 1)) (file_of log.file w)) w now
  left_run = behind_run log (12 + n) w now c.requires.stands run (omega (arith, fits))

  touched : (body : Bool) → IsLog (new body log)
  touched body = is_touched log (log.place + (13 + n)) body is_log (omega arith) (omega (arith, fits))

  left_stands : (body : Bool) → Stands (new body (the_view c.self.inside)) (file_of log.file now)
  left_stands body = subst (λ (l : Log). Stands (new body l) (file_of log.file now)) (sym c.self.view_is)
      (behind_stands log (12 + n) w now c.requires.stands run reads (log.place + (13 + n)) body (touched body) (omega (arith, c.requires.clear)) (omega arith))

  left_list : (body : Bool) → list_of (new body (the_view c.self.inside)) (file_of log.file now) ≡ list_of log (file_of log.file w)
  left_list body = subst (λ (l : Log). list_of (new body l) (file_of log.file now) ≡ list_of log (file_of log.file w)) (sym c.self.view_is)
      (behind_list log (12 + n) w now c.requires.stands run reads (log.place + (13 + n)) body (touched body) (omega (arith, c.requires.clear)) (omega arith))

  its_number : part 4 8 c.head_of-head.result ≡ to_be_bytes w64 log.next
  its_number = subst (λ (l : Log). part 4 8 c.head_of-head.result ≡ to_be_bytes w64 l.next) c.self.view_is c.head_of-head.ensures.number

  number_fits : log.next < 2 ^ 64
  number_fits = let is = is_log in omega (arith, is.next, is.first, is.most, is.end)

  body : (bytes : List ℕ) → HasBody (new true log) c.args.payload.now (overwritten (log.place + 13) c.args.payload.now (overwritten (log.place + 1) c.head_of-head.result bytes))
  body bytes = body_written (new true log) c.head_of-head.result c.args.payload.now bytes c.head_of-head.ensures.long c.head_of-head.ensures.size its_number c.requires.size number_fits fits (omega arith)

  -- what the file is after Ok
  abbrev IsDone : Log → Type 0
  IsDone l = file_of l.file now ≡ option_map (λ f. kept (written (l.place + 13) c.args.payload.now (written (l.place + 1) c.head_of-head.result f))) (file_of l.file w)

-- without room nothing changes
pub returns-then-room-need-clause-behind : goal.returns-then-room-need-clause-behind
returns-then-room-need-clause-behind g c =
    let log = c.args.self.now in
    let w = g.S.Outside.world c.args.store.now in
    let o = file_of log.file w in
    let at = log.place + 1 in
    record {
      run = begins log.file (KeepsLists log.start log.end log.first at (log.end - at) o) w (keeps_same log.start log.end log.first at (log.end - at) o o refl);
      stands = c.requires.stands;
      list = refl;
      same = record { file = refl; start = refl; end = refl; first = refl; place = refl; next = refl; in_doubt = refl };
    }

pub returns-in_err-put_body-clause-behind : goal.returns-in_err-put_body-clause-behind
returns-in_err-put_body-clause-behind g c =
    let a = (goal.at.returns-in_err-put_body-clause-behind g c).After-put_body in
    record { run = left_run g a; stands = left_stands g a false; list = left_list g a false; same = search rules }

pub returns-clause-behind : goal.returns-clause-behind
returns-clause-behind g c =
    let a = (goal.at.returns-clause-behind g c).After-put_body in
    record { run = left_run g a; stands = left_stands g a true; list = left_list g a true; same = search rules }

pub returns-clause-written : goal.returns-clause-written
returns-clause-written g c =
    let a = (goal.at.returns-clause-written g c).After-put_body in
    let before = file_of (log g a).file (w g a) in
    let after = file_of (log g a).file (now g a) in
    let done = subst (IsDone g a) c.self.view_is c.in_ok-put_body.ensures.done in
    record {
      has_body = refl;
      body =
          subst (λ (l : Log). HasItsBody (new g a true l) after) (sym c.self.view_is)
          (has_body (new g a true (log g a)) c.head_of-head.result c.args.payload.now before after done (body g a));
      payload_is =
          subst (λ (l : Log). IfSome after (λ f. payload_at l.place f.bytes ≡ c.args.payload.now)) (sym c.self.view_is)
          (reads_body (new g a true (log g a)) c.head_of-head.result c.args.payload.now before after done (body g a));
      behind = omega (arith, ap (λ (l : Log). l.place) c.self.view_is);
    }
