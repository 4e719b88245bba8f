use Rattle.std.proofs.Common.{◌≡◌, ◌+◌, ◌-◌, ◌<◌, ◌≤◌, Bool, true, false, Some, length, sym, ap, subst, arith, rules}
use Rattle.std.specs.Prelude.{IfSome}
use Rattle.odb_device.specs.World.{File, World, file_of}
use Rattle.odb_device.specs.Images.{ReadsImage, TornFrom, IsKept}
use Rattle.odb_device.specs.Calls.{Stays}
use Rattle.odb_device.specs.Moments.{Runs}
use Rattle.odb_reclog.specs.Moments.{KeepsLists}
use Rattle.odb_reclog.specs.Standing.{Log, IsLog, Stands, list_of}
use Rattle.odb_device.specs.Zeros.{AreZero, ReadsZero}
use Rattle.odb_reclog.proofs.Standing.{cleared_log}
use Rattle.odb_reclog.proofs.Tails.{half_log, tail_run, tail_unwritten, tail_untouched, half_stands, half_list, cleared_stands, cleared_list}
use Rattle.odb_reclog.proofs.log.RecLog.clear_tail.Given.{Over}
use Rattle.odb_reclog.proofs.log.RecLog.clear_tail.Goals.{After-clear_range}
use Rattle.odb_reclog.proofs.log.RecLog.clear_tail.Goals as goal

-- of the log as its caller sees it
module _ (g : Over) (c : After-clear_range g) where
  abbrev log : Log
  log = c.args.self.now

  abbrev w : World
  w = g.S.Outside.world c.args.store.now

  abbrev now : World
  now = g.S.Outside.world c.clear_range.new.store

  abbrev touched : Bool
  touched = c.clear_range.new.touched

  is_log : IsLog log
  is_log = subst IsLog c.self.view_is c.self.invariant

  some : log.place + 1 < log.clear_from
  some = omega (arith, c.if-self.false, ap (λ (l : Log). l.place) c.self.view_is, ap (λ (l : Log). l.clear_from) c.self.view_is)

  run : Runs log.file (TornFrom (log.place + 1) (log.clear_from - (log.place + 1)) (file_of log.file w)) w now
  run = subst (λ (l : Log). Runs l.file (TornFrom (l.place + 1) (l.clear_from - (l.place + 1)) (file_of l.file w)) w now) c.self.view_is c.clear_range.ensures.run

  untouched : touched ≡ false → (log.touched ≡ false) × Stays log.file w now
  untouched = subst (λ (l : Log). touched ≡ false → (l.touched ≡ false) × Stays l.file w now) c.self.view_is c.clear_range.ensures.untouched

  reads : ReadsImage (file_of log.file now)
  reads = g.met.S.Store.reads_image c.clear_range.new.store log.file

  left_run : Runs log.file (KeepsLists log.start log.end log.first (log.place + 1) (log.end - (log.place + 1)) (file_of log.file w)) w now
  left_run = tail_run log w now touched c.requires.stands is_log some run

  left_unwritten : log.touched ≡ false → IfSome (file_of log.file w) (λ f. AreZero (log.place + 1) log.end f.bytes) → Stays log.file w now
  left_unwritten = tail_unwritten log w now touched c.requires.stands is_log some run untouched (g.met.S.Store.reads_image c.args.store.now log.file)
      (subst (λ (l : Log). l.touched ≡ false → (f : File) → file_of l.file w ≡ Some f → l.clear_from ≤ length f.bytes → AreZero (l.place + 1) l.clear_from f.bytes → touched ≡ false) c.self.view_is c.clear_range.ensures.unwritten)

  left_untouched : log.touched ≡ false → IfSome (file_of log.file w) (λ f. AreZero (log.place + 1) log.end f.bytes → touched ≡ false)
  left_untouched = tail_untouched log w now touched c.requires.stands is_log some run (g.met.S.Store.reads_image c.args.store.now log.file)
      (subst (λ (l : Log). l.touched ≡ false → (f : File) → file_of l.file w ≡ Some f → l.clear_from ≤ length f.bytes → AreZero (l.place + 1) l.clear_from f.bytes → touched ≡ false) c.self.view_is c.clear_range.ensures.unwritten)

  -- after Ok
  abbrev IsZero : Log → Type 0
  IsZero l = ReadsZero (l.place + 1) l.clear_from (file_of l.file now)

  abbrev IsOnDisk : Log → Type 0
  IsOnDisk l = touched ≡ true → IsKept (file_of l.file now)

pub returns-in_err-clear_range-clause-behind : goal.returns-in_err-clear_range-clause-behind
returns-in_err-clear_range-clause-behind g c =
    let a = (goal.at.returns-in_err-clear_range-clause-behind g c).After-clear_range in
    record {
      run = left_run g a;
      stands =
          subst (λ (l : Log). Stands (half_log l (touched g a)) (file_of (log g a).file (now g a))) (sym c.self.view_is)
          (half_stands (log g a) (w g a) (now g a) (touched g a) c.requires.stands (is_log g a) (some g a) (run g a) (untouched g a) (reads g a));
      list =
          subst (λ (l : Log). list_of (half_log l (touched g a)) (file_of (log g a).file (now g a)) ≡ list_of (log g a) (file_of (log g a).file (w g a))) (sym c.self.view_is)
          (half_list (log g a) (w g a) (now g a) (touched g a) c.requires.stands (is_log g a) (some g a) (run g a) (untouched g a) (reads g a));
      same = search rules;
    }

pub returns-in_err-clear_range-clause-unwritten : goal.returns-in_err-clear_range-clause-unwritten
returns-in_err-clear_range-clause-unwritten g c = left_unwritten g (goal.at.returns-in_err-clear_range-clause-unwritten g c).After-clear_range

pub returns-in_err-clear_range-clause-untouched : goal.returns-in_err-clear_range-clause-untouched
returns-in_err-clear_range-clause-untouched g c = left_untouched g (goal.at.returns-in_err-clear_range-clause-untouched g c).After-clear_range

pub returns-clause-behind : goal.returns-clause-behind
returns-clause-behind g c =
    let a = (goal.at.returns-clause-behind g c).After-clear_range in
    let ok = c.in_ok-clear_range.ensures in
    record {
      run = left_run g a;
      stands =
          subst (λ (l : Log). Stands (cleared_log l) (file_of (log g a).file (now g a))) (sym c.self.view_is)
          (cleared_stands (log g a) (w g a) (now g a) (touched g a) c.requires.stands (is_log g a) (some g a) (run g a) (untouched g a) (reads g a)
          (subst (IsZero g a) c.self.view_is ok.zero) (subst (IsOnDisk g a) c.self.view_is ok.on_disk));
      list =
          subst (λ (l : Log). list_of (cleared_log l) (file_of (log g a).file (now g a)) ≡ list_of (log g a) (file_of (log g a).file (w g a))) (sym c.self.view_is)
          (cleared_list (log g a) (w g a) (now g a) (touched g a) c.requires.stands (is_log g a) (some g a) (run g a) (untouched g a) (reads g a)
          (subst (IsZero g a) c.self.view_is ok.zero) (subst (IsOnDisk g a) c.self.view_is ok.on_disk));
      same = search rules;
    }

pub returns-clause-unwritten : goal.returns-clause-unwritten
returns-clause-unwritten g c = left_unwritten g (goal.at.returns-clause-unwritten g c).After-clear_range
