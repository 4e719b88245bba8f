use Rattle.std.proofs.Common.{◌≡◌, ◌++◌, [], ◌∷◌, refl, sym, subst, rules}
use Rattle.std.specs.Prelude.{IfSome}
use Rattle.odb_device.specs.World.{World, file_of}
use Rattle.odb_device.specs.Images.{TornFrom}
use Rattle.odb_device.specs.Calls.{IsOnePut, Puts}
use Rattle.odb_device.specs.Moments.{Runs}
use Rattle.odb_reclog.specs.Records.{OPEN, log_of}
use Rattle.odb_reclog.specs.Standing.{Log, Stands, list_of, body_of}
use Rattle.odb_reclog.proofs.Standing.{opened_log}
use Rattle.odb_reclog.proofs.Files.{opening_run, opened_stands, opened_reads}
use Rattle.odb_reclog.proofs.log.RecLog.open_gate.Goals as goal

-- what the write and the sync leave, of the log as its caller sees it
abbrev Opens : World → World → Log → Type 0
Opens w now log = Runs log.file (TornFrom log.place 1 (file_of log.file w)) w now

abbrev IsOpen : World → World → Log → Type 0
IsOpen w now log = Puts log.file log.place (OPEN ∷ []) w now

abbrev Calls : World → World → Log → Type 0
Calls w now log = IsOnePut log.file log.place (OPEN ∷ []) w now

pub returns-in_err-write_synced-clause-calls : goal.returns-in_err-write_synced-clause-calls
returns-in_err-write_synced-clause-calls g c = subst (Calls (g.S.Outside.world c.args.store.now) (g.S.Outside.world c.write_synced.new.store)) c.self.view_is c.write_synced.ensures.calls

pub returns-clause-calls : goal.returns-clause-calls
returns-clause-calls g c = subst (Calls (g.S.Outside.world c.args.store.now) (g.S.Outside.world c.write_synced.new.store)) c.self.view_is c.write_synced.ensures.calls

pub returns-in_err-write_synced-clause-run : goal.returns-in_err-write_synced-clause-run
returns-in_err-write_synced-clause-run g c =
    let w = g.S.Outside.world c.args.store.now in
    let now = g.S.Outside.world c.write_synced.new.store in
    opening_run c.args.self.now w now c.requires.ready.stands c.requires.ready.body (subst (Opens w now) c.self.view_is c.write_synced.ensures.run)

pub returns-clause-run : goal.returns-clause-run
returns-clause-run g c =
    let w = g.S.Outside.world c.args.store.now in
    let now = g.S.Outside.world c.write_synced.new.store in
    opening_run c.args.self.now w now c.requires.ready.stands c.requires.ready.body (subst (Opens w now) c.self.view_is c.write_synced.ensures.run)

pub returns-clause-added : goal.returns-clause-added
returns-clause-added g c =
    let log = c.args.self.now in
    let w = g.S.Outside.world c.args.store.now in
    let now = g.S.Outside.world c.write_synced.new.store in
    let before = g.met.S.Store.reads_image c.args.store.now log.file in
    let after = g.met.S.Store.reads_image c.write_synced.new.store log.file in
    let done = subst (IsOpen w now) c.self.view_is c.in_ok-write_synced.ensures.done in
    record {
      stands =
          subst (λ (l : Log). Stands (opened_log l) (file_of log.file now)) (sym c.self.view_is)
          (opened_stands log w now c.requires.ready.stands c.requires.ready.body before after done);
      list =
          subst (λ (l : Log). IfSome (file_of log.file now) (λ f. log_of l.start l.end l.first f.bytes ≡ list_of log (file_of log.file w) ++ body_of log (file_of log.file w) ∷ [])) (sym c.self.view_is)
          (opened_reads log w now c.requires.ready.stands c.requires.ready.body before after done);
      next = search rules;
      place = search rules;
      clear = search rules;
      has_body = refl;
      usable = refl;
    }
