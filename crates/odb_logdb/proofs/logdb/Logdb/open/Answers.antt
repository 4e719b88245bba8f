use Rattle.std.proofs.Common.{◌≡◌, Result, Ok, Err, sym, ◌∙◌, ap, subst}
use Rattle.std.specs.Prelude.{IfSome, option_map}
use Rattle.std.proofs.lemmas.Result.{err_from_is_err_and}
use Rattle.odb_device.specs.World.{file_of}
use Rattle.odb_device.specs.Images.{kept}
use Rattle.odb_device.proofs.Time.{rose_behind}
use Rattle.odb_extent.specs.Opened.{Holds as ExtentsHold}
use Rattle.odb_extent.specs.Standing.{limit_of, fields_of}
use Rattle.odb_logdb.specs.declared.error.LogdbError.{LogdbError}
use Rattle.odb_logdb.specs.declared.error.LogdbError.TheVariants.{Fault}
use Rattle.odb_logdb.specs.Opened.{MOST, opened}
use Rattle.odb_logdb.specs.Standing.{LogState}
use Rattle.odb_logdb.specs.Answers.{IsOpenAnswer}
use Rattle.odb_logdb.proofs.Based.{sync_run, open_run, is_kept, kept_told, told_kept}
use Rattle.odb_logdb.proofs.Gates.{gate_still, gate_synced}
use Rattle.odb_logdb.proofs.Opens.{pair_refused, none_refused}
use Rattle.odb_logdb.proofs.logdb.Logdb.open.Given.{Over}
use Rattle.odb_logdb.proofs.logdb.Logdb.open.Goals as goal
use Rattle.odb_logdb.proofs.logdb.Logdb.open.Goals.{In_ok-extents}

-- the pair was found, so all is on the disk
on_disk : (g : Over) (c : In_ok-extents g) → file_of 1 (g.S.Outside.world c.open_extents.new.store) ≡ option_map kept (file_of 1 (g.S.Outside.world c.args.store.now))
on_disk g c = c.in_ok-extents.ensures.kept (λ (e : Ok c.in_ok-extents.extents ≡ Err Fault). absurd (cc e))

pub returns-in_err-extents-clause-answer : goal.returns-in_err-extents-clause-answer
returns-in_err-extents-clause-answer g c =
    let o = file_of 1 (g.S.Outside.world c.args.store.now) in
    let err = c.in_err-extents.field-0.0 in
    let p = err_from_is_err_and c.from_residual.result c.from_residual.ensures.1 in
    subst (λ (r : Result LogState LogdbError). IfSome o (λ f. IsOpenAnswer r (opened f.bytes))) (sym (p.1 ∙ ap Err p.2)) (pair_refused o err c.in_err-extents.ensures.answer)

pub returns-in_err-extents-clause-leaves : goal.returns-in_err-extents-clause-leaves
returns-in_err-extents-clause-leaves g c = sync_run (g.S.Outside.world c.args.store.now) (g.S.Outside.world c.open_extents.new.store) c.open_extents.ensures.run

pub open_content-requires : goal.open_content-requires
open_content-requires g c =
    let disk = on_disk g (goal.at.open_content-requires g c).In_ok-extents in
    let o = file_of 1 (g.S.Outside.world c.args.store.now) in
    let now = file_of 1 (g.S.Outside.world c.open_extents.new.store) in
    let e = c.in_ok-extents.extents in
    record {
      found = record {
        file = c.in_ok-extents.ensures.found.0;
        most = c.in_ok-extents.ensures.found.1;
        fields = sym c.fields_in.ensures ∙ c.in-Some.is;
        settled = c.in_ok-extents.ensures.settled;
        kept = is_kept o now disk;
        stands = c.in_ok-extents.ensures.stands;
        found = kept_told (ExtentsHold MOST (limit_of e) (fields_of e)) o now disk c.in_ok-extents.ensures.answer;
      };
    }

pub returns-in-Some-clause-answer : goal.returns-in-Some-clause-answer
returns-in-Some-clause-answer g c =
    let disk = on_disk g (goal.at.returns-in-Some-clause-answer g c).In_ok-extents in
    told_kept (λ bytes. IsOpenAnswer c.open_content.result (opened bytes)) (file_of 1 (g.S.Outside.world c.args.store.now)) (file_of 1 (g.S.Outside.world c.open_extents.new.store)) disk c.open_content.ensures.answer

pub returns-in-Some-clause-leaves : goal.returns-in-Some-clause-leaves
returns-in-Some-clause-leaves g c =
    let disk = on_disk g (goal.at.returns-in-Some-clause-leaves g c).In_ok-extents in
    open_run (g.S.Outside.world c.args.store.now) (g.S.Outside.world c.open_extents.new.store) (g.S.Outside.world c.open_content.new.store) (g.met.S.Store.reads_image c.args.store.now 1) c.open_extents.ensures.run disk c.open_content.ensures.leaves

pub returns-in-Some-clause-cause : goal.returns-in-Some-clause-cause
returns-in-Some-clause-cause g c = λ e.
    rose_behind 1 1 (g.S.Outside.world c.args.store.now) (g.S.Outside.world c.open_extents.new.store) (g.S.Outside.world c.open_content.new.store) c.open_extents.ensures.run.only (c.open_content.ensures.cause e)

pub returns-in-None-clause-answer : goal.returns-in-None-clause-answer
returns-in-None-clause-answer g c =
    none_refused c.in_ok-extents.extents (file_of 1 (g.S.Outside.world c.args.store.now)) c.in_ok-extents.ensures.answer (sym c.fields_in.ensures ∙ c.in-None.is)

pub returns-in-None-clause-leaves : goal.returns-in-None-clause-leaves
returns-in-None-clause-leaves g c = sync_run (g.S.Outside.world c.args.store.now) (g.S.Outside.world c.open_extents.new.store) c.open_extents.ensures.run

pub returns-in_err-extents-clause-gate : goal.returns-in_err-extents-clause-gate
returns-in_err-extents-clause-gate g c = gate_still (g.S.Outside.world c.args.store.now) (g.S.Outside.world c.open_extents.new.store) c.open_extents.ensures.run

pub returns-in-Some-clause-gate : goal.returns-in-Some-clause-gate
returns-in-Some-clause-gate g c =
    let disk = on_disk g (goal.at.returns-in-Some-clause-gate g c).In_ok-extents in
    gate_synced (g.S.Outside.world c.args.store.now) (g.S.Outside.world c.open_extents.new.store) (g.S.Outside.world c.open_content.new.store) (g.met.S.Store.reads_image c.args.store.now 1) c.open_extents.ensures.run disk c.open_content.ensures.gate

pub returns-in-None-clause-gate : goal.returns-in-None-clause-gate
returns-in-None-clause-gate g c = gate_still (g.S.Outside.world c.args.store.now) (g.S.Outside.world c.open_extents.new.store) c.open_extents.ensures.run
