use Rattle.std.proofs.Common.{◌≡◌, ℕ, ◌+◌, ◌-◌, ◌<◌, ◌≤◌, [], ◌∷◌, ◌++◌, Bool, true, false, drop, List, None, Some, Ok, Err, Option, Result, refl, sym, ◌∙◌, ap, subst, inl, inr, arith}
use Rattle.std.specs.Prelude.{IfSome, nat_le}
use Rattle.std.proofs.lemmas.Result.{err_from_is_err_and}
use Rattle.std.proofs.lemmas.Bool.{leb-true}
use Rattle.odb_device.specs.World.{File, World, file_of}
use Rattle.odb_device.specs.Images.{ReadsImage}
use Rattle.odb_device.proofs.Time.{reads_then}
use Rattle.odb_reclog.specs.Standing.{Log, Stands as LogStands}
use Rattle.odb_reclog.specs.Records.{log_of, IsPlaceIn, record_in}
use Rattle.odb_model.specs.declared.entry.Entry.{Entry}
use Rattle.odb_transdb.specs.declared.error.TransdbError.{TransdbError}
use Rattle.odb_transdb.specs.Opened.{entries_from}
use Rattle.odb_transdb.specs.Walking.{log_entries, IsReadOf, IsRecordOf}
use Rattle.odb_transdb.specs.Runs.{IsRun, IsTaken, IsUndamaged, EndsWith}
use Rattle.odb_transdb.proofs.Runs.{undamaged}
use Rattle.odb_transdb.proofs.Running.{run_ended, run_went_on, added}
use Rattle.odb_transdb.proofs.Walking.{IsWalked, walked_some, walked_begun, walked_file, walked_place, refused_record, refused_entry, walked_more, walked_wrong}
use Rattle.odb_transdb.proofs.run.add_run.Given.{Over}
use Rattle.odb_transdb.proofs.run.add_run.Goals as goal
use Rattle.odb_transdb.proofs.run.add_run.Goals.{After-take}

pub loop-at-init : goal.loop-at-init
loop-at-init g c = record {
  walked = walked_begun c.args.log.now c.args.from c.args.run.now.entries.items (g.S.Outside.world c.args.store.now) c.new-window.result c.args.beginning.at c.args.beginning.number c.requires.begin
      (c.new-window.ensures (file_of c.args.log.now.file (g.S.Outside.world c.args.store.now)));
  run = c.requires.is_run;
  most = refl;
}

-- what the record's call says of the file as it was at first
pub record_at-requires-clause-readable : goal.record_at-requires-clause-readable
record_at-requires-clause-readable g c =
    let log = c.args.log.now in
    let w = g.S.Outside.world c.args.store.now in
    let mid = g.S.Outside.world c.loop-at.store in
    let reads : ReadsImage (file_of log.file w) = g.met.S.Store.reads_image c.args.store.now log.file in
    let base = c.args.run.now.entries.items in
    let same = sym (walked_file log c.args.from base w mid c.loop-at.window c.loop-at.at c.loop-at.number c.loop-at.run.entries.items c.loop-at.invariant.walked c.requires.stands reads) in
    record {
      usable = c.requires.usable;
      stands = subst (LogStands log) same c.requires.stands;
      low = c.loop-at.invariant.walked.low;
      high = omega (arith, c.loop-at-test.true, c.place-end.ensures.value);
      place =
          subst (λ (o : Option File). IfSome o (λ f. IsPlaceIn log.start (log_of log.start log.end log.first f.bytes) c.loop-at.at)) same
          (walked_place log c.args.from base w mid c.loop-at.window c.loop-at.at c.loop-at.number c.loop-at.run.entries.items c.loop-at.invariant.walked c.requires.stands reads);
    }

-- where all are entries a refusal is no damage
refused : (r : Result Bool TransdbError) (e : TransdbError) (o : Option File) (log : Log) (base items : List Entry) (from most : ℕ) → r ≡ Err e → IfSome o (λ f. IsReadOf {T = Unit {0}} (λ all done. Unit {0}) (entries_from log.first log.start (log_of log.start log.end log.first f.bytes)) (Err e))
    → IfSome o (λ f. (all : List Entry) → log_entries log f.bytes ≡ Ok all → IsUndamaged (λ over. IsTaken most over (base ++ drop (from - log.first) all) items) r)
refused r e None log base items from most is told = tt
refused r e (Some f) log base items from most is told = λ all whole.
    subst (IsUndamaged (λ over. IsTaken most over (base ++ drop (from - log.first) all) items)) (sym is)
    (undamaged {T = Unit {0}} (λ all done. Unit {0}) (λ over. IsTaken most over (base ++ drop (from - log.first) all) items) (log_entries log f.bytes) all e whole told)

pub returns-in_err-record-clause-told : goal.returns-in_err-record-clause-told
returns-in_err-record-clause-told g c =
    let log = c.args.log.now in
    let w = g.S.Outside.world c.args.store.now in
    let mid = g.S.Outside.world c.loop-at.store in
    let reads : ReadsImage (file_of log.file w) = g.met.S.Store.reads_image c.args.store.now log.file in
    let base = c.args.run.now.entries.items in
    let items = c.loop-at.run.entries.items in
    let e = c.in_err-record.field-0.0 in
    let told =
    subst (λ (o : Option File). IfSome o (λ f. IsRecordOf (record_in log.start log.first (log_of log.start log.end log.first f.bytes) c.loop-at.at) c.loop-at.at c.loop-at.number (Err e)))
    (walked_file log c.args.from base w mid c.loop-at.window c.loop-at.at c.loop-at.number items c.loop-at.invariant.walked c.requires.stands reads) c.in_err-record.ensures.told in
    let p = err_from_is_err_and c.from_residual.result c.from_residual.ensures.1 in
    refused c.from_residual.result e (file_of log.file w) log base items c.args.from c.args.run.now.most (p.1 ∙ ap Err p.2)
    (refused_record log c.args.from base w mid c.loop-at.window c.loop-at.at c.loop-at.number items c.loop-at.invariant.walked c.requires.stands reads {T = Unit {0}} (λ all done. Unit {0}) e (omega (arith, c.place-end.ensures.value)) told)

pub returns-in_err-entry-clause-told : goal.returns-in_err-entry-clause-told
returns-in_err-entry-clause-told g c =
    let log = c.args.log.now in
    let w = g.S.Outside.world c.args.store.now in
    let mid = g.S.Outside.world c.loop-at.store in
    let reads : ReadsImage (file_of log.file w) = g.met.S.Store.reads_image c.args.store.now log.file in
    let base = c.args.run.now.entries.items in
    let items = c.loop-at.run.entries.items in
    let r = c.in_ok-record.record in
    let e = c.in_err-entry.field-0.0 in
    let told =
    subst (λ (o : Option File). IfSome o (λ f. IsRecordOf (record_in log.start log.first (log_of log.start log.end log.first f.bytes) c.loop-at.at) c.loop-at.at c.loop-at.number (Ok r)))
    (walked_file log c.args.from base w mid c.loop-at.window c.loop-at.at c.loop-at.number items c.loop-at.invariant.walked c.requires.stands reads) c.in_ok-record.ensures.told in
    let p = err_from_is_err_and c.from_residual-in_err-entry.result c.from_residual-in_err-entry.ensures.1 in
    refused c.from_residual-in_err-entry.result e (file_of log.file w) log base items c.args.from c.args.run.now.most (p.1 ∙ ap Err p.2)
    (refused_entry log c.args.from base w mid c.loop-at.window c.loop-at.at c.loop-at.number items c.loop-at.invariant.walked c.requires.stands reads r (omega (arith, c.place-end.ensures.value)) told c.in_ok-record.ensures.found.0
    {T = Unit {0}} (λ all done. Unit {0}) e c.in_err-entry.ensures)

-- one record on
module _ (g : Over) (c : After-take g) where
  abbrev log : Log
  log = c.args.log.now

  abbrev w : World
  w = g.S.Outside.world c.args.store.now

  abbrev mid : World
  mid = g.S.Outside.world c.loop-at.store

  reads : ReadsImage (file_of log.file w)
  reads = g.met.S.Store.reads_image c.args.store.now log.file

  told : IfSome (file_of log.file w) (λ f. IsRecordOf (record_in log.start log.first (log_of log.start log.end log.first f.bytes) c.loop-at.at) c.loop-at.at c.loop-at.number (Ok c.in_ok-record.record))
  told =
      subst (λ (o : Option File). IfSome o (λ f. IsRecordOf (record_in log.start log.first (log_of log.start log.end log.first f.bytes) c.loop-at.at) c.loop-at.at c.loop-at.number (Ok c.in_ok-record.record)))
      (walked_file log c.args.from c.args.run.now.entries.items w mid c.loop-at.window c.loop-at.at c.loop-at.number c.loop-at.run.entries.items c.loop-at.invariant.walked c.requires.stands reads) c.in_ok-record.ensures.told

  further : c.loop-at.at < log.place → (items : List Entry) → items ≡ c.loop-at.run.entries.items ++ drop (c.args.from - c.loop-at.number) (c.in_ok-entry.entry ∷ [])
      → IsWalked log c.args.from c.args.run.now.entries.items w (g.S.Outside.world c.record_at.new.store) c.record_at.new.window c.in_ok-record.record.next (c.loop-at.number + 1) items
  further inside items items_now =
      walked_more log c.args.from c.args.run.now.entries.items w mid c.loop-at.window c.loop-at.at c.loop-at.number c.loop-at.run.entries.items c.loop-at.invariant.walked c.requires.stands reads c.in_ok-record.record inside told c.in_ok-record.ensures.found.0
      (g.S.Outside.world c.record_at.new.store) c.record_at.new.window c.in_ok-entry.entry items c.in_ok-record.ensures.found.1 c.record_at.ensures.run c.in_ok-record.ensures.shows c.in_ok-record.ensures.found.3 c.in_ok-record.ensures.found.2
      c.in_ok-entry.ensures items_now

  -- it was wanted, where it ended the run
  is_wanted : c.take.result ≡ Ok true → c.args.from ≤ c.loop-at.number
  is_wanted over = of_test (nat_le c.args.from c.loop-at.number) refl (λ same. (c.take.ensures.unwanted same).0)
    where
      of_test : (b : Bool) → b ≡ nat_le c.args.from c.loop-at.number → (b ≡ false → c.take.result ≡ Ok false) → c.args.from ≤ c.loop-at.number
      of_test true same left = leb-true c.args.from c.loop-at.number (sym same)
      of_test false same left = let wrong : Ok true ≡ Ok false = sym over ∙ left refl in absurd (cc wrong)

pub take-requires : goal.take-requires
take-requires g c = subst (λ (m : ℕ). IsRun m c.loop-at.run.left c.loop-at.run.entries.items) (sym c.loop-at.invariant.most) c.loop-at.invariant.run

pub loop-at-preserved : goal.loop-at-preserved
loop-at-preserved g c =
    let a = (goal.at.loop-at-preserved g c).After-take in
    let went_on : c.take.result ≡ Ok false = c.in_ok-take.was ∙ ap Ok c.if-branch.false in
    let e = c.in_ok-entry.entry in
    let items = c.loop-at.run.entries.items in
    let new = c.take.new.run.entries.items in
    let items_now : new ≡ items ++ drop (c.args.from - c.loop-at.number) (e ∷ []) =
    added c.args.from c.loop-at.number items new e (nat_le c.args.from c.loop-at.number) refl (λ wanted. c.take.ensures.goes_on went_on wanted) (λ unwanted. (c.take.ensures.unwanted unwanted).1) in
    record {
      walked = further g a (omega (arith, c.loop-at-test.true, c.place-end.ensures.value)) new items_now;
      run = subst (λ (m : ℕ). IsRun m c.take.new.run.left c.take.new.run.entries.items) (c.take.ensures.most ∙ c.loop-at.invariant.most) (c.take.ensures.is_run went_on);
      most = c.take.ensures.most ∙ c.loop-at.invariant.most;
    }

pub returns-then-branch-clause-told : goal.returns-then-branch-clause-told
returns-then-branch-clause-told g c =
    let a = (goal.at.returns-then-branch-clause-told g c).After-take in
    let over : c.take.result ≡ Ok true = c.in_ok-take.was ∙ ap Ok c.if-branch.true in
    run_ended (log g a) c.args.from c.args.run.now.entries.items (w g a) (mid g a) c.loop-at.window c.loop-at.at c.loop-at.number c.loop-at.run.entries.items c.loop-at.invariant.walked c.requires.stands (reads g a) c.args.run.now.most c.in_ok-record.record
    (omega (arith, c.loop-at-test.true, c.place-end.ensures.value)) (told g a) c.in_ok-record.ensures.found.0 c.in_ok-entry.entry c.in_ok-entry.ensures (is_wanted g a over) c.take.new.run.entries.items
    (subst (λ (m : ℕ). EndsWith m c.loop-at.run.entries.items c.in_ok-entry.entry c.take.new.run.entries.items) c.loop-at.invariant.most (c.take.ensures.over over))

pub returns-then-branch-clause-some : goal.returns-then-branch-clause-some
returns-then-branch-clause-some g c =
    let a = (goal.at.returns-then-branch-clause-some g c).After-take in
    let over : c.take.result ≡ Ok true = c.in_ok-take.was ∙ ap Ok c.if-branch.true in
    let base = c.args.run.now.entries.items in
    let items = c.loop-at.run.entries.items in
    let new = c.take.new.run.entries.items in
    let e = c.in_ok-entry.entry in
    elim c.in_ok-take.ensures.last [
      | inl same ↦ walked_some (log g a) c.args.from base (w g a) (mid g a) c.loop-at.window c.loop-at.at c.loop-at.number items c.loop-at.invariant.walked c.requires.stands (reads g a) new same
      | inr more ↦
          let wanted = is_wanted g a over in
          let none : c.args.from - c.loop-at.number ≡ 0 = omega arith in
          let items_now : new ≡ items ++ drop (c.args.from - c.loop-at.number) (e ∷ []) = more ∙ ap (λ (n : ℕ). items ++ drop n (e ∷ [])) (sym none) in
          walked_some (log g a) c.args.from base (w g a) (g.S.Outside.world c.record_at.new.store) c.record_at.new.window c.in_ok-record.record.next (c.loop-at.number + 1) new
          (further g a (omega (arith, c.loop-at-test.true, c.place-end.ensures.value)) new items_now) c.requires.stands (reads g a) new refl
    ]

pub returns-then-number-next-clause-told : goal.returns-then-number-next-clause-told
returns-then-number-next-clause-told g c =
    let log = c.args.log.now in
    let w = g.S.Outside.world c.args.store.now in
    let mid = g.S.Outside.world c.loop-at.store in
    let reads : ReadsImage (file_of log.file w) = g.met.S.Store.reads_image c.args.store.now log.file in
    let base = c.args.run.now.entries.items in
    walked_wrong log c.args.from base w mid c.loop-at.window c.loop-at.at c.loop-at.number c.loop-at.run.entries.items c.loop-at.invariant.walked c.requires.stands reads (omega (arith, c.place-end.ensures.value)) _
    (λ same. c.if-number-next.true (same ∙ sym c.next_number-next.ensures))

pub returns-clause-told : goal.returns-clause-told
returns-clause-told g c =
    let log = c.args.log.now in
    let w = g.S.Outside.world c.args.store.now in
    run_went_on log c.args.from c.args.run.now.entries.items w (g.S.Outside.world c.loop-at.store) c.loop-at.window c.loop-at.at c.loop-at.number c.loop-at.run.entries.items c.loop-at.invariant.walked c.requires.stands
    (g.met.S.Store.reads_image c.args.store.now log.file) (omega (arith, c.place-end.ensures.value, c.loop-at-test.false))

-- what was added so far, whatever ends the walk
pub returns-in_err-record-clause-some : goal.returns-in_err-record-clause-some
returns-in_err-record-clause-some g c =
    let log = c.args.log.now in
    let w = g.S.Outside.world c.args.store.now in
    walked_some log c.args.from c.args.run.now.entries.items w (g.S.Outside.world c.loop-at.store) c.loop-at.window c.loop-at.at c.loop-at.number c.loop-at.run.entries.items c.loop-at.invariant.walked c.requires.stands
    (g.met.S.Store.reads_image c.args.store.now log.file) c.loop-at.run.entries.items refl

pub returns-in_err-entry-clause-some : goal.returns-in_err-entry-clause-some
returns-in_err-entry-clause-some g c =
    let log = c.args.log.now in
    let w = g.S.Outside.world c.args.store.now in
    walked_some log c.args.from c.args.run.now.entries.items w (g.S.Outside.world c.loop-at.store) c.loop-at.window c.loop-at.at c.loop-at.number c.loop-at.run.entries.items c.loop-at.invariant.walked c.requires.stands
    (g.met.S.Store.reads_image c.args.store.now log.file) c.loop-at.run.entries.items refl

pub returns-in_err-take-clause-some : goal.returns-in_err-take-clause-some
returns-in_err-take-clause-some g c =
    let log = c.args.log.now in
    let w = g.S.Outside.world c.args.store.now in
    walked_some log c.args.from c.args.run.now.entries.items w (g.S.Outside.world c.loop-at.store) c.loop-at.window c.loop-at.at c.loop-at.number c.loop-at.run.entries.items c.loop-at.invariant.walked c.requires.stands
    (g.met.S.Store.reads_image c.args.store.now log.file) c.take.new.run.entries.items c.in_err-take.ensures.err

pub returns-then-number-next-clause-some : goal.returns-then-number-next-clause-some
returns-then-number-next-clause-some g c =
    let log = c.args.log.now in
    let w = g.S.Outside.world c.args.store.now in
    walked_some log c.args.from c.args.run.now.entries.items w (g.S.Outside.world c.loop-at.store) c.loop-at.window c.loop-at.at c.loop-at.number c.loop-at.run.entries.items c.loop-at.invariant.walked c.requires.stands
    (g.met.S.Store.reads_image c.args.store.now log.file) c.loop-at.run.entries.items refl

pub returns-clause-some : goal.returns-clause-some
returns-clause-some g c =
    let log = c.args.log.now in
    let w = g.S.Outside.world c.args.store.now in
    walked_some log c.args.from c.args.run.now.entries.items w (g.S.Outside.world c.loop-at.store) c.loop-at.window c.loop-at.at c.loop-at.number c.loop-at.run.entries.items c.loop-at.invariant.walked c.requires.stands
    (g.met.S.Store.reads_image c.args.store.now log.file) c.loop-at.run.entries.items refl

pub returns-in_err-record-clause-run : goal.returns-in_err-record-clause-run
returns-in_err-record-clause-run g c = reads_then c.args.log.now.file (g.S.Outside.world c.args.store.now) (g.S.Outside.world c.loop-at.store) (g.S.Outside.world c.record_at.new.store) c.loop-at.invariant.walked.run c.record_at.ensures.run

pub returns-in_err-entry-clause-run : goal.returns-in_err-entry-clause-run
returns-in_err-entry-clause-run g c = reads_then c.args.log.now.file (g.S.Outside.world c.args.store.now) (g.S.Outside.world c.loop-at.store) (g.S.Outside.world c.record_at.new.store) c.loop-at.invariant.walked.run c.record_at.ensures.run

pub returns-in_err-take-clause-run : goal.returns-in_err-take-clause-run
returns-in_err-take-clause-run g c = reads_then c.args.log.now.file (g.S.Outside.world c.args.store.now) (g.S.Outside.world c.loop-at.store) (g.S.Outside.world c.record_at.new.store) c.loop-at.invariant.walked.run c.record_at.ensures.run

pub returns-then-branch-clause-run : goal.returns-then-branch-clause-run
returns-then-branch-clause-run g c = reads_then c.args.log.now.file (g.S.Outside.world c.args.store.now) (g.S.Outside.world c.loop-at.store) (g.S.Outside.world c.record_at.new.store) c.loop-at.invariant.walked.run c.record_at.ensures.run
