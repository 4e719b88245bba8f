use Rattle.std.proofs.Common.{◌≡◌, ℕ, ◌-◌, ◌<◌, ◌≤◌, [], ◌∷◌, ◌++◌, Bool, true, false, drop, List, Ok, Err, Option, Result, refl, sym, ◌∙◌, ap, subst, arith}
use Rattle.std.specs.Prelude.{IfSome, nat_le}
use Rattle.std.proofs.lemmas.Result.{err_from_is_err_and}
use Rattle.std.proofs.lemmas.Bool.{leb-true, leb-false}
use Rattle.std.proofs.lemmas.List.{append-nil, drop_all}
use Rattle.odb_device.specs.World.{File, file_of}
use Rattle.odb_device.specs.Images.{ReadsImage}
use Rattle.odb_device.proofs.Time.{reads_then}
use Rattle.odb_reclog.specs.Standing.{Stands as LogStands}
use Rattle.odb_reclog.specs.Records.{log_of, IsPlaceIn, record_in}
use Rattle.odb_model.specs.declared.entry.Entry.{Entry}
use Rattle.odb_transdb.specs.declared.error.TransdbError.{TransdbError}
use Rattle.odb_transdb.specs.declared.error.TransdbError.TheVariants.{Damaged}
use Rattle.odb_transdb.specs.Opened.{entries_from}
use Rattle.odb_transdb.specs.Walking.{IsReadOf, IsRecordOf}
use Rattle.odb_transdb.proofs.Walking.{walked_some, walked_begun, walked_file, walked_place, refused_record, refused_entry, walked_more, walked_wrong}
use Rattle.odb_transdb.proofs.reading.add_entries.Goals as goal

pub loop-at-init : goal.loop-at-init
loop-at-init g c =
    walked_begun c.args.log.now c.args.from c.args.entries.now.items (g.S.Outside.world c.args.store.now) c.new-window.result c.args.beginning.at c.args.beginning.number c.requires.begin
    (c.new-window.ensures (file_of c.args.log.now.file (g.S.Outside.world c.args.store.now)))

-- what the record's call says of the file as it was at first
pub record_at-requires-clause-readable : goal.record_at-requires-clause-readable
record_at-requires-clause-readable g c =
    let log = c.args.log.now in
    let w = g.S.Outside.world c.args.store.now in
    let mid = g.S.Outside.world c.loop-at.store in
    let reads : ReadsImage (file_of log.file w) = g.met.S.Store.reads_image c.args.store.now log.file in
    let base = c.args.entries.now.items in
    let same = sym (walked_file log c.args.from base w mid c.loop-at.window c.loop-at.at c.loop-at.number c.loop-at.entries.items c.loop-at.invariant c.requires.stands reads) in
    record {
      usable = c.requires.usable;
      stands = subst (LogStands log) same c.requires.stands;
      low = c.loop-at.invariant.low;
      high = omega (arith, c.loop-at-test.true, c.place-end.ensures.value);
      place =
          subst (λ (o : Option File). IfSome o (λ f. IsPlaceIn log.start (log_of log.start log.end log.first f.bytes) c.loop-at.at)) same
          (walked_place log c.args.from base w mid c.loop-at.window c.loop-at.at c.loop-at.number c.loop-at.entries.items c.loop-at.invariant c.requires.stands reads);
    }

pub returns-in_err-record-clause-told : goal.returns-in_err-record-clause-told
returns-in_err-record-clause-told g c =
    let log = c.args.log.now in
    let w = g.S.Outside.world c.args.store.now in
    let mid = g.S.Outside.world c.loop-at.store in
    let reads : ReadsImage (file_of log.file w) = g.met.S.Store.reads_image c.args.store.now log.file in
    let base = c.args.entries.now.items in
    let items = c.loop-at.entries.items in
    let e = c.in_err-record.field-0.0 in
    let P : List Entry → Unit {0} → Type 0 = λ (all : List Entry) (done : Unit {0}). items ≡ base ++ drop (c.args.from - log.first) all in
    let told =
    subst (λ (o : Option File). IfSome o (λ f. IsRecordOf (record_in log.start log.first (log_of log.start log.end log.first f.bytes) c.loop-at.at) c.loop-at.at c.loop-at.number (Err e)))
    (walked_file log c.args.from base w mid c.loop-at.window c.loop-at.at c.loop-at.number items c.loop-at.invariant c.requires.stands reads) c.in_err-record.ensures.told in
    let p = err_from_is_err_and c.from_residual.result c.from_residual.ensures.1 in
    subst (λ (r : Result (Unit {0}) TransdbError). IfSome (file_of log.file w) (λ f. IsReadOf P (entries_from log.first log.start (log_of log.start log.end log.first f.bytes)) r)) (sym (p.1 ∙ ap Err p.2))
    (refused_record log c.args.from base w mid c.loop-at.window c.loop-at.at c.loop-at.number items c.loop-at.invariant c.requires.stands reads P e (omega (arith, c.place-end.ensures.value)) told)

pub returns-in_err-entry-clause-told : goal.returns-in_err-entry-clause-told
returns-in_err-entry-clause-told g c =
    let log = c.args.log.now in
    let w = g.S.Outside.world c.args.store.now in
    let mid = g.S.Outside.world c.loop-at.store in
    let reads : ReadsImage (file_of log.file w) = g.met.S.Store.reads_image c.args.store.now log.file in
    let base = c.args.entries.now.items in
    let items = c.loop-at.entries.items in
    let r = c.in_ok-record.record in
    let e = c.in_err-entry.field-0.0 in
    let P : List Entry → Unit {0} → Type 0 = λ (all : List Entry) (done : Unit {0}). items ≡ base ++ drop (c.args.from - log.first) all in
    let told =
    subst (λ (o : Option File). IfSome o (λ f. IsRecordOf (record_in log.start log.first (log_of log.start log.end log.first f.bytes) c.loop-at.at) c.loop-at.at c.loop-at.number (Ok r)))
    (walked_file log c.args.from base w mid c.loop-at.window c.loop-at.at c.loop-at.number items c.loop-at.invariant c.requires.stands reads) c.in_ok-record.ensures.told in
    let p = err_from_is_err_and c.from_residual-in_err-entry.result c.from_residual-in_err-entry.ensures.1 in
    subst (λ (r : Result (Unit {0}) TransdbError). IfSome (file_of log.file w) (λ f. IsReadOf P (entries_from log.first log.start (log_of log.start log.end log.first f.bytes)) r)) (sym (p.1 ∙ ap Err p.2))
    (refused_entry log c.args.from base w mid c.loop-at.window c.loop-at.at c.loop-at.number items c.loop-at.invariant c.requires.stands reads r (omega (arith, c.place-end.ensures.value)) told c.in_ok-record.ensures.found.0
    P e c.in_err-entry.ensures)

-- an entry is added where its number is `from` or above
added : (from number : ℕ) (items new : List Entry) (e : Entry) (wanted : Bool) → wanted ≡ nat_le from number → (wanted ≡ true → new ≡ items ++ e ∷ []) → (wanted ≡ false → new ≡ items) → new ≡ items ++ drop (from - number) (e ∷ [])
added from number items new e true is takes leaves =
    let low : from ≤ number = leb-true from number (sym is) in
    let none : from - number ≡ 0 = omega arith in
    takes refl ∙ ap (λ (n : ℕ). items ++ drop n (e ∷ [])) (sym none)
added from number items new e false is takes leaves =
    let high : number < from = leb-false from number (sym is) in
    let gone : drop (from - number) (e ∷ []) ≡ [] = drop_all (from - number) (e ∷ []) (omega arith) in
    leaves refl ∙ sym (ap (λ (l : List Entry). items ++ l) gone ∙ append-nil items)

pub loop-at-preserved : goal.loop-at-preserved
loop-at-preserved g c =
    let log = c.args.log.now in
    let w = g.S.Outside.world c.args.store.now in
    let mid = g.S.Outside.world c.loop-at.store in
    let reads : ReadsImage (file_of log.file w) = g.met.S.Store.reads_image c.args.store.now log.file in
    let base = c.args.entries.now.items in
    let items = c.loop-at.entries.items in
    let r = c.in_ok-record.record in
    let told =
    subst (λ (o : Option File). IfSome o (λ f. IsRecordOf (record_in log.start log.first (log_of log.start log.end log.first f.bytes) c.loop-at.at) c.loop-at.at c.loop-at.number (Ok r)))
    (walked_file log c.args.from base w mid c.loop-at.window c.loop-at.at c.loop-at.number items c.loop-at.invariant c.requires.stands reads) c.in_ok-record.ensures.told in
    let items_now : c.add_entry.new.entries.items ≡ items ++ drop (c.args.from - c.loop-at.number) (c.in_ok-entry.entry ∷ []) =
    added c.args.from c.loop-at.number items c.add_entry.new.entries.items c.in_ok-entry.entry (nat_le c.args.from c.loop-at.number) refl c.in_ok-add_entry.ensures.wanted c.in_ok-add_entry.ensures.other in
    walked_more log c.args.from base w mid c.loop-at.window c.loop-at.at c.loop-at.number items c.loop-at.invariant c.requires.stands reads r (omega (arith, c.place-end.ensures.value)) told c.in_ok-record.ensures.found.0
    (g.S.Outside.world c.record_at.new.store) c.record_at.new.window c.in_ok-entry.entry c.add_entry.new.entries.items c.in_ok-record.ensures.found.1 c.record_at.ensures.run c.in_ok-record.ensures.shows c.in_ok-record.ensures.found.3 c.in_ok-record.ensures.found.2
    c.in_ok-entry.ensures items_now

pub returns-then-number-next-clause-told : goal.returns-then-number-next-clause-told
returns-then-number-next-clause-told g c =
    let log = c.args.log.now in
    let w = g.S.Outside.world c.args.store.now in
    let mid = g.S.Outside.world c.loop-at.store in
    let reads : ReadsImage (file_of log.file w) = g.met.S.Store.reads_image c.args.store.now log.file in
    let base = c.args.entries.now.items in
    let P : List Entry → Unit {0} → Type 0 = λ (all : List Entry) (done : Unit {0}). c.loop-at.entries.items ≡ base ++ drop (c.args.from - log.first) all in
    walked_wrong log c.args.from base w mid c.loop-at.window c.loop-at.at c.loop-at.number c.loop-at.entries.items c.loop-at.invariant c.requires.stands reads (omega (arith, c.place-end.ensures.value))
    (λ f. IsReadOf P (entries_from log.first log.start (log_of log.start log.end log.first f.bytes)) (Err (Damaged c.loop-at.at)))
    (λ same. c.if-number-next.true (same ∙ sym c.next_number-next.ensures))

-- what was added so far, whatever ends the walk
pub returns-in_err-record-clause-some : goal.returns-in_err-record-clause-some
returns-in_err-record-clause-some g c =
    let log = c.args.log.now in
    let w = g.S.Outside.world c.args.store.now in
    walked_some log c.args.from c.args.entries.now.items w (g.S.Outside.world c.loop-at.store) c.loop-at.window c.loop-at.at c.loop-at.number c.loop-at.entries.items c.loop-at.invariant c.requires.stands
    (g.met.S.Store.reads_image c.args.store.now log.file) c.loop-at.entries.items refl

pub returns-in_err-entry-clause-some : goal.returns-in_err-entry-clause-some
returns-in_err-entry-clause-some g c =
    let log = c.args.log.now in
    let w = g.S.Outside.world c.args.store.now in
    walked_some log c.args.from c.args.entries.now.items w (g.S.Outside.world c.loop-at.store) c.loop-at.window c.loop-at.at c.loop-at.number c.loop-at.entries.items c.loop-at.invariant c.requires.stands
    (g.met.S.Store.reads_image c.args.store.now log.file) c.loop-at.entries.items refl

pub returns-in_err-add_entry-clause-some : goal.returns-in_err-add_entry-clause-some
returns-in_err-add_entry-clause-some g c =
    let log = c.args.log.now in
    let w = g.S.Outside.world c.args.store.now in
    walked_some log c.args.from c.args.entries.now.items w (g.S.Outside.world c.loop-at.store) c.loop-at.window c.loop-at.at c.loop-at.number c.loop-at.entries.items c.loop-at.invariant c.requires.stands
    (g.met.S.Store.reads_image c.args.store.now log.file) c.add_entry.new.entries.items c.in_err-add_entry.ensures.err

pub returns-then-number-next-clause-some : goal.returns-then-number-next-clause-some
returns-then-number-next-clause-some g c =
    let log = c.args.log.now in
    let w = g.S.Outside.world c.args.store.now in
    walked_some log c.args.from c.args.entries.now.items w (g.S.Outside.world c.loop-at.store) c.loop-at.window c.loop-at.at c.loop-at.number c.loop-at.entries.items c.loop-at.invariant c.requires.stands
    (g.met.S.Store.reads_image c.args.store.now log.file) c.loop-at.entries.items refl

pub returns-clause-some : goal.returns-clause-some
returns-clause-some g c =
    let log = c.args.log.now in
    let w = g.S.Outside.world c.args.store.now in
    walked_some log c.args.from c.args.entries.now.items w (g.S.Outside.world c.loop-at.store) c.loop-at.window c.loop-at.at c.loop-at.number c.loop-at.entries.items c.loop-at.invariant c.requires.stands
    (g.met.S.Store.reads_image c.args.store.now log.file) c.loop-at.entries.items refl

pub returns-in_err-record-clause-run : goal.returns-in_err-record-clause-run
returns-in_err-record-clause-run g c = reads_then c.args.log.now.file (g.S.Outside.world c.args.store.now) (g.S.Outside.world c.loop-at.store) (g.S.Outside.world c.record_at.new.store) c.loop-at.invariant.run c.record_at.ensures.run

pub returns-in_err-entry-clause-run : goal.returns-in_err-entry-clause-run
returns-in_err-entry-clause-run g c = reads_then c.args.log.now.file (g.S.Outside.world c.args.store.now) (g.S.Outside.world c.loop-at.store) (g.S.Outside.world c.record_at.new.store) c.loop-at.invariant.run c.record_at.ensures.run

pub returns-in_err-add_entry-clause-run : goal.returns-in_err-add_entry-clause-run
returns-in_err-add_entry-clause-run g c = reads_then c.args.log.now.file (g.S.Outside.world c.args.store.now) (g.S.Outside.world c.loop-at.store) (g.S.Outside.world c.record_at.new.store) c.loop-at.invariant.run c.record_at.ensures.run
