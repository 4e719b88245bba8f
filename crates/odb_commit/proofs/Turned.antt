-- What is left of a book whose log was turned.
use Rattle.std.proofs.Common.{◌≡◌, ℕ, ◌+◌, Result, Ok, Err, None, refl, sym, ap, subst, ◌∙◌, arith}
use Rattle.std.specs.Prelude.{⊤}
use Rattle.odb_device.specs.World.{World}
use Rattle.odb_reclog.specs.Standing.{Log}
use Rattle.odb_transdb.specs.declared.error.TransdbError.{TransdbError}
use Rattle.odb_transdb.specs.declared.error.TransdbError.TheVariants as t
use Rattle.odb_transdb.specs.Standing.{Db}
use Rattle.odb_commit.specs.Parts.{Parts, count, IsAligned}
use Rattle.odb_commit.specs.Turned.{TurnsLog}

-- the active log goes on with the same number, and may be written
aligned_log : (old : Parts) (new : Db) → IsAligned old → old.halted ≡ None → new.active.next ≡ old.transdb.active.next → new.active.in_doubt ≡ old.transdb.active.in_doubt → IsAligned (record old { transdb = new })
aligned_log old new aligned settled next usable = record {
  ends = λ none. omega (arith, aligned.ends none, next);
  usable = λ none. usable ∙ aligned.usable none;
}

pub aligned_turned : (old : Parts) (result : Result ⊤ TransdbError) (new : Db) (before after : World) → IsAligned old → old.halted ≡ None → TurnsLog result old.transdb new before after → IsAligned (record old { transdb = new })
aligned_turned old (Ok done) new before after aligned settled log = record {
  ends = λ none. omega (arith, aligned.ends none, ap (λ (l : Log). l.next) log.turned.active);
  usable = λ none. ap (λ (l : Log). l.in_doubt) log.turned.active;
}
aligned_turned old (Err t.NotClean) new before after aligned settled log =
    let same = (log.not_clean refl).0 in
    aligned_log old new aligned settled (ap (λ (d : Db). d.active.next) same) (ap (λ (d : Db). d.active.in_doubt) same)
aligned_turned old (Err t.Fault) new before after aligned settled log =
    let same = (log.fault refl).active in
    aligned_log old new aligned settled (ap (λ (l : Log). l.next) same) (ap (λ (l : Log). l.in_doubt) same)
aligned_turned old (Err error) new before after aligned settled log = absurd log.answer
