use Rattle.std.proofs.Common.{◌≡◌, ℕ, length, refl, sym, subst}
use Rattle.odb_device.specs.World.{World, file_of}
use Rattle.odb_device.specs.Images.{TornFrom}
use Rattle.odb_device.specs.Moments.{Runs}
use Rattle.odb_device.proofs.Time.{begins, goes_on}
use Rattle.odb_device.proofs.Torn.{stays_from}
use Rattle.odb_reclog.proofs.writing.clear_piece.Goals as goal
use Rattle.odb_reclog.proofs.writing.clear_piece.Goals.{else-not-all-via-then-not-all+in_ok-is_zero+else-branch, else-not-all-via-else-not-all}

-- up to a world in which the file is as before
abbrev Looked : ℕ → ℕ → ℕ → World → World → Type 0
Looked file at n w mid = Runs file (TornFrom at n (file_of file w)) w mid × (file_of file mid ≡ file_of file w)

pub returns-clause-run : goal.returns-clause-run
returns-clause-run g c =
    let file = c.args.file in
    let at = c.args.at in
    let n = length c.args.piece.now in
    let w = g.S.Outside.world c.args.store.now in
    let mid = g.S.Outside.world c.else-not-all.store in
    let now = g.S.Outside.world c.write_zeros.new.store in
    let P = TornFrom at n (file_of file w) in
    let start : Runs file P w w = begins file P w (stays_from at n (file_of file w) (file_of file w) refl) in
    let looked : Looked file at n w mid = elim c.else-not-all.branch [
      | else-not-all-via-then-not-all+in_ok-is_zero+else-branch b ↦
          let read = g.S.Outside.world b.is_zero.new.store in
          subst (λ s. Looked file at n w (g.S.Outside.world s)) (sym b.store-is)
          (goes_on file P w w read start b.is_zero.ensures.call (stays_from at n (file_of file w) (file_of file read) b.is_zero.ensures.same), b.is_zero.ensures.same)
      | else-not-all-via-else-not-all b ↦ subst (λ s. Looked file at n w (g.S.Outside.world s)) (sym b.store-is) (start, refl)
    ] in
    goes_on file P w mid now looked.0 c.write_zeros.ensures.call
    (subst (λ o. TornFrom at n o (file_of file now)) looked.1 (subst (λ (k : ℕ). TornFrom at k (file_of file mid) (file_of file now)) c.else-not-all.auto.piece c.write_zeros.ensures.torn))
