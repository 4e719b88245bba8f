-- Which bytes a cleaning writes.
use Rattle.std.proofs.Common.{◌≡◌, inl, inr, ℕ, ◌+◌, refl, arith}
use Rattle.odb_device.specs.World.{World, file_of}
use Rattle.odb_device.specs.Images.{TornFrom}
use Rattle.odb_device.specs.TornSets.{TornInFrom}
use Rattle.odb_device.specs.Moments.{Runs, WritesWithin}
use Rattle.odb_device.proofs.Time.{begins, joins, weakens, run_end}
use Rattle.odb_device.proofs.TornSets.{from_none, from_in_then}
use Rattle.odb_device.proofs.Writing.{run_inside}
use Rattle.odb_transdb.specs.declared.header.Header.{Header}
use Rattle.odb_transdb.specs.Header.{side_start, side_end, other_of}
use Rattle.odb_transdb.specs.Turning.{IsOfOther, WritesOther}

module _ (h : Header) where
  abbrev end : ℕ
  end = side_end h (other_of h)

  abbrev At : World → World → Type 0
  At old new = TornInFrom (IsOfOther h) end (file_of 0 old) (file_of 0 new)

  -- nothing
  pub other_still : (w : World) → WritesOther h w w
  other_still w = begins 0 (TornInFrom (IsOfOther h) end (file_of 0 w)) w (from_none (IsOfOther h) end (file_of 0 w) (file_of 0 w) refl)

  -- the pair
  pub other_pair : (w now : World) → WritesWithin 0 0 1024 w now → WritesOther h w now
  other_pair w now run = run_inside (IsOfOther h) end 0 0 1024 w now (λ i range. inl range.1) (omega arith) run

  -- the side
  pub other_side : (at n : ℕ) (w now : World) → at ≡ side_start h (other_of h) → at + n ≡ end → Runs 0 (TornFrom at n (file_of 0 w)) w now → WritesOther h w now
  other_side at n w now here whole run = run_inside (IsOfOther h) end 0 at n w now (λ i range. inr (omega (arith, here, range.0), omega (arith, whole, range.1))) (omega (arith, whole)) run

  -- and one behind another
  pub other_then : (w mid now : World) → WritesOther h w mid → WritesOther h mid now → WritesOther h w now
  other_then w mid now first second =
      let P = TornInFrom (IsOfOther h) end (file_of 0 w) in
      joins 0 P w mid now first
      (weakens 0 (TornInFrom (IsOfOther h) end (file_of 0 mid)) P mid now (λ o torn. from_in_then (IsOfOther h) end (file_of 0 w) (file_of 0 mid) o (run_end 0 P w mid first) torn) second)
