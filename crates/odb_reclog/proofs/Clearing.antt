-- The pieces of a range that is made zeros, one behind another.
use Rattle.std.proofs.Common.{◌≡◌, ℕ, ◌+◌, ◌-◌, ◌≤◌, Bool, false, length, Option, Some, None, Result, refl, ◌∙◌, arith}
use Rattle.std.specs.Prelude.{OnOk, OnErr}
use Rattle.odb_device.specs.World.{File, World, file_of}
use Rattle.odb_device.specs.Images.{ReadsImage, TornFrom}
use Rattle.odb_device.specs.Calls.{CallsOn, Stays, Keeps, Unsettles}
use Rattle.odb_device.specs.Moments.{Runs}
use Rattle.odb_device.proofs.Time.{begins, goes_on, joins, weakens, run_end}
use Rattle.odb_device.proofs.Torn.{stays_from}
use Rattle.odb_device.proofs.OneCall.{sync_from}
use Rattle.odb_device.specs.Zeros.{AreZero, ReadsZero}
use Rattle.odb_reclog.proofs.Pieces.{from_widens, from_then}

-- The file reads as zeros from one byte to before another, and nothing but the range to be cleared was written. `before` is whether
-- it was touched at first, and `touched` whether it is now.
pub record IsClearing (file from to : ℕ) (before : Bool) (w now : World) (touched : Bool) (at : ℕ) : Type 0 where
  pub run : Runs file (TornFrom from (to - from) (file_of file w)) w now
  pub above : from ≤ at
  pub below : at ≤ to
  pub untouched : touched ≡ false → (before ≡ false) × Stays file w now
  pub zero : ReadsZero from at (file_of file now)
  pub unwritten : before ≡ false → (f : File) → file_of file w ≡ Some f → to ≤ length f.bytes → AreZero from to f.bytes → touched ≡ false

none_zero : (from : ℕ) (file : Option File) → ReadsZero from from file
none_zero from None = tt
none_zero from (Some f) = λ i low high. absurd (omega arith)

pub clearing_none : (file from to : ℕ) (before : Bool) (w : World) → from ≤ to → IsClearing file from to before w w before from
clearing_none file from to before w some = record {
  run = begins file (TornFrom from (to - from) (file_of file w)) w (stays_from from (to - from) (file_of file w) (file_of file w) refl);
  above = omega arith;
  below = some;
  untouched = λ e. (e, refl);
  zero = none_zero from (file_of file w);
  unwritten = λ e f is long zeros. e;
}

-- one piece, of n bytes, from the byte `at` on
module _ (file from to : ℕ) (before : Bool) (w mid now : World) (touched_mid touched : Bool) (at n : ℕ) (so_far : IsClearing file from to before w mid touched_mid at) (within : at + n ≤ to)
    (run : Runs file (TornFrom at n (file_of file mid)) mid now) where
  pub clearing_run : Runs file (TornFrom from (to - from) (file_of file w)) w now
  clearing_run =
      let above = so_far.above in
      joins file (TornFrom from (to - from) (file_of file w)) w mid now so_far.run
      (weakens file (TornFrom at n (file_of file mid)) (TornFrom from (to - from) (file_of file w)) mid now
      (λ o torn. from_then from (to - from) (file_of file w) (file_of file mid) o (run_end file (TornFrom from (to - from) (file_of file w)) w mid so_far.run)
      (from_widens at n from (to - from) (file_of file mid) o (omega arith) (omega arith) torn))
      run)

  module _ (untouched : touched ≡ false → (touched_mid ≡ false) × Stays file mid now) where
    pub clearing_untouched : touched ≡ false → (before ≡ false) × Stays file w now
    clearing_untouched e =
        let here = untouched e in
        let there = so_far.untouched here.0 in
        (there.0, here.1 ∙ there.1)

    module _ (unwritten : before ≡ false → touched_mid ≡ false → (f : File) → file_of file mid ≡ Some f → at + n ≤ length f.bytes → AreZero at (at + n) f.bytes → touched ≡ false) where
      pub clearing_unwritten : before ≡ false → (f : File) → file_of file w ≡ Some f → to ≤ length f.bytes → AreZero from to f.bytes → touched ≡ false
      clearing_unwritten e f is long zeros =
          let above = so_far.above in
          let mid_is = so_far.unwritten e f is long zeros in
          let stays = so_far.untouched mid_is in
          unwritten e mid_is f (stays.1 ∙ is) (omega arith) (λ i low high. zeros i (omega arith) (omega arith))

      pub clearing_piece : ((start : ℕ) → start ≤ at → ReadsZero start at (file_of file mid) → ReadsZero start (at + n) (file_of file now)) → IsClearing file from to before w now touched (at + n)
      clearing_piece zero =
          let above = so_far.above in
          record {
            run = clearing_run;
            above = omega arith;
            below = within;
            untouched = clearing_untouched;
            zero = zero from above so_far.zero;
            unwritten = clearing_unwritten;
          }

-- a sync behind the pieces
pub clearing_sync : {E : Type 0} (file from to : ℕ) (before touched : Bool) (w mid now : World) (at : ℕ) (result : Result (Unit {0}) E) → IsClearing file from to before w mid touched at → CallsOn file mid now → ReadsImage (file_of file mid)
    → OnOk result (Keeps file mid now) → OnErr result (Unsettles file mid now) → Runs file (TornFrom from (to - from) (file_of file w)) w now
clearing_sync file from to before touched w mid now at result so_far call reads kept unsettled =
    let P = TornFrom from (to - from) (file_of file w) in
    goes_on file P w mid now so_far.run call (sync_from file mid now result from (to - from) w (run_end file P w mid so_far.run) reads kept unsettled)
