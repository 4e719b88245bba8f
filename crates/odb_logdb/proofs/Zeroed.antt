-- Bytes that are written over with zeros.
use Rattle.std.proofs.Common.{ℕ, ◌+◌, ◌-◌, ◌<◌, ◌≤◌, max, length, Option, Some, None, Result, refl, sym, subst, arith}
use Rattle.std.specs.Prelude.{option_map, IfSome, OnOk, OnErr}
use Rattle.odb_device.specs.World.{File, World, file_of}
use Rattle.odb_device.specs.Images.{EachImage, ReadsImage, TornFrom, kept}
use Rattle.odb_device.specs.Calls.{CallsOn, Keeps, Unsettles}
use Rattle.odb_device.specs.Zeros.{ReadsZero, ZerosGoOn}
use Rattle.odb_device.proofs.Bytes.{image_kept}
use Rattle.odb_device.proofs.OneCall.{sync_from}
use Rattle.odb_device.proofs.Time.{begins, goes_on, run_end}
use Rattle.odb_device.proofs.Torn.{stays_from}
use Rattle.odb_reclog.specs.Told.{TearsOnly}
use Rattle.odb_reclog.proofs.Pieces.{from_widens, from_then}
use Rattle.odb_logdb.specs.Finishing.{HasZeros}

-- so far zeros are written
pub record IsZeroed (w now : World) (start end at : ℕ) : Type 0 where
  pub run : TearsOnly 1 start (end - start) w now
  pub low : start ≤ at
  pub high : at ≤ end
  pub zero : ReadsZero start at (file_of 1 now)
  pub long : IfSome (file_of 1 now) (λ f. at ≤ max start (length f.bytes))

pub zeroed_none : (w : World) (start end : ℕ) → start ≤ end → IsZeroed w w start end start
zeroed_none w start end more = record {
  run = begins 1 (TornFrom start (end - start) (file_of 1 w)) w (stays_from start (end - start) (file_of 1 w) (file_of 1 w) refl);
  low = omega arith;
  high = more;
  zero = nothing (file_of 1 w);
  long = short (file_of 1 w);
}
  where
    nothing : (o : Option File) → ReadsZero start start o
    nothing None = tt
    nothing (Some f) = λ i low high. absurd (omega arith)

    short : (o : Option File) → IfSome o (λ f. start ≤ max start (length f.bytes))
    short None = tt
    short (Some f) = omega arith

module _ (w mid now : World) (start end at n : ℕ) (so_far : IsZeroed w mid start end at) (within : at + n ≤ end) (call : CallsOn 1 mid now) (torn : TornFrom at n (file_of 1 mid) (file_of 1 now)) where
  -- whatever a write answered
  pub zeroed_run : TearsOnly 1 start (end - start) w now
  zeroed_run =
      let P = TornFrom start (end - start) (file_of 1 w) in
      let low = so_far.low in
      goes_on 1 P w mid now so_far.run call
      (from_then start (end - start) (file_of 1 w) (file_of 1 mid) (file_of 1 now) (run_end 1 P w mid so_far.run)
      (from_widens at n start (end - start) (file_of 1 mid) (file_of 1 now) (omega arith) (omega arith) torn))

  pub zeroed_more : ZerosGoOn at n (file_of 1 mid) (file_of 1 now) → IfSome (file_of 1 now) (λ f. at + n ≤ length f.bytes) → IsZeroed w now start end (at + n)
  zeroed_more zero long = record {
    run = zeroed_run;
    low = omega (arith, so_far.low);
    high = within;
    zero = zero start so_far.low so_far.zero;
    long = longer (file_of 1 now) long;
  }
    where
      longer : (o : Option File) → IfSome o (λ f. at + n ≤ length f.bytes) → IfSome o (λ f. at + n ≤ max start (length f.bytes))
      longer None is = tt
      longer (Some f) is = omega arith

-- whatever the sync behind them answered
pub zeroed_sync : {E : Type 0} (w mid now : World) (start end at : ℕ) (result : Result (Unit {0}) E) → IsZeroed w mid start end at → CallsOn 1 mid now → ReadsImage (file_of 1 mid) → OnOk result (Keeps 1 mid now) → OnErr result (Unsettles 1 mid now)
    → TearsOnly 1 start (end - start) w now
zeroed_sync w mid now start end at result so_far call reads kept unsettled =
    let P = TornFrom start (end - start) (file_of 1 w) in
    goes_on 1 P w mid now so_far.run call (sync_from 1 mid now result start (end - start) w (run_end 1 P w mid so_far.run) reads kept unsettled)

-- and synced
pub zeroed_kept : (w mid now : World) (start end : ℕ) → start < end → IsZeroed w mid start end end → Keeps 1 mid now → EachImage (HasZeros start end) (file_of 1 now)
zeroed_kept w mid now start end more so_far keeps = subst (EachImage (HasZeros start end)) (sym keeps) (of_mid (file_of 1 mid) so_far.zero so_far.long)
  where
    of_mid : (o : Option File) → ReadsZero start end o → IfSome o (λ f. end ≤ max start (length f.bytes)) → EachImage (HasZeros start end) (option_map kept o)
    of_mid None zero long = tt
    of_mid (Some f) zero long = λ image is.
        let same = image_kept (kept f) image (refl, refl) is in
        let blank : HasZeros start end f.bytes = record { long = omega arith; zero = zero } in
        subst (HasZeros start end) (sym same) blank
