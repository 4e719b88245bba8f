-- An extent that is written over with zeros.
use Rattle.std.proofs.Common.{◌≡◌, ℕ, ◌+◌, ◌<◌, ◌≤◌, length, Option, Some, None, Result, refl, sym, subst, arith}
use Rattle.std.specs.Prelude.{IfSome, OnOk, OnErr}
use Rattle.odb_device.specs.World.{File, World, file_of}
use Rattle.odb_device.specs.Images.{EachImage, ReadsImage, TornFrom}
use Rattle.odb_device.specs.Calls.{CallsOn, Keeps, Unsettles}
use Rattle.odb_device.specs.TornSets.{TornInFrom}
use Rattle.odb_device.specs.Zeros.{ReadsZero, ZerosGoOn}
use Rattle.odb_device.proofs.Time.{begins, goes_on, run_end}
use Rattle.odb_device.proofs.TornSets.{from_none, from_inside, from_in_then}
use Rattle.odb_device.proofs.Writing.{writing_sync, writing_done}
use Rattle.odb_extent.specs.Opened.{content_end, AddsZeros}
use Rattle.odb_extent.specs.Standing.{IsBehindContent, WritesIn}

-- so many bytes of the extent behind the limit are written
pub record IsZeroing (file limit done : ℕ) (first now : World) : Type 0 where
  pub run : WritesIn (IsBehindContent limit) (content_end (limit + 1)) file first now
  pub zero : ReadsZero (content_end limit) (content_end limit + done) (file_of file now)
  pub long : IfSome (file_of file now) (λ f. 0 < done → content_end limit + done ≤ length f.bytes)

pub zeroing_none : (file limit : ℕ) (w : World) → IsZeroing file limit 0 w w
zeroing_none file limit w = record {
  run = begins file (TornInFrom (IsBehindContent limit) (content_end (limit + 1)) (file_of file w)) w
      (from_none (IsBehindContent limit) (content_end (limit + 1)) (file_of file w) (file_of file w) refl);
  zero = nothing (file_of file w);
  long = short (file_of file w);
}
  where
    nothing : (o : Option File) → ReadsZero (content_end limit) (content_end limit + 0) o
    nothing None = tt
    nothing (Some f) = λ i low high. absurd (omega arith)

    short : (o : Option File) → IfSome o (λ f. 0 < 0 → content_end limit + 0 ≤ length f.bytes)
    short None = tt
    short (Some f) = λ less. absurd (omega arith)

module _ (file limit done : ℕ) (first mid now : World) (so_far : IsZeroing file limit done first mid) where
  -- one piece more, whatever its write answered
  pub zeroing_write : (at n : ℕ) → at ≡ content_end limit + done → done + n ≤ 1048576 → CallsOn file mid now → TornFrom at n (file_of file mid) (file_of file now)
      → WritesIn (IsBehindContent limit) (content_end (limit + 1)) file first now
  zeroing_write at n there within call torn =
      let P = IsBehindContent limit in
      let end = content_end (limit + 1) in
      goes_on file (TornInFrom P end (file_of file first)) first mid now so_far.run call
      (from_in_then P end (file_of file first) (file_of file mid) (file_of file now) (run_end file (TornInFrom P end (file_of file first)) first mid so_far.run)
      (from_inside P end at n (file_of file mid) (file_of file now) (λ i here. (omega (arith, here.0), omega (arith, here.1))) (omega arith) torn))

  -- and with Ok
  pub zeroing_more : (at n more : ℕ) → at ≡ content_end limit + done → more ≡ done + n → more ≤ 1048576 → CallsOn file mid now → TornFrom at n (file_of file mid) (file_of file now)
      → ZerosGoOn at n (file_of file mid) (file_of file now) → IfSome (file_of file now) (λ f. at + n ≤ length f.bytes) → IsZeroing file limit more first now
  zeroing_more at n more there sum within call torn zero long =
      let reached : at + n ≡ content_end limit + more = omega arith in
      let so_far_zero : ReadsZero (content_end limit) at (file_of file mid) = subst (λ (k : ℕ). ReadsZero (content_end limit) k (file_of file mid)) (sym there) so_far.zero in
      record {
        run = zeroing_write at n there (omega arith) call torn;
        zero = subst (λ (k : ℕ). ReadsZero (content_end limit) k (file_of file now)) reached (zero (content_end limit) (omega arith) so_far_zero);
        long = longer (file_of file now) reached long;
      }
    where
      longer : (o : Option File) → at + n ≡ content_end limit + more → IfSome o (λ f. at + n ≤ length f.bytes) → IfSome o (λ f. 0 < more → content_end limit + more ≤ length f.bytes)
      longer None reached is = tt
      longer (Some f) reached is = λ less. omega arith

  -- the sync behind them, whatever it answers
  pub zeroing_sync : {E : Type 0} → (result : Result (Unit {0}) E) → CallsOn file mid now → ReadsImage (file_of file mid) → OnOk result (Keeps file mid now) → OnErr result (Unsettles file mid now)
      → WritesIn (IsBehindContent limit) (content_end (limit + 1)) file first now
  zeroing_sync result call reads ok err = writing_sync (IsBehindContent limit) (content_end (limit + 1)) file first mid now result so_far.run call reads ok err

  -- and with Ok, where the whole extent was written
  pub zeroing_kept : done ≡ 1048576 → Keeps file mid now → EachImage (AddsZeros limit (limit + 1)) (file_of file now)
  zeroing_kept all keeps =
      writing_done (IsBehindContent limit) (content_end (limit + 1)) file (AddsZeros limit (limit + 1)) first mid now
      (record { run = so_far.run; reads = whole (file_of file mid) so_far.zero so_far.long }) keeps
    where
      whole : (o : Option File) → ReadsZero (content_end limit) (content_end limit + done) o → IfSome o (λ f. 0 < done → content_end limit + done ≤ length f.bytes)
          → IfSome o (λ f. AddsZeros limit (limit + 1) f.bytes)
      whole None zero long = tt
      whole (Some f) zero long = record {
        long = λ less. omega (arith, long (omega arith));
        zero = λ i low high. zero i low (omega arith);
      }
