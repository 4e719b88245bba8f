-- Where a walk over a side's records may begin.
use Rattle.std.proofs.Common.{◌≡◌, inl, inr, ℕ, ◌+◌, ◌-◌, ◌*◌, ◌<◌, ◌≤◌, List, [], length, Option, Some, None, refl, sym, subst, arith}
use Rattle.std.specs.Prelude.{IfSome, slice_index}
use Rattle.odb_device.specs.World.{File, World, file_of}
use Rattle.odb_reclog.specs.Records.{log_of}
use Rattle.odb_reclog.specs.Standing.{Log}
use Rattle.odb_transdb.specs.Walking.{IsBefore, CanBegin, ArePlaced, CanStep}
use Rattle.odb_transdb.proofs.Kept.{if_told_then}

-- of a told file
told_of : (P : List ℕ → Type 0) (o : Option File) → ((bytes : List ℕ) → P bytes) → IfSome o (λ f. P f.bytes)
told_of P None each = tt
told_of P (Some f) each = each f.bytes

-- at the log's start
pub begin_start : (log : Log) (places : List ℕ) (from at number : ℕ) (w : World) → at ≡ log.start → number ≡ log.first → CanBegin log from at number w
begin_start log places from at number w here first = record {
  low = omega (arith, here);
  high = inl here;
  least = omega (arith, first);
  most = omega (arith, first);
  wanted = omega (arith, first);
  whole = λ low. here;
  told = told_of (IsBefore log at number) (file_of log.file w)
      (λ bytes. record { done = []; rest = log_of log.start log.end log.first bytes; all = []; list_is = refl; place = here; number_is = omega (arith, first); read = refl });
}

-- or at a place kept
pub begin_kept : (log : Log) (places : List ℕ) (from at number kept : ℕ) (w : World) → CanStep log places w → 1 ≤ kept → kept ≤ length places → 64 * kept ≤ from - log.first → at ≡ slice_index places (kept - 1) → number ≡ log.first + 64 * kept
    → CanBegin log from at number w
begin_kept log places from at number kept w can some few behind here count =
    let k : ℕ = kept - 1 in
    let inside : k < length places = omega arith in
    let next : log.first + 64 * (k + 1) ≡ number = omega (arith, count) in
    record {
      low = omega (arith, here, can.within.low k inside);
      high = inr (omega (arith, here, can.within.high k inside));
      least = omega (arith, count);
      most = omega (arith, count, can.within.few);
      wanted = omega (arith, count);
      whole = λ before. absurd (omega arith);
      told = if_told_then (λ f. ArePlaced log places f.bytes) (λ f. IsBefore log at number f.bytes) (file_of log.file w)
          (λ f are. subst (λ (p : ℕ). IsBefore log p number f.bytes) (sym here) (subst (λ (n : ℕ). IsBefore log (slice_index places k) n f.bytes) next (are.each k inside))) can.told;
    }
