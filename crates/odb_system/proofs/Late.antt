-- The reads that are kept are no older than those that were made.
use Rattle.std.proofs.Common.{ℕ, ◌≤◌, List, [], ◌∷◌, min, arith}
use Rattle.std.specs.List.{All}
use Rattle.std.specs.declared.cmp.Ordering.TheVariants.{Less, Equal, Greater}
use Rattle.std.specs.Ordering.{match_ordering}
use Rattle.std.proofs.lemmas.List.Elements.{All-nil, All-cons, All-head, All-tail}
use Rattle.odb_values.specs.declared.range.Range.{Range}
use Rattle.odb_model.specs.declared.outcome.Read.{Read}
use Rattle.odb_model.specs.Transaction.{read_at}
use Rattle.odb_txn.specs.RangeOrder.{range_cmp}
use Rattle.odb_txn.specs.ReadSet.{earlier, keep, keep_all}

-- whether a read was made where the history had so many entries, or later
abbrev pub IsLate : ℕ → Read → Type 0
IsLate since r = since ≤ r.number

late_keep : (since : ℕ) (reads : List Read) (r : Read) → since ≤ r.number → All (IsLate since) reads → All (IsLate since) (keep reads r)
late_keep since [] r late all = All-cons (IsLate since) r [] late all
late_keep since (q ∷ reads) r late all =
    let head : since ≤ q.number = All-head (IsLate since) q reads all in
    let tail : All (IsLate since) reads = All-tail (IsLate since) q reads all in
    let both : since ≤ min q.number r.number = omega (arith, head, late) in
    elim (range_cmp r.range q.range) as (λ o. All (IsLate since) (match_ordering o (r ∷ q ∷ reads) (earlier q r ∷ reads) (q ∷ keep reads r))) [
      | Less ↦ All-cons (IsLate since) r (q ∷ reads) late all
      | Equal ↦ All-cons (IsLate since) (earlier q r) reads both tail
      | Greater ↦ All-cons (IsLate since) q (keep reads r) head (late_keep since reads r late tail)
    ]

pub late_all : (since : ℕ) (more reads : List Read) → All (IsLate since) more → All (IsLate since) reads → All (IsLate since) (keep_all reads more)
late_all since [] reads more_late all = all
late_all since (r ∷ more) reads more_late all =
    late_all since more (keep reads r) (All-tail (IsLate since) r more more_late) (late_keep since reads r (All-head (IsLate since) r more more_late) all)

-- the reads of a statement that runs now
pub late_at : (since number : ℕ) (ranges : List Range) → since ≤ number → All (IsLate since) (read_at number ranges)
late_at since number [] late = All-nil (IsLate since)
late_at since number (range ∷ ranges) late = All-cons (IsLate since) (record { range = range; number = number }) (read_at number ranges) late (late_at since number ranges late)
