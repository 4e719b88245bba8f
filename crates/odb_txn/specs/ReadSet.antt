-- What is kept of the ranges that a transaction reads: each range once, with the least of the numbers
-- at which it was read.
use Rattle.std.specs.Prelude.{◌≡◌, ℕ, min, Bool, List, [], ◌∷◌, map, Option, Some, None, if◌then◌else◌}
use Rattle.std.specs.List.Sorted.{IsStrictlySortedBy}
use Rattle.std.specs.Ordering.{is_lt, is_eq, match_ordering}
use Rattle.odb_values.specs.declared.range.Range.{Range}
use Rattle.odb_model.specs.declared.entry.Entry.{Entry}
use Rattle.odb_model.specs.declared.outcome.Read.{Read}
use Rattle.odb_model.specs.Transaction.{overwrites}
use Rattle.odb_model.specs.Window.{oldest_number}
use Rattle.odb_txn.specs.RangeOrder.{range_cmp}

-- each range comes before those behind it, so none is there twice
abbrev pub AreOrdered : List Read → Type 0
AreOrdered reads = IsStrictlySortedBy range_cmp (map (λ r. r.range) reads)

-- of two reads of a range the earlier one covers both
abbrev pub earlier : Read → Read → Read
earlier q r = record { range = r.range; number = min q.number r.number }

-- the reads with one more: at its place in the order, or together with the read of that range
abbrev pub keep : List Read → Read → List Read
keep [] r = r ∷ []
keep (q ∷ reads) r =
    match_ordering (range_cmp r.range q.range)
    (r ∷ q ∷ reads)
    (earlier q r ∷ reads)
    (q ∷ keep reads r)

-- the reads with these more, the first of them first
abbrev pub keep_all : List Read → List Read → List Read
keep_all reads [] = reads
keep_all reads (r ∷ more) = keep_all (keep reads r) more

-- These reads judge a commit as the others do: each entry overwrites some of the ones just where it
-- overwrites some of the others, and the oldest are of one number
pub record JudgeAlike (kept all : List Read) : Type 0 where
  pub conflicts : (e : Entry) → overwrites kept e ≡ overwrites all e
  pub oldest : oldest_number kept ≡ oldest_number all

-- whether a read's range comes before a range
abbrev pub is_before : Range → Read → Bool
is_before range q = is_lt (range_cmp q.range range)

-- the number of a read, where there is one and it is of this range
abbrev pub number_at : Range → Option Read → Option ℕ
number_at range None = None
number_at range (Some q) = if is_eq (range_cmp range q.range) then Some q.number else None
