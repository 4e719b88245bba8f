-- Reads that are kept stand in the order of their ranges.
use Rattle.std.proofs.Common.{◌≡◌, ℕ, zero, suc, ◌<◌, ◌≤◌, Bool, true, false, cond, List, [], ◌∷◌, ◌++◌, map, length, get_or, refl, sym, ap, ◌∙◌, arith, None, Some, min}
use Rattle.std.proofs.Math.ListN.{set}
use Rattle.std.specs.declared.cmp.Ordering.{Ordering}
use Rattle.std.specs.declared.cmp.Ordering.TheVariants.{Less, Equal, Greater}
use Rattle.std.specs.List.{slice_get, insert, AllByRecursion}
use Rattle.std.specs.List.Sorted.{IsStrictlySortedBy}
use Rattle.std.specs.Ordering.{is_eq, is_lt, ordering_reverse, match_ordering}
use Rattle.std.proofs.lemmas.Map.Keys.{sorted_head, sorted_tail}
use Rattle.odb_values.specs.declared.range.Range.{Range}
use Rattle.odb_model.specs.declared.outcome.Read.{Read}
use Rattle.odb_rowsource.proofs.Splits.{Splits, Splits-tail}
use Rattle.odb_txn.specs.RangeOrder.{range_cmp}
use Rattle.odb_txn.specs.ReadSet.{AreOrdered, earlier, keep, keep_all, is_before, number_at}
use Rattle.odb_txn.proofs.Ranges.{range_cmp_total}

flipped : (a b : Range) (o : Ordering) → range_cmp a b ≡ o → range_cmp b a ≡ ordering_reverse o
flipped a b o e = range_cmp_total.antisymm b a ∙ ap ordering_reverse e

-- the ranges of these are above one
abbrev Above : Range → List Read → Type 0
Above k reads = AllByRecursion (λ q. range_cmp k q ≡ Less) (map (λ r. r.range) reads)

Above-less : (a b : Range) (reads : List Read) → range_cmp a b ≡ Less → Above b reads → Above a reads
Above-less a b [] less all = tt
Above-less a b (q ∷ reads) less all = (range_cmp_total.trans a b q.range less all.0, Above-less a b reads less all.1)

Above-tied : (a b : Range) (reads : List Read) → range_cmp a b ≡ Equal → Above b reads → Above a reads
Above-tied a b [] tied all = tt
Above-tied a b (q ∷ reads) tied all = (range_cmp_total.congr a b q.range tied ∙ all.0, Above-tied a b reads tied all.1)

Above-keep : (k : Range) (reads : List Read) (r : Read) → Above k reads → range_cmp k r.range ≡ Less → Above k (keep reads r)
Above-keep k [] r all less = (less, tt)
Above-keep k (q ∷ reads) r all less =
    elim (range_cmp r.range q.range) as (λ o. Above k (match_ordering o (r ∷ q ∷ reads) (earlier q r ∷ reads) (q ∷ keep reads r))) [
      | Less ↦ (less, all)
      | Equal ↦ (less, all.1)
      | Greater ↦ (all.0, Above-keep k reads r all.1 less)
    ]

AreOrdered-cons : (q : Read) (reads : List Read) → Above q.range reads → AreOrdered reads → AreOrdered (q ∷ reads)
unfolding IsStrictlySortedBy
AreOrdered-cons q reads above rest = (above, rest)

pub AreOrdered-none : AreOrdered []
unfolding IsStrictlySortedBy
AreOrdered-none = tt

head_above : (q : Read) (reads : List Read) → AreOrdered (q ∷ reads) → Above q.range reads
head_above q reads h = sorted_head range_cmp q.range (map (λ r. r.range) reads) h

tail_ordered : (q : Read) (reads : List Read) → AreOrdered (q ∷ reads) → AreOrdered reads
tail_ordered q reads h = sorted_tail range_cmp q.range (map (λ r. r.range) reads) h

-- a read that is kept keeps the order
pub AreOrdered-keep : (reads : List Read) (r : Read) → AreOrdered reads → AreOrdered (keep reads r)
AreOrdered-keep [] r h = AreOrdered-cons r [] tt AreOrdered-none
AreOrdered-keep (q ∷ reads) r h =
    let above : Above q.range reads = head_above q reads h in
    let rest : AreOrdered reads = tail_ordered q reads h in
    elim (range_cmp r.range q.range) as (λ o. range_cmp r.range q.range ≡ o → AreOrdered (match_ordering o (r ∷ q ∷ reads) (earlier q r ∷ reads) (q ∷ keep reads r))) [
      | Less ↦ λ e. AreOrdered-cons r (q ∷ reads) (e, Above-less r.range q.range reads e above) h
      | Equal ↦ λ e. AreOrdered-cons (earlier q r) reads (Above-tied r.range q.range reads e above) rest
      | Greater ↦ λ e. AreOrdered-cons q (keep reads r) (Above-keep q.range reads r above (flipped r.range q.range Greater e)) (AreOrdered-keep reads r rest)
    ] refl

pub AreOrdered-keep_all : (more reads : List Read) → AreOrdered reads → AreOrdered (keep_all reads more)
AreOrdered-keep_all [] reads h = h
AreOrdered-keep_all (r ∷ more) reads h = AreOrdered-keep_all more (keep reads r) (AreOrdered-keep reads r h)

pub keep_all-append : (xs ys reads : List Read) → keep_all reads (xs ++ ys) ≡ keep_all (keep_all reads xs) ys
keep_all-append [] ys reads = refl
keep_all-append (x ∷ xs) ys reads = keep_all-append xs ys (keep reads x)

less_is : (o : Ordering) → is_lt o ≡ true → o ≡ Less
less_is Less e = refl
less_is Equal e = cc
less_is Greater e = cc

equal_is : (o : Ordering) → is_eq o ≡ true → o ≡ Equal
equal_is Less e = cc
equal_is Equal e = refl
equal_is Greater e = cc

module _ (r : Read) where
  before_greater : (q : Read) → is_before r.range q ≡ true → range_cmp r.range q.range ≡ Greater
  before_greater q e = flipped q.range r.range Less (less_is (range_cmp q.range r.range) e)

  not_before : (q : Read) → is_before r.range q ≡ false → is_eq (range_cmp r.range q.range) ≡ false → range_cmp r.range q.range ≡ Less
  not_before q e f = at_or_above (range_cmp r.range q.range) refl f where
    at_or_above : (o : Ordering) → range_cmp r.range q.range ≡ o → is_eq o ≡ false → range_cmp r.range q.range ≡ Less
    at_or_above Less p g = p
    at_or_above Equal p g = cc
    at_or_above Greater p g = let less : true ≡ false = sym (ap is_lt (flipped r.range q.range Greater p)) ∙ e in cc

  by_order : (q : Read) (reads : List Read) (o : Ordering) → range_cmp r.range q.range ≡ o
      → keep (q ∷ reads) r ≡ match_ordering o (r ∷ q ∷ reads) (earlier q r ∷ reads) (q ∷ keep reads r)
  by_order q reads o e = ap (λ p. match_ordering p (r ∷ q ∷ reads) (earlier q r ∷ reads) (q ∷ keep reads r)) e

  none_told : (q : Read) (b : Bool) → None ≡ cond b (Some q.number) None → b ≡ false
  none_told q true e = cc
  none_told q false e = refl

  some_told : (q : Read) (b : Bool) (n : ℕ) → Some n ≡ cond b (Some q.number) None → (b ≡ true) × (q.number ≡ n)
  some_told q true n e = (refl, cc)
  some_told q false n e = cc

  -- where the place of a range is split off and no read is of it, the read goes in there
  pub keep-new : (reads : List Read) (at : ℕ) → at ≤ length reads → Splits (is_before r.range) reads at
      → None ≡ number_at r.range (slice_get reads at)
      → insert reads at r ≡ keep reads r
  keep-new [] zero within split none = refl
  keep-new [] (suc at) within split none = absurd (omega arith)
  keep-new (q ∷ reads) zero within split none =
      sym (by_order q reads Less (not_before q (split.high q (omega arith)) (none_told q (is_eq (range_cmp r.range q.range)) none)))
  keep-new (q ∷ reads) (suc at) within split none =
      let less : at ≤ length reads = omega arith in
      ap (λ rest. q ∷ rest) (keep-new reads at less (Splits-tail (is_before r.range) q reads at split) none)
      ∙ sym (by_order q reads Greater (before_greater q (split.low 0 q (omega arith))))

  -- where one is, the earlier of both takes its place
  pub keep-again : (reads : List Read) (at n : ℕ) → Splits (is_before r.range) reads at
      → Some n ≡ number_at r.range (slice_get reads at)
      → set reads at (record { range = r.range; number = min n r.number }) ≡ keep reads r
  keep-again [] at n split found = cc
  keep-again (q ∷ reads) zero n split found =
      let parts = some_told q (is_eq (range_cmp r.range q.range)) n found in
      ap (λ m. record { range = r.range; number = min m r.number } ∷ reads) (sym parts.1)
      ∙ sym (by_order q reads Equal (equal_is (range_cmp r.range q.range) parts.0))
  keep-again (q ∷ reads) (suc at) n split found =
      ap (λ rest. q ∷ rest) (keep-again reads at n (Splits-tail (is_before r.range) q reads at split) found)
      ∙ sym (by_order q reads Greater (before_greater q (split.low 0 q (omega arith))))

above_at : (k : Range) (reads : List Read) → Above k reads → (j : ℕ) (d : Read) → j < length reads → range_cmp k (get_or reads j d).range ≡ Less
above_at k [] all j d h = absurd (omega arith)
above_at k (q ∷ reads) all zero d h = all.0
above_at k (q ∷ reads) all (suc j) d h = above_at k reads all.1 j d (omega arith)

before-down : (k : Range) (a b : Read) → range_cmp a.range b.range ≡ Less → is_before k b ≡ true → is_before k a ≡ true
before-down k a b less e = ap is_lt (range_cmp_total.trans a.range b.range k less (less_is (range_cmp b.range k) e))

-- in the order of ranges what comes before comes first
pub parted : (k : Range) (reads : List Read) → AreOrdered reads → (i j : ℕ) (d : Read) → i ≤ j → j < length reads
    → is_before k (get_or reads j d) ≡ true → is_before k (get_or reads i d) ≡ true
parted k [] h i j d le lt e = absurd (omega arith)
parted k (q ∷ reads) h zero zero d le lt e = e
parted k (q ∷ reads) h zero (suc j) d le lt e =
    let within : j < length reads = omega arith in
    before-down k q (get_or reads j d) (above_at q.range reads (head_above q reads h) j d within) e
parted k (q ∷ reads) h (suc i) zero d le lt e = absurd (omega arith)
parted k (q ∷ reads) h (suc i) (suc j) d le lt e =
    parted k reads (tail_ordered q reads h) i j d (omega arith) (omega arith) e
