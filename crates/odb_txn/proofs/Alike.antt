-- Reads that are kept judge a commit as all of them do.
use Rattle.std.proofs.Common.{◌≡◌, ℕ, Bool, true, false, ◌&&◌, ◌||◌, cond, List, [], ◌∷◌, ◌++◌, nat_lt, refl, sym, ap, ◌∙◌, arith, Option, None, Some, min}
use Rattle.std.specs.Prelude.{option_map, find}
use Rattle.std.specs.declared.cmp.Ordering.TheVariants.{Less, Equal, Greater}
use Rattle.std.specs.Ordering.{match_ordering}
use Rattle.std.proofs.lemmas.Bool.Decides.{nat_tests}
use Rattle.std.proofs.lemmas.List.Folds.{list_any-append}
use Rattle.odb_model.specs.declared.entry.Entry.{Entry}
use Rattle.odb_model.specs.declared.outcome.Read.{Read}
use Rattle.odb_model.specs.State.{writes_in}
use Rattle.odb_model.specs.Transaction.{overwrites, first_conflict}
use Rattle.odb_txn.specs.RangeOrder.{range_cmp}
use Rattle.odb_model.specs.Window.{least_with, oldest_number}
use Rattle.odb_txn.specs.ReadSet.{JudgeAlike, earlier, keep, keep_all}
use Rattle.odb_txn.proofs.Ranges.{range_cmp_exact}

-- whether an entry is later than a read and writes a key of its range
abbrev overwrites_one : Read → Entry → Bool
overwrites_one r e = nat_lt r.number e.number && writes_in r.range e.writes

both_or : (a b w : Bool) → ((a || b) && w) ≡ ((a && w) || (b && w))
both_or true true true = refl
both_or true true false = refl
both_or true false true = refl
both_or true false false = refl
both_or false true true = refl
both_or false true false = refl
both_or false false true = refl
both_or false false false = refl

later_or : (m n k : ℕ) → nat_lt (min m n) k ≡ (nat_lt m k || nat_lt n k)
later_or m n k = grind (arith, nat_tests)

-- the earlier read covers both
earlier_both : (q r : Read) (e : Entry) → range_cmp r.range q.range ≡ Equal → overwrites_one (earlier q r) e ≡ (overwrites_one r e || overwrites_one q e)
earlier_both q r e tied =
    ap (λ b. b && writes_in r.range e.writes) (later_or q.number r.number e.number)
    ∙ both_or (nat_lt q.number e.number) (nat_lt r.number e.number) (writes_in r.range e.writes)
    ∙ ap (λ range. (nat_lt q.number e.number && writes_in range e.writes) || overwrites_one r e) (range_cmp_exact r.range q.range tied)
    ∙ swap (overwrites_one q e) (overwrites_one r e)
  where
    swap : (a b : Bool) → (a || b) ≡ (b || a)
    swap true true = refl
    swap true false = refl
    swap false true = refl
    swap false false = refl

or_assoc : (a b c : Bool) → ((a || b) || c) ≡ (a || (b || c))
or_assoc true b c = refl
or_assoc false b c = refl

or_middle : (a b c : Bool) → (b || (a || c)) ≡ (a || (b || c))
or_middle true true c = refl
or_middle true false c = refl
or_middle false b c = refl

-- an entry overwrites the reads with one more just where it overwrites that one or some of the others
overwrites-keep : (reads : List Read) (r : Read) (e : Entry) → overwrites (keep reads r) e ≡ (overwrites_one r e || overwrites reads e)
overwrites-keep [] r e = refl
overwrites-keep (q ∷ reads) r e =
    let more = overwrites-keep reads r e in
    elim (range_cmp r.range q.range) as (λ o. range_cmp r.range q.range ≡ o
    → overwrites (match_ordering o (r ∷ q ∷ reads) (earlier q r ∷ reads) (q ∷ keep reads r)) e ≡ (overwrites_one r e || overwrites (q ∷ reads) e)) [
      | Less ↦ λ c. refl
      | Equal ↦ λ c. ap (λ b. b || overwrites reads e) (earlier_both q r e c) ∙ or_assoc (overwrites_one r e) (overwrites_one q e) (overwrites reads e)
      | Greater ↦ λ c. ap (λ b. overwrites_one q e || b) more ∙ or_middle (overwrites_one r e) (overwrites_one q e) (overwrites reads e)
    ] refl

overwrites-keep_all : (more reads : List Read) (e : Entry) → overwrites (keep_all reads more) e ≡ (overwrites reads e || overwrites more e)
overwrites-keep_all [] reads e = or_false (overwrites reads e) where
  or_false : (a : Bool) → a ≡ (a || false)
  or_false true = refl
  or_false false = refl
overwrites-keep_all (r ∷ more) reads e =
    overwrites-keep_all more (keep reads r) e
    ∙ ap (λ b. b || overwrites more e) (overwrites-keep reads r e)
    ∙ or_assoc (overwrites_one r e) (overwrites reads e) (overwrites more e)
    ∙ sym (or_middle (overwrites_one r e) (overwrites reads e) (overwrites more e))

least_twice : (m n : ℕ) (o : Option ℕ) → least_with (min m n) o ≡ least_with n (least_with m o)
least_twice m n None = ap Some (omega arith)
least_twice m n (Some k) = ap Some (omega arith)

least_swap : (m n : ℕ) (o : Option ℕ) → least_with m (least_with n o) ≡ least_with n (least_with m o)
least_swap m n None = ap Some (omega arith)
least_swap m n (Some k) = ap Some (omega arith)

pub oldest-keep : (reads : List Read) (r : Read) → oldest_number (keep reads r) ≡ least_with r.number (oldest_number reads)
oldest-keep [] r = refl
oldest-keep (q ∷ reads) r =
    let more = oldest-keep reads r in
    elim (range_cmp r.range q.range) as (λ o. oldest_number (match_ordering o (r ∷ q ∷ reads) (earlier q r ∷ reads) (q ∷ keep reads r)) ≡ least_with r.number (oldest_number (q ∷ reads))) [
      | Less ↦ refl
      | Equal ↦ least_twice q.number r.number (oldest_number reads)
      | Greater ↦ ap (least_with q.number) more ∙ least_swap q.number r.number (oldest_number reads)
    ]

-- the lesser of two, where there are both
abbrev least_of : Option ℕ → Option ℕ → Option ℕ
least_of None o = o
least_of (Some n) o = least_with n o

least_of_more : (n : ℕ) (o p : Option ℕ) → least_of (least_with n o) p ≡ least_with n (least_of o p)
least_of_more n None p = refl
least_of_more n (Some m) p = least_twice n m p ∙ least_swap m n p

least_of_swap : (n : ℕ) (o p : Option ℕ) → least_of o (least_with n p) ≡ least_with n (least_of o p)
least_of_swap n None p = refl
least_of_swap n (Some m) p = least_swap m n p

oldest-keep_all : (more reads : List Read) → oldest_number (keep_all reads more) ≡ least_of (oldest_number reads) (oldest_number more)
oldest-keep_all [] reads = least_of_none (oldest_number reads) where
  least_of_none : (o : Option ℕ) → o ≡ least_of o None
  least_of_none None = refl
  least_of_none (Some n) = refl
oldest-keep_all (r ∷ more) reads =
    oldest-keep_all more (keep reads r)
    ∙ ap (λ o. least_of o (oldest_number more)) (oldest-keep reads r)
    ∙ least_of_more r.number (oldest_number reads) (oldest_number more)
    ∙ sym (least_of_swap r.number (oldest_number reads) (oldest_number more))

oldest-append : (xs ys : List Read) → oldest_number (xs ++ ys) ≡ least_of (oldest_number xs) (oldest_number ys)
oldest-append [] ys = refl
oldest-append (x ∷ xs) ys = ap (least_with x.number) (oldest-append xs ys) ∙ sym (least_of_more x.number (oldest_number xs) (oldest_number ys))

pub JudgeAlike-itself : (reads : List Read) → JudgeAlike reads reads
JudgeAlike-itself reads = record { conflicts = λ e. refl; oldest = refl }

-- more reads are kept as they come behind the others
pub JudgeAlike-more : (kept all more : List Read) → JudgeAlike kept all → JudgeAlike (keep_all kept more) (all ++ more)
JudgeAlike-more kept all more alike = record {
  conflicts = λ e.
      overwrites-keep_all more kept e
      ∙ ap (λ b. b || overwrites more e) (alike.conflicts e)
      ∙ sym (list_any-append (λ r. overwrites_one r e) all more);
  oldest =
      oldest-keep_all more kept
      ∙ ap (λ o. least_of o (oldest_number more)) alike.oldest
      ∙ sym (oldest-append all more);
}

pub JudgeAlike-all : (reads : List Read) → JudgeAlike (keep_all [] reads) reads
JudgeAlike-all reads = JudgeAlike-more [] [] reads (JudgeAlike-itself [])

found_alike : (p q : Entry → Bool) (h : List Entry) → ((e : Entry) → p e ≡ q e) → find p h ≡ find q h
found_alike p q [] same = refl
found_alike p q (e ∷ h) same = ap (λ b. cond b (Some e) (find p h)) (same e) ∙ ap (cond (q e) (Some e)) (found_alike p q h same)

pub conflict_alike : (kept all : List Read) (h : List Entry) → JudgeAlike kept all → first_conflict kept h ≡ first_conflict all h
conflict_alike kept all h alike = ap (option_map (λ e. e.number)) (found_alike (overwrites kept) (overwrites all) h alike.conflicts)
