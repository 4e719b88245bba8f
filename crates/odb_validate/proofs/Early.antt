-- Entries that are no later than the oldest read conflict with nothing.
use Rattle.std.proofs.Common.{◌≡◌, ℕ, ◌+◌, ◌≤◌, zero, suc, Bool, false, ◌&&◌, nat_lt, cond, List, [], ◌∷◌, drop, find, refl, ap, sym, ◌∙◌, Some, None, option_map, All, arith}
use Rattle.std.proofs.lemmas.Bool.Decides.{nat_tests}
use Rattle.std.proofs.lemmas.List.Elements.{All-weaker}
use Rattle.std.proofs.lemmas.List.Folds.{list_any_none}
use Rattle.odb_model.specs.declared.entry.Entry.{Entry}
use Rattle.odb_model.specs.declared.outcome.Read.{Read}
use Rattle.odb_model.specs.State.{IsNumberedFrom, writes_in}
use Rattle.odb_model.specs.Transaction.{overwrites, first_conflict}

not_later : (a b : ℕ) (c : Bool) → b ≤ a → (nat_lt a b && c) ≡ false
not_later a b c h = ap (λ l. l && c) (test a b h)
  where
    test : (a b : ℕ) → b ≤ a → nat_lt a b ≡ false
    test a b h = grind (arith, nat_tests)

-- an entry that is no later than any read overwrites none
overwrites-early : (reads : List Read) (e : Entry) → All (λ r. e.number ≤ r.number) reads → overwrites reads e ≡ false
overwrites-early reads e early = list_any_none _ reads (All-weaker (λ (r : Read). e.number ≤ r.number) (λ r. (nat_lt r.number e.number && writes_in r.range e.writes) ≡ false)
    (λ r h. not_later r.number e.number (writes_in r.range e.writes) h) reads early)

find-early : (reads : List Read) (n k : ℕ) (h : List Entry) → IsNumberedFrom k h → All (λ r. n + k ≤ r.number + 1) reads → find (overwrites reads) (drop n h) ≡ find (overwrites reads) h
find-early reads zero k h numbered early = refl
find-early reads (suc n) k [] numbered early = refl
find-early reads (suc n) k (e ∷ h) numbered early =
    let here = overwrites-early reads e (All-weaker (λ (r : Read). suc n + k ≤ r.number + 1) (λ r. e.number ≤ r.number) (λ r f. omega arith) reads early) in
    let later = All-weaker (λ (r : Read). suc n + k ≤ r.number + 1) (λ r. n + (k + 1) ≤ r.number + 1) (λ r f. omega arith) reads early in
    find-early reads n (k + 1) h numbered.1 later ∙ sym (ap (λ b. cond b (Some e) (find (overwrites reads) h)) here)

-- the first n entries don't conflict, where each is no later than any read
pub first_conflict-early : (reads : List Read) (n start : ℕ) (h : List Entry) → IsNumberedFrom (start + 1) h → All (λ r. start + n ≤ r.number) reads → first_conflict reads (drop n h) ≡ first_conflict reads h
first_conflict-early reads n start h numbered early =
    ap (option_map (λ e. e.number)) (find-early reads n (start + 1) h numbered (All-weaker (λ (r : Read). start + n ≤ r.number) (λ r. n + (start + 1) ≤ r.number + 1) (λ r f. omega arith) reads early))

-- without a read there is no conflict
pub first_conflict-unread : (h : List Entry) → first_conflict [] h ≡ None
first_conflict-unread [] = refl
first_conflict-unread (e ∷ h) = first_conflict-unread h
