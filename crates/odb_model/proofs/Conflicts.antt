-- Which entries can conflict.
use Rattle.std.proofs.Common.{◌≡◌, ℕ, ◌+◌, ◌≤◌, zero, suc, Bool, false, ◌&&◌, nat_lt, cond, List, [], ◌∷◌, drop, find, refl, ap, sym, ◌∙◌, Some, None, option_map, arith}
use Rattle.std.specs.List.{All}
use Rattle.std.proofs.lemmas.Bool.Decides.{nat_tests}
use Rattle.std.proofs.lemmas.List.Elements.{All-weaker}
use Rattle.std.proofs.lemmas.List.Folds.{list_any_none}
use Rattle.odb_model.specs.declared.entry.Entry.{Entry}
use Rattle.odb_model.specs.declared.outcome.Read.{Read}
use Rattle.odb_model.specs.State.{IsNumberedFrom, IsHistory, writes_in}
use Rattle.odb_model.specs.Transaction.{overwrites, first_conflict}

not_later : (a b : ℕ) (c : Bool) → b ≤ a → (nat_lt a b && c) ≡ false
not_later a b c h = ap (λ l. l && c) (test a b h)
  where
    test : (a b : ℕ) → b ≤ a → nat_lt a b ≡ false
    test a b h = grind (arith, nat_tests)

-- an entry that is no later than any read overwrites none
overwrites-early : (rs : List Read) (e : Entry) → All (λ r. e.number ≤ r.number) rs → overwrites rs e ≡ false
overwrites-early rs e early = list_any_none _ rs (All-weaker (λ (r : Read). e.number ≤ r.number) (λ r. (nat_lt r.number e.number && writes_in r.range e.writes) ≡ false)
    (λ r h. not_later r.number e.number (writes_in r.range e.writes) h) rs early)

find-early : (rs : List Read) (n k : ℕ) (h : List Entry) → IsNumberedFrom k h → All (λ r. n + k ≤ r.number + 1) rs → find (overwrites rs) (drop n h) ≡ find (overwrites rs) h
find-early rs zero k h numbered early = refl
find-early rs (suc n) k [] numbered early = refl
find-early rs (suc n) k (e ∷ h) numbered early =
    let here = overwrites-early rs e (All-weaker (λ (r : Read). suc n + k ≤ r.number + 1) (λ r. e.number ≤ r.number) (λ r f. omega arith) rs early) in
    let later = All-weaker (λ (r : Read). suc n + k ≤ r.number + 1) (λ r. n + (k + 1) ≤ r.number + 1) (λ r f. omega arith) rs early in
    find-early rs n (k + 1) h numbered.1 later ∙ sym (ap (λ b. cond b (Some e) (find (overwrites rs) h)) here)

-- the entries up to the least number of the reads don't conflict
pub first_conflict-early : (rs : List Read) (n : ℕ) (h : List Entry) → IsHistory h → All (λ r. n ≤ r.number) rs → first_conflict rs (drop n h) ≡ first_conflict rs h
first_conflict-early rs n h history early =
    ap (option_map (λ e. e.number)) (find-early rs n 1 h history (All-weaker (λ (r : Read). n ≤ r.number) (λ r. n + 1 ≤ r.number + 1) (λ r f. omega arith) rs early))

-- without a read there is no conflict
pub first_conflict-unread : (h : List Entry) → first_conflict [] h ≡ None
first_conflict-unread [] = refl
first_conflict-unread (e ∷ h) = first_conflict-unread h
