-- Lists that a binary search has split.
use Rattle.std.proofs.Common.{◌≡◌, ℕ, zero, suc, ◌+◌, ◌<◌, ◌≤◌, Bool, true, false, not, cond, List, [], ◌∷◌, map, length, get_or, refl, sym, ap, subst, ◌∙◌, arith, Option, None, Some}
use Rattle.std.specs.declared.cmp.Ordering.{Ordering}
use Rattle.std.specs.declared.cmp.Ordering.TheVariants.{Less}
use Rattle.std.specs.List.{find, slice_get, AllByRecursion}
use Rattle.std.specs.List.Sorted.{IsStrictlySortedBy, IsPartitionPoint}
use Rattle.std.proofs.lemmas.Map.Keys.{sorted_head, sorted_tail}
use Rattle.odb_model.specs.declared.table_key.TableKey.{TableKey}
use Rattle.odb_model.specs.State.{table_key_cmp}

module _ {X : Type 0} where
  -- where a list is split: each item before i passes, and the one at i doesn't
  pub record Splits (before : X → Bool) (xs : List X) (i : ℕ) : Type 0 where
    pub low : (k : ℕ) (d : X) → k < i → before (get_or xs k d) ≡ true
    pub high : (d : X) → i < length xs → before (get_or xs i d) ≡ false

  pub Splits-point : (before : X → Bool) (xs : List X) (i : ℕ) → IsPartitionPoint (λ y. before y ≡ true) (λ y. before y ≡ false) xs i → Splits before xs i
  Splits-point before xs i point = record {
    low = λ k d h. point.0 k d (omega arith) h;
    high = λ d h. point.1 i d (omega arith) h;
  }

  pub Splits-tail : (before : X → Bool) (x : X) (xs : List X) (i : ℕ) → Splits before (x ∷ xs) (suc i) → Splits before xs i
  Splits-tail before x xs i split = record {
    low = λ k d h. split.low (suc k) d (omega arith);
    high = λ d h. split.high d (omega arith);
  }

  -- the first item that isn't before is the one at the split
  pub find-split : (before : X → Bool) (xs : List X) (i : ℕ) → Splits before xs i → find (λ x. not (before x)) xs ≡ slice_get xs i
  find-split before [] i split = refl
  find-split before (x ∷ xs) zero split = ap (λ b. cond (not b) (Some x) (find (λ y. not (before y)) xs)) (split.high x (omega arith))
  find-split before (x ∷ xs) (suc i) split =
      ap (λ b. cond (not b) (Some x) (find (λ y. not (before y)) xs)) (split.low 0 x (omega arith))
      ∙ find-split before xs i (Splits-tail before x xs i split)

  -- an item, where it passes
  abbrev pub where_passes : (X → Bool) → Option X → Option X
  where_passes test None = None
  where_passes test (Some x) = cond (test x) (Some x) None

  -- Items in the order of table keys, some of them wanted. Those from the first wanted one on pass
  -- `from`, and behind one that passes and isn't wanted none is.
  module _ (at : X → TableKey) (from wanted test : X → Bool)
      (wanted_from : (x : X) → wanted x ≡ true → from x ≡ true)
      (agrees : (x : X) → from x ≡ true → test x ≡ wanted x)
      (stops : (x y : X) → table_key_cmp (at x) (at y) ≡ Less → from x ≡ true → wanted x ≡ false → wanted y ≡ false) where
    none_later : (x : X) (xs : List X) → from x ≡ true → wanted x ≡ false → AllByRecursion (λ k. table_key_cmp (at x) k ≡ Less) (map at xs) → find wanted xs ≡ None
    none_later x [] f w all = refl
    none_later x (y ∷ xs) f w all =
        ap (λ b. cond b (Some y) (find wanted xs)) (stops x y all.0 f w) ∙ none_later x xs f w all.1

    one_first : (x : X) (xs : List X) (f w : Bool) → from x ≡ f → wanted x ≡ w → AllByRecursion (λ k. table_key_cmp (at x) k ≡ Less) (map at xs)
        → find wanted xs ≡ where_passes test (find from xs)
        → cond w (Some x) (find wanted xs) ≡ where_passes test (cond f (Some x) (find from xs))
    one_first x xs true true e g all more = sym (ap (λ b. cond b (Some x) None) (agrees x e ∙ g))
    one_first x xs true false e g all more = none_later x xs e g all ∙ sym (ap (λ b. cond b (Some x) None) (agrees x e ∙ g))
    one_first x xs false true e g all more = let no : true ≡ false = sym (wanted_from x g) ∙ e in cc
    one_first x xs false false e g all more = more

    -- the first wanted item is the first that passes, where that is wanted
    pub find-wanted : (xs : List X) → IsStrictlySortedBy table_key_cmp (map at xs) → find wanted xs ≡ where_passes test (find from xs)
    find-wanted [] sorted = refl
    find-wanted (x ∷ xs) sorted = one_first x xs (from x) (wanted x) refl refl (sorted_head table_key_cmp (at x) (map at xs) sorted)
        (find-wanted xs (sorted_tail table_key_cmp (at x) (map at xs) sorted))
