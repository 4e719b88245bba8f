-- How many different keys there are among keys, with one more.
use Rattle.std.proofs.Common.{◌≡◌, ℕ, suc, ◌+◌, ◌≤◌, Bool, true, false, ◌||◌, cond, List, [], ◌∷◌, ◌++◌, length, refl, sym, ap, subst, ◌∙◌, arith, Option, Some, is_some}
use Rattle.std.specs.List.{list_any, AllByRecursion}
use Rattle.std.specs.List.Sorted.{IsStrictlySortedBy}
use Rattle.std.specs.declared.cmp.Ordering.TheVariants.{Less}
use Rattle.std.specs.Ordering.{eq_by_cmp, is_eq, ordering_reverse}
use Rattle.std.specs.FinMap.{empty, insert, len, get, contains_key, len-empty, len-entries, len-insert, get-empty, get-insert}
use Rattle.std.proofs.lemmas.List.Folds.{list_any-append}
use Rattle.std.proofs.lemmas.List.{map-append}
use Rattle.std.proofs.lemmas.Map.Keys.{sorted_head, sorted_tail}
use Rattle.odb_model.specs.declared.write.Write.{Write}
use Rattle.odb_model.specs.declared.table_key.TableKey.{TableKey}
use Rattle.odb_model.specs.declared.intention.Intention.{Intention}
use Rattle.odb_model.specs.State.{table_key_cmp, table_key_of}
use Rattle.odb_model.specs.Meaning.{KeySet, all_of, different}
use Rattle.odb_model.specs.Transaction.{table_keys}
use Rattle.odb_model.proofs.Replay.{table_key_cmp_total}
use Rattle.odb_rowsource.specs.Intentions.{AreAscending, intention_at}
use Rattle.odb_exec.specs.Written.{keys_written, IsUnwritten}

-- a key is among these
abbrev pub among : TableKey → List TableKey → Bool
among at ks = list_any (eq_by_cmp table_key_cmp at) ks

or_other : (a b c : Bool) → (a || (b || c)) ≡ (b || (a || c))
or_other true true c = refl
or_other true false c = refl
or_other false true c = refl
or_other false false c = refl

inserted-has : (b : Bool) (o : Option (Unit {0})) → is_some (cond b (Some tt) o) ≡ (b || is_some o)
inserted-has true o = refl
inserted-has false o = refl

insert-has : (m : KeySet) (k at : TableKey) → contains_key (insert m k tt) at ≡ (eq_by_cmp table_key_cmp at k || contains_key m at)
insert-has m k at = ap is_some (get-insert table_key_cmp_total m k tt at) ∙ inserted-has (eq_by_cmp table_key_cmp at k) (get m at)

all_of-has : (ks : List TableKey) (m : KeySet) (at : TableKey) → contains_key (all_of m ks) at ≡ (among at ks || contains_key m at)
all_of-has [] m at = refl
all_of-has (k ∷ ks) m at =
    all_of-has ks (insert m k tt) at
    ∙ ap (λ b. among at ks || b) (insert-has m k at)
    ∙ or_other (among at ks) (eq_by_cmp table_key_cmp at k) (contains_key m at)
    ∙ or_both (eq_by_cmp table_key_cmp at k) (among at ks) (contains_key m at)
  where
    or_both : (a b c : Bool) → (a || (b || c)) ≡ ((a || b) || c)
    or_both true b c = refl
    or_both false b c = refl

all_of-append : (ks : List TableKey) (m : KeySet) (k : TableKey) → all_of m (ks ++ k ∷ []) ≡ insert (all_of m ks) k tt
all_of-append [] m k = refl
all_of-append (x ∷ ks) m k = all_of-append ks (insert m x tt) k

or_none : (a : Bool) → (a || false) ≡ a
or_none true = refl
or_none false = refl

none-has : (at : TableKey) → contains_key (empty {X = Unit {0}} {R = table_key_cmp}) at ≡ false
none-has at = ap is_some (get-empty table_key_cmp at)

different-has : (ks : List TableKey) (at : TableKey) → contains_key (all_of empty ks) at ≡ among at ks
different-has ks at = all_of-has ks empty at ∙ ap (λ b. among at ks || b) (none-has at) ∙ or_none (among at ks)

-- with one key more there is one more, unless it is there already
pub different-more : (ks : List TableKey) (k : TableKey) → different (ks ++ k ∷ []) ≡ cond (among k ks) (different ks) (different ks + 1)
different-more ks k =
    sym (len-entries (all_of empty (ks ++ k ∷ [])))
    ∙ ap len (all_of-append ks empty k)
    ∙ len-insert table_key_cmp_total (all_of empty ks) k tt
    ∙ ap (λ b. cond b (len (all_of empty ks)) (len (all_of empty ks) + 1)) (different-has ks k)
    ∙ ap (λ n. cond (among k ks) n (n + 1)) (len-entries (all_of empty ks))

new_ones : (m : KeySet) (ks : List TableKey) → IsStrictlySortedBy table_key_cmp ks → AllByRecursion (λ k. contains_key m k ≡ false) ks → len (all_of m ks) ≡ len m + length ks
new_ones m [] sorted all = omega arith
new_ones m (k ∷ ks) sorted all =
    let more : len (insert m k tt) ≡ len m + 1 = len-insert table_key_cmp_total m k tt ∙ ap (λ b. cond b (len m) (len m + 1)) all.0 in
    let rest : len (all_of (insert m k tt) ks) ≡ len (insert m k tt) + length ks =
    new_ones (insert m k tt) ks (sorted_tail table_key_cmp k ks sorted) (still ks all.1 (sorted_head table_key_cmp k ks sorted)) in
    omega arith
  where
    still : (xs : List TableKey) → AllByRecursion (λ x. contains_key m x ≡ false) xs → AllByRecursion (λ x. table_key_cmp k x ≡ Less) xs → AllByRecursion (λ x. contains_key (insert m k tt) x ≡ false) xs
    still [] none less = tt
    still (x ∷ xs) none less =
        (insert-has m k x ∙ ap (λ b. b || contains_key m x) (ap is_eq (table_key_cmp_total.antisymm x k ∙ ap ordering_reverse less.0)) ∙ none.0, still xs none.1 less.1)

none_of : (ks : List TableKey) → AllByRecursion (λ k. contains_key (empty {X = Unit {0}} {R = table_key_cmp}) k ≡ false) ks
none_of [] = tt
none_of (k ∷ ks) = (none-has k, none_of ks)

-- keys that ascend are all different
pub different-ascending : (ks : List TableKey) → IsStrictlySortedBy table_key_cmp ks → different ks ≡ length ks
different-ascending ks sorted =
    let all : len (all_of (empty {X = Unit {0}} {R = table_key_cmp}) ks) ≡ len (empty {X = Unit {0}} {R = table_key_cmp}) + length ks = new_ones empty ks sorted (none_of ks) in
    omega (arith, len-entries (all_of empty ks), len-empty table_key_cmp (Unit {0}))

-- there are no fewer with one key more
pub different-grows : (ks : List TableKey) (k : TableKey) → different ks ≤ different (ks ++ k ∷ [])
different-grows ks k =
    subst (λ (n : ℕ). different ks ≤ n) (sym (different-more ks k)) (no_fewer (among k ks) (different ks))
  where
    no_fewer : (b : Bool) (n : ℕ) → n ≤ cond b n (n + 1)
    no_fewer true n = omega arith
    no_fewer false n = omega arith

found-among : (at : TableKey) (items : List Intention) → is_some (intention_at at items) ≡ among at (keys_written items)
found-among at [] = refl
found-among at (i ∷ items) =
    elim (eq_by_cmp table_key_cmp at i.table_key) as (λ b. is_some (cond b (Some i) (intention_at at items)) ≡ (b || among at (keys_written items))) [ true ↦ refl | false ↦ found-among at items ]

among-writes : (at : TableKey) (writes : List Write) → list_any (λ w. eq_by_cmp table_key_cmp at (table_key_of w)) writes ≡ among at (table_keys writes)
among-writes at [] = refl
among-writes at (w ∷ writes) = ap (λ b. eq_by_cmp table_key_cmp at (table_key_of w) || b) (among-writes at writes)

append-more : (ks : List TableKey) (writes : List Write) (w : Write) → ks ++ table_keys (writes ++ w ∷ []) ≡ (ks ++ table_keys writes) ++ table_key_of w ∷ []
append-more [] writes w = map-append table_key_of writes (w ∷ [])
append-more (k ∷ ks) writes w = ap (λ xs. k ∷ xs) (append-more ks writes w)

-- how many keys a transaction has written with one write more of a statement that hasn't written its key
pub written-more : (items : List Intention) (writes : List Write) (w : Write) → IsUnwritten (table_key_of w) writes
    → different (keys_written items ++ table_keys (writes ++ w ∷ []))
    ≡ different (keys_written items ++ table_keys writes) + cond (is_some (intention_at (table_key_of w) items)) 0 1
written-more items writes w un =
    let at : TableKey = table_key_of w in
    let is : among at (keys_written items ++ table_keys writes) ≡ is_some (intention_at at items) =
    list_any-append (eq_by_cmp table_key_cmp at) (keys_written items) (table_keys writes)
    ∙ ap (λ b. among at (keys_written items) || b) (sym (among-writes at writes) ∙ un)
    ∙ or_none (among at (keys_written items)) ∙ sym (found-among at items) in
    ap different (append-more (keys_written items) writes w) ∙ different-more (keys_written items ++ table_keys writes) at
    ∙ ap (λ b. cond b (different (keys_written items ++ table_keys writes)) (different (keys_written items ++ table_keys writes) + 1)) is
    ∙ one_or_none (is_some (intention_at at items)) (different (keys_written items ++ table_keys writes))
  where
    one_or_none : (b : Bool) (n : ℕ) → cond b n (n + 1) ≡ n + cond b 0 1
    one_or_none true n = omega arith
    one_or_none false n = omega arith

pub written-grows : (ks : List TableKey) (writes : List Write) (w : Write) → different (ks ++ table_keys writes) ≤ different (ks ++ table_keys (writes ++ w ∷ []))
written-grows ks writes w =
    subst (λ (xs : List TableKey). different (ks ++ table_keys writes) ≤ different xs) (sym (append-more ks writes w)) (different-grows (ks ++ table_keys writes) (table_key_of w))

nothing_more : (ks : List TableKey) → ks ++ [] ≡ ks
nothing_more [] = refl
nothing_more (k ∷ ks) = ap (λ xs. k ∷ xs) (nothing_more ks)

-- at first as many as there are intentions
pub written-first : (items : List Intention) → AreAscending items → length items ≡ different (keys_written items ++ table_keys [])
written-first items ascending =
    sym (length_keys items) ∙ sym (different-ascending (keys_written items) ascending) ∙ ap different (sym (nothing_more (keys_written items)))
  where
    length_keys : (is : List Intention) → length (keys_written is) ≡ length is
    length_keys [] = refl
    length_keys (i ∷ is) = ap suc (length_keys is)
