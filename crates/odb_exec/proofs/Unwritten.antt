-- The writes of rows in key order are to different keys.
use Rattle.std.proofs.Common.{◌≡◌, ℕ, Bool, true, false, ◌||◌, List, [], ◌∷◌, ◌++◌, length, cond, refl, sym, ap, subst, ◌∙◌, Option, None, append_assoc, arith}
use Rattle.std.specs.List.{filter, flat_map, AllByRecursion}
use Rattle.std.specs.Ordering.{eq_by_cmp, is_eq, ordering_reverse}
use Rattle.std.specs.FinMap.{entries}
use Rattle.std.proofs.lemmas.List.Folds.{list_any-append}
use Rattle.std.proofs.lemmas.List.{length-append}
use Rattle.odb_values.specs.declared.range.Range.{Range}
use Rattle.odb_values.specs.ValueOrder.{values_cmp_total}
use Rattle.odb_model.specs.declared.write.Write.{Write}
use Rattle.odb_model.specs.declared.table_key.TableKey.{TableKey}
use Rattle.odb_model.specs.State.{State, table_key_cmp, table_key_of, part_in}
use Rattle.odb_eval.specs.declared.filter.Filter.{Filter}
use Rattle.odb_rowsource.specs.RowSource.{rows_above}
use Rattle.odb_exec.specs.Walk.{is_kept, rows_left}
use Rattle.odb_exec.specs.Written.{IsUnwritten}
use Rattle.odb_rowsource.proofs.Above.{Entry, IsBefore, IsIn, Ascend, same_table, part-in, part-ascends}

module _ (P : Entry → Type 0) (p : Entry → Bool) where
  kept_one : (b : Bool) (x : Entry) (xs : List Entry) → P x → AllByRecursion P xs → AllByRecursion P (cond b (x ∷ xs) xs)
  kept_one true x xs here all = (here, all)
  kept_one false x xs here all = all

  all-filter : (xs : List Entry) → AllByRecursion P xs → AllByRecursion P (filter p xs)
  all-filter [] all = tt
  all-filter (x ∷ xs) all = kept_one (p x) x (filter p xs) all.0 (all-filter xs all.1)

module _ (p : Entry → Bool) where
  ascend_one : (b : Bool) (x : Entry) (xs : List Entry) → AllByRecursion (IsBefore x) xs → Ascend xs → Ascend (cond b (x ∷ xs) xs)
  ascend_one true x xs all up = (all, up)
  ascend_one false x xs all up = up

  ascend-filter : (xs : List Entry) → Ascend xs → Ascend (filter p xs)
  ascend-filter [] up = tt
  ascend-filter (x ∷ xs) up = ascend_one (p x) x (filter p xs) (all-filter (IsBefore x) p xs up.0) (ascend-filter xs up.1)

-- a row among others is behind those before it
passed-before : (passed : List Entry) (x : Entry) (later : List Entry) → Ascend (passed ++ x ∷ later) → AllByRecursion (λ y. IsBefore y x) passed
passed-before [] x later up = tt
passed-before (y ∷ ys) x later up = (among ys up.0, passed-before ys x later up.1)
  where
    among : (zs : List Entry) → AllByRecursion (IsBefore y) (zs ++ x ∷ later) → IsBefore y x
    among [] all = all.0
    among (z ∷ zs) all = among zs all.1

split : (P : Entry → Type 0) (passed : List Entry) (x : Entry) (later : List Entry) → AllByRecursion P (passed ++ x ∷ later) → AllByRecursion P passed × P x
split P [] x later all = (tt, all.0)
split P (y ∷ ys) x later all = let rest = split P ys x later all.1 in ((all.0, rest.0), rest.1)

-- rows of one table, one before the other, have different table keys
apart : (t : ℕ) (x y : Entry) → IsIn t x → IsIn t y → IsBefore y x → eq_by_cmp table_key_cmp x.0 y.0 ≡ false
apart t x y p q less =
    ap is_eq (ap (λ k. table_key_cmp k y.0) p ∙ ap (λ k. table_key_cmp (record { table = t; key = x.0.key }) k) q ∙ same_table t x.0.key y.0.key
    ∙ values_cmp_total.antisymm x.0.key y.0.key ∙ ap ordering_reverse less)

-- writes of rows, each to the row's own key
abbrev pub AreOwn : (Entry → List Write) → Type 0
AreOwn writes = (at : TableKey) (e : Entry) → eq_by_cmp table_key_cmp at e.0 ≡ false → IsUnwritten at (writes e)

module _ (writes : Entry → List Write) where
  pub writes-one : (passed : List Entry) (x : Entry) → flat_map writes (passed ++ x ∷ []) ≡ flat_map writes passed ++ writes x
  writes-one [] x = no_more (writes x)
    where
      no_more : (ws : List Write) → ws ++ [] ≡ ws
      no_more [] = refl
      no_more (w ∷ ws) = ap (λ l. w ∷ l) (no_more ws)
  writes-one (y ∷ ys) x = ap (λ l. writes y ++ l) (writes-one ys x) ∙ sym (append_assoc (writes y) (flat_map writes ys) (writes x))

  none : (a b : Bool) → a ≡ false → b ≡ false → (a || b) ≡ false
  none true b e f = cc
  none false b e f = f

  module _ (own : AreOwn writes) where
    passed-unwritten : (t : ℕ) (x : Entry) (passed : List Entry) → IsIn t x → AllByRecursion (IsIn t) passed → AllByRecursion (λ y. IsBefore y x) passed → IsUnwritten x.0 (flat_map writes passed)
    passed-unwritten t x [] p all less = refl
    passed-unwritten t x (y ∷ ys) p all less =
        list_any-append (λ w. eq_by_cmp table_key_cmp x.0 (table_key_of w)) (writes y) (flat_map writes ys)
        ∙ none _ _ (own x.0 y (apart t x y p all.0 less.0)) (passed-unwritten t x ys p all.1 less.1)

    -- a row's key isn't written by the rows before it
    pub row-unwritten : (range : Range) (f : Option Filter) (s : State) (passed : List Entry) (x : Entry) (later : List Entry) → rows_left range f None s ≡ passed ++ x ∷ later → IsUnwritten x.0 (flat_map writes passed)
    row-unwritten range f s passed x later e =
        let inside : AllByRecursion (IsIn range.table) (passed ++ x ∷ later) =
        subst (AllByRecursion (IsIn range.table)) e (all-filter (IsIn range.table) (is_kept f) (rows_above range None s) (all-filter (IsIn range.table) (λ y. true) (entries (part_in range s)) (part-in range s))) in
        let up : Ascend (passed ++ x ∷ later) =
        subst Ascend e (ascend-filter (is_kept f) (rows_above range None s) (ascend-filter (λ y. true) (entries (part_in range s)) (part-ascends range s))) in
        let parts = split (IsIn range.table) passed x later inside in
        passed-unwritten range.table x passed parts.1 parts.0 (passed-before passed x later up)

  -- as many writes as rows, where each has one
  pub one-each : (rows : List Entry) → ((e : Entry) → length (writes e) ≡ 1) → length (flat_map writes rows) ≡ length rows
  one-each [] one = refl
  one-each (x ∷ xs) one = omega (arith, length-append (writes x) (flat_map writes xs), one x, one-each xs one)
