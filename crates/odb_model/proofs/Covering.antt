-- Every row at which a WHERE is True has its key in the range of the WHERE.
use Rattle.std.proofs.Common.{◌≡◌, ℕ, suc, Bool, true, false, ◌&&◌, ◌==◌, cond, List, [], ◌∷◌, ◌++◌, length, drop, refl, sym, ap, subst, ◌∙◌, Option, Some, None, option_map, slice_get, unwrap_or, if◌then◌else◌, eqb→eq, T, get_or, get_or-drop, add-zero}
use Rattle.std.proofs.lemmas.Option.{unwrap_or-slice_get}
use Rattle.std.specs.List.{filter, find, starts_with}
use Rattle.std.specs.declared.cmp.Ordering.{Ordering}
use Rattle.std.specs.declared.cmp.Ordering.TheVariants.{Less, Equal, Greater}
use Rattle.std.specs.Ordering.{is_eq, is_lt, is_le, is_gt, eq_by_cmp, ordering_reverse}
use Rattle.std.specs.Option.{option_map_or}
use Rattle.odb_values.specs.declared.value.Value.{Value}
use Rattle.odb_values.specs.declared.value.Value.TheVariants.{Null}
use Rattle.odb_values.specs.declared.edge.Edge.{Edge}
use Rattle.odb_values.specs.declared.edge.Edge.TheVariants.{Free, Closed, Beyond}
use Rattle.odb_values.specs.Value.{value_cmp, is_null}
use Rattle.odb_values.specs.ValueOrder.{value_cmp_total}
use Rattle.odb_values.specs.Range.{passes_low, passes_high, is_inside}
use Rattle.odb_model.specs.declared.predicate.Compare.{Compare}
use Rattle.odb_model.specs.declared.predicate.Compare.TheVariants.{Eq, Ne, Lt, Le, Gt, Ge}
use Rattle.odb_model.specs.declared.predicate.Operand.{Operand}
use Rattle.odb_model.specs.declared.predicate.Operand.TheVariants.{Column as ColumnOf, Literal}
use Rattle.odb_model.specs.declared.truth.Truth.{Truth}
use Rattle.odb_model.specs.declared.truth.Truth.TheVariants.{True, False, Unknown}
use Rattle.odb_model.specs.declared.predicate.Predicate.{Predicate, fold-Predicate}
use Rattle.odb_model.specs.Table.{Column, column_place, column_value, value_at}
use Rattle.odb_model.specs.Truth.{truth_if, holds, compared, operand_value, both_of, truth_step, truth_of, is_true, matches}
use Rattle.odb_model.specs.Where.{ColumnTest, flipped, test_at, column_tests, tests_step, tests_of, is_equal, equal_to, prefix_of, with_first, tighter, low_edge, high_edge, tests_at, low_of, high_of, lies_above, lies_below}
use Rattle.odb_model.proofs.Induct.{fold_test, fold_null, fold_not, fold_and, fold_or, induct_all}

pub and_true : (a b : Bool) → (a && b) ≡ true → (a ≡ true) × (b ≡ true)
and_true true b e = (refl, e)
and_true false b e = cc

pub both_true : (a b : Bool) → a ≡ true → b ≡ true → (a && b) ≡ true
both_true true b p q = q
both_true false b p q = cc

both_sides : (a b : Truth) → is_true (both_of a b) ≡ true → (is_true a ≡ true) × (is_true b ≡ true)
both_sides True b e = (refl, e)
both_sides False b e = cc
both_sides Unknown True e = cc
both_sides Unknown False e = cc
both_sides Unknown Unknown e = cc

holds_flipped : (op : Compare) (o : Ordering) → holds (flipped op) o ≡ holds op (ordering_reverse o)
holds_flipped Eq Less = refl
holds_flipped Eq Equal = refl
holds_flipped Eq Greater = refl
holds_flipped Ne Less = refl
holds_flipped Ne Equal = refl
holds_flipped Ne Greater = refl
holds_flipped Lt Less = refl
holds_flipped Lt Equal = refl
holds_flipped Lt Greater = refl
holds_flipped Le Less = refl
holds_flipped Le Equal = refl
holds_flipped Le Greater = refl
holds_flipped Gt Less = refl
holds_flipped Gt Equal = refl
holds_flipped Gt Greater = refl
holds_flipped Ge Less = refl
holds_flipped Ge Equal = refl
holds_flipped Ge Greater = refl

-- a comparison is True from both sides
compared_flipped : (op : Compare) (a b : Value) (m n : Bool) → is_true (if m then Unknown else if n then Unknown else truth_if (holds op (value_cmp b a))) ≡ true
    → is_true (if n then Unknown else if m then Unknown else truth_if (holds (flipped op) (value_cmp a b))) ≡ true
compared_flipped op a b true n e = cc
compared_flipped op a b false true e = cc
compared_flipped op a b false false e =
    ap (λ h. is_true (truth_if h)) (holds_flipped op (value_cmp a b) ∙ ap (holds op) (sym (value_cmp_total.antisymm b a))) ∙ e

-- what is compared is there
not_missing : (op : Compare) (v : Value) → is_true (compared op Null v) ≡ true → ⊥
not_missing op v e = cc

order_of : (op : Compare) (x v : Value) (m n : Bool) → is_true (if m then Unknown else if n then Unknown else truth_if (holds op (value_cmp x v))) ≡ true → holds op (value_cmp x v) ≡ true
order_of op x v true n e = cc
order_of op x v false true e = cc
order_of op x v false false e = by (holds op (value_cmp x v)) e
  where
    by : (b : Bool) → is_true (truth_if b) ≡ true → b ≡ true
    by true e = refl
    by false e = cc

ordered : (op : Compare) (x v : Value) → is_true (compared op x v) ≡ true → holds op (value_cmp x v) ≡ true
ordered op x v e = order_of op x v (is_null x) (is_null v) e

eq_reversed : (o : Ordering) → is_eq o ≡ true → is_eq (ordering_reverse o) ≡ true
eq_reversed Less e = cc
eq_reversed Equal e = refl
eq_reversed Greater e = cc

gt_reversed : (o : Ordering) → is_gt o ≡ true → is_lt (ordering_reverse o) ≡ true
gt_reversed Less e = cc
gt_reversed Equal e = cc
gt_reversed Greater e = refl

ge_reversed : (o : Ordering) → holds Ge o ≡ true → is_le (ordering_reverse o) ≡ true
ge_reversed Less e = cc
ge_reversed Equal e = refl
ge_reversed Greater e = refl

pub same_number : (m n : ℕ) → (m == n) ≡ true → m ≡ n
same_number m n e = eqb→eq m n (subst T (sym e) tt)

equal_only : (op : Compare) → is_equal op ≡ true → op ≡ Eq
equal_only Eq e = refl
equal_only Ne e = cc
equal_only Lt e = cc
equal_only Le e = cc
equal_only Gt e = cc
equal_only Ge e = cc

value_at-drop : (values : List Value) (n : ℕ) → value_at (drop n values) 0 ≡ value_at values n
value_at-drop values n = unwrap_or-slice_get (drop n values) 0 Null ∙ get_or-drop n values 0 Null ∙ ap (λ k. get_or values k Null) (add-zero n) ∙ sym (unwrap_or-slice_get values n Null)

module _ (values : List Value) where
  -- the comparison is True on the row
  abbrev pub Passes : ColumnTest → Type 0
  Passes test = is_true (compared test.op (value_at values test.place) test.value) ≡ true

  abbrev pub PassAll : List ColumnTest → Type 0
  PassAll [] = Unit {0}
  PassAll (test ∷ tests) = Passes test × PassAll tests

  PassAll-append : (fs bs : List ColumnTest) → PassAll fs → PassAll bs → PassAll (fs ++ bs)
  PassAll-append [] bs a b = b
  PassAll-append (test ∷ fs) bs a b = (a.0, PassAll-append fs bs a.1 b)

  PassAll-filter : (q : ColumnTest → Bool) (tests : List ColumnTest) → PassAll tests → PassAll (filter q tests)
  PassAll-filter q [] all = tt
  PassAll-filter q (test ∷ tests) all =
      elim (q test) as (λ b. PassAll (cond b (test ∷ filter q tests) (filter q tests))) [ true ↦ (all.0, PassAll-filter q tests all.1) | false ↦ PassAll-filter q tests all.1 ]

  test_passes : (place : Option ℕ) (op : Compare) (v : Value) → is_true (compared op (option_map_or (value_at values) place Null) v) ≡ true → PassAll (test_at place op v)
  test_passes None op v e = tt
  test_passes (Some place) op v e =
      elim (is_null v) as (λ b. PassAll (if b then [] else record { place = place; op = op; value = v } ∷ [])) [ true ↦ tt | false ↦ (e, tt) ]

  module _ (columns : List Column) where
    tests_pass-test : (op : Compare) (left right : Operand) → is_true (compared op (operand_value columns values left) (operand_value columns values right)) ≡ true → PassAll (column_tests columns op left right)
    tests_pass-test op (ColumnOf name) (Literal v) e = test_passes (column_place columns name) op v e
    tests_pass-test op (Literal v) (ColumnOf name) e =
        let x : Value = column_value columns values name in
        test_passes (column_place columns name) (flipped op) v (compared_flipped op x v (is_null v) (is_null x) e)
    tests_pass-test op (ColumnOf name) (ColumnOf other) e = tt
    tests_pass-test op (Literal v) (Literal w) e = tt

    abbrev tests_in : Predicate → List ColumnTest
    tests_in f = fold-Predicate (List ColumnTest) (tests_step columns) f

    abbrev TestsPass : Predicate → Type 0
    TestsPass f = is_true (truth_of columns values f) ≡ true → PassAll (tests_in f)

    -- where a predicate is True, so are the comparisons that are joined by AND at its top
    tests_pass : (f : Predicate) → TestsPass f
    tests_pass = induct_all TestsPass
        (λ op left right e. subst PassAll (sym (fold_test (List ColumnTest) (tests_step columns) op left right))
        (tests_pass-test op left right (ap is_true (sym (fold_test Truth (truth_step columns values) op left right)) ∙ e)))
        (λ name negated e. subst PassAll (sym (fold_null (List ColumnTest) (tests_step columns) name negated)) tt)
        (λ a p e. subst PassAll (sym (fold_not (List ColumnTest) (tests_step columns) a)) tt)
        (λ a b p q e.
        let sides = both_sides (truth_of columns values a) (truth_of columns values b) (ap is_true (sym (fold_and Truth (truth_step columns values) a b)) ∙ e) in
        subst PassAll (sym (fold_and (List ColumnTest) (tests_step columns) a b)) (PassAll-append (tests_in a) (tests_in b) (p sides.0) (q sides.1)))
        (λ a b p q e. subst PassAll (sym (fold_or (List ColumnTest) (tests_step columns) a b)) tt)

    pub filter_passes : (f : Option Predicate) → matches columns f values ≡ true → PassAll (tests_of columns f)
    filter_passes None e = tt
    filter_passes (Some f) e = tests_pass f e

  there : (test : ColumnTest) (place : ℕ) (v : Value) → Passes test → test.place ≡ place → test.op ≡ Eq → test.value ≡ v → is_true (compared Eq (value_at values place) v) ≡ true
  there test place v pass at equal same =
      subst (λ (q : ℕ). is_true (compared Eq (value_at values q) v) ≡ true) at
      (subst (λ (w : Value). is_true (compared Eq (value_at values test.place) w) ≡ true) same
      (subst (λ (op : Compare). is_true (compared op (value_at values test.place) test.value) ≡ true) equal pass))

  -- the first value that a column has to be equal to is equal to the row's
  equal_holds : (tests : List ColumnTest) (place : ℕ) (v : Value) → PassAll tests → equal_to tests place ≡ Some v → is_true (compared Eq (value_at values place) v) ≡ true
  equal_holds [] place v all e = cc
  equal_holds (test ∷ tests) place v all e =
      elim ((test.place == place) && is_equal test.op) as (λ b. ((test.place == place) && is_equal test.op) ≡ b
      → option_map (λ found. found.value) (cond b (Some test) (find (λ found. (found.place == place) && is_equal found.op) tests)) ≡ Some v → is_true (compared Eq (value_at values place) v) ≡ true) [
        | true ↦ λ both same.
            let parts = and_true (test.place == place) (is_equal test.op) both in
            there test place v all.0 (same_number test.place place parts.0) (equal_only test.op parts.1) (ap (λ o. unwrap_or o test.value) same)
        | false ↦ λ both later. equal_holds tests place v all.1 later
      ] refl e

  -- the values of some columns are those of a list, from its first on
  abbrev pub Lie : List ℕ → List Value → Type 0
  Lie places rest = (n place : ℕ) → slice_get places n ≡ Some place → value_at values place ≡ value_at rest n

  starts : (tests : List ColumnTest) (places : List ℕ) (rest : List Value) → PassAll tests → Lie places rest → starts_with (eq_by_cmp value_cmp) rest (prefix_of tests places) ≡ true
  starts tests [] rest all lie = refl
  starts tests (place ∷ places) [] all lie =
      elim (equal_to tests place) as (λ o. equal_to tests place ≡ o → starts_with (eq_by_cmp value_cmp) [] (with_first o (prefix_of tests places)) ≡ true) [
        | None ↦ λ e. refl
        | Some v ↦ λ e. absurd (not_missing Eq v (subst (λ (x : Value). is_true (compared Eq x v) ≡ true) (lie 0 place refl) (equal_holds tests place v all e)))
      ] refl
  starts tests (place ∷ places) (x ∷ rest) all lie =
      elim (equal_to tests place) as (λ o. equal_to tests place ≡ o → starts_with (eq_by_cmp value_cmp) (x ∷ rest) (with_first o (prefix_of tests places)) ≡ true) [
        | None ↦ λ e. refl
        | Some v ↦ λ e.
            let same : is_true (compared Eq x v) ≡ true = subst (λ (y : Value). is_true (compared Eq y v) ≡ true) (lie 0 place refl) (equal_holds tests place v all e) in
            both_true (eq_by_cmp value_cmp v x) _ (ap is_eq (value_cmp_total.antisymm v x) ∙ eq_reversed (value_cmp x v) (ordered Eq x v same)) (starts tests places rest all (λ n q found. lie (suc n) q found))
      ] refl

  module _ (rest : List Value) where
    low_tighter : (a b : Edge) → passes_low a rest ≡ true → passes_low b rest ≡ true → passes_low (tighter lies_above a b) rest ≡ true
    low_tighter Free b p q = q
    low_tighter (Closed a) Free p q = p
    low_tighter (Beyond a) Free p q = p
    low_tighter (Closed a) (Closed b) p q = elim (lies_above b a) as (λ c. passes_low (if c then Closed b else Closed a) rest ≡ true) [ true ↦ q | false ↦ p ]
    low_tighter (Closed a) (Beyond b) p q = elim (lies_above a b) as (λ c. passes_low (if c then Closed a else Beyond b) rest ≡ true) [ true ↦ p | false ↦ q ]
    low_tighter (Beyond a) (Closed b) p q = elim (lies_above b a) as (λ c. passes_low (if c then Closed b else Beyond a) rest ≡ true) [ true ↦ q | false ↦ p ]
    low_tighter (Beyond a) (Beyond b) p q = elim (lies_above b a) as (λ c. passes_low (if c then Beyond b else Beyond a) rest ≡ true) [ true ↦ q | false ↦ p ]

    high_tighter : (a b : Edge) → passes_high a rest ≡ true → passes_high b rest ≡ true → passes_high (tighter lies_below a b) rest ≡ true
    high_tighter Free b p q = q
    high_tighter (Closed a) Free p q = p
    high_tighter (Beyond a) Free p q = p
    high_tighter (Closed a) (Closed b) p q = elim (lies_below b a) as (λ c. passes_high (if c then Closed b else Closed a) rest ≡ true) [ true ↦ q | false ↦ p ]
    high_tighter (Closed a) (Beyond b) p q = elim (lies_below a b) as (λ c. passes_high (if c then Closed a else Beyond b) rest ≡ true) [ true ↦ p | false ↦ q ]
    high_tighter (Beyond a) (Closed b) p q = elim (lies_below b a) as (λ c. passes_high (if c then Closed b else Beyond a) rest ≡ true) [ true ↦ q | false ↦ p ]
    high_tighter (Beyond a) (Beyond b) p q = elim (lies_below b a) as (λ c. passes_high (if c then Beyond b else Beyond a) rest ≡ true) [ true ↦ q | false ↦ p ]

  low_passes : (op : Compare) (v : Value) (rest : List Value) → is_true (compared op (value_at rest 0) v) ≡ true → passes_low (low_edge op v) rest ≡ true
  low_passes Gt v [] e = absurd (not_missing Gt v e)
  low_passes Gt v (x ∷ rest) e = ap is_lt (value_cmp_total.antisymm v x) ∙ gt_reversed (value_cmp x v) (ordered Gt x v e)
  low_passes Ge v [] e = absurd (not_missing Ge v e)
  low_passes Ge v (x ∷ rest) e = ap is_le (value_cmp_total.antisymm v x) ∙ ge_reversed (value_cmp x v) (ordered Ge x v e)
  low_passes Eq v rest e = refl
  low_passes Ne v rest e = refl
  low_passes Lt v rest e = refl
  low_passes Le v rest e = refl

  high_passes : (op : Compare) (v : Value) (rest : List Value) → is_true (compared op (value_at rest 0) v) ≡ true → passes_high (high_edge op v) rest ≡ true
  high_passes Lt v [] e = absurd (not_missing Lt v e)
  high_passes Lt v (x ∷ rest) e = ordered Lt x v e
  high_passes Le v [] e = absurd (not_missing Le v e)
  high_passes Le v (x ∷ rest) e = ordered Le x v e
  high_passes Eq v rest e = refl
  high_passes Ne v rest e = refl
  high_passes Gt v rest e = refl
  high_passes Ge v rest e = refl

  module _ (place : ℕ) (rest : List Value) (lies : value_at values place ≡ value_at rest 0) where
    moved : (test : ColumnTest) → Passes test → test.place ≡ place → is_true (compared test.op (value_at rest 0) test.value) ≡ true
    moved test pass at = subst (λ (x : Value). is_true (compared test.op x test.value) ≡ true) (ap (value_at values) at ∙ lies) pass

    low_edges_pass : (tests : List ColumnTest) → PassAll tests → passes_low (low_of (filter (λ test. test.place == place) tests)) rest ≡ true
    low_edges_pass [] all = refl
    low_edges_pass (test ∷ tests) all =
        elim (test.place == place) as (λ b. (test.place == place) ≡ b → passes_low (low_of (cond b (test ∷ filter (λ t. t.place == place) tests) (filter (λ t. t.place == place) tests))) rest ≡ true) [
          | true ↦ λ e. low_tighter rest (low_edge test.op test.value) (low_of (filter (λ t. t.place == place) tests))
              (low_passes test.op test.value rest (moved test all.0 (same_number test.place place e))) (low_edges_pass tests all.1)
          | false ↦ λ e. low_edges_pass tests all.1
        ] refl

    high_edges_pass : (tests : List ColumnTest) → PassAll tests → passes_high (high_of (filter (λ test. test.place == place) tests)) rest ≡ true
    high_edges_pass [] all = refl
    high_edges_pass (test ∷ tests) all =
        elim (test.place == place) as (λ b. (test.place == place) ≡ b → passes_high (high_of (cond b (test ∷ filter (λ t. t.place == place) tests) (filter (λ t. t.place == place) tests))) rest ≡ true) [
          | true ↦ λ e. high_tighter rest (high_edge test.op test.value) (high_of (filter (λ t. t.place == place) tests))
              (high_passes test.op test.value rest (moved test all.0 (same_number test.place place e))) (high_edges_pass tests all.1)
          | false ↦ λ e. high_edges_pass tests all.1
        ] refl

  -- a key that begins with the values of the key's columns is inside the range of comparisons that are True
  pub inside : (tests : List ColumnTest) (places : List ℕ) (key : List Value) → PassAll tests → Lie places key
      → is_inside (prefix_of tests places) (low_of (tests_at tests (slice_get places (length (prefix_of tests places))))) (high_of (tests_at tests (slice_get places (length (prefix_of tests places))))) key ≡ true
  inside tests places key all lie =
      let n : ℕ = length (prefix_of tests places) in
      let start : Bool = starts_with (eq_by_cmp value_cmp) key (prefix_of tests places) in
      elim (slice_get places n) as (λ o. slice_get places n ≡ o → (start && passes_low (low_of (tests_at tests o)) (drop n key) && passes_high (high_of (tests_at tests o)) (drop n key)) ≡ true) [
        | None ↦ λ e. both_true _ _ (both_true _ _ (starts tests places key all lie) refl) refl
        | Some place ↦ λ e.
            let lies : value_at values place ≡ value_at (drop n key) 0 = lie n place e ∙ sym (value_at-drop key n) in
            both_true _ _ (both_true _ _ (starts tests places key all lie) (low_edges_pass place (drop n key) lies tests all)) (high_edges_pass place (drop n key) lies tests all)
      ] refl
