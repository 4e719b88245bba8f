-- In the order of table keys those before a range come first, then those inside, then those behind.
use Rattle.std.proofs.Common.{◌≡◌, ℕ, ◌≤◌, Bool, true, false, ◌&&◌, ◌==◌, not, cond, List, [], ◌∷◌, length, take, drop, refl, sym, ap, subst, ◌∙◌, arith, Option, None, Some, eqb-true}
use Rattle.std.specs.declared.cmp.Ordering.{Ordering}
use Rattle.std.specs.declared.cmp.Ordering.TheVariants.{Less, Equal, Greater}
use Rattle.std.specs.List.{starts_with}
use Rattle.std.specs.Ordering.{nat_cmp, ordering_then, ordering_index, ordering_reverse, is_lt, is_le, is_eq, is_gt, eq_by_cmp}
use Rattle.std.specs.Cmp.{IsTotalOrder, unsigned_ties}
use Rattle.std.specs.Cmp.Lexicographic.{pointwise}
use Rattle.std.proofs.lemmas.Cmp.{upto, alike_right, tied_back, nat_cmp_total, ranked}
use Rattle.odb_values.specs.declared.value.Value.{Value}
use Rattle.odb_values.specs.declared.edge.Edge.{Edge}
use Rattle.odb_values.specs.declared.edge.Edge.TheVariants.{Free, Closed, Beyond}
use Rattle.odb_values.specs.declared.range.Range.{Range}
use Rattle.odb_values.specs.Value.{value_cmp, values_cmp}
use Rattle.odb_values.specs.ValueOrder.{value_cmp_total}
use Rattle.odb_values.specs.Range.{passes_low, passes_high, is_inside}
use Rattle.odb_model.specs.declared.table_key.TableKey.{TableKey}
use Rattle.odb_model.specs.State.{table_key_cmp, is_in}
use Rattle.odb_rowsource.specs.RowSource.{is_above}
use Rattle.odb_rowsource.specs.Stand.{is_free, reaches, stays_under, rest_stand, key_stand, stand, is_behind, is_from}
use Rattle.odb_model.proofs.Replay.{table_key_cmp_total}

-- one answer is not above another, where Less is the lowest
abbrev Rises : Ordering → Ordering → Type 0
Rises p q = ordering_index p ≤ ordering_index q

from_less : (q : Ordering) → Rises Less q
from_less Less = omega arith
from_less Equal = omega arith
from_less Greater = omega arith

to_greater : (p : Ordering) → Rises p Greater
to_greater Less = omega arith
to_greater Equal = omega arith
to_greater Greater = omega arith

same_rises : (p : Ordering) → Rises p p
same_rises p = omega arith

then_rises : (o p q : Ordering) → Rises p q → Rises (ordering_then o p) (ordering_then o q)
then_rises Less p q h = omega arith
then_rises Equal p q h = h
then_rises Greater p q h = omega arith

module _ {K : Type 0} {R : K → K → Ordering} (order : IsTotalOrder R) (x y p : K) (a b : Ordering) where
  -- a lesser first part
  first_rises : R x y ≡ Less → Rises (ordering_then (R x p) a) (ordering_then (R y p) b)
  first_rises less = elim (R y p) as (λ o. R y p ≡ o → Rises (ordering_then (R x p) a) (ordering_then o b)) [
    | Less ↦ λ e. subst (λ (o : Ordering). Rises (ordering_then o a) Less) (sym (order.trans x y p less e)) (from_less Less)
    | Equal ↦ λ e. subst (λ (o : Ordering). Rises (ordering_then o a) b) (sym (sym (alike_right order y p x e) ∙ less)) (from_less b)
    | Greater ↦ λ e. to_greater (ordering_then (R x p) a)
  ] refl

  -- a tied first part
  rest_rises : R x y ≡ Equal → Rises a b → Rises (ordering_then (R x p) a) (ordering_then (R y p) b)
  rest_rises tied h = subst (λ (o : Ordering). Rises (ordering_then o a) (ordering_then (R y p) b)) (sym (order.congr x y p tied)) (then_rises (R y p) a b h)

le_not_gt : (o : Ordering) → is_le o ≡ true → is_gt o ≡ false
le_not_gt Less e = refl
le_not_gt Equal e = refl
le_not_gt Greater e = cc

not_gt_le : (o : Ordering) → is_gt o ≡ false → is_le o ≡ true
not_gt_le Less e = refl
not_gt_le Equal e = refl
not_gt_le Greater e = cc

lt_less : (o : Ordering) → is_lt o ≡ true → o ≡ Less
lt_less Less e = refl
lt_less Equal e = cc
lt_less Greater e = cc

module _ (x y : Value) (up : is_gt (value_cmp x y) ≡ false) where
  reaches-up : (low : Edge) → reaches low x ≡ true → reaches low y ≡ true
  reaches-up Free e = refl
  reaches-up (Closed v) e = not_gt_le (value_cmp v y) (upto value_cmp_total v x y (le_not_gt (value_cmp v x) e) up)
  reaches-up (Beyond v) e = elim (value_cmp x y) as (λ o. value_cmp x y ≡ o → is_gt o ≡ false → is_lt (value_cmp v y) ≡ true) [
    | Less ↦ λ c g. ap is_lt (value_cmp_total.trans v x y (lt_less (value_cmp v x) e) c)
    | Equal ↦ λ c g. ap is_lt (sym (alike_right value_cmp_total x y v c)) ∙ e
    | Greater ↦ λ c g. cc
  ] refl up

  stays_under-down : (high : Edge) → stays_under high y ≡ true → stays_under high x ≡ true
  stays_under-down Free e = refl
  stays_under-down (Closed v) e = not_gt_le (value_cmp x v) (upto value_cmp_total x y v up (le_not_gt (value_cmp y v) e))
  stays_under-down (Beyond v) e = elim (value_cmp x y) as (λ o. value_cmp x y ≡ o → is_gt o ≡ false → is_lt (value_cmp x v) ≡ true) [
    | Less ↦ λ c g. ap is_lt (value_cmp_total.trans x y v c (lt_less (value_cmp y v) e))
    | Equal ↦ λ c g. ap is_lt (value_cmp_total.congr x y v c) ∙ e
    | Greater ↦ λ c g. cc
  ] refl up

between_rises : (rx ry sx sy : Bool) → (rx ≡ true → ry ≡ true) → (sy ≡ true → sx ≡ true)
    → Rises (cond rx (cond sx Equal Greater) Less) (cond ry (cond sy Equal Greater) Less)
between_rises false ry sx sy r s = from_less (cond ry (cond sy Equal Greater) Less)
between_rises true false sx sy r s = let no : false ≡ true = r refl in cc
between_rises true true sx false r s = to_greater (cond sx Equal Greater)
between_rises true true false true r s = let no : false ≡ true = s refl in cc
between_rises true true true true r s = same_rises Equal

none_rises : (low high : Edge) (y : Value) → Rises (cond (is_free low && is_free high) Equal Less) (cond (reaches low y) (cond (stays_under high y) Equal Greater) Less)
none_rises Free Free y = same_rises Equal
none_rises Free (Closed v) y = from_less (cond (stays_under (Closed v) y) Equal Greater)
none_rises Free (Beyond v) y = from_less (cond (stays_under (Beyond v) y) Equal Greater)
none_rises (Closed v) high y = from_less (cond (reaches (Closed v) y) (cond (stays_under high y) Equal Greater) Less)
none_rises (Beyond v) high y = from_less (cond (reaches (Beyond v) y) (cond (stays_under high y) Equal Greater) Less)

then_up : (o p : Ordering) → ordering_then o p ≡ Less → is_gt o ≡ false
then_up Less p e = refl
then_up Equal p e = refl
then_up Greater p e = cc

rest_stand-up : (low high : Edge) (a b : List Value) → values_cmp a b ≡ Less → Rises (rest_stand low high a) (rest_stand low high b)
rest_stand-up low high [] [] e = cc
rest_stand-up low high [] (y ∷ b) e = none_rises low high y
rest_stand-up low high (x ∷ a) [] e = cc
rest_stand-up low high (x ∷ a) (y ∷ b) e =
    let up : is_gt (value_cmp x y) ≡ false = then_up (value_cmp x y) (values_cmp a b) e in
    between_rises (reaches low x) (reaches low y) (stays_under high x) (stays_under high y) (reaches-up x y up low) (stays_under-down x y up high)

key_stand-up : (prefix : List Value) (low high : Edge) (a b : List Value) → values_cmp a b ≡ Less → Rises (key_stand prefix low high a) (key_stand prefix low high b)
key_stand-up [] low high a b e = rest_stand-up low high a b e
key_stand-up (p ∷ prefix) low high [] b e = from_less (key_stand (p ∷ prefix) low high b)
key_stand-up (p ∷ prefix) low high (x ∷ a) [] e = cc
key_stand-up (p ∷ prefix) low high (x ∷ a) (y ∷ b) e =
    elim (value_cmp x y) as (λ o. value_cmp x y ≡ o → ordering_then o (values_cmp a b) ≡ Less
    → Rises (ordering_then (value_cmp x p) (key_stand prefix low high a)) (ordering_then (value_cmp y p) (key_stand prefix low high b))) [
      | Less ↦ λ c f. first_rises value_cmp_total x y p (key_stand prefix low high a) (key_stand prefix low high b) c
      | Equal ↦ λ c f. rest_rises value_cmp_total x y p (key_stand prefix low high a) (key_stand prefix low high b) c (key_stand-up prefix low high a b f)
      | Greater ↦ λ c f. cc
    ] refl e

-- a greater table key doesn't stand lower
pub stand-up : (range : Range) (a b : TableKey) → table_key_cmp a b ≡ Less → ordering_index (stand range a) ≤ ordering_index (stand range b)
stand-up range a b e =
    let low : Ordering = key_stand range.prefix range.low range.high a.key in
    let high : Ordering = key_stand range.prefix range.low range.high b.key in
    elim (nat_cmp a.table b.table) as (λ o. nat_cmp a.table b.table ≡ o → ordering_then o (values_cmp a.key b.key) ≡ Less
    → Rises (ordering_then (nat_cmp a.table range.table) low) (ordering_then (nat_cmp b.table range.table) high)) [
      | Less ↦ λ c f. first_rises nat_cmp_total a.table b.table range.table low high c
      | Equal ↦ λ c f. rest_rises nat_cmp_total a.table b.table range.table low high c (key_stand-up range.prefix range.low range.high a.key b.key f)
      | Greater ↦ λ c f. cc
    ] refl e

and_false : (a : Bool) → (a && false) ≡ false
and_false true = refl
and_false false = refl

-- an edge is passed as a value reaches it
passes_low-one : (low : Edge) (x : Value) (rest : List Value) → passes_low low (x ∷ rest) ≡ reaches low x
passes_low-one Free x rest = refl
passes_low-one (Closed v) x rest = refl
passes_low-one (Beyond v) x rest = refl

passes_high-one : (high : Edge) (x : Value) (rest : List Value) → passes_high high (x ∷ rest) ≡ stays_under high x
passes_high-one Free x rest = refl
passes_high-one (Closed v) x rest = refl
passes_high-one (Beyond v) x rest = refl

passes_low-none : (low : Edge) → passes_low low [] ≡ is_free low
passes_low-none Free = refl
passes_low-none (Closed v) = refl
passes_low-none (Beyond v) = refl

passes_high-none : (high : Edge) → passes_high high [] ≡ is_free high
passes_high-none Free = refl
passes_high-none (Closed v) = refl
passes_high-none (Beyond v) = refl

equal_if : (b : Bool) → is_eq (cond b Equal Less) ≡ b
equal_if true = refl
equal_if false = refl

equal_between : (r s : Bool) → is_eq (cond r (cond s Equal Greater) Less) ≡ (r && s)
equal_between true true = refl
equal_between true false = refl
equal_between false s = refl

rest_stand-inside : (low high : Edge) (rest : List Value) → is_eq (rest_stand low high rest) ≡ (passes_low low rest && passes_high high rest)
rest_stand-inside low high [] = equal_if (is_free low && is_free high)
    ∙ sym (ap (λ b. b && passes_high high []) (passes_low-none low) ∙ ap (λ b. is_free low && b) (passes_high-none high))
rest_stand-inside low high (x ∷ rest) = equal_between (reaches low x) (stays_under high x)
    ∙ sym (ap (λ b. b && passes_high high (x ∷ rest)) (passes_low-one low x rest) ∙ ap (λ b. reaches low x && b) (passes_high-one high x rest))

then_equal : (o p : Ordering) → is_eq (ordering_then o p) ≡ (is_eq o && is_eq p)
then_equal Less p = refl
then_equal Equal p = refl
then_equal Greater p = refl

and_assoc : (a b c : Bool) → (a && (b && c)) ≡ ((a && b) && c)
and_assoc true b c = refl
and_assoc false b c = refl

reverse_equal : (o : Ordering) → is_eq (ordering_reverse o) ≡ is_eq o
reverse_equal Less = refl
reverse_equal Equal = refl
reverse_equal Greater = refl

turned_equal : {K : Type 0} {R : K → K → Ordering} (order : IsTotalOrder R) (x y : K) → is_eq (R x y) ≡ is_eq (R y x)
turned_equal {R = R} order x y = ap is_eq (order.antisymm x y) ∙ reverse_equal (R y x)

regroup : (a p l h : Bool) → (a && ((p && l) && h)) ≡ (((a && p) && l) && h)
regroup true p l h = refl
regroup false p l h = refl

-- a prefix and what follows it
key_stand-inside : (prefix : List Value) (low high : Edge) (key : List Value) → is_eq (key_stand prefix low high key) ≡ is_inside prefix low high key
key_stand-inside [] low high key = rest_stand-inside low high key
key_stand-inside (p ∷ prefix) low high [] = refl
key_stand-inside (p ∷ prefix) low high (x ∷ key) =
    let rest : List Value = drop (length prefix) key in
    then_equal (value_cmp x p) (key_stand prefix low high key)
    ∙ ap (λ b. is_eq (value_cmp x p) && b) (key_stand-inside prefix low high key)
    ∙ ap (λ b. b && is_inside prefix low high key) (turned_equal value_cmp_total x p)
    ∙ regroup (is_eq (value_cmp p x)) (pointwise (eq_by_cmp value_cmp) prefix (take (length prefix) key)) (passes_low low rest) (passes_high high rest)

-- the table keys that stand inside are those of the range
pub stand-inside : (range : Range) (at : TableKey) → is_in range at ≡ is_eq (stand range at)
stand-inside range at =
    ap (λ b. b && is_inside range.prefix range.low range.high at.key) (unsigned_ties range.table at.table ∙ turned_equal nat_cmp_total range.table at.table)
    ∙ ap (λ b. is_eq (nat_cmp at.table range.table) && b) (sym (key_stand-inside range.prefix range.low range.high at.key))
    ∙ sym (then_equal (nat_cmp at.table range.table) (key_stand range.prefix range.low range.high at.key))

and_parts : (a b : Bool) → (a && b) ≡ true → (a ≡ true) × (b ≡ true)
and_parts true b e = (refl, e)
and_parts false b e = cc

both_so : (a b : Bool) → a ≡ true → b ≡ true → (a && b) ≡ true
both_so true b p q = q
both_so false b p q = cc

first_not : (a b : Bool) → a ≡ false → (a && b) ≡ false
first_not true b e = cc
first_not false b e = refl

equal_is : (o : Ordering) → is_eq o ≡ true → o ≡ Equal
equal_is Less e = cc
equal_is Equal e = refl
equal_is Greater e = cc

-- inside a range the table is the range's, so what lies behind a key of it lies above that key
behind-above : (range : Range) (after : Option (List Value)) (a : TableKey) → is_in range a ≡ true → is_behind range.table after a ≡ is_above after a.key
behind-above range None a inside = refl
behind-above range (Some last) a inside =
    let same : is_eq (nat_cmp range.table a.table) ≡ true = sym (unsigned_ties range.table a.table) ∙ (and_parts (range.table == a.table) (is_inside range.prefix range.low range.high a.key) inside).0 in
    ap (λ o. is_lt (ordering_then o (values_cmp last a.key))) (equal_is (nat_cmp range.table a.table) same)

equal_not_less : (o : Ordering) → is_eq o ≡ true → not (is_lt o) ≡ true
equal_not_less Less e = cc
equal_not_less Equal e = refl
equal_not_less Greater e = refl

-- what is in the range and above a key
abbrev pub is_next : Range → Option (List Value) → TableKey → Bool
is_next range after a = is_in range a && is_above after a.key

module _ (range : Range) (after : Option (List Value)) where
  pub from-next : (a : TableKey) → is_next range after a ≡ true → is_from range after a ≡ true
  from-next a e =
      let parts = and_parts (is_in range a) (is_above after a.key) e in
      both_so (not (is_lt (stand range a))) (is_behind range.table after a)
      (equal_not_less (stand range a) (sym (stand-inside range a) ∙ parts.0)) (behind-above range after a parts.0 ∙ parts.1)

  -- of those behind the key just the range tells
  pub next-from : (a : TableKey) → is_from range after a ≡ true → is_in range a ≡ is_next range after a
  next-from a e =
      let behind : is_behind range.table after a ≡ true = (and_parts (not (is_lt (stand range a))) (is_behind range.table after a) e).1 in
      elim (is_in range a) as (λ b. is_in range a ≡ b → b ≡ (b && is_above after a.key)) [
        | true ↦ λ i. sym (sym (behind-above range after a i) ∙ behind)
        | false ↦ λ i. refl
      ] refl

  past : (o p : Ordering) → not (is_lt o) ≡ true → is_eq o ≡ false → ordering_index o ≤ ordering_index p → is_eq p ≡ false
  past Less p e f up = cc
  past Equal p e f up = cc
  past Greater Less e f up = refl
  past Greater Equal e f up = absurd (omega arith)
  past Greater Greater e f up = refl

  -- once the range is passed nothing more of it comes
  pub next-stops : (a b : TableKey) → table_key_cmp a b ≡ Less → is_from range after a ≡ true → is_next range after a ≡ false → is_next range after b ≡ false
  next-stops a b less from out =
      let parts = and_parts (not (is_lt (stand range a))) (is_behind range.table after a) from in
      let outside : is_eq (stand range a) ≡ false = sym (stand-inside range a) ∙ next-from a from ∙ out in
      first_not (is_in range b) (is_above after b.key) (stand-inside range b ∙ past (stand range a) (stand range b) parts.0 outside (stand-up range a b less))

  not_less_up : (o p : Ordering) → not (is_lt o) ≡ true → ordering_index o ≤ ordering_index p → not (is_lt p) ≡ true
  not_less_up Less p e up = cc
  not_less_up Equal Less e up = absurd (omega arith)
  not_less_up Greater Less e up = absurd (omega arith)
  not_less_up o Equal e up = refl
  not_less_up o Greater e up = refl

  behind_up : (last : Option (List Value)) (a b : TableKey) → table_key_cmp a b ≡ Less → is_behind range.table last a ≡ true → is_behind range.table last b ≡ true
  behind_up None a b less e = refl
  behind_up (Some last) a b less e =
      let at : TableKey = record { table = range.table; key = last } in
      ap is_lt (table_key_cmp_total.trans at a b (lt_less (table_key_cmp at a) e) less)

  pub from-up : (a b : TableKey) → table_key_cmp a b ≡ Less → is_from range after a ≡ true → is_from range after b ≡ true
  from-up a b less from =
      let parts = and_parts (not (is_lt (stand range a))) (is_behind range.table after a) from in
      both_so (not (is_lt (stand range b))) (is_behind range.table after b)
      (not_less_up (stand range a) (stand range b) parts.0 (stand-up range a b less)) (behind_up after a b less parts.1)
