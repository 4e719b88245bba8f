-- What intentions lay over a state.
use Rattle.std.proofs.Common.{◌≡◌, ℕ, zero, suc, ◌+◌, ◌-◌, ◌<◌, ◌≤◌, Bool, true, false, not, cond, List, [], ◌∷◌, map, length, get_or, refl, sym, ap, subst, ◌∙◌, arith, Option, None, Some}
use Rattle.std.proofs.Math.ListN.{set}
use Rattle.std.specs.Prelude.{unwrap_or, option_map}
use Rattle.std.specs.declared.cmp.Ordering.{Ordering}
use Rattle.std.specs.declared.cmp.Ordering.TheVariants.{Less, Equal, Greater}
use Rattle.std.specs.List.{find, slice_get, insert, AllByRecursion}
use Rattle.std.specs.List.Sorted.{IsStrictlySortedBy, IsPartitionPoint}
use Rattle.std.specs.Ordering.{eq_by_cmp, is_eq, is_lt, ordering_reverse, match_ordering}
use Rattle.std.specs.FinMap.{get, same_map}
use Rattle.std.proofs.lemmas.Cmp.{alike_right, tied_back}
use Rattle.std.proofs.lemmas.Option.{get_or_from_slice_get}
use Rattle.std.proofs.lemmas.Map.Keys.{sorted_head, sorted_tail}
use Rattle.odb_values.specs.declared.value.Value.{Value}
use Rattle.odb_model.specs.declared.write.Write.{Write}
use Rattle.odb_model.specs.declared.table_key.TableKey.{TableKey}
use Rattle.odb_model.specs.declared.intention.Intention.{Intention}
use Rattle.odb_values.specs.declared.range.Range.{Range}
use Rattle.odb_model.specs.State.{State, table_key_cmp, table_key_of, changed, after_writes, is_in}
use Rattle.odb_rowsource.specs.Stand.{is_from}
use Rattle.odb_model.specs.Intentions.{intended_write}
use Rattle.odb_rowsource.specs.Intentions.{laid_over, AreAscending, AreIntentions, intention_at, row_over, next_intention, intention_of_write, put, is_before, comes_before, is_passed, where_passes, told_at}
use Rattle.odb_model.proofs.Replay.{table_key_cmp_total, table_key_cmp_exact, get-changed_at}
use Rattle.odb_rowsource.proofs.Splits.{Splits, Splits-tail}
use Rattle.odb_rowsource.proofs.Splits as splits
use Rattle.odb_rowsource.proofs.Stands.{is_next, from-next, next-from, next-stops, from-up}

flipped : (a b : TableKey) (o : Ordering) → table_key_cmp a b ≡ o → table_key_cmp b a ≡ ordering_reverse o
flipped a b o e = table_key_cmp_total.antisymm b a ∙ ap ordering_reverse e

-- the table keys of these are above one
abbrev pub Above : TableKey → List Intention → Type 0
Above k intentions = AllByRecursion (λ q. table_key_cmp k q ≡ Less) (map (λ i. i.table_key) intentions)

Above-less : (a b : TableKey) (intentions : List Intention) → table_key_cmp a b ≡ Less → Above b intentions → Above a intentions
Above-less a b [] less all = tt
Above-less a b (i ∷ intentions) less all = (table_key_cmp_total.trans a b i.table_key less all.0, Above-less a b intentions less all.1)

Above-tied : (a b : TableKey) (intentions : List Intention) → table_key_cmp a b ≡ Equal → Above b intentions → Above a intentions
Above-tied a b [] tied all = tt
Above-tied a b (i ∷ intentions) tied all = (table_key_cmp_total.congr a b i.table_key tied ∙ all.0, Above-tied a b intentions tied all.1)

Above-put : (k : TableKey) (intentions : List Intention) (w : Write) (t : Bool) → Above k intentions → table_key_cmp k (table_key_of w) ≡ Less → Above k (put intentions w t)
Above-put k [] w t all less = (less, tt)
Above-put k (i ∷ intentions) w t all less =
    elim (table_key_cmp (table_key_of w) i.table_key) as (λ o. Above k (match_ordering o (intention_of_write w t ∷ i ∷ intentions) (intention_of_write w i.was_there ∷ intentions) (i ∷ put intentions w t))) [
      | Less ↦ (less, all)
      | Equal ↦ (less, all.1)
      | Greater ↦ (all.0, Above-put k intentions w t all.1 less)
    ]

pub AreAscending-cons : (i : Intention) (intentions : List Intention) → Above i.table_key intentions → AreAscending intentions → AreAscending (i ∷ intentions)
unfolding IsStrictlySortedBy
AreAscending-cons i intentions above rest = (above, rest)

pub AreAscending-none : AreAscending []
unfolding IsStrictlySortedBy
AreAscending-none = tt

pub AreIntentions-none : AreIntentions []
AreIntentions-none = record { ascending = AreAscending-none; few = omega arith }

head_above : (i : Intention) (intentions : List Intention) → AreAscending (i ∷ intentions) → Above i.table_key intentions
head_above i intentions h = sorted_head table_key_cmp i.table_key (map (λ i. i.table_key) intentions) h

tail_ascending : (i : Intention) (intentions : List Intention) → AreAscending (i ∷ intentions) → AreAscending intentions
tail_ascending i intentions h = sorted_tail table_key_cmp i.table_key (map (λ i. i.table_key) intentions) h

-- a write that is added keeps the order
pub AreAscending-put : (intentions : List Intention) (w : Write) (t : Bool) → AreAscending intentions → AreAscending (put intentions w t)
AreAscending-put [] w t h = AreAscending-cons (intention_of_write w t) [] tt AreAscending-none
AreAscending-put (i ∷ intentions) w t h =
    let k : TableKey = table_key_of w in
    let above : Above i.table_key intentions = head_above i intentions h in
    let rest : AreAscending intentions = tail_ascending i intentions h in
    elim (table_key_cmp k i.table_key) as (λ o. table_key_cmp k i.table_key ≡ o → AreAscending (match_ordering o (intention_of_write w t ∷ i ∷ intentions) (intention_of_write w i.was_there ∷ intentions) (i ∷ put intentions w t))) [
      | Less ↦ λ e. AreAscending-cons (intention_of_write w t) (i ∷ intentions) (e, Above-less k i.table_key intentions e above) h
      | Equal ↦ λ e. AreAscending-cons (intention_of_write w i.was_there) intentions (Above-tied k i.table_key intentions e above) rest
      | Greater ↦ λ e. AreAscending-cons i (put intentions w t) (Above-put i.table_key intentions w t above (flipped k i.table_key Greater e)) (AreAscending-put intentions w t rest)
    ] refl

-- nothing is meant for what is below
intention_at-below : (q : TableKey) (intentions : List Intention) → Above q intentions → intention_at q intentions ≡ None
intention_at-below q [] all = refl
intention_at-below q (i ∷ intentions) all = ap (λ o. cond (is_eq o) (Some i) (intention_at q intentions)) all.0 ∙ intention_at-below q intentions all.1

abbrev pub row_of_option : Option Intention → Option (List Value) → Option (List Value)
row_of_option o other = unwrap_or (option_map (λ i. i.row) o) other

-- the row that is meant for a table key stands there
pub get-laid_over : (s : State) (intentions : List Intention) (q : TableKey) → AreAscending intentions → get (laid_over s intentions) q ≡ row_over q intentions (get s q)
get-laid_over s [] q h = refl
get-laid_over s (i ∷ intentions) q h =
    let later = get-laid_over (changed s i.table_key i.row) intentions q (tail_ascending i intentions h) in
    let here = get-changed_at s i.table_key i.row q in
    let above : Above i.table_key intentions = head_above i intentions h in
    later ∙ ap (row_of_option (intention_at q intentions)) here
    ∙ elim (table_key_cmp q i.table_key) as (λ o. table_key_cmp q i.table_key ≡ o
    → row_of_option (intention_at q intentions) (cond (is_eq o) i.row (get s q)) ≡ row_of_option (cond (is_eq o) (Some i) (intention_at q intentions)) (get s q)) [
      | Less ↦ λ e. refl
      | Equal ↦ λ e. ap (λ o. row_of_option o i.row) (intention_at-below q intentions (Above-tied q i.table_key intentions e above))
      | Greater ↦ λ e. refl
    ] refl

module _ (i : Intention) (intentions added : List Intention) (w : Write) (told : Bool) (q : TableKey) (other : Option (List Value)) where
  abbrev k : TableKey
  k = table_key_of w

  abbrev rest : Option Intention
  rest = intention_at q intentions

  in_front : (b : Bool) → row_of_option (cond b (Some (intention_of_write w told)) (intention_at q (i ∷ intentions))) other ≡ cond b w.row (row_over q (i ∷ intentions) other)
  in_front true = refl
  in_front false = refl

  replaced : (b : Bool) → row_of_option (cond b (Some (intention_of_write w told)) rest) other ≡ cond b w.row (row_of_option (cond b (Some i) rest) other)
  replaced true = refl
  replaced false = refl

  -- the intention for the key is replaced
  same_key : table_key_cmp k i.table_key ≡ Equal
      → row_of_option (cond (eq_by_cmp table_key_cmp q k) (Some (intention_of_write w told)) rest) other ≡ cond (eq_by_cmp table_key_cmp q k) w.row (row_over q (i ∷ intentions) other)
  same_key tied =
      replaced (eq_by_cmp table_key_cmp q k)
      ∙ ap (λ o. cond (eq_by_cmp table_key_cmp q k) w.row (row_of_option (cond (is_eq o) (Some i) rest) other)) (alike_right table_key_cmp_total k i.table_key q tied)

  apart : table_key_cmp k i.table_key ≡ Greater → table_key_cmp q i.table_key ≡ Equal → eq_by_cmp table_key_cmp q k ≡ false
  apart e tied = ap is_eq (table_key_cmp_total.congr q i.table_key k tied ∙ flipped k i.table_key Greater e)

  -- the key comes later
  passed : (b : Bool) → (b ≡ true → eq_by_cmp table_key_cmp q k ≡ false)
      → row_of_option (intention_at q added) other ≡ cond (eq_by_cmp table_key_cmp q k) w.row (row_of_option rest other)
      → row_of_option (cond b (Some i) (intention_at q added)) other ≡ cond (eq_by_cmp table_key_cmp q k) w.row (row_of_option (cond b (Some i) rest) other)
  passed true away more = sym (ap (λ b. cond b w.row i.row) (away refl))
  passed false away more = more

  is_tied : (o : Ordering) → is_eq o ≡ true → o ≡ Equal
  is_tied Less e = cc
  is_tied Equal e = refl
  is_tied Greater e = cc

  later_key : table_key_cmp k i.table_key ≡ Greater
      → row_over q added other ≡ cond (eq_by_cmp table_key_cmp q k) w.row (row_over q intentions other)
      → row_over q (i ∷ added) other ≡ cond (eq_by_cmp table_key_cmp q k) w.row (row_over q (i ∷ intentions) other)
  later_key e more = passed (eq_by_cmp table_key_cmp q i.table_key) (λ h. apart e (is_tied (table_key_cmp q i.table_key) h)) more

alone : (w : Write) (t : Bool) (other : Option (List Value)) (b : Bool) → row_of_option (cond b (Some (intention_of_write w t)) None) other ≡ cond b w.row other
alone w t other true = refl
alone w t other false = refl

-- a write that is added is meant for its key, and the others stay
row_over-put : (intentions : List Intention) (w : Write) (t : Bool) (q : TableKey) (other : Option (List Value))
    → row_over q (put intentions w t) other ≡ cond (eq_by_cmp table_key_cmp q (table_key_of w)) w.row (row_over q intentions other)
row_over-put [] w t q other = alone w t other (eq_by_cmp table_key_cmp q (table_key_of w))
row_over-put (i ∷ intentions) w t q other =
    let more = row_over-put intentions w t q other in
    elim (table_key_cmp (table_key_of w) i.table_key) as (λ o. table_key_cmp (table_key_of w) i.table_key ≡ o
    → row_over q (match_ordering o (intention_of_write w t ∷ i ∷ intentions) (intention_of_write w i.was_there ∷ intentions) (i ∷ put intentions w t)) other
    ≡ cond (eq_by_cmp table_key_cmp q (table_key_of w)) w.row (row_over q (i ∷ intentions) other)) [
      | Less ↦ λ e. in_front i intentions [] w t q other (eq_by_cmp table_key_cmp q (table_key_of w))
      | Equal ↦ λ e. same_key i intentions [] w i.was_there q other e
      | Greater ↦ λ e. later_key i intentions (put intentions w t) w t q other e more
    ] refl

-- what is laid over changes as a state does
pub laid_over-put : (s : State) (intentions : List Intention) (w : Write) (t : Bool) → AreAscending intentions
    → laid_over s (put intentions w t) ≡ changed (laid_over s intentions) (table_key_of w) w.row
laid_over-put s intentions w t h = same_map table_key_cmp_total table_key_cmp_exact _ _ (λ q.
    get-laid_over s (put intentions w t) q (AreAscending-put intentions w t h)
    ∙ row_over-put intentions w t q (get s q)
    ∙ sym (get-changed_at (laid_over s intentions) (table_key_of w) w.row q
    ∙ ap (cond (eq_by_cmp table_key_cmp q (table_key_of w)) w.row) (get-laid_over s intentions q h)))

module _ (w : Write) where
  before_greater : (i : Intention) → is_before (table_key_of w) i ≡ true → table_key_cmp (table_key_of w) i.table_key ≡ Greater
  before_greater i e = flipped i.table_key (table_key_of w) Less (less_is (table_key_cmp i.table_key (table_key_of w)) e) where
    less_is : (o : Ordering) → is_lt o ≡ true → o ≡ Less
    less_is Less e = refl
    less_is Equal e = cc
    less_is Greater e = cc

  not_before : (i : Intention) → is_before (table_key_of w) i ≡ false → is_eq (table_key_cmp (table_key_of w) i.table_key) ≡ false → table_key_cmp (table_key_of w) i.table_key ≡ Less
  not_before i e f = at_or_above (table_key_cmp (table_key_of w) i.table_key) refl f where
    at_or_above : (o : Ordering) → table_key_cmp (table_key_of w) i.table_key ≡ o → is_eq o ≡ false → table_key_cmp (table_key_of w) i.table_key ≡ Less
    at_or_above Less p g = p
    at_or_above Equal p g = cc
    at_or_above Greater p g = let less : true ≡ false = sym (ap is_lt (flipped (table_key_of w) i.table_key Greater p)) ∙ e in cc

  by_order : (i : Intention) (intentions : List Intention) (t : Bool) (o : Ordering) → table_key_cmp (table_key_of w) i.table_key ≡ o
      → put (i ∷ intentions) w t ≡ match_ordering o (intention_of_write w t ∷ i ∷ intentions) (intention_of_write w i.was_there ∷ intentions) (i ∷ put intentions w t)
  by_order i intentions t o e = ap (λ p. match_ordering p (intention_of_write w t ∷ i ∷ intentions) (intention_of_write w i.was_there ∷ intentions) (i ∷ put intentions w t)) e

  none_told : (i : Intention) (b : Bool) → None ≡ option_map (λ (x : Intention). x.was_there) (cond b (Some i) None) → b ≡ false
  none_told i true e = cc
  none_told i false e = refl

  some_told : (i : Intention) (b told : Bool) → Some told ≡ option_map (λ (x : Intention). x.was_there) (cond b (Some i) None) → (b ≡ true) × (i.was_there ≡ told)
  some_told i true told e = (refl, cc)
  some_told i false told e = cc

  -- where the place of a write is split off and no intention is for its key, the write goes in there
  pub put-new : (intentions : List Intention) (t : Bool) (at : ℕ) → at ≤ length intentions → Splits (is_before (table_key_of w)) intentions at
      → None ≡ told_at (table_key_of w) (slice_get intentions at)
      → insert intentions at (intention_of_write w t) ≡ put intentions w t
  put-new [] t zero within split none = refl
  put-new [] t (suc at) within split none = absurd (omega arith)
  put-new (i ∷ intentions) t zero within split none =
      sym (by_order i intentions t Less (not_before i (split.high i (omega arith)) (none_told i (eq_by_cmp table_key_cmp (table_key_of w) i.table_key) none)))
  put-new (i ∷ intentions) t (suc at) within split none =
      let less : at ≤ length intentions = omega arith in
      ap (λ rest. i ∷ rest) (put-new intentions t at less (Splits-tail (is_before (table_key_of w)) i intentions at split) none)
      ∙ sym (by_order i intentions t Greater (before_greater i (split.low 0 i (omega arith))))

  equal_is : (o : Ordering) → is_eq o ≡ true → o ≡ Equal
  equal_is Less e = cc
  equal_is Equal e = refl
  equal_is Greater e = cc

  -- where one is, the write takes its place, but for what it told
  pub put-again : (intentions : List Intention) (t : Bool) (at : ℕ) (told : Bool) → Splits (is_before (table_key_of w)) intentions at
      → Some told ≡ told_at (table_key_of w) (slice_get intentions at)
      → set intentions at (intention_of_write w told) ≡ put intentions w t
  put-again [] t at told split found = cc
  put-again (i ∷ intentions) t zero told split found =
      let parts = some_told i (eq_by_cmp table_key_cmp (table_key_of w) i.table_key) told found in
      ap (λ b. intention_of_write w b ∷ intentions) (sym parts.1)
      ∙ sym (by_order i intentions t Equal (equal_is (table_key_cmp (table_key_of w) i.table_key) parts.0))
  put-again (i ∷ intentions) t (suc at) told split found =
      ap (λ rest. i ∷ rest) (put-again intentions t at told (Splits-tail (is_before (table_key_of w)) i intentions at split) found)
      ∙ sym (by_order i intentions t Greater (before_greater i (split.low 0 i (omega arith))))

above_at : (k : TableKey) (intentions : List Intention) → Above k intentions → (j : ℕ) (d : Intention) → j < length intentions → table_key_cmp k (get_or intentions j d).table_key ≡ Less
above_at k [] all j d h = absurd (omega arith)
above_at k (i ∷ intentions) all zero d h = all.0
above_at k (i ∷ intentions) all (suc j) d h = above_at k intentions all.1 j d (omega arith)

-- in the order of table keys what comes before comes first
pub parted : (before : Intention → Bool) → ((a b : Intention) → table_key_cmp a.table_key b.table_key ≡ Less → before b ≡ true → before a ≡ true)
    → (intentions : List Intention) → AreAscending intentions → (i j : ℕ) (d : Intention) → i ≤ j → j < length intentions → before (get_or intentions j d) ≡ true → before (get_or intentions i d) ≡ true
parted before down [] h i j d le lt e = absurd (omega arith)
parted before down (x ∷ intentions) h zero zero d le lt e = e
parted before down (x ∷ intentions) h zero (suc j) d le lt e =
    let within : j < length intentions = omega arith in
    down x (get_or intentions j d) (above_at x.table_key intentions (head_above x intentions h) j d within) e
parted before down (x ∷ intentions) h (suc i) zero d le lt e = absurd (omega arith)
parted before down (x ∷ intentions) h (suc i) (suc j) d le lt e =
    parted before down intentions (tail_ascending x intentions h) i j d (omega arith) (omega arith) e

lt_is : (o : Ordering) → is_lt o ≡ true → o ≡ Less
lt_is Less e = refl
lt_is Equal e = cc
lt_is Greater e = cc

pub before-down : (k : TableKey) (a b : Intention) → table_key_cmp a.table_key b.table_key ≡ Less → is_before k b ≡ true → is_before k a ≡ true
before-down k a b less e = ap is_lt (table_key_cmp_total.trans a.table_key b.table_key k less (lt_is (table_key_cmp b.table_key k) e))

last_before : (k : TableKey) (intentions : List Intention) (o : Option Intention) (d : Intention) → slice_get intentions (length intentions - 1) ≡ o → comes_before k o ≡ true
    → is_before k (get_or intentions (length intentions - 1) d) ≡ true
last_before k intentions None d e before = cc
last_before k intentions (Some i) d e before = ap (is_before k) (get_or_from_slice_get intentions (length intentions - 1) i d e) ∙ before

-- where the last comes before a table key all do
pub all_before : (k : TableKey) (intentions : List Intention) → AreAscending intentions → comes_before k (slice_get intentions (length intentions - 1)) ≡ true
    → IsPartitionPoint (λ i. is_before k i ≡ true) (λ i. is_before k i ≡ false) intentions (length intentions)
all_before k intentions h before = (
  λ j d low high. parted (is_before k) (before-down k) intentions h j (length intentions - 1) d (omega arith) (omega arith)
      (last_before k intentions (slice_get intentions (length intentions - 1)) d refl before),
  λ j d low high. absurd (omega arith),
)

not_up : (p q : Bool) → (p ≡ true → q ≡ true) → not q ≡ true → not p ≡ true
not_up true q up e = let no : not true ≡ true = ap not (sym (up refl)) ∙ e in cc
not_up false q up e = refl

pub passed-down : (range : Range) (after : Option (List Value)) (a b : Intention) → table_key_cmp a.table_key b.table_key ≡ Less → is_passed range after b ≡ true → is_passed range after a ≡ true
passed-down range after a b less e =
    not_up (is_from range after a.table_key) (is_from range after b.table_key) (from-up range after a.table_key b.table_key less) e

unnot : (b : Bool) → not (not b) ≡ true → b ≡ true
unnot true e = refl
unnot false e = cc

same_passes : (test : Intention → Bool) (o : Option Intention) → splits.where_passes test o ≡ where_passes test o
same_passes test None = refl
same_passes test (Some i) = refl

-- the next intention of a range is the first that isn't passed, where that is inside
pub next-found : (range : Range) (after : Option (List Value)) (intentions : List Intention) (at : ℕ) → AreAscending intentions → Splits (is_passed range after) intentions at
    → next_intention range after intentions ≡ where_passes (λ i. is_in range i.table_key) (slice_get intentions at)
next-found range after intentions at h split =
    splits.find-wanted (λ i. i.table_key) (λ i. not (is_passed range after i)) (λ i. is_next range after i.table_key) (λ i. is_in range i.table_key)
    (λ i e. ap (λ b. not (not b)) (from-next range after i.table_key e))
    (λ i e. next-from range after i.table_key (unnot (is_from range after i.table_key) e))
    (λ a b less e out. next-stops range after a.table_key b.table_key less (unnot (is_from range after a.table_key) e) out)
    intentions h
    ∙ ap (splits.where_passes (λ i. is_in range i.table_key)) (splits.find-split (is_passed range after) intentions at split)
    ∙ same_passes (λ i. is_in range i.table_key) (slice_get intentions at)

tied_not_before : (k p : TableKey) → is_eq (table_key_cmp k p) ≡ true → not (is_lt (table_key_cmp p k)) ≡ true
tied_not_before k p e = by (table_key_cmp k p) refl e where
  by : (o : Ordering) → table_key_cmp k p ≡ o → is_eq o ≡ true → not (is_lt (table_key_cmp p k)) ≡ true
  by Less f g = cc
  by Equal f g = ap (λ o. not (is_lt o)) (flipped k p Equal f)
  by Greater f g = cc

behind_not_tied : (k a b : TableKey) → table_key_cmp a b ≡ Less → not (is_lt (table_key_cmp a k)) ≡ true → is_eq (table_key_cmp k a) ≡ false → is_eq (table_key_cmp k b) ≡ false
behind_not_tied k a b less e out = by (table_key_cmp k a) refl out where
  by : (o : Ordering) → table_key_cmp k a ≡ o → is_eq o ≡ false → is_eq (table_key_cmp k b) ≡ false
  by Less f g = ap is_eq (table_key_cmp_total.trans k a b f less)
  by Equal f g = cc
  by Greater f g = let no : not true ≡ true = sym (ap (λ o. not (is_lt o)) (flipped k a Greater f)) ∙ e in cc

-- what is meant for a table key is the first that isn't before, where that is for it
pub at-found : (k : TableKey) (intentions : List Intention) (at : ℕ) → AreAscending intentions → Splits (is_before k) intentions at
    → intention_at k intentions ≡ where_passes (λ i. eq_by_cmp table_key_cmp k i.table_key) (slice_get intentions at)
at-found k intentions at h split =
    splits.find-wanted (λ i. i.table_key) (λ i. not (is_before k i)) (λ i. eq_by_cmp table_key_cmp k i.table_key) (λ i. eq_by_cmp table_key_cmp k i.table_key)
    (λ i e. tied_not_before k i.table_key e)
    (λ i e. refl)
    (λ a b less e out. behind_not_tied k a.table_key b.table_key less e out)
    intentions h
    ∙ ap (splits.where_passes (λ i. eq_by_cmp table_key_cmp k i.table_key)) (splits.find-split (is_before k) intentions at split)
    ∙ same_passes (λ i. eq_by_cmp table_key_cmp k i.table_key) (slice_get intentions at)
