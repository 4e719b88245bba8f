-- Searches among records in the order of their keys.
use Rattle.std.proofs.Common.{◌≡◌, ℕ, ◌≤◌, Bool, true, false, cond, List, [], ◌∷◌, ◌++◌, Option, Some, None, sym, ◌∙◌, ap, refl, arith}
use Rattle.std.specs.Prelude.{find, nat_lt, ◌==◌, ◌&&◌, ◌||◌}
use Rattle.std.specs.List.{list_any}
use Rattle.std.specs.declared.cmp.Ordering.{Ordering}
use Rattle.std.specs.declared.cmp.Ordering.TheVariants.{Less, Equal, Greater}
use Rattle.std.specs.Ordering.{is_gt, is_lt, is_eq, ordering_reverse, ordering_index}
use Rattle.std.specs.Option.{option_or}
use Rattle.std.proofs.lemmas.Bool.{and_parts, and_from}
use Rattle.std.proofs.lemmas.Cmp.{alike_right}
use Rattle.std.proofs.lemmas.List.Folds.{find-append, list_any-append}
use Rattle.odb_values.specs.declared.range.Range.{Range}
use Rattle.odb_values.specs.declared.value.Value.{Value}
use Rattle.odb_model.specs.State.{table_key_cmp}
use Rattle.odb_model.proofs.Replay.{table_key_cmp_total, table_key_cmp_exact}
use Rattle.odb_rowsource.specs.Stand.{stand, is_behind}
use Rattle.odb_rowsource.proofs.Stands.{stand-up}
use Rattle.odb_bank.specs.declared.kept.Kept.{Kept}
use Rattle.odb_bank.specs.Best.{is_for, better_of, best_in, has_row_in, is_reached}
use Rattle.odb_bank.specs.Choosing.{is_better}
use Rattle.odb_bank.specs.Closing.{supersedes, is_older, is_open}
use Rattle.odb_bank.specs.History.{Key, is_key}
use Rattle.odb_bank.specs.Order.{IsUpTo, Each, IsInOrder}
use Rattle.odb_bank.proofs.InOrder.{each_map, sides_of}

-- keys beside one
pub less_up : (k a b : Key) → table_key_cmp k a ≡ Less → IsUpTo a b → table_key_cmp k b ≡ Less
less_up k a b less up = by (table_key_cmp a b) refl up
  where
    by : (o : Ordering) → table_key_cmp a b ≡ o → is_gt o ≡ false → table_key_cmp k b ≡ Less
    by Less e g = table_key_cmp_total.trans k a b less e
    by Equal e g = sym (alike_right table_key_cmp_total a b k e) ∙ less
    by Greater e g = cc

pub up_less : (a b k : Key) → IsUpTo a b → table_key_cmp b k ≡ Less → table_key_cmp a k ≡ Less
up_less a b k up less = by (table_key_cmp a b) refl up
  where
    by : (o : Ordering) → table_key_cmp a b ≡ o → is_gt o ≡ false → table_key_cmp a k ≡ Less
    by Less e g = table_key_cmp_total.trans a b k e less
    by Equal e g = table_key_cmp_total.congr a b k e ∙ less
    by Greater e g = cc

pub turned : (a b : Key) (o : Ordering) → table_key_cmp a b ≡ o → table_key_cmp b a ≡ ordering_reverse o
turned a b o e = table_key_cmp_total.antisymm b a ∙ ap ordering_reverse e

less_not_key : (key a : Key) → table_key_cmp key a ≡ Less → is_key a key ≡ false
less_not_key key a e = ap is_eq (turned key a Less e)

abbrev pub IsNotOf : Key → Kept → Type 0
IsNotOf key y = is_key y.at key ≡ false

module _ (key : Key) (l : List Kept) (x : Kept) (r : List Kept) (all : IsInOrder (l ++ x ∷ r)) where
  pub none_right : table_key_cmp key x.at ≡ Less → Each (IsNotOf key) (x ∷ r)
  none_right less =
      let s = sides_of l x r all in
      (less_not_key key x.at less, each_map (λ y. IsUpTo x.at y.at) (IsNotOf key) r (λ y up. less_not_key key y.at (less_up key x.at y.at less up)) s.high)

  pub none_left : table_key_cmp key x.at ≡ Greater → Each (IsNotOf key) l × IsNotOf key x
  none_left more =
      let s = sides_of l x r all in
      let before = turned key x.at Greater more in
      (each_map (λ y. IsUpTo y.at x.at) (IsNotOf key) l (λ y up. ap is_eq (up_less y.at x.at key up before)) s.low, ap is_eq before)

-- a test that asks for the key
or_false : (b : Bool) → (b || false) ≡ b
or_false true = refl
or_false false = refl

module _ (f : Kept → Bool) (key : Key) (asks : (y : Kept) → f y ≡ true → is_key y.at key ≡ true) where
  fails : (y : Kept) → IsNotOf key y → (b : Bool) → f y ≡ b → f y ≡ false
  fails y other true e = let its = asks y e in absurd (cc (its, other))
  fails y other false e = e

  pub any_others : (xs : List Kept) → Each (IsNotOf key) xs → list_any f xs ≡ false
  any_others [] all = refl
  any_others (y ∷ ys) all = ap (λ b. b || list_any f ys) (fails y all.0 (f y) refl) ∙ any_others ys all.1

  pub any_before : (l : List Kept) (x : Kept) (r : List Kept) → IsInOrder (l ++ x ∷ r) → table_key_cmp key x.at ≡ Less → list_any f l ≡ list_any f (l ++ x ∷ r)
  any_before l x r all less = sym (list_any-append f l (x ∷ r) ∙ ap (λ b. list_any f l || b) (any_others (x ∷ r) (none_right key l x r all less)) ∙ or_false (list_any f l))

  pub any_behind : (l : List Kept) (x : Kept) (r : List Kept) → IsInOrder (l ++ x ∷ r) → table_key_cmp key x.at ≡ Greater → list_any f r ≡ list_any f (l ++ x ∷ r)
  any_behind l x r all more =
      let none = none_left key l x r all more in
      sym (list_any-append f l (x ∷ r) ∙ ap (λ b. b || (f x || list_any f r)) (any_others l none.0) ∙ ap (λ b. b || list_any f r) (fails x none.1 (f x) refl))

-- tests that ask for a key
pub superseding_key : (it by : Kept) → (is_open by.gate && supersedes by it) ≡ true → is_key by.at it.at ≡ true
superseding_key it by e =
    let outer = and_parts (is_open by.gate) (supersedes by it) e in
    (and_parts (is_key by.at it.at) (nat_lt it.stamp by.stamp || (by.stamp == it.stamp && nat_lt by.slot it.slot)) outer.1).0

pub older_key : (it other : Kept) → is_older other it ≡ true → is_key other.at it.at ≡ true
older_key it other e = (and_parts (is_key other.at it.at) (nat_lt other.stamp it.stamp) e).0

pub any_parts : (f : Kept → Bool) (l : List Kept) (x : Kept) (r : List Kept) → list_any f (l ++ x ∷ r) ≡ (list_any f l || (f x || list_any f r))
any_parts f l x r = list_any-append f l (x ∷ r)

-- the best record
pub best_append : (key : Key) (so_far : Option Kept) (xs ys : List Kept) → best_in key so_far (xs ++ ys) ≡ best_in key (best_in key so_far xs) ys
best_append key so_far [] ys = refl
best_append key so_far (x ∷ xs) ys = best_append key (better_of key so_far x) xs ys

and_false : (b : Bool) → (b && false) ≡ false
and_false true = refl
and_false false = refl

not_for : (key : Key) (y : Kept) → IsNotOf key y → is_for key y ≡ false
not_for key y other = ap (λ b. is_open y.gate && b) other ∙ and_false (is_open y.gate)

same_best : (key : Key) (so_far : Option Kept) (y : Kept) → IsNotOf key y → better_of key so_far y ≡ so_far
same_best key None y other = ap (λ (b : Bool). cond b (Some y) None) (not_for key y other)
same_best key (Some best) y other = ap (λ (b : Bool). cond (b && is_better best y) (Some y) (Some best)) (not_for key y other)

pub best_others : (key : Key) (so_far : Option Kept) (xs : List Kept) → Each (IsNotOf key) xs → best_in key so_far xs ≡ so_far
best_others key so_far [] all = refl
best_others key so_far (y ∷ ys) all = ap (λ (o : Option Kept). best_in key o ys) (same_best key so_far y all.0) ∙ best_others key so_far ys all.1

module _ (key : Key) (so_far : Option Kept) (l : List Kept) (x : Kept) (r : List Kept) where
  pub best_parts : best_in key so_far (l ++ x ∷ r) ≡ best_in key (better_of key (best_in key so_far l) x) r
  best_parts = best_append key so_far l (x ∷ r)

  pub best_before : IsInOrder (l ++ x ∷ r) → table_key_cmp key x.at ≡ Less → best_in key so_far l ≡ best_in key so_far (l ++ x ∷ r)
  best_before all less = sym (best_append key so_far l (x ∷ r) ∙ best_others key (best_in key so_far l) (x ∷ r) (none_right key l x r all less))

  pub best_behind : IsInOrder (l ++ x ∷ r) → table_key_cmp key x.at ≡ Greater → best_in key so_far r ≡ best_in key so_far (l ++ x ∷ r)
  best_behind all more =
      let none = none_left key l x r all more in
      sym (best_parts ∙ ap (λ (o : Option Kept). best_in key (better_of key o x) r) (best_others key so_far l none.0) ∙ ap (λ (o : Option Kept). best_in key o r) (same_best key so_far x none.1))

-- the first one that passes a test
pub find_none : (p : Kept → Bool) (xs : List Kept) → Each (λ y. p y ≡ false) xs → find p xs ≡ None
find_none p [] all = refl
find_none p (y ∷ ys) all = ap (λ (b : Bool). cond b (Some y) (find p ys)) all.0 ∙ find_none p ys all.1

module _ (p : Kept → Bool) (l : List Kept) (x : Kept) (r : List Kept) where
  parts : find p (l ++ x ∷ r) ≡ option_or (find p l) (cond (p x) (Some x) (find p r))
  parts = find-append p l (x ∷ r)

  pub found_left : (it : Kept) → find p l ≡ Some it → Some it ≡ find p (l ++ x ∷ r)
  found_left it e = sym (parts ∙ ap (λ (o : Option Kept). option_or o (cond (p x) (Some x) (find p r))) e)

  pub found_here : find p l ≡ None → p x ≡ true → Some x ≡ find p (l ++ x ∷ r)
  found_here none passes = sym (parts ∙ ap (λ (o : Option Kept). option_or o (cond (p x) (Some x) (find p r))) none ∙ ap (λ (b : Bool). cond b (Some x) (find p r)) passes)

  pub found_right : find p l ≡ None → p x ≡ false → find p r ≡ find p (l ++ x ∷ r)
  found_right none fails_it = sym (parts ∙ ap (λ (o : Option Kept). option_or o (cond (p x) (Some x) (find p r))) none ∙ ap (λ (b : Bool). cond b (Some x) (find p r)) fails_it)

-- how keys stand to a range
stand_up : (range : Range) (a b : Key) → IsUpTo a b → ordering_index (stand range a) ≤ ordering_index (stand range b)
stand_up range a b up = by (table_key_cmp a b) refl up
  where
    by : (o : Ordering) → table_key_cmp a b ≡ o → is_gt o ≡ false → ordering_index (stand range a) ≤ ordering_index (stand range b)
    by Less e g = stand-up range a b e
    by Equal e g = let same = ap (λ (k : Key). ordering_index (stand range k)) (table_key_cmp_exact a b e) in omega arith
    by Greater e g = cc

low_is : (o : Ordering) → ordering_index o ≤ 0 → is_eq o ≡ false
low_is Less e = refl
low_is Equal e = absurd (omega arith)
low_is Greater e = absurd (omega arith)

high_is : (o : Ordering) → 2 ≤ ordering_index o → is_eq o ≡ false
high_is Less e = absurd (omega arith)
high_is Equal e = absurd (omega arith)
high_is Greater e = refl

first_false : (a b c : Bool) → a ≡ false → (a && b && c) ≡ false
first_false true b c e = absurd (cc e)
first_false false b c e = refl

second_false : (a b c : Bool) → b ≡ false → (a && b && c) ≡ false
second_false true true c e = absurd (cc e)
second_false true false c e = refl
second_false false b c e = refl

lt_is : (o : Ordering) → is_lt o ≡ true → o ≡ Less
lt_is Less e = refl
lt_is Equal e = cc
lt_is Greater e = cc

behind_up : (table : ℕ) (after : Option (List Value)) (a b : Key) → IsUpTo a b → is_behind table after b ≡ false → is_behind table after a ≡ false
behind_up table None a b up out = absurd (cc out)
behind_up table (Some last) a b up out = by (is_lt (table_key_cmp (record { table = table; key = last }) a)) refl
  where
    by : (c : Bool) → is_lt (table_key_cmp (record { table = table; key = last }) a) ≡ c → is_lt (table_key_cmp (record { table = table; key = last }) a) ≡ false
    by false e = e
    by true e = let so = ap is_lt (less_up (record { table = table; key = last }) a b (lt_is (table_key_cmp (record { table = table; key = last }) a) e) up) in absurd (cc (so, out))

module _ (whole : List Kept) (range : Range) (after : Option (List Value)) where
  abbrev Reached : Kept → Bool
  Reached y = is_reached whole range after y

  module _ (l : List Kept) (x : Kept) (r : List Kept) (all : IsInOrder (l ++ x ∷ r)) where
    pub before_range : stand range x.at ≡ Less → Each (λ y. is_reached whole range after y ≡ false) l × (is_reached whole range after x ≡ false)
    before_range e =
        let s = sides_of l x r all in
        let at = ap ordering_index e in (
          each_map (λ y. IsUpTo y.at x.at) (λ y. is_reached whole range after y ≡ false) l
              (λ y up. let low = stand_up range y.at x.at up in first_false (is_eq (stand range y.at)) (is_behind range.table after y.at) (has_row_in whole y.at) (low_is (stand range y.at) (omega arith))) s.low,
          first_false (is_eq (stand range x.at)) (is_behind range.table after x.at) (has_row_in whole x.at) (ap is_eq e),
        )

    pub not_behind : is_behind range.table after x.at ≡ false → Each (λ y. is_reached whole range after y ≡ false) l × (is_reached whole range after x ≡ false)
    not_behind e =
        let s = sides_of l x r all in (
          each_map (λ y. IsUpTo y.at x.at) (λ y. is_reached whole range after y ≡ false) l
              (λ y up. second_false (is_eq (stand range y.at)) (is_behind range.table after y.at) (has_row_in whole y.at) (behind_up range.table after y.at x.at up e)) s.low,
          second_false (is_eq (stand range x.at)) (is_behind range.table after x.at) (has_row_in whole x.at) e,
        )

    pub past_range : stand range x.at ≡ Greater → Each (λ y. is_reached whole range after y ≡ false) (x ∷ r)
    past_range e =
        let s = sides_of l x r all in
        let at = ap ordering_index e in (
          first_false (is_eq (stand range x.at)) (is_behind range.table after x.at) (has_row_in whole x.at) (ap is_eq e),
          each_map (λ y. IsUpTo x.at y.at) (λ y. is_reached whole range after y ≡ false) r
              (λ y up. let high = stand_up range x.at y.at up in first_false (is_eq (stand range y.at)) (is_behind range.table after y.at) (has_row_in whole y.at) (high_is (stand range y.at) (omega arith))) s.high,
        )

-- what the tests of an order say
pub stands_less : (o : Ordering) → (ordering_index o == 0) ≡ true → o ≡ Less
stands_less Less e = refl
stands_less Equal e = cc
stands_less Greater e = cc

pub stands_greater : (o : Ordering) → (ordering_index o == 2) ≡ true → o ≡ Greater
stands_greater Less e = cc
stands_greater Equal e = cc
stands_greater Greater e = refl

pub stands_inside : (o : Ordering) → (ordering_index o == 0) ≡ false → (ordering_index o == 2) ≡ false → is_eq o ≡ true
stands_inside Less e f = cc
stands_inside Equal e f = refl
stands_inside Greater e f = cc

pub reach_all : (a b c : Bool) → a ≡ true → b ≡ true → c ≡ true → (a && b && c) ≡ true
reach_all a b c one two three = and_from (a && b) c (and_from a b one two) three

pub reach_no_row : (a b c : Bool) → c ≡ false → (a && b && c) ≡ false
reach_no_row a b c e = ap (λ (x : Bool). a && b && x) e ∙ and_false (a && b)

pub reach_past : (whole : List Kept) (range : Range) (after : Option (List Value)) (x : Kept) → is_eq (stand range x.at) ≡ true → is_behind range.table after x.at ≡ true → has_row_in whole x.at ≡ true → is_reached whole range after x ≡ true
reach_past whole range after x one two three = reach_all (is_eq (stand range x.at)) (is_behind range.table after x.at) (has_row_in whole x.at) one two three

pub not_reached : (whole : List Kept) (range : Range) (after : Option (List Value)) (x : Kept) → has_row_in whole x.at ≡ false → is_reached whole range after x ≡ false
not_reached whole range after x none = reach_no_row (is_eq (stand range x.at)) (is_behind range.table after x.at) (has_row_in whole x.at) none
