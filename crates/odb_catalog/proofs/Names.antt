-- Names: when two are one, and where one stands among others.
use Rattle.std.proofs.Common.{◌≡◌, ℕ, zero, suc, ◌+◌, Bool, true, false, ◌&&◌, ◌||◌, ◌==◌, not, cond, nat_lt, List, [], ◌∷◌, length, refl, sym, ap, subst, ◌∙◌, Option, Some, None, option_map, slice_get, unwrap_or, eq-eqb, add-one, arith}
use Rattle.std.specs.List.{filter, list_any, list_all}
use Rattle.std.proofs.lemmas.Bool.Decides.{nat_tests}
use Rattle.std.specs.Cmp.Lexicographic.{pointwise}
use Rattle.std.specs.Option.{option_map_or}
use Rattle.odb_model.specs.Table.{is_named}
use Rattle.odb_model.specs.Dictionary.{names_differ}
use Rattle.odb_model.specs.declared.statement.ColumnText.{ColumnText}
use Rattle.odb_model.specs.Definitions.{text_names, is_among, name_place, key_place}
use Rattle.odb_model.proofs.Covering.{and_true, same_number}

pub inside_some : {A : Type 0} (a b : A) → Some a ≡ Some b → a ≡ b
inside_some a b e = ap (λ o. unwrap_or o a) e

-- two tests that follow from one another are one
pub bool_iff : (p q : Bool) → (p ≡ true → q ≡ true) → (q ≡ true → p ≡ true) → p ≡ q
bool_iff true q f g = sym (f refl)
bool_iff false true f g = g refl
bool_iff false false f g = refl

-- one name is one list of bytes
pub same_names : (a b : List ℕ) → is_named a b ≡ true → a ≡ b
same_names [] [] e = refl
same_names [] (y ∷ ys) e = cc
same_names (x ∷ xs) [] e = cc
same_names (x ∷ xs) (y ∷ ys) e =
    let parts = and_true (x == y) (pointwise ◌==◌ xs ys) e in
    ap (λ n. n ∷ xs) (same_number x y parts.0) ∙ ap (λ ns. y ∷ ns) (same_names xs ys parts.1)

pub named_itself : (a : List ℕ) → is_named a a ≡ true
named_itself [] = refl
named_itself (x ∷ xs) = ap (λ b. b && pointwise ◌==◌ xs xs) (eq-eqb x x refl) ∙ named_itself xs

named_back : (a b : List ℕ) → is_named a b ≡ true → is_named b a ≡ true
named_back a b e = subst (λ (x : List ℕ). is_named x a ≡ true) (same_names a b e) (named_itself a)

pub named_flip : (a b : List ℕ) → is_named a b ≡ is_named b a
named_flip a b = bool_iff (is_named a b) (is_named b a) (named_back a b) (named_back b a)

pub not_true : (b : Bool) → not b ≡ true → b ≡ true → ⊥
not_true true p q = cc
not_true false p q = cc

or_left : (a b : Bool) → a ≡ true → (a || b) ≡ true
or_left true b e = refl
or_left false b e = cc

or_right : (a b : Bool) → b ≡ true → (a || b) ≡ true
or_right true b e = refl
or_right false b e = e

-- a name of a list is among them
pub among_at : (names : List (List ℕ)) (name : List ℕ) (i : ℕ) → slice_get names i ≡ Some name → is_among names name ≡ true
among_at [] name i e = cc
among_at (x ∷ names) name zero e = or_left (is_named name x) (is_among names name) (subst (λ (n : List ℕ). is_named name n ≡ true) (sym (inside_some x name e)) (named_itself name))
among_at (x ∷ names) name (suc i) e = or_right (is_named name x) (is_among names name) (among_at names name i e)

found_later : (x : List ℕ) (names : List (List ℕ)) (name : List ℕ) (p : ℕ) (o : Option ℕ) → ((q : ℕ) → o ≡ Some q → slice_get names q ≡ Some name) → option_map (λ q. q + 1) o ≡ Some p → slice_get (x ∷ names) p ≡ Some name
found_later x names name p None rest found = cc
found_later x names name p (Some q) rest found = subst (λ (n : ℕ). slice_get (x ∷ names) n ≡ Some name) (sym (add-one q) ∙ inside_some (q + 1) p found) (rest q refl)

-- a name that is found stands at the place found
pub found_at : (names : List (List ℕ)) (name : List ℕ) (p : ℕ) → name_place names name ≡ Some p → slice_get names p ≡ Some name
found_at [] name p e = cc
found_at (x ∷ names) name p e =
    elim (is_named name x) as (λ b. is_named name x ≡ b → cond b (Some 0) (option_map (λ q. q + 1) (name_place names name)) ≡ Some p → slice_get (x ∷ names) p ≡ Some name) [
      | true ↦ λ is found. subst (λ (n : ℕ). slice_get (x ∷ names) n ≡ Some name) (inside_some 0 p found) (ap Some (sym (same_names name x is)))
      | false ↦ λ other found. found_later x names name p (name_place names name) (λ q is. found_at names name q is) found
    ] refl e

-- where names differ, each is found at its place
pub find_at : (names : List (List ℕ)) (name : List ℕ) (j : ℕ) → names_differ names ≡ true → slice_get names j ≡ Some name → name_place names name ≡ Some j
find_at [] name j differ e = cc
find_at (x ∷ names) name zero differ e =
    ap (λ b. cond b (Some 0) (option_map (λ q. q + 1) (name_place names name))) (subst (λ (n : List ℕ). is_named name n ≡ true) (sym (inside_some x name e)) (named_itself name))
find_at (x ∷ names) name (suc j) differ e =
    let parts = and_true (not (list_any (is_named x) names)) (names_differ names) differ in
    let other : is_named name x ≡ false = elim (is_named name x) as (λ b. is_named name x ≡ b → b ≡ false) [
      | true ↦ λ is. absurd (not_true (list_any (is_named x) names) parts.0 (subst (λ (n : List ℕ). list_any (is_named n) names ≡ true) (same_names name x is) (among_at names name j e)))
      | false ↦ λ is. refl
    ] refl in
    ap (λ b. cond b (Some 0) (option_map (λ q. q + 1) (name_place names name))) other
    ∙ ap (option_map (λ q. q + 1)) (find_at names name j parts.1 e) ∙ ap Some (add-one j)

placed : (o : Option ℕ) (j : ℕ) → option_map_or (λ p. p + 1) o 0 ≡ j + 1 → o ≡ Some j
placed None j e = absurd (omega arith)
placed (Some p) j e = let same : p ≡ j = omega arith in ap Some same

-- a column stands at a place of the key just where that place has its name
pub place_tells : (key : List (List ℕ)) (k name : List ℕ) (j : ℕ) → names_differ key ≡ true → slice_get key j ≡ Some k → (key_place key name == j + 1) ≡ is_named k name
place_tells key k name j differ at = bool_iff (key_place key name == j + 1) (is_named k name)
    (λ e.
    let found : slice_get key j ≡ Some name = found_at key name j (placed (name_place key name) j (same_number (key_place key name) (j + 1) e)) in
    subst (λ (n : List ℕ). is_named k n ≡ true) (inside_some k name (sym at ∙ found)) (named_itself k))
    (λ is.
    let same : k ≡ name = same_names k name is in
    let found : name_place key name ≡ Some j = find_at key name j differ (at ∙ ap Some same) in
    eq-eqb (key_place key name) (j + 1) (ap (λ o. option_map_or (λ p. p + 1) o 0) found))

positive : (n : ℕ) → nat_lt 0 (n + 1) ≡ true
positive n = grind (arith, nat_tests)

above_none : (o : Option ℕ) → nat_lt 0 (option_map_or (λ p. p + 1) (option_map (λ p. p + 1) o) 0) ≡ nat_lt 0 (option_map_or (λ p. p + 1) o 0)
above_none None = refl
above_none (Some p) = positive (p + 1) ∙ sym (positive p)

-- a column is in the key just where its name is among the key's
pub in_key : (key : List (List ℕ)) (name : List ℕ) → nat_lt 0 (key_place key name) ≡ is_among key name
in_key [] name = refl
in_key (x ∷ key) name =
    elim (is_named name x) as (λ b. nat_lt 0 (option_map_or (λ p. p + 1) (cond b (Some 0) (option_map (λ q. q + 1) (name_place key name))) 0) ≡ (b || is_among key name)) [
      | true ↦ refl
      | false ↦ above_none (name_place key name) ∙ in_key key name
    ]

-- how many of these names pass
abbrev passing : (List ℕ → Bool) → List (List ℕ) → ℕ
passing p names = length (filter p names)

passing_none : (p : List ℕ → Bool) (names : List (List ℕ)) → ((n : List ℕ) → p n ≡ false) → passing p names ≡ 0
passing_none p [] none = refl
passing_none p (n ∷ names) none = ap (λ b. length (cond b (n ∷ filter p names) (filter p names))) (none n) ∙ passing_none p names none

passing_split : (q r : List ℕ → Bool) (names : List (List ℕ)) → ((n : List ℕ) → q n ≡ true → r n ≡ true → ⊥) → passing (λ n. q n || r n) names ≡ passing q names + passing r names
passing_split q r [] apart = refl
passing_split q r (n ∷ names) apart =
    let rest = passing_split q r names apart in
    by (q n) (r n) refl refl rest
  where
    by : (a b : Bool) → q n ≡ a → r n ≡ b → passing (λ m. q m || r m) names ≡ passing q names + passing r names
        → length (cond (a || b) (n ∷ filter (λ m. q m || r m) names) (filter (λ m. q m || r m) names)) ≡ length (cond a (n ∷ filter q names) (filter q names)) + length (cond b (n ∷ filter r names) (filter r names))
    by true true p s rest = absurd (apart n p s)
    by true false p s rest = omega (arith, rest)
    by false true p s rest = omega (arith, rest)
    by false false p s rest = rest

passing_absent : (names : List (List ℕ)) (k : List ℕ) → list_any (is_named k) names ≡ false → passing (λ n. is_named n k) names ≡ 0
passing_absent [] k none = refl
passing_absent (n ∷ names) k none =
    let parts = or_false (is_named k n) (list_any (is_named k) names) none in
    ap (λ b. length (cond b (n ∷ filter (λ m. is_named m k) names) (filter (λ m. is_named m k) names))) (named_flip n k ∙ parts.0) ∙ passing_absent names k parts.1
  where
    or_false : (a b : Bool) → (a || b) ≡ false → (a ≡ false) × (b ≡ false)
    or_false true b e = cc
    or_false false b e = (refl, e)

not_is : (b : Bool) → not b ≡ true → b ≡ false
not_is true e = cc
not_is false e = refl

-- of different names one passes the test for a name that is among them
passing_once : (names : List (List ℕ)) (k : List ℕ) → names_differ names ≡ true → is_among names k ≡ true → passing (λ n. is_named n k) names ≡ 1
passing_once [] k differ among = cc
passing_once (n ∷ names) k differ among =
    let parts = and_true (not (list_any (is_named n) names)) (names_differ names) differ in
    elim (is_named n k) as (λ b. is_named n k ≡ b → (b || is_among names k) ≡ true → length (cond b (n ∷ filter (λ m. is_named m k) names) (filter (λ m. is_named m k) names)) ≡ 1) [
      | true ↦ λ is here.
          let gone : passing (λ m. is_named m k) names ≡ 0 = passing_absent names k (subst (λ (x : List ℕ). list_any (is_named x) names ≡ false) (same_names n k is) (not_is (list_any (is_named n) names) parts.0)) in
          omega (arith, gone)
      | false ↦ λ is here. passing_once names k parts.1 here
    ] refl (subst (λ (b : Bool). (b || is_among names k) ≡ true) (named_flip k n) among)

-- as many of these names are among others as those are, where all of those are among these
pub passing_all : (names key : List (List ℕ)) → names_differ names ≡ true → names_differ key ≡ true → list_all (is_among names) key ≡ true → passing (is_among key) names ≡ length key
passing_all names [] differ apart among = passing_none (is_among []) names (λ n. refl)
passing_all names (k ∷ key) differ apart among =
    let parts = and_true (not (list_any (is_named k) key)) (names_differ key) apart in
    let there = and_true (is_among names k) (list_all (is_among names) key) among in
    let once = passing_once names k differ there.0 in
    let rest = passing_all names key differ parts.1 there.1 in
    let split = passing_split (λ n. is_named n k) (is_among key) names (λ n is more. not_true (list_any (is_named k) key) parts.0 (subst (λ (x : List ℕ). is_among key x ≡ true) (same_names n k is) more)) in
    omega (arith, once, rest, split)

-- a name among those of columns
pub any_names : (p : List ℕ → Bool) (columns : List ColumnText) → list_any p (text_names columns) ≡ list_any (λ c. p c.name) columns
any_names p [] = refl
any_names p (c ∷ columns) = ap (λ b. p c.name || b) (any_names p columns)
