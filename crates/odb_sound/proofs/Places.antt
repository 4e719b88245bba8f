-- Where the columns of a table and their values stand.
use Rattle.std.proofs.Common.{◌≡◌, ℕ, zero, suc, ◌+◌, ◌<◌, ◌≤◌, Bool, true, false, ◌||◌, ◌==◌, cond, List, [], ◌∷◌, map, length, refl, sym, ap, subst, ◌∙◌, Option, Some, None, option_map, slice_get, unwrap_or, is_none, add-one, arith}
use Rattle.std.specs.Option.{option_map_or}
use Rattle.std.specs.List.{filter, list_any, zip, range_with_len}
use Rattle.std.proofs.lemmas.Bool.Decides.{nat_tests}
use Rattle.std.proofs.lemmas.Option.{unwrap_or-slice_get, slice_get-get_or, slice_get-map}
use Rattle.std.proofs.lemmas.List.FromFn.{get_or-map-range_with_len, length-range_with_len}
use Rattle.std.proofs.lemmas.List.{length-map}
use Rattle.odb_values.specs.declared.value.Value.{Value}
use Rattle.odb_values.specs.declared.value.Value.TheVariants.{Null}
use Rattle.odb_model.specs.declared.reply.Reply.{Reply}
use Rattle.odb_model.specs.Table.{Column, Table, is_named, value_at, column_place, place_in, places, places_outside, key_of, row_of, stored_value, in_columns}
use Rattle.odb_model.specs.Dictionary.{names_differ}
use Rattle.odb_model.specs.Definitions.{name_place}
use Rattle.odb_model.specs.Binding.{first_refusal}
use Rattle.odb_model.specs.Meaning.{all_some}
use Rattle.odb_model.proofs.Covering.{same_number}
use Rattle.odb_model.proofs.KeysKept.{or_none}
use Rattle.odb_catalog.proofs.Names.{inside_some, find_at}

-- what stands beside one another in two lists
pub beside : {A B : Type 0} (xs : List A) (ys : List B) (place : ℕ) (x : A) (y : B) → slice_get xs place ≡ Some x → slice_get ys place ≡ Some y → slice_get (zip xs ys) place ≡ Some (x, y)
beside [] ys place x y a b = cc
beside (v ∷ xs) [] place x y a b = cc
beside (v ∷ xs) (w ∷ ys) zero x y a b = ap (λ z. Some (z, w)) (inside_some v x a) ∙ ap (λ z. Some (x, z)) (inside_some w y b)
beside (v ∷ xs) (w ∷ ys) (suc place) x y a b = beside xs ys place x y a b

-- what isn't refused at all isn't at any item
pub none_at : {A : Type 0} (refusal : A → Option Reply) (xs : List A) (place : ℕ) (x : A) → first_refusal refusal xs ≡ None → slice_get xs place ≡ Some x → refusal x ≡ None
none_at refusal [] place x none e = cc
none_at {A} refusal (y ∷ xs) zero x none e = subst (λ (z : A). refusal z ≡ None) (inside_some y x e) (or_none (refusal y) (first_refusal refusal xs) none).0
none_at refusal (y ∷ xs) (suc place) x none e = none_at refusal xs place x (or_none (refusal y) (first_refusal refusal xs) none).1 e

neither : (a b : Bool) → (a || b) ≡ false → (a ≡ false) × (b ≡ false)
neither true b e = cc
neither false b e = (refl, e)

-- what no item passes this one doesn't
pub fails_at : {A : Type 0} (test : A → Bool) (xs : List A) (place : ℕ) (x : A) → list_any test xs ≡ false → slice_get xs place ≡ Some x → test x ≡ false
fails_at test [] place x none e = cc
fails_at {A} test (y ∷ xs) zero x none e = subst (λ (z : A). test z ≡ false) (inside_some y x e) (neither (test y) (list_any test xs) none).0
fails_at test (y ∷ xs) (suc place) x none e = fails_at test xs place x (neither (test y) (list_any test xs) none).1 e

-- where each item is something, what it is stands at its place
abbrev IsSomeAt : {A : Type 0} → List A → ℕ → Option A → Type 0
IsSomeAt {A} ys place o = (y : A) × (o ≡ Some y) × (slice_get ys place ≡ Some y)

abbrev AreSome : {A : Type 0} → List (Option A) → List A → Type 0
AreSome {A} xs ys = (place : ℕ) (o : Option A) → slice_get xs place ≡ Some o → IsSomeAt ys place o

some_behind : {A : Type 0} (x : A) (xs : List (Option A)) (ys : List A) (rest : Option (List A)) → ((zs : List A) → rest ≡ Some zs → AreSome xs zs)
    → option_map (λ zs. x ∷ zs) rest ≡ Some ys → AreSome (Some x ∷ xs) ys
some_behind x xs ys None more e place o at = cc
some_behind {A} x xs ys (Some zs) more e zero o at =
    (x, sym (inside_some (Some x) o at), subst (λ (l : List A). slice_get l 0 ≡ Some x) (inside_some (x ∷ zs) ys e) refl)
some_behind {A} x xs ys (Some zs) more e (suc place) o at =
    subst (λ (l : List A). IsSomeAt l (suc place) o) (inside_some (x ∷ zs) ys e) (more zs refl place o at)

pub each_some : {A : Type 0} (xs : List (Option A)) (ys : List A) → all_some xs ≡ Some ys → AreSome xs ys
each_some [] ys e place o at = cc
each_some (None ∷ xs) ys e place o at = cc
each_some (Some x ∷ xs) ys e place o at = some_behind x xs ys (all_some xs) (λ zs is. each_some xs zs is) e place o at

-- the value at a place of a list that reaches there
pub value_there : (values : List Value) (place : ℕ) → place < length values → slice_get values place ≡ Some (value_at values place)
value_there values place inside = slice_get-get_or values place Null inside ∙ ap Some (sym (unwrap_or-slice_get values place Null))

pub value_found : (values : List Value) (place : ℕ) (v : Value) → slice_get values place ≡ Some v → value_at values place ≡ v
value_found values place v e = ap (λ (o : Option Value). unwrap_or o Null) e

-- the place behind the first one of a list
behind_first : (m : ℕ) (ns : List ℕ) (n place : ℕ) (o : Option ℕ) → ((p : ℕ) → o ≡ Some p → slice_get ns p ≡ Some n) → option_map (λ p. p + 1) o ≡ Some place → slice_get (m ∷ ns) place ≡ Some n
behind_first m ns n place None at found = cc
behind_first m ns n place (Some p) at found =
    subst (λ (q : ℕ). slice_get (m ∷ ns) q ≡ Some n) (sym (add-one p) ∙ inside_some (p + 1) place found) (at p refl)

-- a number stands where it is found
number_at : (ns : List ℕ) (n place : ℕ) → place_in ns n ≡ Some place → slice_get ns place ≡ Some n
number_at [] n place e = cc
number_at (m ∷ ns) n place e =
    elim (m == n) as (λ b. (m == n) ≡ b → cond b (Some 0) (option_map (λ p. p + 1) (place_in ns n)) ≡ Some place → slice_get (m ∷ ns) place ≡ Some n) [
      | true ↦ λ same found. subst (λ (p : ℕ). slice_get (m ∷ ns) p ≡ Some n) (inside_some 0 place found) (ap Some (same_number m n same))
      | false ↦ λ other found. behind_first m ns n place (place_in ns n) (λ p is. number_at ns n p is) found
    ] refl e

-- what is made of a number stands where the number is found
made_at : (f : ℕ → Value) (ns : List ℕ) (n place : ℕ) → place_in ns n ≡ Some place → value_at (map f ns) place ≡ f n
made_at f ns n place e = value_found (map f ns) place (f n) (slice_get-map f ns place ∙ ap (option_map f) (number_at ns n place e))

no_more : (o : Option ℕ) → option_map (λ p. p + 1) o ≡ None → o ≡ None
no_more None e = refl
no_more (Some p) e = cc

is_something : (p : ℕ) → Some p ≡ None → ⊥
is_something p e = cc

abbrev kept_from : (ℕ → Bool) → ℕ → ℕ → List ℕ
kept_from keep k a = filter keep (range_with_len a k)

above : (a n : ℕ) → (a == n) ≡ false → a ≤ n → a + 1 ≤ n
above a n other low = grind (arith, nat_tests)

-- a number of a row of numbers that is kept is found
kept_found : (keep : ℕ → Bool) (k a n : ℕ) → a ≤ n → n < a + k → keep n ≡ true → place_in (filter keep (range_with_len a k)) n ≡ None → ⊥
kept_found keep zero a n low high kept none = omega (arith, low, high)
kept_found keep (suc k) a n low high kept none =
    elim (a == n) as (λ b. (a == n) ≡ b → ⊥) [
      | true ↦ λ same. first (keep a) (subst (λ (m : ℕ). keep m ≡ true) (sym (same_number a n same)) kept) same none
      | false ↦ λ other. kept_found keep k (a + 1) n (above a n other low) (omega (arith, high)) kept (rest (keep a) other none)
    ] refl
  where
    first : (b : Bool) → b ≡ true → (a == n) ≡ true → place_in (cond b (a ∷ kept_from keep k (a + 1)) (kept_from keep k (a + 1))) n ≡ None → ⊥
    first true is same e = is_something 0 (sym (ap (λ c. cond c (Some 0) (option_map (λ p. p + 1) (place_in (kept_from keep k (a + 1)) n))) same) ∙ e)
    first false is same e = cc

    rest : (b : Bool) → (a == n) ≡ false → place_in (cond b (a ∷ kept_from keep k (a + 1)) (kept_from keep k (a + 1))) n ≡ None → place_in (kept_from keep k (a + 1)) n ≡ None
    rest true other e = no_more (place_in (kept_from keep k (a + 1)) n) (sym (ap (λ c. cond c (Some 0) (option_map (λ p. p + 1) (place_in (kept_from keep k (a + 1)) n))) other) ∙ e)
    rest false other e = e

module _ (t : Table) where
  -- the value of a column of the key is the key's
  pub stored_inside : (key row : List Value) (place i : ℕ) → place_in t.key place ≡ Some i → stored_value t key row place ≡ value_at key i
  stored_inside key row place i e = ap (λ o. option_map_or (value_at key) o (option_map_or (value_at row) (place_in (places_outside t) place) Null)) e

  -- that of any other is what was put there
  pub stored_outside : (key values : List Value) (place : ℕ) → place < length t.columns → place_in t.key place ≡ None → stored_value t key (row_of t values) place ≡ value_at values place
  stored_outside key values place inside e =
      ap (λ o. option_map_or (value_at key) o (option_map_or (value_at (row_of t values)) (place_in (places_outside t) place) Null)) e
      ∙ elim (place_in (places_outside t) place) as (λ o. place_in (places_outside t) place ≡ o → option_map_or (value_at (row_of t values)) o Null ≡ value_at values place) [
        | None ↦ λ none. absurd (kept_found (λ p. is_none (place_in t.key p)) (length t.columns) 0 place (omega arith) (omega (arith, inside)) (ap is_none e) none)
        | Some j ↦ λ there. made_at (value_at values) (places_outside t) place j there
      ] refl

  -- a row that is put has its values
  pub stored_put : (values : List Value) (place : ℕ) → place < length t.columns → stored_value t (key_of t values) (row_of t values) place ≡ value_at values place
  stored_put values place inside =
      elim (place_in t.key place) as (λ o. place_in t.key place ≡ o → stored_value t (key_of t values) (row_of t values) place ≡ value_at values place) [
        | None ↦ λ e. stored_outside (key_of t values) values place inside e
        | Some i ↦ λ e. stored_inside (key_of t values) (row_of t values) place i e ∙ made_at (value_at values) t.key place i e
      ] refl

  -- the values of a row in column order
  pub stored_there : (key row : List Value) (place : ℕ) → place < length t.columns → slice_get (in_columns t key row) place ≡ Some (stored_value t key row place)
  stored_there key row place inside =
      let at : 0 + place ≡ place = omega arith in
      let count : length (in_columns t key row) ≡ length t.columns = length-map (places t) (stored_value t key row) ∙ length-range_with_len 0 (length t.columns) in
      slice_get-get_or (in_columns t key row) place Null (omega (arith, inside, count))
      ∙ ap Some (get_or-map-range_with_len (stored_value t key row) 0 (length t.columns) place place Null inside at)

-- the column at the place of a name
pub column_there : (columns : List Column) (name : List ℕ) (place : ℕ) → column_place columns name ≡ Some place → (c : Column) × (slice_get columns place ≡ Some c)
column_there [] name place e = cc
column_there (c ∷ columns) name place e =
    elim (is_named name c.name) as (λ b. cond b (Some 0) (option_map (λ p. p + 1) (column_place columns name)) ≡ Some place → (d : Column) × (slice_get (c ∷ columns) place ≡ Some d)) [
      | true ↦ λ found. (c, subst (λ (p : ℕ). slice_get (c ∷ columns) p ≡ Some c) (inside_some 0 place found) refl)
      | false ↦ λ found. behind (column_place columns name) (λ p is. column_there columns name p is) found
    ] e
  where
    behind : (o : Option ℕ) → ((p : ℕ) → o ≡ Some p → (d : Column) × (slice_get columns p ≡ Some d)) → option_map (λ p. p + 1) o ≡ Some place → (d : Column) × (slice_get (c ∷ columns) place ≡ Some d)
    behind None more found = cc
    behind (Some p) more found =
        let there = more p refl in
        (there.0, subst (λ (q : ℕ). slice_get (c ∷ columns) q ≡ Some there.0) (sym (add-one p) ∙ inside_some (p + 1) place found) there.1)

column_by_name : (columns : List Column) (name : List ℕ) → column_place columns name ≡ name_place (map (λ c. c.name) columns) name
column_by_name [] name = refl
column_by_name (c ∷ columns) name = ap (λ o. cond (is_named name c.name) (Some 0) (option_map (λ p. p + 1) o)) (column_by_name columns name)

-- where names differ, a column stands at the place of its name
pub own_place : (columns : List Column) (place : ℕ) (c : Column) → names_differ (map (λ d. d.name) columns) ≡ true → slice_get columns place ≡ Some c → column_place columns c.name ≡ Some place
own_place columns place c differ e =
    column_by_name columns c.name
    ∙ find_at (map (λ (d : Column). d.name) columns) c.name place differ (slice_get-map (λ (d : Column). d.name) columns place ∙ ap (option_map (λ (d : Column). d.name)) e)
