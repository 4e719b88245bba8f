-- The next row of a range by what stands at each table key.
use Rattle.std.proofs.Common.{◌≡◌, ℕ, ◌+◌, ◌<◌, ◌≤◌, Bool, true, false, ◌&&◌, ◌==◌, List, [], ◌∷◌, map, length, cond, T, refl, sym, ap, subst, ◌∙◌, arith, Option, None, Some, eqb-true}
use Rattle.std.specs.Prelude.{option_map}
use Rattle.std.specs.declared.cmp.Ordering.{Ordering}
use Rattle.std.specs.declared.cmp.Ordering.TheVariants.{Less, Equal, Greater}
use Rattle.std.specs.List.{find, filter, AllByRecursion}
use Rattle.std.specs.List.Sorted.{IsStrictlySortedBy}
use Rattle.std.specs.Ordering.{nat_cmp, ordering_then, eq_by_cmp, is_eq, is_lt, ordering_reverse}
use Rattle.std.specs.FinMap as finite
use Rattle.std.specs.FinMap.{get, entries, entries_sorted, get-entries}
use Rattle.std.proofs.lemmas.Cmp.{nat_cmp_total}
use Rattle.std.specs.Cmp.{tied_itself}
use Rattle.std.proofs.lemmas.Map.Keys.{sorted_head, sorted_tail}
use Rattle.odb_values.specs.declared.value.Value.{Value}
use Rattle.odb_values.specs.declared.range.Range.{Range}
use Rattle.odb_values.specs.Value.{values_cmp}
use Rattle.odb_values.specs.ValueOrder.{values_cmp_total}
use Rattle.odb_values.specs.Range.{is_inside}
use Rattle.odb_model.specs.declared.table_key.TableKey.{TableKey}
use Rattle.odb_model.specs.State.{State, table_key_cmp, is_in, part_in}
use Rattle.odb_model.proofs.Replay.{table_key_cmp_total, table_key_cmp_exact}
use Rattle.odb_model.proofs.Parts.{entries-retain_keys}
use Rattle.odb_model.proofs.Keys.{keys_ascend}
use Rattle.odb_rowsource.specs.declared.row_source.KeyedRow.{KeyedRow}
use Rattle.odb_rowsource.specs.RowSource.{is_above, keyed_row, next_in}
use Rattle.odb_rowsource.proofs.Stands.{is_next}

pub flipped : (a b : TableKey) (o : Ordering) → table_key_cmp a b ≡ o → table_key_cmp b a ≡ ordering_reverse o
flipped a b o e = table_key_cmp_total.antisymm b a ∙ ap ordering_reverse e

itself : (k : TableKey) → eq_by_cmp table_key_cmp k k ≡ true
itself k = ap is_eq (tied_itself table_key_cmp_total k)

-- table keys that tie are one
pub tied_is : (q k : TableKey) → eq_by_cmp table_key_cmp q k ≡ true → q ≡ k
tied_is q k e = by (table_key_cmp q k) refl e where
  by : (o : Ordering) → table_key_cmp q k ≡ o → is_eq o ≡ true → q ≡ k
  by Less p f = cc
  by Equal p f = table_key_cmp_exact q k p
  by Greater p f = cc

pub found_none : {A : Type 0} (b : Bool) (x : A) (o : Option A) → cond b (Some x) o ≡ None → (b ≡ false) × (o ≡ None)
found_none true x o e = cc
found_none false x o e = (refl, e)

-- items by table key
module _ {X : Type 0} (at : X → TableKey) where
  abbrev pub found : TableKey → List X → Option X
  found q xs = find (λ x. eq_by_cmp table_key_cmp q (at x)) xs

  below-none : (q : TableKey) (xs : List X) → AllByRecursion (λ k. table_key_cmp q k ≡ Less) (map at xs) → found q xs ≡ None
  below-none q [] all = refl
  below-none q (x ∷ xs) all = ap (λ o. cond (is_eq o) (Some x) (found q xs)) all.0 ∙ below-none q xs all.1

  all-less : (a b : TableKey) (xs : List X) → table_key_cmp a b ≡ Less → AllByRecursion (λ k. table_key_cmp b k ≡ Less) (map at xs) → AllByRecursion (λ k. table_key_cmp a k ≡ Less) (map at xs)
  all-less a b [] less all = tt
  all-less a b (x ∷ xs) less all = (table_key_cmp_total.trans a b (at x) less all.0, all-less a b xs less all.1)

  module _ (range : Range) (after : Option (List Value)) where
    -- the first item of what is left of a range
    abbrev pub first : List X → Option X
    first xs = find (λ x. is_next range after (at x)) xs

    -- a wanted table key is not one that isn't wanted
    apart : (q k : TableKey) → is_next range after q ≡ true → is_next range after k ≡ false → eq_by_cmp table_key_cmp q k ≡ false
    apart q k n m = by (eq_by_cmp table_key_cmp q k) refl where
      by : (b : Bool) → eq_by_cmp table_key_cmp q k ≡ b → b ≡ false
      by true e = sym n ∙ ap (is_next range after) (tied_is q k e) ∙ m
      by false e = refl

    pub none-found : (xs : List X) (q : TableKey) → first xs ≡ None → is_next range after q ≡ true → found q xs ≡ None
    none-found [] q none n = refl
    none-found (x ∷ xs) q none n =
        let parts = found_none (is_next range after (at x)) x (first xs) none in
        ap (λ b. cond b (Some x) (found q xs)) (apart q (at x) n parts.0) ∙ none-found xs q parts.1 n

    pub first-found : (xs : List X) (x : X) → first xs ≡ Some x → (is_next range after (at x) ≡ true) × (found (at x) xs ≡ Some x)
    first-found [] x e = cc
    first-found (y ∷ ys) x e = by (is_next range after (at y)) refl e (first-found ys x) where
      by : (b : Bool) → is_next range after (at y) ≡ b → cond b (Some y) (first ys) ≡ Some x
          → (first ys ≡ Some x → (is_next range after (at x) ≡ true) × (found (at x) ys ≡ Some x))
          → (is_next range after (at x) ≡ true) × (found (at x) (y ∷ ys) ≡ Some x)
      by true n f more =
          let same : y ≡ x = cc in
          subst (λ (z : X). (is_next range after (at z) ≡ true) × (found (at z) (y ∷ ys) ≡ Some z)) same (n, ap (λ b. cond b (Some y) (found (at y) ys)) (itself (at y)))
      by false n f more = let later = more f in (later.0, ap (λ b. cond b (Some y) (found (at x) ys)) (apart (at x) (at y) later.0 n) ∙ later.1)

    pub below-first : (xs : List X) (x : X) (q : TableKey) → IsStrictlySortedBy table_key_cmp (map at xs) → first xs ≡ Some x → is_next range after q ≡ true → table_key_cmp q (at x) ≡ Less → found q xs ≡ None
    below-first [] x q sorted e n less = refl
    below-first (y ∷ ys) x q sorted e n less =
        by (is_next range after (at y)) refl e (λ f. below-first ys x q (sorted_tail table_key_cmp (at y) (map at ys) sorted) f n less) where
          above : AllByRecursion (λ k. table_key_cmp (at y) k ≡ Less) (map at ys)
          above = sorted_head table_key_cmp (at y) (map at ys) sorted

          by : (b : Bool) → is_next range after (at y) ≡ b → cond b (Some y) (first ys) ≡ Some x → (first ys ≡ Some x → found q ys ≡ None) → found q (y ∷ ys) ≡ None
          by true m f more =
              let same : x ≡ y = cc in
              let here : table_key_cmp q (at y) ≡ Less = ap (λ z. table_key_cmp q (at z)) (sym same) ∙ less in
              ap (λ o. cond (is_eq o) (Some y) (found q ys)) here ∙ below-none q ys (all-less q (at y) ys here above)
          by false m f more = ap (λ b. cond b (Some y) (found q ys)) (apart q (at y) n m) ∙ more f

module _ {X : Type 0} (p q : X → Bool) (down : (x : X) → p x ≡ true → q x ≡ true) where
  counted : (x : X) (ps qs : List X) (a b : Bool) → (a ≡ true → b ≡ true) → length ps ≤ length qs → length (cond a (x ∷ ps) ps) ≤ length (cond b (x ∷ qs) qs)
  counted x ps qs true true h le = omega arith
  counted x ps qs true false h le = let no : false ≡ true = h refl in cc
  counted x ps qs false true h le = omega arith
  counted x ps qs false false h le = le

  no_more : (xs : List X) → length (filter p xs) ≤ length (filter q xs)
  no_more [] = omega arith
  no_more (x ∷ xs) = counted x (filter p xs) (filter q xs) (p x) (q x) (down x) (no_more xs)

  one_fewer : (y x : X) (ps qs : List X) (o : Option X) (a b : Bool) → q y ≡ a → p y ≡ b → cond a (Some y) o ≡ Some x → p x ≡ false
      → length ps ≤ length qs → (o ≡ Some x → length ps < length qs) → length (cond b (y ∷ ps) ps) < length (cond a (y ∷ qs) qs)
  one_fewer y x ps qs o true true e f s out le more =
      let same : y ≡ x = cc in
      let no : true ≡ false = sym f ∙ ap p same ∙ out in cc
  one_fewer y x ps qs o true false e f s out le more = omega arith
  one_fewer y x ps qs o false true e f s out le more = let no : false ≡ true = sym e ∙ down y f in cc
  one_fewer y x ps qs o false false e f s out le more = more s

  -- where the first of many is not among the fewer
  pub fewer : (xs : List X) (x : X) → find q xs ≡ Some x → p x ≡ false → length (filter p xs) < length (filter q xs)
  fewer [] x e out = cc
  fewer (y ∷ ys) x e out = one_fewer y x (filter p ys) (filter q ys) (find q ys) (q y) (p y) refl refl e out (no_more ys) (λ f. fewer ys x f out)

-- a table key is that of its range's table where it is inside
pub in_table : (range : Range) (q : TableKey) → is_in range q ≡ true → q ≡ record { table = range.table; key = q.key }
in_table range q e =
    let same : range.table ≡ q.table = eqb-true range.table q.table (first_true (range.table == q.table) (is_inside range.prefix range.low range.high q.key) e) in
    λ i. record { table = sym same i; key = q.key }
  where
    first_true : (a b : Bool) → (a && b) ≡ true → a ≡ true
    first_true true b e = refl
    first_true false b e = cc

and_left : (a b : Bool) → (a && b) ≡ true → a ≡ true
and_left true b e = refl
and_left false b e = cc

pub next_inside : (range : Range) (after : Option (List Value)) (q : TableKey) → is_next range after q ≡ true → is_in range q ≡ true
next_inside range after q n = and_left (is_in range q) (is_above after q.key) n

-- the table key of a row of a range
abbrev pub key_in : Range → KeyedRow → TableKey
key_in range r = record { table = range.table; key = r.key }

pub record IsNextRow (range : Range) (after : Option (List Value)) (s : State) (r : KeyedRow) : Type 0 where
  pub wanted : is_next range after (key_in range r) ≡ true
  pub there : get s (key_in range r) ≡ Some r.row
  pub least : (q : TableKey) → is_next range after q ≡ true → table_key_cmp q (key_in range r) ≡ Less → get s q ≡ None

-- what the next row of a range is: there is none where no row is left, else it is the one with the least key
abbrev pub IsNext : Range → Option (List Value) → State → Option KeyedRow → Type 0
IsNext range after s None = (q : TableKey) → is_next range after q ≡ true → get s q ≡ None
IsNext range after s (Some r) = IsNextRow range after s r

some_is : {A : Type 0} (x y : A) → Some x ≡ Some y → x ≡ y
some_is x y e = cc

not_there : {A : Type 0} (x : A) → Some x ≡ None → ⊥
not_there x e = cc

module _ (range : Range) (after : Option (List Value)) (s : State) where
  one_row : (a b : KeyedRow) → IsNextRow range after s a → IsNextRow range after s b → a ≡ b
  one_row a b p q = by (table_key_cmp (key_in range a) (key_in range b)) refl where
    by : (o : Ordering) → table_key_cmp (key_in range a) (key_in range b) ≡ o → a ≡ b
    by Less e = absurd (not_there a.row (sym p.there ∙ q.least (key_in range a) p.wanted e))
    by Equal e =
        let same : key_in range a ≡ key_in range b = table_key_cmp_exact (key_in range a) (key_in range b) e in
        let rows : a.row ≡ b.row = some_is a.row b.row (sym p.there ∙ ap (get s) same ∙ q.there) in
        λ i. record { key = (same i).key; row = rows i }
    by Greater e = absurd (not_there b.row (sym q.there ∙ p.least (key_in range b) q.wanted (flipped (key_in range a) (key_in range b) Greater e)))

  pub one_next : (r t : Option KeyedRow) → IsNext range after s r → IsNext range after s t → r ≡ t
  one_next None None p q = refl
  one_next None (Some b) p q = absurd (not_there b.row (sym q.there ∙ p (key_in range b) q.wanted))
  one_next (Some a) None p q = absurd (not_there a.row (sym p.there ∙ q (key_in range a) p.wanted))
  one_next (Some a) (Some b) p q = ap Some (one_row a b p q)

abbrev Rows : Type 0
Rows = List (TableKey × List Value)

abbrev key_of : TableKey × List Value → TableKey
key_of e = e.0

-- a row by its table key
find-found : (q : TableKey) (es : Rows) → finite.find table_key_cmp q es ≡ option_map (λ (e : TableKey × List Value). e.1) (found key_of q es)
find-found q [] = refl
find-found q (e ∷ es) = by (eq_by_cmp table_key_cmp q e.0) (find-found q es) where
  by : (b : Bool) → finite.find table_key_cmp q es ≡ option_map (λ (x : TableKey × List Value). x.1) (found key_of q es)
      → cond b (Some e.1) (finite.find table_key_cmp q es) ≡ option_map (λ (x : TableKey × List Value). x.1) (cond b (Some e) (found key_of q es))
  by true more = refl
  by false more = more

module _ {A : Type 0} (p q : A → Bool) where
  one_kept : (x : A) (b c : Bool) (rest more : Option A) → rest ≡ more → cond b (cond c (Some x) rest) rest ≡ cond (b && c) (Some x) more
  one_kept x true true rest more e = refl
  one_kept x true false rest more e = e
  one_kept x false c rest more e = e

  kept_first : (x : A) (b : Bool) (xs : List A) → find p (cond b (x ∷ xs) xs) ≡ cond b (cond (p x) (Some x) (find p xs)) (find p xs)
  kept_first x true xs = refl
  kept_first x false xs = refl

  -- the first that passes among those kept
  pub find-filter : (xs : List A) → find p (filter q xs) ≡ find (λ x. q x && p x) xs
  find-filter [] = refl
  find-filter (x ∷ xs) = kept_first x (q x) (filter q xs) ∙ one_kept x (q x) (p x) (find p (filter q xs)) (find (λ y. q y && p y) xs) (find-filter xs)

-- the next row of a range is the first of what is left among all rows
pub next_in-first : (range : Range) (after : Option (List Value)) (s : State) → next_in range after s ≡ option_map keyed_row (first key_of range after (entries s))
next_in-first range after s = ap (option_map keyed_row)
    (ap (find (λ e. is_above after e.0.key)) (entries-retain_keys s (is_in range))
    ∙ find-filter (λ e. is_above after e.0.key) (λ e. is_in range e.0) (entries s))

module _ (range : Range) (after : Option (List Value)) (s : State) where
  row_at_key : (q : TableKey) → get s q ≡ option_map (λ (e : TableKey × List Value). e.1) (found key_of q (entries s))
  row_at_key q = get-entries s q ∙ find-found q (entries s)

  first-next : (o : Option (TableKey × List Value)) → first key_of range after (entries s) ≡ o → IsNext range after s (option_map keyed_row o)
  first-next None e = λ q n. row_at_key q ∙ ap (option_map (λ (x : TableKey × List Value). x.1)) (none-found key_of range after (entries s) q e n)
  first-next (Some x) e =
      let there = first-found key_of range after (entries s) x e in
      let same : x.0 ≡ record { table = range.table; key = x.0.key } = in_table range x.0 (next_inside range after x.0 there.0) in
      record {
        wanted = ap (is_next range after) (sym same) ∙ there.0;
        there = ap (get s) (sym same) ∙ row_at_key x.0 ∙ ap (option_map (λ (y : TableKey × List Value). y.1)) there.1;
        least = λ q n less. row_at_key q ∙ ap (option_map (λ (y : TableKey × List Value). y.1))
            (below-first key_of range after (entries s) x q (keys_ascend (entries s) (entries_sorted s)) e n (ap (table_key_cmp q) same ∙ less));
      }

  pub next_in-is : IsNext range after s (next_in range after s)
  next_in-is = subst (IsNext range after s) (sym (next_in-first range after s)) (first-next (first key_of range after (entries s)) refl)

  pub is-next_in : (r : Option KeyedRow) → IsNext range after s r → r ≡ next_in range after s
  is-next_in r p = one_next range after s r (next_in range after s) p next_in-is

-- the same next row of another state that agrees on what is left
pub IsNext-same : (range : Range) (after : Option (List Value)) (s t : State) → ((q : TableKey) → is_next range after q ≡ true → get t q ≡ get s q)
    → (r : Option KeyedRow) → IsNext range after s r → IsNext range after t r
IsNext-same range after s t same None p = λ q n. same q n ∙ p q n
IsNext-same range after s t same (Some r) p = record {
  wanted = p.wanted;
  there = same (key_in range r) p.wanted ∙ p.there;
  least = λ q n less. same q n ∙ p.least q n less;
}

-- the same next row behind a later key, where nothing stands between
pub IsNext-later : (range : Range) (after later : Option (List Value)) (s : State) → ((q : TableKey) → is_next range later q ≡ true → is_next range after q ≡ true)
    → ((q : TableKey) → is_next range after q ≡ true → is_next range later q ≡ false → get s q ≡ None)
    → (r : Option KeyedRow) → IsNext range later s r → IsNext range after s r
IsNext-later range after later s down none r p = by r p where
  one : (q : TableKey) → is_next range after q ≡ true → (is_next range later q ≡ true → get s q ≡ None) → get s q ≡ None
  one q n left = cases (is_next range later q) refl where
    cases : (b : Bool) → is_next range later q ≡ b → get s q ≡ None
    cases true e = left e
    cases false e = none q n e

  by : (r : Option KeyedRow) → IsNext range later s r → IsNext range after s r
  by None p = λ q n. one q n (p q)
  by (Some x) p = record {
    wanted = down (key_in range x) p.wanted;
    there = p.there;
    least = λ q n less. one q n (λ m. p.least q m less);
  }
