-- Which row comes next where intentions are laid over a state.
use Rattle.std.proofs.Common.{◌≡◌, ℕ, ◌<◌, Bool, true, false, ◌&&◌, List, [], ◌∷◌, map, length, cond, refl, sym, ap, subst, ◌∙◌, Option, None, Some}
use Rattle.std.specs.Prelude.{option_map}
use Rattle.std.specs.List.{find, filter}
use Rattle.std.specs.declared.cmp.Ordering.{Ordering}
use Rattle.std.specs.declared.cmp.Ordering.TheVariants.{Less, Equal, Greater}
use Rattle.std.specs.Ordering.{nat_cmp, ordering_then, is_lt, is_eq, eq_by_cmp}
use Rattle.std.specs.Cmp.{tied_itself}
use Rattle.std.specs.FinMap.{get}
use Rattle.std.proofs.lemmas.Cmp.{nat_cmp_total}
use Rattle.odb_values.specs.declared.value.Value.{Value}
use Rattle.odb_values.specs.declared.range.Range.{Range}
use Rattle.odb_values.specs.declared.edge.Edge.TheVariants.{Free}
use Rattle.odb_values.specs.Value.{values_cmp}
use Rattle.odb_values.specs.ValueOrder.{values_cmp_total}
use Rattle.odb_model.specs.declared.table_key.TableKey.{TableKey}
use Rattle.odb_model.specs.declared.intention.Intention.{Intention}
use Rattle.odb_model.specs.State.{State, table_key_cmp, is_in}
use Rattle.odb_model.proofs.Replay.{table_key_cmp_total, table_key_cmp_exact}
use Rattle.odb_rowsource.specs.declared.row_source.KeyedRow.{KeyedRow}
use Rattle.odb_rowsource.specs.RowSource.{is_above, row_at, next_in}
use Rattle.odb_rowsource.specs.Intentions.{laid_over, AreAscending, intention_at, row_over, next_intention}
use Rattle.odb_rowsource.specs.Overlay.{intended_row, first_of}
use Rattle.odb_rowsource.proofs.Stands.{is_next}
use Rattle.odb_rowsource.proofs.Intended.{get-laid_over, row_of_option}
use Rattle.odb_rowsource.proofs.Nexts.{flipped, tied_is, found, none-found, first-found, below-first, fewer, in_table, next_inside, key_in, IsNext, IsNextRow, next_in-is, is-next_in, IsNext-same, IsNext-later}

abbrev key_of : Intention → TableKey
key_of i = i.table_key

abbrev to_row : Intention → List Value → KeyedRow
to_row i row = record { key = i.table_key.key; row = row }

-- keys of one table stand as their values do
one_table : (t : ℕ) (a b : List Value) → table_key_cmp (record { table = t; key = a }) (record { table = t; key = b }) ≡ values_cmp a b
one_table t a b = ap (λ o. ordering_then o (values_cmp a b)) (tied_itself nat_cmp_total t)

lt_is : (o : Ordering) → is_lt o ≡ true → o ≡ Less
lt_is Less e = refl
lt_is Equal e = cc
lt_is Greater e = cc

and_parts : (a b : Bool) → (a && b) ≡ true → (a ≡ true) × (b ≡ true)
and_parts true b e = (refl, e)
and_parts false b e = cc

both_so : (a b : Bool) → a ≡ true → b ≡ true → (a && b) ≡ true
both_so true b p q = q
both_so false b p q = cc

-- some range
abbrev whole : TableKey → Range
whole q = record { table = q.table; prefix = []; low = Free; high = Free }

no_value : {A : Type 0} (x : A) → None ≡ Some x → ⊥
no_value x e = cc

module _ (s : State) (own : List Intention) (h : AreAscending own) (range : Range) where
  abbrev over : State
  over = laid_over s own

  -- at a table key that isn't written the row stays
  unowned : (q : TableKey) → intention_at q own ≡ None → get over q ≡ get s q
  unowned q e = get-laid_over s own q h ∙ ap (λ o. row_of_option o (get s q)) e

  owned : (q : TableKey) (i : Intention) → intention_at q own ≡ Some i → get over q ≡ i.row
  owned q i e = get-laid_over s own q h ∙ ap (λ o. row_of_option o (get s q)) e

  module _ (after : Option (List Value)) where
    -- where nothing of what is left is written, the next row stays
    pub next-alone : next_intention range after own ≡ None → next_in range after s ≡ next_in range after over
    next-alone none = is-next_in range after over (next_in range after s)
        (IsNext-same range after s over (λ q n. unowned q (none-found key_of range after own q none n)) (next_in range after s) (next_in-is range after s))

    module _ (i : Intention) (next : next_intention range after own ≡ Some i) where
      abbrev here : (is_next range after i.table_key ≡ true) × (intention_at i.table_key own ≡ Some i)
      here = first-found key_of range after own i next

      in_place : i.table_key ≡ record { table = range.table; key = i.table_key.key }
      in_place = in_table range i.table_key (next_inside range after i.table_key here.0)

      unwritten : (q : TableKey) → is_next range after q ≡ true → table_key_cmp q i.table_key ≡ Less → intention_at q own ≡ None
      unwritten q n less = below-first key_of range after own i q h next n less

      -- the source has a row before the intention's key
      abbrev comes_first : KeyedRow → Bool
      comes_first f = is_lt (values_cmp f.key i.table_key.key)

      stands : (f : KeyedRow) → table_key_cmp (key_in range f) i.table_key ≡ values_cmp f.key i.table_key.key
      stands f = ap (table_key_cmp (key_in range f)) in_place ∙ one_table range.table f.key i.table_key.key

      before : (f : KeyedRow) → comes_first f ≡ true → table_key_cmp (key_in range f) i.table_key ≡ Less
      before f e = stands f ∙ lt_is (values_cmp f.key i.table_key.key) e

      -- what is below the intention's key is below a row that doesn't come before it
      below : (f : KeyedRow) (q : TableKey) → comes_first f ≡ false → table_key_cmp q i.table_key ≡ Less → table_key_cmp q (key_in range f) ≡ Less
      below f q e less = by (table_key_cmp (key_in range f) i.table_key) refl where
        by : (o : Ordering) → table_key_cmp (key_in range f) i.table_key ≡ o → table_key_cmp q (key_in range f) ≡ Less
        by Less p = let no : true ≡ false = sym (ap is_lt (sym (stands f) ∙ p)) ∙ e in cc
        by Equal p = ap (table_key_cmp q) (table_key_cmp_exact (key_in range f) i.table_key p) ∙ less
        by Greater p = table_key_cmp_total.trans q i.table_key (key_in range f) less (flipped (key_in range f) i.table_key Greater p)

      -- the source's row doesn't come before the intention's key
      abbrev pub IsBehind : Option KeyedRow → Type 0
      IsBehind None = Unit {0}
      IsBehind (Some f) = comes_first f ≡ false

      nothing_below : (r : Option KeyedRow) → IsNext range after s r → IsBehind r → (q : TableKey) → is_next range after q ≡ true → table_key_cmp q i.table_key ≡ Less → get s q ≡ None
      nothing_below None p b q n less = p q n
      nothing_below (Some f) p b q n less = p.least q n (below f q b less)

      -- the source's row comes first
      first_found : (f : KeyedRow) → IsNextRow range after s f → comes_first f ≡ true → IsNextRow range after over f
      first_found f p e = record {
        wanted = p.wanted;
        there = unowned (key_in range f) (unwritten (key_in range f) p.wanted (before f e)) ∙ p.there;
        least = λ q n less. unowned q (unwritten q n (table_key_cmp_total.trans q (key_in range f) i.table_key less (before f e))) ∙ p.least q n less;
      }

      -- the intended row comes first
      first_intended : (row : List Value) → i.row ≡ Some row → (r : Option KeyedRow) → IsNext range after s r → IsBehind r
          → IsNextRow range after over (record { key = i.table_key.key; row = row })
      first_intended row e r p b = record {
        wanted = ap (is_next range after) (sym in_place) ∙ here.0;
        there = ap (get over) (sym in_place) ∙ owned i.table_key i here.1 ∙ e;
        least = λ q n less.
            let below_own : table_key_cmp q i.table_key ≡ Less = ap (table_key_cmp q) in_place ∙ less in
            unowned q (unwritten q n below_own) ∙ nothing_below r p b q n below_own;
      }

      by_row : (o : Option (List Value)) → i.row ≡ o → (x : KeyedRow) → option_map (to_row i) o ≡ Some x
          → (r : Option KeyedRow) → IsNext range after s r → IsBehind r → IsNext range after over (Some x)
      by_row None e x f r p b = absurd (no_value x f)
      by_row (Some row) e x f r p b =
          let same : record { key = i.table_key.key; row = row } ≡ x = cc in
          subst (λ (y : KeyedRow). IsNextRow range after over y) same (first_intended row e r p b)

      next_first : (r : Option KeyedRow) (x : KeyedRow) → IsNext range after s r → first_of r i ≡ Some x → IsNext range after over (Some x)
      next_first None x p e = by_row i.row refl x e None p tt
      next_first (Some f) x p e = by (comes_first f) refl e where
        by : (b : Bool) → comes_first f ≡ b → cond b (Some f) (intended_row i) ≡ Some x → IsNext range after over (Some x)
        by true c g = let same : f ≡ x = cc in subst (λ (y : KeyedRow). IsNextRow range after over y) same (first_found f p c)
        by false c g = by_row i.row refl x g (Some f) p c

      -- what comes first is the next row with the intentions laid over
      pub next-first : (x : KeyedRow) → first_of (next_in range after s) i ≡ Some x → Some x ≡ next_in range after over
      next-first x e = is-next_in range after over (Some x) (next_first (next_in range after s) x (next_in-is range after s) e)

      no_row : (o : Option (List Value)) → option_map (to_row i) o ≡ None → o ≡ None
      no_row None e = refl
      no_row (Some row) e = absurd (no_value (to_row i row) (sym e))

      deletes : (r : Option KeyedRow) → first_of r i ≡ None → (i.row ≡ None) × IsBehind r
      deletes None e = (no_row i.row e, tt)
      deletes (Some f) e = by (comes_first f) refl e where
        by : (b : Bool) → comes_first f ≡ b → cond b (Some f) (intended_row i) ≡ None → (i.row ≡ None) × (comes_first f ≡ false)
        by true c g = absurd (no_value f (sym g))
        by false c g = (no_row i.row g, c)

      abbrev pub later : Option (List Value)
      later = Some i.table_key.key

      -- what is behind the intention's key is behind the one before
      pub later-down : (q : TableKey) → is_next range later q ≡ true → is_next range after q ≡ true
      later-down q n =
          let parts = and_parts (is_in range q) (is_lt (values_cmp i.table_key.key q.key)) n in
          both_so (is_in range q) (is_above after q.key) parts.0 (above after (and_parts (is_in range i.table_key) (is_above after i.table_key.key) here.0).1 (lt_is (values_cmp i.table_key.key q.key) parts.1))
        where
          above : (a : Option (List Value)) → is_above a i.table_key.key ≡ true → values_cmp i.table_key.key q.key ≡ Less → is_above a q.key ≡ true
          above None m less = refl
          above (Some last) m less = ap is_lt (values_cmp_total.trans last i.table_key.key q.key (lt_is (values_cmp last i.table_key.key) m) less)

      pub later-out : is_next range later i.table_key ≡ false
      later-out = by (is_in range i.table_key) where
        by : (b : Bool) → (b && is_lt (values_cmp i.table_key.key i.table_key.key)) ≡ false
        by true = ap is_lt (tied_itself values_cmp_total i.table_key.key)
        by false = refl

      -- each step leaves fewer intentions
      pub later-fewer : length (filter (λ j. is_next range later j.table_key) own) < length (filter (λ j. is_next range after j.table_key) own)
      later-fewer = fewer (λ j. is_next range later j.table_key) (λ j. is_next range after j.table_key) (λ j n. later-down j.table_key n) own i next later-out

      second_false : (a b : Bool) → a ≡ true → (a && b) ≡ false → b ≡ false
      second_false true b e f = f
      second_false false b e f = cc

      -- what isn't behind the intention's key is it or below
      at_or_below : (q : TableKey) → is_next range after q ≡ true → is_next range later q ≡ false → (r : Option KeyedRow) → IsNext range after s r → IsBehind r → i.row ≡ None → get over q ≡ None
      at_or_below q n out r p b none =
          let not_above : is_lt (values_cmp i.table_key.key q.key) ≡ false = second_false (is_in range q) (is_lt (values_cmp i.table_key.key q.key)) (next_inside range after q n) out in
          let inside : q ≡ record { table = range.table; key = q.key } = in_table range q (next_inside range after q n) in
          let same : table_key_cmp i.table_key q ≡ values_cmp i.table_key.key q.key =
          ap (λ k. table_key_cmp k q) in_place ∙ ap (table_key_cmp (record { table = range.table; key = i.table_key.key })) inside ∙ one_table range.table i.table_key.key q.key in
          by (table_key_cmp i.table_key q) refl (ap is_lt same ∙ not_above)
        where
          by : (o : Ordering) → table_key_cmp i.table_key q ≡ o → is_lt o ≡ false → get over q ≡ None
          by Less e f = cc
          by Equal e f = ap (get over) (sym (table_key_cmp_exact i.table_key q e)) ∙ owned i.table_key i here.1 ∙ none
          by Greater e f =
              let less : table_key_cmp q i.table_key ≡ Less = flipped i.table_key q Greater e in
              unowned q (unwritten q n less) ∙ nothing_below r p b q n less

      -- behind an intention that deletes the search goes on
      pub next-behind : first_of (next_in range after s) i ≡ None → next_in range later over ≡ next_in range after over
      next-behind e =
          let parts = deletes (next_in range after s) e in
          is-next_in range after over (next_in range later over)
          (IsNext-later range after later over later-down
          (λ q n out. at_or_below q n out (next_in range after s) (next_in-is range after s) parts.1 parts.0)
          (next_in range later over) (next_in-is range later over))

-- the row of an intention is that of its table key
pub row-owned : (s : State) (own : List Intention) (q : TableKey) (i : Intention) → AreAscending own → Some i ≡ intention_at q own → i.row ≡ get (laid_over s own) q
row-owned s own q i h e = sym (owned s own h (whole q) q i (sym e))

pub row-unowned : (s : State) (own : List Intention) (q : TableKey) → AreAscending own → None ≡ intention_at q own → get s q ≡ get (laid_over s own) q
row-unowned s own q h e = sym (unowned s own h (whole q) q (sym e))
