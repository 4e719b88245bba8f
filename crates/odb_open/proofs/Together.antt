-- States laid over one another: of each key what one of them has, where no two of them differ.
use Rattle.std.proofs.Common.{◌≡◌, ℕ, Bool, true, false, ◌||◌, ◌==◌, cond, List, [], ◌∷◌, map, refl, sym, ap, subst, ◌∙◌, Option, Some, None, inl, inr}
use Rattle.std.specs.Prelude.{◌⊎◌, T, ◌&&◌}
use Rattle.std.specs.List.{AllByRecursion, list_any}
use Rattle.std.specs.Ordering.{is_lt, is_eq}
use Rattle.std.specs.declared.cmp.Ordering.{Ordering}
use Rattle.std.specs.declared.cmp.Ordering.TheVariants.{Less, Equal, Greater}
use Rattle.std.specs.FinMap.{empty, get, insert, entries, entries_sorted, get-empty, get-entries, get-insert}
use Rattle.std.specs.FinMap.Entries.{find, is_sorted, below_all}
use Rattle.odb_values.specs.declared.value.Value.{Value}
use Rattle.odb_model.specs.declared.table_key.TableKey.{TableKey}
use Rattle.odb_model.specs.State.{State, table_key_cmp}
use Rattle.odb_model.specs.Databanks.{Databank}
use Rattle.odb_machine.specs.Opened.{laid_over, all_together}
use Rattle.odb_model.proofs.Replay.{table_key_cmp_total, table_key_cmp_exact}

abbrev Row : Type 0
Row = List Value

abbrev Pair : Type 0
Pair = TableKey × Row

-- what is there, or else what is below
abbrev pub over : Option Row → Option Row → Option Row
over None below = below
over (Some row) below = Some row

both_T : (a b : Bool) → T (a && b) → T a × T b
both_T true b h = (tt, h)
both_T false b h = absurd h

-- a key below all of a list isn't in it
none_below : (o : Ordering) (row : Row) (rest : Option Row) → T (is_lt o) → rest ≡ None → cond (is_eq o) (Some row) rest ≡ None
none_below Less row rest low none = none
none_below Equal row rest low none = absurd low
none_below Greater row rest low none = absurd low

not_there : (k : TableKey) (es : List Pair) → T (below_all table_key_cmp k es) → find table_key_cmp k es ≡ None
not_there k [] h = refl
not_there k (e ∷ es) h =
    let parts = both_T (is_lt (table_key_cmp k e.0)) (below_all table_key_cmp k es) h in
    none_below (table_key_cmp k e.0) e.1 (find table_key_cmp k es) parts.0 (not_there k es parts.1)

over_same : (whole below : Option Row) → below ≡ whole → over whole below ≡ whole
over_same None below same = same
over_same (Some row) below same = refl

over_may : (whole below : Option Row) → (below ≡ None) ⊎ (below ≡ whole) → over whole below ≡ whole
over_may None below (inl none) = none
over_may None below (inr same) = same
over_may (Some row) below may = refl

clash : {A : Type 0} → false ≡ true → A
clash e = cc e

module _ (q : TableKey) where
  tie : (e : Pair) (es : List Pair) (s : State) → T (below_all table_key_cmp e.0 es) → (o : Ordering) → table_key_cmp q e.0 ≡ o
      → over (find table_key_cmp q es) (cond (is_eq o) (Some e.1) (get s q)) ≡ over (cond (is_eq o) (Some e.1) (find table_key_cmp q es)) (get s q)
  tie e es s below Less is = refl
  tie e es s below Equal is =
      ap (λ (o : Option Row). over o (Some e.1))
      (subst (λ (k : TableKey). find table_key_cmp k es ≡ None) (sym (table_key_cmp_exact q e.0 is)) (not_there e.0 es below))
  tie e es s below Greater is = refl

  laid : (es : List Pair) (s : State) → T (is_sorted table_key_cmp es) → get (laid_over s es) q ≡ over (find table_key_cmp q es) (get s q)
  laid [] s h = refl
  laid (e ∷ es) s h =
      let parts = both_T (below_all table_key_cmp e.0 es) (is_sorted table_key_cmp es) h in
      laid es (insert s e.0 e.1) parts.1
      ∙ ap (over (find table_key_cmp q es)) (get-insert table_key_cmp_total s e.0 e.1 q)
      ∙ tie e es s parts.0 (table_key_cmp q e.0) refl

  laid_state : (s t : State) → get (laid_over s (entries t)) q ≡ over (get t q) (get s q)
  laid_state s t = laid (entries t) s (entries_sorted t) ∙ ap (λ (o : Option Row). over o (get s q)) (sym (get-entries t q))

  -- the rows of each databank: those of the databank of this number have the whole, the others nothing
  module _ (rows : Databank → State) (n : ℕ) (whole : Option Row) where
    abbrev pub Has : Databank → Type 0
    Has b = get (rows b) q ≡ cond (b.number == n) whole None

    laid_bank : (s : State) (b : Databank) → Has b → get (laid_over s (entries (rows b))) q ≡ over (cond (b.number == n) whole None) (get s q)
    laid_bank s b has = laid_state s (rows b) ∙ ap (λ (o : Option Row). over o (get s q)) has

    stays : (c : Bool) (below : Option Row) → below ≡ whole → over (cond c whole None) below ≡ whole
    stays true below same = over_same whole below same
    stays false below same = same

    keeps : (banks : List Databank) (s : State) → AllByRecursion Has banks → get s q ≡ whole → get (all_together s (map rows banks)) q ≡ whole
    keeps [] s all same = same
    keeps (b ∷ banks) s all same =
        keeps banks (laid_over s (entries (rows b))) all.1 (laid_bank s b all.0 ∙ stays (b.number == n) (get s q) same)

    carries : (c : Bool) (below : Option Row) → c ≡ false → (below ≡ None) ⊎ (below ≡ whole) → (over (cond c whole None) below ≡ None) ⊎ (over (cond c whole None) below ≡ whole)
    carries true below is may = clash (sym is)
    carries false below is may = may

    gathers : (banks : List Databank) (s : State) → AllByRecursion Has banks → (get s q ≡ None) ⊎ (get s q ≡ whole) → list_any (λ b. b.number == n) banks ≡ true
        → get (all_together s (map rows banks)) q ≡ whole
    gathers [] s all may any = clash any
    gathers (b ∷ banks) s all may any = by_number (λ m some. gathers banks (laid_over s (entries (rows b))) all.1 m some) (b.number == n) refl
      where
        by_number : ((get (laid_over s (entries (rows b))) q ≡ None) ⊎ (get (laid_over s (entries (rows b))) q ≡ whole) → list_any (λ d. d.number == n) banks ≡ true
            → get (all_together (laid_over s (entries (rows b))) (map rows banks)) q ≡ whole)
            → (c : Bool) → (b.number == n) ≡ c → get (all_together (laid_over s (entries (rows b))) (map rows banks)) q ≡ whole
        by_number go true is =
            keeps banks (laid_over s (entries (rows b))) all.1
            (laid_bank s b all.0 ∙ ap (λ (c : Bool). over (cond c whole None) (get s q)) is ∙ over_may whole (get s q) may)
        by_number go false is =
            go (subst (λ (o : Option Row). (o ≡ None) ⊎ (o ≡ whole)) (sym (laid_bank s b all.0)) (carries (b.number == n) (get s q) is may))
            (sym (ap (λ (c : Bool). c || list_any (λ d. d.number == n) banks) is) ∙ any)

    by_any : (banks : List Databank) → AllByRecursion Has banks → (c : Bool) → list_any (λ b. b.number == n) banks ≡ c → (c ≡ false → whole ≡ None)
        → get (all_together empty (map rows banks)) q ≡ whole
    by_any banks all true any none = gathers banks empty all (inl (get-empty table_key_cmp q)) any
    by_any banks all false any none = keeps banks empty all (get-empty table_key_cmp q ∙ sym (none refl))

    -- of the key all states together have the whole, where that is nothing unless a databank has the
    -- number
    pub together : (banks : List Databank) → AllByRecursion Has banks → (list_any (λ b. b.number == n) banks ≡ false → whole ≡ None)
        → get (all_together empty (map rows banks)) q ≡ whole
    together banks all none = by_any banks all (list_any (λ b. b.number == n) banks) refl none
