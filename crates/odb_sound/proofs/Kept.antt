-- What is kept of all rows of a state by writes.
use Rattle.std.proofs.Common.{◌≡◌, ℕ, Bool, true, false, ◌==◌, not, cond, List, [], ◌∷◌, refl, sym, ap, subst, ◌∙◌, Option, Some, None, eq-eqb}
use Rattle.std.specs.List.{All, filter}
use Rattle.std.specs.declared.cmp.Ordering.TheVariants.{Less, Equal, Greater}
use Rattle.std.specs.Ordering.{eq_by_cmp}
use Rattle.std.specs.FinMap.{empty, get, remove, entries, entries-insert, retain_keys, get-remove, get-retain_keys, same_map}
use Rattle.std.specs.FinMap.Entries.{put, by_order}
use Rattle.std.proofs.lemmas.List.Elements.{All-nil, All-cons, All-head, All-tail, All-filter}
use Rattle.odb_values.specs.declared.value.Value.{Value}
use Rattle.odb_model.specs.declared.write.Write.{Write}
use Rattle.odb_model.specs.declared.entry.Entry.{Entry}
use Rattle.odb_model.specs.declared.table_key.TableKey.{TableKey}
use Rattle.odb_model.specs.State.{State, table_key_cmp, table_key_of, changed, after_writes, replay, replay_from, rows_of}
use Rattle.odb_model.proofs.Replay.{table_key_cmp_total, table_key_cmp_exact}
use Rattle.odb_model.proofs.Parts.{entries-retain_keys}
use Rattle.odb_model.proofs.Keys.{entries-empty}
use Rattle.odb_model.proofs.Covering.{same_number}

other_side : (b : Bool) (o : Option (List Value)) → cond b None o ≡ cond (not b) o None
other_side true o = refl
other_side false o = refl

remove-retained : (s : State) (at : TableKey) → remove s at ≡ retain_keys s (λ q. not (eq_by_cmp table_key_cmp q at))
remove-retained s at =
    let p : TableKey → Bool = λ q. not (eq_by_cmp table_key_cmp q at) in
    same_map table_key_cmp_total table_key_cmp_exact (remove s at) (retain_keys s p)
    (λ q. get-remove table_key_cmp_total s at q ∙ other_side (eq_by_cmp table_key_cmp q at) (get s q) ∙ sym (get-retain_keys s p q (λ x tied. ap p (sym (table_key_cmp_exact q x tied)))))

module _ (P : TableKey → List Value → Type 0) where
  abbrev pub Holds : TableKey × List Value → Type 0
  Holds e = P e.0 e.1

  -- it holds of all rows
  abbrev pub OfRows : State → Type 0
  OfRows s = All Holds (entries s)

  -- it holds of the row that a write puts
  abbrev pub OfWrite : Write → Type 0
  OfWrite w = (row : List Value) → w.row ≡ Some row → P (table_key_of w) row

  All-put : (at : TableKey) (row : List Value) (es : List (TableKey × List Value)) → P at row → All Holds es → All Holds (put table_key_cmp at row es)
  All-put at row [] p all = All-cons Holds (at, row) [] p (All-nil Holds)
  All-put at row (e ∷ es) p all =
      let head : Holds e = All-head Holds e es all in
      let tail : All Holds es = All-tail Holds e es all in
      elim (table_key_cmp at e.0) as (λ o. table_key_cmp at e.0 ≡ o → All Holds (by_order o ((at, row) ∷ e ∷ es) ((e.0, row) ∷ es) (e ∷ put table_key_cmp at row es))) [
        | Less ↦ λ c. All-cons Holds (at, row) (e ∷ es) p all
        | Equal ↦ λ c. All-cons Holds (e.0, row) es (subst (λ (k : TableKey). P k row) (table_key_cmp_exact at e.0 c) p) tail
        | Greater ↦ λ c. All-cons Holds e (put table_key_cmp at row es) head (All-put at row es p tail)
      ] refl

  of_changed : (s : State) (at : TableKey) (o : Option (List Value)) → ((row : List Value) → o ≡ Some row → P at row) → OfRows s → OfRows (changed s at o)
  of_changed s at None p all =
      subst OfRows (sym (remove-retained s at))
      (subst (All Holds) (sym (entries-retain_keys s (λ q. not (eq_by_cmp table_key_cmp q at)))) (All-filter (λ e. not (eq_by_cmp table_key_cmp e.0 at)) Holds (entries s) all))
  of_changed s at (Some row) p all = subst (All Holds) (sym (entries-insert table_key_cmp_total s at row)) (All-put at row (entries s) (p row refl) all)

  -- writes of such rows keep it
  pub of_after : (ws : List Write) (s : State) → All OfWrite ws → OfRows s → OfRows (after_writes s ws)
  of_after [] s new all = all
  of_after (w ∷ ws) s new all =
      of_after ws (changed s (table_key_of w) w.row) (All-tail OfWrite w ws new) (of_changed s (table_key_of w) w.row (All-head OfWrite w ws new) all)

  of_replay_from : (h : List Entry) (s : State) → All (λ (e : Entry). All OfWrite e.writes) h → OfRows s → OfRows (replay_from s h)
  of_replay_from [] s new all = all
  of_replay_from (e ∷ h) s new all =
      of_replay_from h (after_writes s e.writes) (All-tail (λ (x : Entry). All OfWrite x.writes) e h new)
      (of_after e.writes s (All-head (λ (x : Entry). All OfWrite x.writes) e h new) all)

  -- so it holds of all rows that a history of such writes leaves
  pub of_replay : (h : List Entry) → All (λ (e : Entry). All OfWrite e.writes) h → OfRows (replay h)
  of_replay h new = of_replay_from h empty new (subst (All Holds) (sym (entries-empty (List Value))) (All-nil Holds))

-- what holds of a table's rows holds of each row, where it is one of the table
module _ (Q : TableKey × List Value → Type 0) (n : ℕ) where
  abbrev pub WhereIn : TableKey × List Value → Type 0
  WhereIn e = e.0.table ≡ n → Q e

  in_rows : (es : List (TableKey × List Value)) → All Q (filter (λ e. n == e.0.table) es) → All WhereIn es
  in_rows [] all = All-nil WhereIn
  in_rows (e ∷ es) all =
      elim (n == e.0.table) as (λ b. (n == e.0.table) ≡ b → All Q (cond b (e ∷ filter (λ x. n == x.0.table) es) (filter (λ x. n == x.0.table) es)) → All WhereIn (e ∷ es)) [
        | true ↦ λ is f. All-cons WhereIn e es (λ _. All-head Q e (filter (λ x. n == x.0.table) es) f) (in_rows es (All-tail Q e (filter (λ x. n == x.0.table) es) f))
        | false ↦ λ is f. All-cons WhereIn e es (λ same. absurd (unequal n e.0.table is (sym same))) (in_rows es f)
      ] refl all
    where
      unequal : (a b : ℕ) → (a == b) ≡ false → a ≡ b → ⊥
      unequal a b f same = let yes : (a == b) ≡ true = eq-eqb a b same in cc

  of_table : (es : List (TableKey × List Value)) → All WhereIn es → All Q (filter (λ e. n == e.0.table) es)
  of_table [] all = All-nil Q
  of_table (e ∷ es) all =
      let rest = of_table es (All-tail WhereIn e es all) in
      elim (n == e.0.table) as (λ b. (n == e.0.table) ≡ b → All Q (cond b (e ∷ filter (λ x. n == x.0.table) es) (filter (λ x. n == x.0.table) es))) [
        | true ↦ λ is. All-cons Q e (filter (λ x. n == x.0.table) es) (All-head WhereIn e es all (sym (same_number n e.0.table is))) rest
        | false ↦ λ is. rest
      ] refl

  pub from_rows : (s : State) → All Q (rows_of n s) → All WhereIn (entries s)
  from_rows s all = in_rows (entries s) (subst (All Q) (entries-retain_keys s (λ at. n == at.table)) all)

  pub to_rows : (s : State) → All WhereIn (entries s) → All Q (rows_of n s)
  to_rows s all = subst (All Q) (sym (entries-retain_keys s (λ at. n == at.table))) (of_table (entries s) all)
