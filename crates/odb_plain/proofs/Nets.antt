-- What writes leave.
use Rattle.std.proofs.Common.{◌≡◌, ℕ, ◌+◌, ◌<◌, Bool, true, false, ◌||◌, cond, List, [], ◌∷◌, ◌++◌, length, take, get_or, map, filter, is_some, refl, ap, sym, ◌∙◌, Some}
use Rattle.std.specs.List.{AllByRecursion}
use Rattle.std.specs.Ordering.{eq_by_cmp}
use Rattle.std.specs.FinMap.{get, entries, from_entries}
use Rattle.std.specs.BTreeMap.{BTreeMap, IsOrdered}
use Rattle.std.proofs.lemmas.List.Elements.{recursion_from_All}
use Rattle.std.proofs.lemmas.Map.Views.{All-found}
use Rattle.odb_model.specs.declared.write.Write.{Write}
use Rattle.odb_model.specs.declared.table_key.TableKey.{TableKey}
use Rattle.odb_model.specs.State.{State, table_key_cmp, table_key_of, changed, after_writes}
use Rattle.odb_model.specs.Transaction.{last_writes, is_there, net}
use Rattle.odb_model.proofs.Replay.{table_key_cmp_total, get-changed_at}
use Rattle.odb_model.proofs.Parts.{entries-retain_keys}
use Rattle.odb_model.proofs.Intended.{after_last}
use Rattle.odb_plain.proofs.Items.{take-item}
use Rattle.odb_plain.proofs.Maps.{get-at_key, entries-from_ordered}

-- whether a last write is kept: it puts a row, or takes one away
abbrev pub is_kept : State → TableKey × Write → Bool
is_kept s e = is_some e.1.row || is_some (get s e.0)

-- the last writes that are kept
abbrev pub kept : State → List (TableKey × Write) → List Write
kept s es = map (λ e. e.1) (filter (is_kept s) es)

pub kept-cons : (s : State) (e : TableKey × Write) (es : List (TableKey × Write)) → kept s (e ∷ es) ≡ cond (is_kept s e) (e.1 ∷ kept s es) (kept s es)
kept-cons s e es = elim (is_kept s e) as (λ b. map (λ x. x.1) (cond b (e ∷ filter (is_kept s) es) (filter (is_kept s) es)) ≡ cond b (e.1 ∷ kept s es) (kept s es)) [ true ↦ refl | false ↦ refl ]

after_writes-append : (s : State) (ws vs : List Write) → after_writes s (ws ++ vs) ≡ after_writes (after_writes s ws) vs
after_writes-append s [] vs = refl
after_writes-append s (w ∷ ws) vs = after_writes-append (changed s (table_key_of w) w.row) ws vs

module _ (ws : List Write) (i : ℕ) (w : Write) (within : i < length ws) (is : w ≡ get_or ws i w) where
  -- one write more puts its row
  pub get-after_item : (s : State) (q : TableKey) → get (after_writes s (take (i + 1) ws)) q ≡ cond (eq_by_cmp table_key_cmp q (table_key_of w)) w.row (get (after_writes s (take i ws)) q)
  get-after_item s q =
      ap (λ vs. get (after_writes s vs) q) (take-item ws i w within is)
      ∙ ap (λ t. get t q) (after_writes-append s (take i ws) (w ∷ []))
      ∙ get-changed_at (after_writes s (take i ws)) (table_key_of w) w.row q

or_turned : (a b : Bool) → (a || b) ≡ (b || a)
or_turned true true = refl
or_turned true false = refl
or_turned false true = refl
or_turned false false = refl

-- a last write is kept exactly where its place has a row before or after
is_there-last : (s : State) (ws : List Write) (e : TableKey × Write) → get (last_writes ws) e.0 ≡ Some e.1 → is_there s ws e.0 ≡ is_kept s e
is_there-last s ws e found = ap (λ o. is_some (get s e.0) || is_some o) (after_last s ws e.0 e.1 found) ∙ or_turned (is_some (get s e.0)) (is_some e.1.row)

filter_where : (p q : TableKey × Write → Bool) (es : List (TableKey × Write)) → AllByRecursion (λ e. p e ≡ q e) es → filter p es ≡ filter q es
filter_where p q [] same = refl
filter_where p q (e ∷ es) same = ap (λ b. cond b (e ∷ filter p es) (filter p es)) same.0 ∙ ap (λ r. cond (q e) (e ∷ r) r) (filter_where p q es same.1)

-- the net writes are the last ones that are kept
pub kept-all : (s : State) (ws : List Write) (m : BTreeMap TableKey Write) → IsOrdered table_key_cmp m → from_entries m.entries ≡ last_writes ws → kept s m.entries ≡ net s ws
kept-all s ws m ordered last =
    let found = All-found table_key_cmp_total m ordered in
    let there : AllByRecursion (λ e. is_there s ws e.0 ≡ is_kept s e) m.entries = recursion_from_All _ m.entries (λ k d within.
    let e = get_or m.entries k d in
    is_there-last s ws e (ap (λ x. get x e.0) (sym last) ∙ get-at_key m.entries e.0 ∙ found k d within)) in
    ap (map (λ e. e.1)) (sym (filter_where (λ e. is_there s ws e.0) (is_kept s) m.entries there))
    ∙ ap (λ es. map (λ e. e.1) (filter (λ e. is_there s ws e.0) es)) (sym (entries-from_ordered m.entries ordered) ∙ ap entries last)
    ∙ ap (map (λ e. e.1)) (sym (entries-retain_keys (last_writes ws) (is_there s ws)))
