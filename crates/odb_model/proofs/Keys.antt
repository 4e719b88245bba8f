-- The keys that writes leave in a map.
use Rattle.std.proofs.Common.{◌≡◌, ◌≤◌, Bool, true, false, ◌&&◌, cond, T, List, [], ◌∷◌, map, length, refl, sym, ap, subst, ◌∙◌, arith}
use Rattle.std.specs.List.{All, AllByRecursion, filter}
use Rattle.std.specs.List.Sorted.{IsStrictlySortedBy}
use Rattle.std.specs.declared.cmp.Ordering.{Ordering}
use Rattle.std.specs.declared.cmp.Ordering.TheVariants.{Less, Equal, Greater}
use Rattle.std.specs.Ordering.{is_lt}
use Rattle.std.specs.FinMap.{FinMap, empty, insert, entries, entries-insert, keys, len-empty, len-entries}
use Rattle.std.specs.FinMap.Entries.{put, by_order, is_sorted, below_all}
use Rattle.std.proofs.lemmas.List.{length-map, nil_from_length}
use Rattle.std.proofs.lemmas.List.Elements.{All-nil, All-cons, All-head, All-tail}
use Rattle.odb_model.specs.declared.write.Write.{Write}
use Rattle.odb_model.specs.declared.table_key.TableKey.{TableKey}
use Rattle.odb_model.specs.State.{table_key_cmp, table_key_of}
use Rattle.odb_model.specs.Meaning.{all_of, different}
use Rattle.odb_model.specs.Transaction.{last_from, last_writes, table_keys}
use Rattle.odb_model.proofs.Replay.{table_key_cmp_total, table_key_cmp_exact}

pub entries-empty : (X : Type 0) → entries (empty {X = X} {R = table_key_cmp}) ≡ []
entries-empty X = nil_from_length (entries empty) (sym (len-entries empty) ∙ len-empty table_key_cmp X)

-- a key in its place among keys
abbrev put_key : TableKey → List TableKey → List TableKey
put_key k [] = k ∷ []
put_key k (x ∷ ks) = by_order (table_key_cmp k x) (k ∷ x ∷ ks) (x ∷ ks) (x ∷ put_key k ks)

module _ {X : Type 0} where
  -- the keys after an entry is put don't depend on its value
  keys-put : (k : TableKey) (v : X) (es : List (TableKey × X)) → map (λ e. e.0) (put table_key_cmp k v es) ≡ put_key k (map (λ e. e.0) es)
  keys-put k v [] = refl
  keys-put k v (e ∷ es) =
      elim (table_key_cmp k e.0) as (λ o. map (λ x. x.0) (by_order o ((k, v) ∷ e ∷ es) ((e.0, v) ∷ es) (e ∷ put table_key_cmp k v es))
      ≡ by_order o (k ∷ e.0 ∷ map (λ x. x.0) es) (e.0 ∷ map (λ x. x.0) es) (e.0 ∷ put_key k (map (λ x. x.0) es))) [
        | Less ↦ refl
        | Equal ↦ refl
        | Greater ↦ ap (λ ks. e.0 ∷ ks) (keys-put k v es)
      ]

  keys-insert : (m : FinMap table_key_cmp X) (k : TableKey) (v : X) → keys (insert m k v) ≡ put_key k (keys m)
  keys-insert m k v = ap (map (λ e. e.0)) (entries-insert table_key_cmp_total m k v) ∙ keys-put k v (entries m)

-- the last writes have just the keys that were written
keys-last_from : (ws : List Write) (m : FinMap table_key_cmp Write) (n : FinMap table_key_cmp (Unit {0})) → keys m ≡ keys n → keys (last_from m ws) ≡ keys (all_of n (table_keys ws))
keys-last_from [] m n same = same
keys-last_from (w ∷ ws) m n same =
    keys-last_from ws (insert m (table_key_of w) w) (insert n (table_key_of w) tt) (keys-insert m (table_key_of w) w ∙ ap (put_key (table_key_of w)) same ∙ sym (keys-insert n (table_key_of w) tt))

-- there are as many last writes as keys written
pub length-last_writes : (ws : List Write) → length (entries (last_writes ws)) ≡ different (table_keys ws)
length-last_writes ws =
    let none : keys (empty {X = Write} {R = table_key_cmp}) ≡ keys (empty {X = Unit {0}} {R = table_key_cmp}) =
    ap (map (λ e. e.0)) (entries-empty Write) ∙ sym (ap (map (λ e. e.0)) (entries-empty (Unit {0}))) in
    sym (length-map (entries (last_writes ws)) (λ e. e.0)) ∙ ap length (keys-last_from ws empty empty none) ∙ length-map (entries (all_of empty (table_keys ws))) (λ e. e.0)

module _ (P : Write → Type 0) where
  -- the entry of a place has a write to it, with a fact of each
  abbrev pub IsAtItsKey : TableKey × Write → Type 0
  IsAtItsKey e = (table_key_of e.1 ≡ e.0) × P e.1

  All-put : (w : Write) (es : List (TableKey × Write)) → P w → All IsAtItsKey es → All IsAtItsKey (put table_key_cmp (table_key_of w) w es)
  All-put w [] p all = All-cons IsAtItsKey (table_key_of w, w) [] (refl, p) (All-nil IsAtItsKey)
  All-put w (e ∷ es) p all =
      let head : IsAtItsKey e = All-head IsAtItsKey e es all in
      let tail : All IsAtItsKey es = All-tail IsAtItsKey e es all in
      elim (table_key_cmp (table_key_of w) e.0) as (λ o. table_key_cmp (table_key_of w) e.0 ≡ o → All IsAtItsKey (by_order o ((table_key_of w, w) ∷ e ∷ es) ((e.0, w) ∷ es) (e ∷ put table_key_cmp (table_key_of w) w es))) [
        | Less ↦ λ c. All-cons IsAtItsKey (table_key_of w, w) (e ∷ es) (refl, p) all
        | Equal ↦ λ c. All-cons IsAtItsKey (e.0, w) es (table_key_cmp_exact (table_key_of w) e.0 c, p) tail
        | Greater ↦ λ c. All-cons IsAtItsKey e (put table_key_cmp (table_key_of w) w es) head (All-put w es p tail)
      ] refl

  All-last_from : (ws : List Write) (m : FinMap table_key_cmp Write) → All P ws → All IsAtItsKey (entries m) → All IsAtItsKey (entries (last_from m ws))
  All-last_from [] m all at_key = at_key
  All-last_from (w ∷ ws) m all at_key =
      All-last_from ws (insert m (table_key_of w) w) (All-tail P w ws all)
      (subst (All IsAtItsKey) (sym (entries-insert table_key_cmp_total m (table_key_of w) w)) (All-put w (entries m) (All-head P w ws all) at_key))

  -- the last write of each place is to that place, and one of the writes
  pub All-last_writes : (ws : List Write) → All P ws → All IsAtItsKey (entries (last_writes ws))
  All-last_writes ws all = All-last_from ws empty all (subst (All IsAtItsKey) (sym (entries-empty Write)) (All-nil IsAtItsKey))

  pub table_keys_of_entries : (es : List (TableKey × Write)) → All IsAtItsKey es → table_keys (map (λ e. e.1) es) ≡ map (λ e. e.0) es
  table_keys_of_entries [] all = refl
  table_keys_of_entries (e ∷ es) all = ap (λ k. k ∷ table_keys (map (λ x. x.1) es)) (All-head IsAtItsKey e es all).0 ∙ ap (λ ks. e.0 ∷ ks) (table_keys_of_entries es (All-tail IsAtItsKey e es all))

both_T : (a b : Bool) → T (a && b) → T a × T b
both_T true b h = (tt, h)
both_T false b h = absurd h

is_less : (o : Ordering) → T (is_lt o) → o ≡ Less
is_less Less h = refl
is_less Equal h = absurd h
is_less Greater h = absurd h

module _ {X : Type 0} where
  pub all_above : (x : TableKey) (es : List (TableKey × X)) → T (below_all table_key_cmp x es) → AllByRecursion (λ y. table_key_cmp x y ≡ Less) (map (λ e. e.0) es)
  all_above x [] h = tt
  all_above x (e ∷ es) h = let parts = both_T _ _ h in (is_less (table_key_cmp x e.0) parts.0, all_above x es parts.1)

  -- the keys of a map ascend strictly
  pub keys_ascend : (es : List (TableKey × X)) → T (is_sorted table_key_cmp es) → IsStrictlySortedBy table_key_cmp (map (λ e. e.0) es)
  unfolding IsStrictlySortedBy
  keys_ascend [] h = tt
  keys_ascend (e ∷ es) h = let parts = both_T _ _ h in (all_above e.0 es parts.0, keys_ascend es parts.1)

pub length-filter-le : {A : Type 0} (p : A → Bool) (xs : List A) → length (filter p xs) ≤ length xs
length-filter-le p [] = omega arith
length-filter-le p (x ∷ xs) =
    let rest = length-filter-le p xs in
    elim (p x) as (λ b. length (cond b (x ∷ filter p xs) (filter p xs)) ≤ length (x ∷ xs)) [ true ↦ omega arith | false ↦ omega arith ]
