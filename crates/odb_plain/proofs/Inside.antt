-- The part of a state inside a range, after writes.
use Rattle.std.proofs.Common.{◌≡◌, ℕ, ◌+◌, ◌<◌, Bool, true, false, List, [], ◌∷◌, length, take, drop, get_or, filter, cond, refl, ap, sym, ◌∙◌, Option, None}
use Rattle.std.specs.declared.cmp.Ordering.TheVariants.{Less, Equal, Greater}
use Rattle.std.specs.Ordering.{eq_by_cmp, is_eq}
use Rattle.std.specs.FinMap.{empty, get, same_map, get-empty, get-retain_keys}
use Rattle.odb_values.specs.declared.value.Value.{Value}
use Rattle.odb_values.specs.declared.range.Range.{Range}
use Rattle.odb_model.specs.declared.write.Write.{Write}
use Rattle.odb_model.specs.declared.entry.Entry.{Entry}
use Rattle.odb_model.specs.declared.table_key.TableKey.{TableKey}
use Rattle.odb_model.specs.State.{table_key_cmp, State, table_key_of, changed, after_writes, replay, is_in, part_in}
use Rattle.odb_model.proofs.Replay.{table_key_cmp_total, table_key_cmp_exact, replay_from-append, get-changed_at}
use Rattle.odb_plain.proofs.Items.{drop-item, take-item}

-- the writes inside a range
abbrev pub inside : Range → List Write → List Write
inside range ws = filter (λ w. is_in range (table_key_of w)) ws

pub get-part_in : (range : Range) (s : State) (q : TableKey) → get (part_in range s) q ≡ cond (is_in range q) (get s q) None
get-part_in range s q = get-retain_keys s (is_in range) q (λ x tied. ap (is_in range) (sym (table_key_cmp_exact q x tied)))

nothing : (b : Bool) → cond {A = Option (List Value)} b None None ≡ None
nothing true = refl
nothing false = refl

pub part_in-empty : (range : Range) → empty ≡ part_in range empty
part_in-empty range = same_map table_key_cmp_total table_key_cmp_exact _ _ (λ q.
    get-empty table_key_cmp q ∙ sym (get-part_in range empty q ∙ ap (λ o. cond (is_in range q) o None) (get-empty table_key_cmp q) ∙ nothing (is_in range q)))

module _ (range : Range) (s : State) (at : TableKey) (row : Option (List Value)) where
  -- places that tie are both inside, or both outside
  same_side : (q : TableKey) (b : Bool) → eq_by_cmp table_key_cmp q at ≡ b → b ≡ true → is_in range q ≡ is_in range at
  same_side q b e t =
      elim (table_key_cmp q at) as (λ o. table_key_cmp q at ≡ o → is_eq o ≡ true → is_in range q ≡ is_in range at) [
        | Less ↦ λ p f. cc
        | Equal ↦ λ p f. ap (is_in range) (table_key_cmp_exact q at p)
        | Greater ↦ λ p f. cc
      ] refl (e ∙ t)

  kept : (i j tied : Bool) (o : Option (List Value)) → (tied ≡ true → j ≡ i) → i ≡ true → cond j (cond tied row o) None ≡ cond tied row (cond j o None)
  kept i j true o same e = ap (λ b. cond b row None) (same refl ∙ e)
  kept i j false o same e = refl

  lost : (i j tied : Bool) (o : Option (List Value)) → (tied ≡ true → j ≡ i) → i ≡ false → cond j (cond tied row o) None ≡ cond j o None
  lost i j true o same e = ap (λ b. cond b row None) (same refl ∙ e) ∙ sym (ap (λ b. cond b o None) (same refl ∙ e))
  lost i j false o same e = refl

  get-part_in-changed : (q : TableKey) → get (part_in range (changed s at row)) q ≡ cond (is_in range q) (cond (eq_by_cmp table_key_cmp q at) row (get s q)) None
  get-part_in-changed q = get-part_in range (changed s at row) q ∙ ap (λ o. cond (is_in range q) o None) (get-changed_at s at row q)

  -- a change inside the range is one of its part
  pub part_in-changed : is_in range at ≡ true → part_in range (changed s at row) ≡ changed (part_in range s) at row
  part_in-changed e = same_map table_key_cmp_total table_key_cmp_exact _ _ (λ q.
      get-part_in-changed q ∙ kept (is_in range at) (is_in range q) (eq_by_cmp table_key_cmp q at) (get s q) (same_side q (eq_by_cmp table_key_cmp q at) refl) e
      ∙ sym (get-changed_at (part_in range s) at row q ∙ ap (cond (eq_by_cmp table_key_cmp q at) row) (get-part_in range s q)))

  -- a change outside the range leaves its part
  pub part_in-unchanged : is_in range at ≡ false → part_in range (changed s at row) ≡ part_in range s
  part_in-unchanged e = same_map table_key_cmp_total table_key_cmp_exact _ _ (λ q.
      get-part_in-changed q ∙ lost (is_in range at) (is_in range q) (eq_by_cmp table_key_cmp q at) (get s q) (same_side q (eq_by_cmp table_key_cmp q at) refl) e
      ∙ sym (get-part_in range s q))

-- of writes a range sees those inside it
pub part_in-after_writes : (range : Range) (s : State) (ws : List Write) → after_writes (part_in range s) (inside range ws) ≡ part_in range (after_writes s ws)
part_in-after_writes range s [] = refl
part_in-after_writes range s (w ∷ ws) =
    let rest = part_in-after_writes range (changed s (table_key_of w) w.row) ws in
    elim (is_in range (table_key_of w)) as (λ b. is_in range (table_key_of w) ≡ b → after_writes (part_in range s) (cond b (w ∷ inside range ws) (inside range ws)) ≡ part_in range (after_writes (changed s (table_key_of w) w.row) ws)) [
      | true ↦ λ e. ap (λ part. after_writes part (inside range ws)) (sym (part_in-changed range s (table_key_of w) w.row e)) ∙ rest
      | false ↦ λ e. ap (λ part. after_writes part (inside range ws)) (sym (part_in-unchanged range s (table_key_of w) w.row e)) ∙ rest
    ] refl

-- a write inside the range that comes next
pub inside-in : (range : Range) (s : State) (ws : List Write) (i : ℕ) (w : Write) → i < length ws → w ≡ get_or ws i w → is_in range (table_key_of w) ≡ true
    → after_writes (changed s (table_key_of w) w.row) (inside range (drop (i + 1) ws)) ≡ after_writes s (inside range (drop i ws))
inside-in range s ws i w within is e =
    sym (ap (λ xs. after_writes s (inside range xs)) (drop-item ws i w within is) ∙ ap (λ b. after_writes s (cond b (w ∷ inside range (drop (i + 1) ws)) (inside range (drop (i + 1) ws)))) e)

-- a write outside the range that comes next
pub inside-out : (range : Range) (s : State) (ws : List Write) (i : ℕ) (w : Write) → i < length ws → w ≡ get_or ws i w → is_in range (table_key_of w) ≡ false
    → after_writes s (inside range (drop (i + 1) ws)) ≡ after_writes s (inside range (drop i ws))
inside-out range s ws i w within is e =
    sym (ap (λ xs. after_writes s (inside range xs)) (drop-item ws i w within is) ∙ ap (λ b. after_writes s (cond b (w ∷ inside range (drop (i + 1) ws)) (inside range (drop (i + 1) ws)))) e)

-- an entry more
pub replay-item : (h : List Entry) (i : ℕ) (e : Entry) → i < length h → e ≡ get_or h i e → replay (take (i + 1) h) ≡ after_writes (replay (take i h)) e.writes
replay-item h i e within is = ap replay (take-item h i e within is) ∙ replay_from-append empty (take i h) (e ∷ [])

pub part_in-item : (range : Range) (h : List Entry) (i : ℕ) (e : Entry) → i < length h → e ≡ get_or h i e
    → after_writes (part_in range (replay (take i h))) (inside range e.writes) ≡ part_in range (replay (take (i + 1) h))
part_in-item range h i e within is = part_in-after_writes range (replay (take i h)) e.writes ∙ ap (part_in range) (sym (replay-item h i e within is))
