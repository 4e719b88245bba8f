-- What replay keeps.
use Rattle.std.proofs.Common.{◌≡◌, ℕ, Bool, true, false, ◌||◌, cond, List, [], ◌∷◌, ◌++◌, take, drop, refl, sym, ap, ◌∙◌, Option, Some, None}
use Rattle.std.specs.declared.cmp.Ordering.TheVariants.{Less, Equal, Greater}
use Rattle.std.specs.List.{list_any}
use Rattle.std.specs.Ordering.{nat_cmp, eq_by_cmp, is_eq}
use Rattle.std.specs.Cmp.{IsTotalOrder}
use Rattle.std.specs.FinMap.{empty, get, retain_keys, IsAntisymmetric, nat_cmp-IsAntisymmetric, get-insert, get-remove, get-retain_keys, same_map}
use Rattle.std.proofs.lemmas.Cmp.{nat_cmp_total, on_total, then_total}
use Rattle.std.proofs.lemmas.List.{take-append-drop}
use Rattle.std.proofs.lemmas.Map.Lookups.{exact_pairs}
use Rattle.odb_values.specs.declared.value.Value.{Value}
use Rattle.odb_values.specs.Value.{values_cmp}
use Rattle.odb_values.specs.declared.range.Range.{Range}
use Rattle.odb_values.specs.ValueOrder.{values_cmp_total, values_cmp_exact}
use Rattle.odb_model.specs.declared.table_key.TableKey.{TableKey}
use Rattle.odb_model.specs.declared.write.Write.{Write}
use Rattle.odb_model.specs.declared.entry.Entry.{Entry}
use Rattle.odb_model.specs.State.{table_key_cmp, table_key_of, State, changed, after_writes, replay, replay_from, is_in, writes_in, part_in}

-- whether some entry writes a key of the range
abbrev pub any_writes_in : Range → List Entry → Bool
any_writes_in range h = list_any (λ e. writes_in range e.writes) h

pub table_key_cmp_total : IsTotalOrder table_key_cmp
table_key_cmp_total = then_total (on_total (λ at. at.table) nat_cmp_total) (on_total (λ at. at.key) values_cmp_total)

abbrev of_pair : ℕ × List Value → TableKey
of_pair p = record { table = p.0; key = p.1 }

pub table_key_cmp_exact : IsAntisymmetric table_key_cmp
table_key_cmp_exact a b e =
    ap of_pair (exact_pairs nat_cmp values_cmp nat_cmp-IsAntisymmetric values_cmp_exact (a.table, a.key) (b.table, b.key) e)

pub replay_from-append : (s : State) (h g : List Entry) → replay_from s (h ++ g) ≡ replay_from (replay_from s h) g
replay_from-append s [] g = refl
replay_from-append s (e ∷ h) g = replay_from-append (after_writes s e.writes) h g

-- what stands at a place after a change
pub get-changed_at : (s : State) (at : TableKey) (row : Option (List Value)) (q : TableKey) → get (changed s at row) q ≡ cond (eq_by_cmp table_key_cmp q at) row (get s q)
get-changed_at s at None q = get-remove table_key_cmp_total s at q
get-changed_at s at (Some row) q = get-insert table_key_cmp_total s at row q

-- a change elsewhere is not seen at a place
get-changed : (s : State) (at : TableKey) (row : Option (List Value)) (q : TableKey) → eq_by_cmp table_key_cmp q at ≡ false → get (changed s at row) q ≡ get s q
get-changed s at row q e = get-changed_at s at row q ∙ ap (λ b. cond b row (get s q)) e

-- a place in the range is not one outside
apart : (range : Range) (q at : TableKey) → is_in range q ≡ true → is_in range at ≡ false → eq_by_cmp table_key_cmp q at ≡ false
apart range q at inside outside =
    elim (table_key_cmp q at) as (λ o. table_key_cmp q at ≡ o → is_eq o ≡ false) [
      | Less ↦ λ e. refl
      | Equal ↦ λ e. sym inside ∙ ap (is_in range) (table_key_cmp_exact q at e) ∙ outside
      | Greater ↦ λ e. refl
    ] refl

pub or_false : (a b : Bool) → (a || b) ≡ false → (a ≡ false) × (b ≡ false)
or_false false b e = (refl, e)
or_false true b e = cc

get-after_writes : (range : Range) (s : State) (ws : List Write) (q : TableKey) → is_in range q ≡ true → writes_in range ws ≡ false → get (after_writes s ws) q ≡ get s q
get-after_writes range s [] q inside none = refl
get-after_writes range s (w ∷ ws) q inside none =
    let parts = or_false (is_in range (table_key_of w)) (writes_in range ws) none in
    get-after_writes range (changed s (table_key_of w) w.row) ws q inside parts.1
    ∙ get-changed s (table_key_of w) w.row q (apart range q (table_key_of w) inside parts.0)

get-replay_from : (range : Range) (s : State) (h : List Entry) (q : TableKey) → is_in range q ≡ true → any_writes_in range h ≡ false → get (replay_from s h) q ≡ get s q
get-replay_from range s [] q inside none = refl
get-replay_from range s (e ∷ h) q inside none =
    let parts = or_false (writes_in range e.writes) (any_writes_in range h) none in
    get-replay_from range (after_writes s e.writes) h q inside parts.1 ∙ get-after_writes range s e.writes q inside parts.0

cond_same : {A : Type 0} (b : Bool) (x y z : A) → (b ≡ true → x ≡ y) → cond b x z ≡ cond b y z
cond_same true x y z same = same refl
cond_same false x y z same = refl

get-in : (range : Range) (s : State) (q : TableKey) → get (retain_keys s (is_in range)) q ≡ cond (is_in range q) (get s q) None
get-in range s q = get-retain_keys s (is_in range) q (λ x tied. ap (is_in range) (sym (table_key_cmp_exact q x tied)))

-- a range reads only its own keys
pub part_in-same : (range : Range) (s t : State) → ((q : TableKey) → is_in range q ≡ true → get s q ≡ get t q) → part_in range s ≡ part_in range t
part_in-same range s t same = (same_map table_key_cmp_total table_key_cmp_exact _ _ (λ q.
    get-in range s q ∙ cond_same (is_in range q) (get s q) (get t q) None (same q) ∙ sym (get-in range t q)))

take_then_drop : (h : List Entry) (m : ℕ) → replay h ≡ replay_from (replay (take m h)) (drop m h)
take_then_drop h m = ap replay (sym (take-append-drop m h)) ∙ replay_from-append empty (take m h) (drop m h)

pub get-replay_take : (range : Range) (h : List Entry) (m : ℕ) → any_writes_in range (drop m h) ≡ false → (q : TableKey) → is_in range q ≡ true → get (replay (take m h)) q ≡ get (replay h) q
get-replay_take range h m none q inside =
    sym (get-replay_from range (replay (take m h)) (drop m h) q inside none) ∙ ap (λ s. get s q) (sym (take_then_drop h m))
