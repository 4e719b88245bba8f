-- A map from rows' places as a state.
use Rattle.std.proofs.Common.{◌≡◌, Bool, true, false, ◌&&◌, ℕ, List, [], ◌∷◌, map, cond, refl, ap, sym, subst, ◌∙◌, T, Option, Some}
use Rattle.std.specs.declared.cmp.Ordering.TheVariants.{Less, Equal, Greater}
use Rattle.std.specs.Cmp.{eq_by_cmp_equiv}
use Rattle.std.specs.Map.{lookup, remove_entry}
use Rattle.std.specs.BTreeMap.{insert_entry, is_at}
use Rattle.std.specs.declared.ops.Bound.{Bound}
use Rattle.std.specs.declared.ops.Bound.TheVariants.{Included, Excluded, Unbounded}
use Rattle.std.specs.Range.Bound.{IsForward}
use Rattle.std.specs.List.{AllByRecursion, list_all}
use Rattle.std.specs.List.Sorted.{IsStrictlySortedBy}
use Rattle.std.specs.Ordering.{eq_by_cmp, is_eq, is_lt, match_ordering}
use Rattle.std.specs.FinMap as finite
use Rattle.std.specs.FinMap.{get, entries, entries_sorted, same_map, get-entries, get-from_entries}
use Rattle.std.specs.FinMap.Entries.{is_sorted, below_all, same_entries}
use Rattle.odb_values.specs.declared.value.Value.{Value}
use Rattle.odb_model.specs.declared.table_key.TableKey.{TableKey}
use Rattle.odb_model.specs.State.{table_key_cmp, changed}
use Rattle.odb_model.proofs.Replay.{table_key_cmp_total, table_key_cmp_exact, get-changed_at}
use Rattle.odb_keytable.specs.declared.spot.Spot.{Spot}
use Rattle.odb_keytable.specs.declared.spot.Spot.TheVariants.{At, Start, Past}
use Rattle.odb_keytable.specs.Spot.{is_row, spot_at, table_key_at, spot_cmp}
use Rattle.odb_keytable.specs.Table.{rows_at, state_of, AreRows}
use Rattle.odb_keytable.proofs.Begins.{spots_at}

abbrev pub Entries : Type 0
Entries = List (Spot × List Value)

-- a row's place is that of its table key
pub row_spot : (s : Spot) → is_row s ≡ true → spot_at (table_key_at s) ≡ s
row_spot (At table key) e = refl
row_spot (Start table values) e = cc
row_spot (Past table values) e = cc

row_cmp : (q : TableKey) (s : Spot) → is_row s ≡ true → spot_cmp (spot_at q) s ≡ table_key_cmp q (table_key_at s)
row_cmp q s e = ap (spot_cmp (spot_at q)) (sym (row_spot s e)) ∙ spots_at q (table_key_at s)

rows_cmp : (k s : Spot) → is_row k ≡ true → is_row s ≡ true → spot_cmp k s ≡ table_key_cmp (table_key_at k) (table_key_at s)
rows_cmp k s e f = ap (λ p. spot_cmp p s) (sym (row_spot k e)) ∙ row_cmp (table_key_at k) s f

pub both_parts : (a b : Bool) → (a && b) ≡ true → (a ≡ true) × (b ≡ true)
both_parts true b e = (refl, e)
both_parts false b e = cc

pub both : (a b : Bool) → a ≡ true → b ≡ true → (a && b) ≡ true
both true b p q = q
both false b p q = cc

pub first_row : (e : Spot × List Value) (es : Entries) → AreRows (e ∷ es) → is_row e.0 ≡ true
first_row e es h = (both_parts (is_row e.0) (list_all (λ x. is_row x.0) es) h).0

pub other_rows : (e : Spot × List Value) (es : Entries) → AreRows (e ∷ es) → AreRows es
other_rows e es h = (both_parts (is_row e.0) (list_all (λ x. is_row x.0) es) h).1

-- a row is found at its table key as at its place
find-rows : (es : Entries) (q : TableKey) → AreRows es → finite.find table_key_cmp q (rows_at es) ≡ lookup (is_at (spot_cmp (spot_at q))) es
find-rows [] q h = refl
find-rows (e ∷ es) q h =
    ap (λ o. cond (is_eq o) (Some e.1) (finite.find table_key_cmp q (rows_at es))) (sym (row_cmp q e.0 (first_row e es h)))
    ∙ ap (cond (is_at (spot_cmp (spot_at q)) e.0) (Some e.1)) (find-rows es q (other_rows e es h))

pub get-state_of : (es : Entries) (q : TableKey) → AreRows es → get (state_of es) q ≡ lookup (is_at (spot_cmp (spot_at q))) es
get-state_of es q h = get-from_entries table_key_cmp_total (rows_at es) q ∙ find-rows es q h

-- entries that changed at one place
pub state_of-changed : (es fs : Entries) (at : TableKey) (w : Option (List Value)) → AreRows es → AreRows fs
    → ((q : Spot) → lookup (is_at (spot_cmp q)) fs ≡ cond (is_at (spot_cmp (spot_at at)) q) w (lookup (is_at (spot_cmp q)) es))
    → state_of fs ≡ changed (state_of es) at w
state_of-changed es fs at w h i updates = same_map table_key_cmp_total table_key_cmp_exact _ _ (λ q.
    get-state_of fs q i ∙ updates (spot_at q)
    ∙ ap (λ o. cond (is_eq o) w (lookup (is_at (spot_cmp (spot_at q))) es)) (spots_at at q)
    ∙ ap (λ b. cond b w (lookup (is_at (spot_cmp (spot_at q))) es)) ((eq_by_cmp_equiv table_key_cmp_total).symm at q)
    ∙ sym (get-changed_at (state_of es) at w q ∙ ap (cond (eq_by_cmp table_key_cmp q at) w) (get-state_of es q h)))

pub AreRows-insert : (es : Entries) (k : Spot) (row : List Value) → is_row k ≡ true → AreRows es → AreRows (insert_entry spot_cmp es k row)
AreRows-insert [] k row r h = both (is_row k) true r refl
AreRows-insert (e ∷ es) k row r h =
    let here : is_row e.0 ≡ true = first_row e es h in
    let rest : AreRows es = other_rows e es h in
    elim (spot_cmp k e.0) as (λ o. AreRows (match_ordering o ((k, row) ∷ e ∷ es) ((e.0, row) ∷ es) (e ∷ insert_entry spot_cmp es k row))) [
      | Less ↦ both (is_row k) (list_all (λ x. is_row x.0) (e ∷ es)) r h
      | Equal ↦ both (is_row e.0) (list_all (λ x. is_row x.0) es) here rest
      | Greater ↦ both (is_row e.0) (list_all (λ x. is_row x.0) (insert_entry spot_cmp es k row)) here (AreRows-insert es k row r rest)
    ]

pub AreRows-remove : (test : Spot → Bool) (es : Entries) → AreRows es → AreRows (remove_entry test es)
AreRows-remove test [] h = refl
AreRows-remove test (e ∷ es) h =
    let here : is_row e.0 ≡ true = first_row e es h in
    let rest : AreRows es = other_rows e es h in
    elim (test e.0) as (λ b. AreRows (cond b es (e ∷ remove_entry test es))) [
      | true ↦ rest
      | false ↦ both (is_row e.0) (list_all (λ x. is_row x.0) (remove_entry test es)) here (AreRows-remove test es rest)
    ]

below : (k : Spot) (es : Entries) → is_row k ≡ true → AreRows es → AllByRecursion (λ q. spot_cmp k q ≡ Less) (map (λ e. e.0) es) → below_all table_key_cmp (table_key_at k) (rows_at es) ≡ true
below k [] r h all = refl
below k (e ∷ es) r h all =
    both (is_lt (table_key_cmp (table_key_at k) (table_key_at e.0))) (below_all table_key_cmp (table_key_at k) (rows_at es))
    (ap is_lt (sym (rows_cmp k e.0 r (first_row e es h)) ∙ all.0)) (below k es r (other_rows e es h) all.1)

sorted : (es : Entries) → AreRows es → IsStrictlySortedBy spot_cmp (map (λ e. e.0) es) → is_sorted table_key_cmp (rows_at es) ≡ true
unfolding IsStrictlySortedBy
sorted [] h ordered = refl
sorted (e ∷ es) h ordered =
    both (below_all table_key_cmp (table_key_at e.0) (rows_at es)) (is_sorted table_key_cmp (rows_at es))
    (below e.0 es (first_row e es h) (other_rows e es h) ordered.0) (sorted es (other_rows e es h) ordered.1)

-- the entries of the state are those of the map
pub entries-state_of : (es : Entries) → AreRows es → IsStrictlySortedBy spot_cmp (map (λ e. e.0) es) → entries (state_of es) ≡ rows_at es
entries-state_of es h ordered = same_entries table_key_cmp table_key_cmp_total table_key_cmp_exact _ _ (entries_sorted (state_of es)) (subst T (sym (sorted es h ordered)) tt)
    (λ q. sym (get-entries (state_of es) q) ∙ get-from_entries table_key_cmp_total (rows_at es) q)

-- entries that changed at a row's place
pub state_of-updated : (es fs : Entries) (k : Spot) (w : Option (List Value)) → is_row k ≡ true → AreRows es → AreRows fs
    → ((q : Spot) → lookup (is_at (spot_cmp q)) fs ≡ cond (is_at (spot_cmp k) q) w (lookup (is_at (spot_cmp q)) es))
    → state_of fs ≡ changed (state_of es) (table_key_at k) w
state_of-updated es fs k w r h i updates =
    state_of-changed es fs (table_key_at k) w h i (λ q. updates q ∙ ap (λ s. cond (is_at (spot_cmp s) q) w (lookup (is_at (spot_cmp q)) es)) (sym (row_spot k r)))

-- the row at a table key is what the map has at its place
pub state_of-row : (es : Entries) (table : ℕ) (key : List Value) → AreRows es → get (state_of es) (record { table = table; key = key }) ≡ lookup (is_at (spot_cmp (At table key))) es
state_of-row es table key h = get-state_of es (record { table = table; key = key }) h

-- a range with no end runs forward
pub runs_forward : (P Q : Spot → Spot → Type 0) (begin : Bound Spot) → IsForward P Q begin Unbounded
runs_forward P Q (Included a) = tt
runs_forward P Q (Excluded a) = tt
runs_forward P Q Unbounded = tt
