-- What the entries leave of a key is what replaying them leaves.
use Rattle.std.proofs.Common.{◌≡◌, ℕ, zero, suc, ◌+◌, ◌-◌, ◌<◌, ◌≤◌, Bool, true, false, cond, List, [], ◌∷◌, ◌++◌, length, get_or, take, drop, Option, Some, None, sym, ◌∙◌, ap, subst, refl, arith, add-one}
use Rattle.std.specs.Prelude.{◌==◌, ◌&&◌, find, slice_get, option_map}
use Rattle.std.specs.List.{All, AllByRecursion}
use Rattle.std.specs.List.Sorted.{IsStrictlySortedBy}
use Rattle.std.specs.Ordering.{is_eq, eq_by_cmp}
use Rattle.std.specs.declared.cmp.Ordering.TheVariants.{Less}
use Rattle.std.specs.FinMap.{empty, get, get-empty}
use Rattle.std.proofs.lemmas.Bool.{and_from, and_right, eq-eqb}
use Rattle.std.proofs.lemmas.List.{take_more, take_all, get_or-drop, length-drop}
use Rattle.std.proofs.lemmas.List.Elements.{All-tail}
use Rattle.std.proofs.lemmas.Map.Keys.{sorted_head, sorted_tail}
use Rattle.odb_model.specs.declared.entry.Entry.{Entry}
use Rattle.odb_model.specs.declared.write.Write.{Write}
use Rattle.odb_model.specs.State.{table_key_cmp, table_key_of, State, changed, after_writes, replay, replay_from}
use Rattle.odb_model.specs.Transaction.{table_keys}
use Rattle.odb_model.proofs.Replay.{get-changed_at, replay_from-append}
use Rattle.odb_bank.specs.History.{Key, Row, is_key, write_to, write_of, entry_at, history_of, GoesOn}
use Rattle.odb_bank.specs.Replayed.{after_write, state, changed_by}
use Rattle.odb_bank.specs.Owned.{AreInOrder, IsInBank, HasItsTable}
use Rattle.odb_bank.proofs.Keys.{key_true, key_same}

-- writes to greater keys leave a key
untouched : (key : Key) (s : State) (ws : List Write) → AllByRecursion (λ y. table_key_cmp key y ≡ Less) (table_keys ws) → get (after_writes s ws) key ≡ get s key
untouched key s [] above = refl
untouched key s (w ∷ ws) above =
    let other : eq_by_cmp table_key_cmp key (table_key_of w) ≡ false = ap is_eq above.0 in
    untouched key (changed s (table_key_of w) w.row) ws above.1
    ∙ get-changed_at s (table_key_of w) w.row key
    ∙ ap (λ (b : Bool). cond b w.row (get s key)) other

-- the test of one write
abbrev tests : ℕ → Key → Write → Bool
tests bank key w = (w.bank == bank) && is_key (table_key_of w) key

-- the test of keys the other way round
no_tie : (at key : Key) → is_key at key ≡ false → (b : Bool) → eq_by_cmp table_key_cmp key at ≡ b → b ≡ false
no_tie at key none false e = refl
no_tie at key none true e = let back = key_same at key (sym (key_true key at e)) in absurd (cc (back, none))

-- a write to the key, and one to another
module _ (bank : ℕ) (key : Key) (s : State) (w : Write) (ws : List Write) where
  abbrev left_by : Bool → Option Row
  left_by b = after_write (option_map (λ (v : Write). v.row) (cond b (Some w) (find (tests bank key) ws))) (get s key)

  hits : is_key (table_key_of w) key ≡ true → (w.table ≡ key.table → w.bank ≡ bank) → AllByRecursion (λ y. table_key_cmp (table_key_of w) y ≡ Less) (table_keys ws)
      → get (after_writes (changed s (table_key_of w) w.row) ws) key ≡ after_write (write_to bank key (w ∷ ws)) (get s key)
  hits is in_bank less =
      let same : table_key_of w ≡ key = key_true (table_key_of w) key is in
      let hit : tests bank key w ≡ true = and_from (w.bank == bank) (is_key (table_key_of w) key) (eq-eqb w.bank bank (in_bank (ap (λ (k : Key). k.table) same))) is in
      let above : AllByRecursion (λ y. table_key_cmp key y ≡ Less) (table_keys ws) = subst (λ (k : Key). AllByRecursion (λ y. table_key_cmp k y ≡ Less) (table_keys ws)) same less in
      let tie : eq_by_cmp table_key_cmp key (table_key_of w) ≡ true = key_same key (table_key_of w) (sym same) in
      untouched key (changed s (table_key_of w) w.row) ws above
      ∙ get-changed_at s (table_key_of w) w.row key
      ∙ ap (λ (b : Bool). cond b w.row (get s key)) tie
      ∙ sym (ap left_by hit)

  misses : is_key (table_key_of w) key ≡ false → get (after_writes (changed s (table_key_of w) w.row) ws) key ≡ after_write (write_to bank key ws) (get (changed s (table_key_of w) w.row) key)
      → get (after_writes (changed s (table_key_of w) w.row) ws) key ≡ after_write (write_to bank key (w ∷ ws)) (get s key)
  misses none rest =
      let miss : tests bank key w ≡ false = and_right (w.bank == bank) (is_key (table_key_of w) key) none in
      let other : eq_by_cmp table_key_cmp key (table_key_of w) ≡ false = no_tie (table_key_of w) key none (eq_by_cmp table_key_cmp key (table_key_of w)) refl in
      rest
      ∙ ap (after_write (write_to bank key ws)) (get-changed_at s (table_key_of w) w.row key ∙ ap (λ (b : Bool). cond b w.row (get s key)) other)
      ∙ sym (ap left_by miss)

  by_key : (b : Bool) → is_key (table_key_of w) key ≡ b → (w.table ≡ key.table → w.bank ≡ bank) → AllByRecursion (λ y. table_key_cmp (table_key_of w) y ≡ Less) (table_keys ws)
      → get (after_writes (changed s (table_key_of w) w.row) ws) key ≡ after_write (write_to bank key ws) (get (changed s (table_key_of w) w.row) key)
      → get (after_writes (changed s (table_key_of w) w.row) ws) key ≡ after_write (write_to bank key (w ∷ ws)) (get s key)
  by_key true is in_bank less rest = hits is in_bank less
  by_key false is in_bank less rest = misses is rest

writes_leave : (bank : ℕ) (key : Key) (s : State) (ws : List Write) → IsStrictlySortedBy table_key_cmp (table_keys ws) → All (IsInBank bank key.table) ws
    → get (after_writes s ws) key ≡ after_write (write_to bank key ws) (get s key)
writes_leave bank key s [] sorted all = refl
writes_leave bank key s (w ∷ ws) sorted all =
    by_key bank key s w ws (is_key (table_key_of w) key) refl (all 0 w (omega arith)) (sorted_head table_key_cmp (table_key_of w) (table_keys ws) sorted)
    (writes_leave bank key (changed s (table_key_of w) w.row) ws (sorted_tail table_key_cmp (table_key_of w) (table_keys ws) sorted) (All-tail (IsInBank bank key.table) w ws all))

-- the entry at a place
missing : (xs : List Entry) (i : ℕ) → suc i ≤ length xs → slice_get xs i ≡ None → ⊥
missing [] i low e = omega arith
missing (x ∷ xs) zero low e = cc e
missing (x ∷ xs) (suc i) low e = missing xs i (omega arith) e

found : (xs : List Entry) (i : ℕ) (x : Entry) → slice_get xs i ≡ Some x → get_or xs i x ≡ x
found [] i x e = absurd (cc e)
found (y ∷ xs) zero x e = cc e
found (y ∷ xs) (suc i) x e = found xs i x e

module _ (bank : ℕ) (h : List Entry) (key : Key) (ordered : AreInOrder h) (its : HasItsTable bank key.table h) where
  abbrev Replays : ℕ → Type 0
  Replays k = state (history_of bank h) k key ≡ get (replay (take k h)) key

  replayed_step : (k : ℕ) → suc k ≤ length h → (o : Option Entry) → slice_get h k ≡ o → Replays k → Replays (suc k)
  replayed_step k within None none before = absurd (missing h k within none)
  replayed_step k within (Some e) is before =
      let at : get_or h k e ≡ e = found h k e is in
      let sorted : IsStrictlySortedBy table_key_cmp (table_keys e.writes) = subst (λ (x : Entry). IsStrictlySortedBy table_key_cmp (table_keys x.writes)) at (ordered k e (omega arith)) in
      let owned : All (IsInBank bank key.table) e.writes = subst (λ (x : Entry). All (IsInBank bank key.table) x.writes) at (its k e (omega arith)) in
      let longer : take (suc k) h ≡ take k h ++ e ∷ [] = ap (λ (n : ℕ). take n h) (sym (add-one k)) ∙ take_more h k e (omega arith) ∙ ap (λ (x : Entry). take k h ++ x ∷ []) at in
      ap (λ (o : Option Entry). after_write (write_of bank key o) (state (history_of bank h) k key)) is
      ∙ ap (after_write (write_to bank key e.writes)) before
      ∙ sym (writes_leave bank key (replay (take k h)) e.writes sorted owned)
      ∙ sym (ap (λ (s : State). get s key) (replay_from-append empty (take k h) (e ∷ [])))
      ∙ sym (ap (λ (l : List Entry). get (replay l) key) longer)

  replayed : (k : ℕ) → k ≤ length h → Replays k
  replayed zero within = sym (get-empty table_key_cmp key)
  replayed (suc k) within = replayed_step k within (slice_get h k) refl (replayed k (omega arith))

  pub state_replays : state (history_of bank h) (length h) key ≡ get (replay h) key
  state_replays = replayed (length h) (omega arith) ∙ ap (λ (l : List Entry). get (replay l) key) (take_all (length h) h (omega arith))

-- the entries above a number, over any state
module _ (bank : ℕ) (h : List Entry) (key : Key) (ordered : AreInOrder h) (its : HasItsTable bank key.table h) (s : State) (a : ℕ) where
  abbrev Changes : ℕ → Type 0
  Changes more = changed_by (history_of bank h) a more key (get s key) ≡ get (replay_from s (take more (drop a h))) key

  changed_step : (more : ℕ) → suc (a + more) ≤ length h → (o : Option Entry) → slice_get h (a + more) ≡ o → Changes more → Changes (suc more)
  changed_step more within None none before = absurd (missing h (a + more) within none)
  changed_step more within (Some e) is before =
      let at : get_or h (a + more) e ≡ e = found h (a + more) e is in
      let behind : get_or (drop a h) more e ≡ e = get_or-drop a h more e ∙ at in
      let low : more < length (drop a h) = omega (arith, length-drop a h) in
      let sorted : IsStrictlySortedBy table_key_cmp (table_keys e.writes) = subst (λ (x : Entry). IsStrictlySortedBy table_key_cmp (table_keys x.writes)) at (ordered (a + more) e (omega arith)) in
      let owned : All (IsInBank bank key.table) e.writes = subst (λ (x : Entry). All (IsInBank bank key.table) x.writes) at (its (a + more) e (omega arith)) in
      let longer : take (suc more) (drop a h) ≡ take more (drop a h) ++ e ∷ [] =
      ap (λ (n : ℕ). take n (drop a h)) (sym (add-one more)) ∙ take_more (drop a h) more e low ∙ ap (λ (x : Entry). take more (drop a h) ++ x ∷ []) behind in
      ap (λ (o : Option Entry). after_write (write_of bank key o) (changed_by (history_of bank h) a more key (get s key))) is
      ∙ ap (after_write (write_to bank key e.writes)) before
      ∙ sym (writes_leave bank key (replay_from s (take more (drop a h))) e.writes sorted owned)
      ∙ sym (ap (λ (t : State). get t key) (replay_from-append s (take more (drop a h)) (e ∷ [])))
      ∙ sym (ap (λ (l : List Entry). get (replay_from s l) key) longer)

  pub changed_replays : (more : ℕ) → a + more ≤ length h → Changes more
  changed_replays zero within = refl
  changed_replays (suc more) within = changed_step more (omega arith) (slice_get h (a + more)) refl (changed_replays more (omega arith))

  pub changed_above : a ≤ length h → changed_by (history_of bank h) a (length h - a) key (get s key) ≡ get (replay_from s (drop a h)) key
  changed_above low =
      changed_replays (length h - a) (omega arith)
      ∙ ap (λ (l : List Entry). get (replay_from s l) key) (take_all (length h - a) (drop a h) (omega (arith, length-drop a h)))

-- one entry more
same_entry : (h : List Entry) (e : Entry) (k : ℕ) → k < length h → slice_get (h ++ e ∷ []) k ≡ slice_get h k
same_entry [] e k low = absurd (omega arith)
same_entry (x ∷ h) e zero low = refl
same_entry (x ∷ h) e (suc k) low = same_entry h e k (omega arith)

same_at : (bank : ℕ) (h : List Entry) (e : Entry) (k : ℕ) (key : Key) → k ≤ length h → write_of bank key (entry_at (h ++ e ∷ []) k) ≡ write_of bank key (entry_at h k)
same_at bank h e zero key low = refl
same_at bank h e (suc k) key low = ap (write_of bank key) (same_entry h e k (omega arith))

longer_by_one : (h : List Entry) (e : Entry) → length h ≤ length (h ++ e ∷ [])
longer_by_one [] e = omega arith
longer_by_one (x ∷ h) e = omega (arith, longer_by_one h e)

pub goes_on : (bank : ℕ) (h : List Entry) (e : Entry) → GoesOn (history_of bank h) (history_of bank (h ++ e ∷ []))
goes_on bank h e = record { count = longer_by_one h e; same = λ k key low. same_at bank h e k key low }
