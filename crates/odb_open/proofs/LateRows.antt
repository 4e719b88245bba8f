-- The rows of a databank: those of its file, changed by the databank's writes of the entries above the
-- file's mark, are those of the history.
use Rattle.std.proofs.Common.{◌≡◌, ℕ, zero, suc, ◌-◌, ◌*◌, ◌^◌, ◌<◌, ◌≤◌, Bool, true, false, ◌==◌, cond, List, [], ◌∷◌, ◌++◌, length, drop, find, flat_map, Option, Some, None, refl, sym, ap, ◌∙◌, eq-eqb, le-ltb}
use Rattle.std.specs.Prelude.{◌&&◌, nat_lt, slice_get, option_map, if◌then◌else◌}
use Rattle.std.specs.List.{All, filter}
use Rattle.std.specs.Ordering.{eq_by_cmp}
use Rattle.std.specs.FinMap.{get}
use Rattle.std.proofs.lemmas.Bool.{and_left, and_right}
use Rattle.std.proofs.lemmas.List.Elements.{All-head, All-tail, All-drop, filter-append}
use Rattle.odb_model.specs.declared.write.Write.{Write}
use Rattle.odb_model.specs.declared.entry.Entry.{Entry}
use Rattle.odb_model.specs.State.{State, table_key_cmp, table_key_of, changed, after_writes, replay, replay_from}
use Rattle.odb_model.proofs.Replay.{get-changed_at}
use Rattle.odb_machine.specs.Readings.{Reading, Holds, FileReading, Asked}
use Rattle.odb_machine.specs.Joined.{rows_read}
use Rattle.odb_slots.specs.Views.{open_at, view_by}
use Rattle.odb_bank.specs.History.{Key, Row, History, is_key, write_of, entry_at, history_of}
use Rattle.odb_bank.specs.Replayed.{after_write, state, changed_by}
use Rattle.odb_bank.specs.Records.{View, IsWithin}
use Rattle.odb_extent.specs.Opened.{holding}
use Rattle.odb_bank.specs.Fields.{bank_image}
use Rattle.odb_bank.specs.Owned.{AreInOrder, IsInBank, HasItsTable}
use Rattle.odb_bank.specs.Files.{StandsAt}
use Rattle.odb_bank.specs.Spelled.{record_of_slot}
use Rattle.odb_bank.proofs.Keys.{key_true}
use Rattle.odb_bank.proofs.Reading.{row_not_by}
use Rattle.odb_bank.proofs.Opening.{opens_to}
use Rattle.odb_bank.proofs.Replaying.{state_replays, changed_above}
use Rattle.odb_bank.proofs.Lasting.{standing_in_order}
use Rattle.odb_open.specs.Files.{reading_of_view, file_in}
use Rattle.odb_open.proofs.ReadingFiles.{in_order}
use Rattle.odb_open.proofs.ReadingRows.{rows_are}

clash : {A : Type 0} → true ≡ false → A
clash e = cc e

-- no write to the key's table is in this databank
abbrev pub IsElsewhere : ℕ → Key → Write → Type 0
IsElsewhere bank key w = w.table ≡ key.table → (w.bank == bank) ≡ false

abbrev pub AreElsewhere : ℕ → Key → List Entry → Type 0
AreElsewhere bank key h = All (λ e. All (IsElsewhere bank key) e.writes) h

module _ (bank : ℕ) (key : Key) where
  abbrev tests : Write → Bool
  tests w = (w.bank == bank) && is_key (table_key_of w) key

  -- no entry writes the key, as the databank sees it

  passes_not : (w : Write) → IsElsewhere bank key w → tests w ≡ false
  passes_not w elsewhere = by_key (is_key (table_key_of w) key) refl
    where
      by_key : (c : Bool) → is_key (table_key_of w) key ≡ c → tests w ≡ false
      by_key true is = and_left (w.bank == bank) (is_key (table_key_of w) key) (elsewhere (ap (λ (k : Key). k.table) (key_true (table_key_of w) key is)))
      by_key false is = and_right (w.bank == bank) (is_key (table_key_of w) key) is

  finds_none : (ws : List Write) → All (IsElsewhere bank key) ws → find tests ws ≡ None
  finds_none [] all = refl
  finds_none (w ∷ ws) all =
      ap (λ (b : Bool). cond b (Some w) (find tests ws)) (passes_not w (All-head (IsElsewhere bank key) w ws all))
      ∙ finds_none ws (All-tail (IsElsewhere bank key) w ws all)

  none_at : (h : List Entry) → AreElsewhere bank key h → (k : ℕ) → write_of bank key (slice_get h k) ≡ None
  none_at [] all k = refl
  none_at (e ∷ h) all zero = ap (λ (o : Option Write). option_map (λ (w : Write). w.row) o) (finds_none e.writes (All-head (λ (f : Entry). All (IsElsewhere bank key) f.writes) e h all))
  none_at (e ∷ h) all (suc k) = none_at h (All-tail (λ (f : Entry). All (IsElsewhere bank key) f.writes) e h all) k

  pub never_written : (h : List Entry) → AreElsewhere bank key h → (k : ℕ) → write_of bank key (entry_at h k) ≡ None
  never_written h all zero = refl
  never_written h all (suc k) = none_at h all k

  -- the key's row, changed by the writes of this databank alone

  -- what a write leaves of the key, by the row that was there
  abbrev left_by : Write → Option Row → Option Row
  left_by w row = cond (eq_by_cmp table_key_cmp key (table_key_of w)) w.row row

  one_write : (s t : State) (w : Write) → get s key ≡ get t key → get (changed s (table_key_of w) w.row) key ≡ get (changed t (table_key_of w) w.row) key
  one_write s t w same = get-changed_at s (table_key_of w) w.row key ∙ ap (left_by w) same ∙ sym (get-changed_at t (table_key_of w) w.row key)

  other_write : (t : State) (w : Write) → (w.table ≡ key.table → w.bank ≡ bank) → (w.bank == bank) ≡ false → get (changed t (table_key_of w) w.row) key ≡ get t key
  other_write t w its other = get-changed_at t (table_key_of w) w.row key ∙ by_tie (eq_by_cmp table_key_cmp key (table_key_of w)) refl
    where
      by_tie : (b : Bool) → eq_by_cmp table_key_cmp key (table_key_of w) ≡ b → cond (eq_by_cmp table_key_cmp key (table_key_of w)) w.row (get t key) ≡ get t key
      by_tie true is =
          let same : key ≡ table_key_of w = key_true key (table_key_of w) is in
          clash (sym (eq-eqb w.bank bank (its (ap (λ (k : Key). k.table) (sym same)))) ∙ other)
      by_tie false is = ap (λ (b : Bool). cond b w.row (get t key)) is

  kept_writes : (s t : State) (ws : List Write) → get s key ≡ get t key → All (IsInBank bank key.table) ws
      → get (after_writes s (filter (λ w. w.bank == bank) ws)) key ≡ get (after_writes t ws) key
  kept_writes s t [] same all = same
  kept_writes s t (w ∷ ws) same all = by_bank (λ u v alike. kept_writes u v ws alike (All-tail (IsInBank bank key.table) w ws all)) (w.bank == bank) refl
    where
      by_bank : ((u v : State) → get u key ≡ get v key → get (after_writes u (filter (λ x. x.bank == bank) ws)) key ≡ get (after_writes v ws) key) → (b : Bool) → (w.bank == bank) ≡ b
          → get (after_writes s (cond (w.bank == bank) (w ∷ filter (λ v. v.bank == bank) ws) (filter (λ v. v.bank == bank) ws))) key ≡ get (after_writes (changed t (table_key_of w) w.row) ws) key
      by_bank rest true is =
          ap (λ (b : Bool). get (after_writes s (cond b (w ∷ filter (λ v. v.bank == bank) ws) (filter (λ v. v.bank == bank) ws))) key) is
          ∙ rest (changed s (table_key_of w) w.row) (changed t (table_key_of w) w.row) (one_write s t w same)
      by_bank rest false is =
          ap (λ (b : Bool). get (after_writes s (cond b (w ∷ filter (λ v. v.bank == bank) ws) (filter (λ v. v.bank == bank) ws))) key) is
          ∙ rest s (changed t (table_key_of w) w.row) (same ∙ sym (other_write t w (All-head (IsInBank bank key.table) w ws all) is))

  after_both : (s : State) (ws vs : List Write) → after_writes s (ws ++ vs) ≡ after_writes (after_writes s ws) vs
  after_both s [] vs = refl
  after_both s (w ∷ ws) vs = after_both (changed s (table_key_of w) w.row) ws vs

  pub late_same : (s t : State) (es : List Entry) → get s key ≡ get t key → HasItsTable bank key.table es
      → get (after_writes s (filter (λ w. w.bank == bank) (flat_map (λ e. e.writes) es))) key ≡ get (replay_from t es) key
  late_same s t [] same all = same
  late_same s t (e ∷ es) same all =
      ap (λ (ws : List Write). get (after_writes s ws) key) (filter-append (λ w. w.bank == bank) e.writes (flat_map (λ (f : Entry). f.writes) es))
      ∙ ap (λ (u : State). get u key) (after_both s (filter (λ w. w.bank == bank) e.writes) (filter (λ w. w.bank == bank) (flat_map (λ (f : Entry). f.writes) es)))
      ∙ late_same (after_writes s (filter (λ w. w.bank == bank) e.writes)) (after_writes t e.writes) es
      (kept_writes s t e.writes same (All-head (λ (f : Entry). All (IsInBank bank key.table) f.writes) e es all))
      (All-tail (λ (f : Entry). All (IsInBank bank key.table) f.writes) e es all)

  -- writes elsewhere leave the key
  untouched : (s : State) (ws : List Write) → All (IsElsewhere bank key) ws → get (after_writes s (filter (λ w. w.bank == bank) ws)) key ≡ get s key
  untouched s [] all = refl
  untouched s (w ∷ ws) all = by_bank (λ u. untouched u ws (All-tail (IsElsewhere bank key) w ws all)) (w.bank == bank) refl
    where
      left : (w.bank == bank) ≡ true → get (changed s (table_key_of w) w.row) key ≡ get s key
      left here = get-changed_at s (table_key_of w) w.row key ∙ by_tie (eq_by_cmp table_key_cmp key (table_key_of w)) refl
        where
          by_tie : (b : Bool) → eq_by_cmp table_key_cmp key (table_key_of w) ≡ b → cond (eq_by_cmp table_key_cmp key (table_key_of w)) w.row (get s key) ≡ get s key
          by_tie true is =
              let same : key ≡ table_key_of w = key_true key (table_key_of w) is in
              clash (sym here ∙ All-head (IsElsewhere bank key) w ws all (ap (λ (k : Key). k.table) (sym same)))
          by_tie false is = ap (λ (b : Bool). cond b w.row (get s key)) is

      by_bank : ((u : State) → get (after_writes u (filter (λ x. x.bank == bank) ws)) key ≡ get u key) → (b : Bool) → (w.bank == bank) ≡ b
          → get (after_writes s (cond (w.bank == bank) (w ∷ filter (λ v. v.bank == bank) ws) (filter (λ v. v.bank == bank) ws))) key ≡ get s key
      by_bank rest true is =
          ap (λ (b : Bool). get (after_writes s (cond b (w ∷ filter (λ v. v.bank == bank) ws) (filter (λ v. v.bank == bank) ws))) key) is
          ∙ rest (changed s (table_key_of w) w.row) ∙ left is
      by_bank rest false is =
          ap (λ (b : Bool). get (after_writes s (cond b (w ∷ filter (λ v. v.bank == bank) ws) (filter (λ v. v.bank == bank) ws))) key) is
          ∙ rest s

  pub late_none : (s : State) (es : List Entry) → AreElsewhere bank key es
      → get (after_writes s (filter (λ w. w.bank == bank) (flat_map (λ e. e.writes) es))) key ≡ get s key
  late_none s [] all = refl
  late_none s (e ∷ es) all =
      ap (λ (ws : List Write). get (after_writes s ws) key) (filter-append (λ w. w.bank == bank) e.writes (flat_map (λ (f : Entry). f.writes) es))
      ∙ ap (λ (u : State). get u key) (after_both s (filter (λ w. w.bank == bank) e.writes) (filter (λ w. w.bank == bank) (flat_map (λ (f : Entry). f.writes) es)))
      ∙ late_none (after_writes s (filter (λ w. w.bank == bank) e.writes)) es (All-tail (λ (f : Entry). All (IsElsewhere bank key) f.writes) e es all)
      ∙ untouched s e.writes (All-head (λ (f : Entry). All (IsElsewhere bank key) f.writes) e es all)

-- a history that never writes a key leaves nothing of it
pub state_none : (h : History) (key : Key) → ((k : ℕ) → h.write k key ≡ None) → (n : ℕ) → state h n key ≡ None
state_none h key none zero = refl
state_none h key none (suc n) = ap (λ (o : Option (Option Row)). after_write o (state h n key)) (none (suc n)) ∙ state_none h key none n

same_limit : (a b : ℕ) (fields : List ℕ) → holding a fields ≡ holding b fields → a ≡ b
same_limit a b fields e = cc

-- a file that stands for a history, complete to its mark, with the entries held above it
module _ (asked : Asked) (format : asked.format ≡ 1) (low : asked.bank < 2 ^ 32) (small : asked.number < 2 ^ 64) (p : List Entry) (within : length p ≤ asked.number)
    (mark : ℕ) (bytes : List ℕ) (stands : StandsAt asked.bank (history_of asked.bank p) mark bytes) (held : List Entry)
    (late : filter (λ e. nat_lt mark e.number) held ≡ drop mark p) (key : Key) where
  abbrev slots : ℕ
  slots = 1024 * stands.limit

  abbrev view : View
  view = view_by record_of_slot slots bytes

  abbrev file : FileReading
  file = reading_of_view mark slots view

  reads : file_in asked bytes ≡ Holds file
  reads =
      let order = standing_in_order (history_of asked.bank p) asked.bank mark asked.number bytes within stands in
      let head = order.1.head in
      in_order asked format low small bytes order.0 mark order.1
      ∙ ap (λ (k : ℕ). Holds (reading_of_view mark (1024 * k) (view_by record_of_slot (1024 * k) bytes))) (same_limit order.0 stands.limit (bank_image asked.bank mark) (sym head.holds ∙ stands.holds))

  view_within : IsWithin slots view
  view_within n past = ap (λ (b : Bool). if b then open_at record_of_slot n bytes else None) (le-ltb n slots past)

  -- by the writes above the mark
  rows_by : rows_read asked.bank (file_in asked bytes) held ≡ after_writes file.rows (filter (λ w. w.bank == asked.bank) (flat_map (λ e. e.writes) (drop mark p)))
  rows_by =
      ap (λ (r : Reading FileReading). rows_read asked.bank r held) reads
      ∙ ap (λ (es : List Entry). after_writes file.rows (filter (λ w. w.bank == asked.bank) (flat_map (λ (e : Entry). e.writes) es))) late

  -- a key of a table of the databank has the row that the history leaves
  pub has_row : AreInOrder p → HasItsTable asked.bank key.table p → get (rows_read asked.bank (file_in asked bytes) held) key ≡ get (replay p) key
  has_row ordered its = let stand = stands.stands in
      ap (λ (s : State). get s key) rows_by
      ∙ late_same asked.bank key file.rows file.rows (drop mark p) refl (All-drop (λ (e : Entry). All (IsInBank asked.bank key.table) e.writes) mark p its)
      ∙ sym (changed_above asked.bank p key ordered its file.rows mark stands.within)
      ∙ ap (changed_by (history_of asked.bank p) mark (length p - mark) key) (rows_are slots view key)
      ∙ opens_to (history_of asked.bank p) mark slots view key view_within stands.within stand.stands
      ∙ state_replays asked.bank p key ordered its

  -- of a table that isn't the databank's there is nothing
  pub has_none : AreElsewhere asked.bank key p → get (rows_read asked.bank (file_in asked bytes) held) key ≡ None
  has_none all = let stand = stands.stands in
      ap (λ (s : State). get s key) rows_by
      ∙ late_none asked.bank key file.rows (drop mark p) (All-drop (λ (e : Entry). All (IsElsewhere asked.bank key) e.writes) mark p all)
      ∙ rows_are slots view key
      ∙ row_not_by (history_of asked.bank p) mark slots view view_within stand.stands key (λ k from to. never_written asked.bank key p all k)
