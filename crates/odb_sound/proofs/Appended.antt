-- A sound history stays so with one entry more: that of a transaction, or that of a definition.
use Rattle.std.proofs.Common.{◌≡◌, ℕ, suc, ◌+◌, ◌<◌, ◌≤◌, pos, true, ◌&&◌, ◌==◌, cond, nat_lt, List, [], ◌∷◌, ◌++◌, length, refl, sym, ap, subst, ◌∙◌, Option, arith, eq-eqb, length-append}
use Rattle.std.specs.Prelude.{IfSome}
use Rattle.std.specs.List.{All, list_any, list_all}
use Rattle.std.specs.FinMap.{empty, entries}
use Rattle.std.proofs.lemmas.Bool.Decides.{nat_tests}
use Rattle.std.proofs.lemmas.List.Elements.{All-nil, All-cons, All-head, All-tail, All-append, All-push, All-weaker}
use Rattle.std.proofs.lemmas.List.Sums.{sum_by-cons}
use Rattle.odb_values.specs.declared.value.Value.{Value}
use Rattle.odb_values.specs.declared.value.Value.TheVariants.{Int, Text}
use Rattle.odb_values.specs.Value.{width_of}
use Rattle.odb_values.specs.Key.{IsKey, width_of_all}
use Rattle.odb_model.specs.declared.write.Write.{Write}
use Rattle.odb_model.specs.declared.table_key.TableKey.{TableKey}
use Rattle.odb_model.specs.declared.entry.Entry.{Entry}
use Rattle.odb_model.specs.declared.statement.ColumnText.{ColumnText}
use Rattle.odb_model.specs.declared.statement.Statement.{Statement}
use Rattle.odb_model.specs.State.{State, after_writes, replay, replay_from, rows_of}
use Rattle.odb_model.specs.Table.{Table}
use Rattle.odb_model.specs.Dictionary.{has_name_form, is_capital, is_name_byte}
use Rattle.odb_model.specs.Databanks.{Databank, databanks, row_key, next_number}
use Rattle.odb_model.specs.Definitions.{dictionary_write, IsSpelled}
use Rattle.odb_model.specs.Storable.{AreStorable, IsStorableList, HaveKeys, HasKeys}
use Rattle.odb_model.specs.Transaction.{table_keys, meaning_over, alone_writes, net}
use Rattle.odb_machine.specs.Book.{most_entries}
use Rattle.odb_model.specs.Script.{IsSession}
use Rattle.odb_model.proofs.Replay.{replay_from-append}
use Rattle.odb_model.proofs.Covering.{and_true}
use Rattle.odb_model.proofs.KeysKept.{writes_keyed, after_keyed, history_keyed}
use Rattle.odb_model.proofs.Stored.{any_stored, net_stored, nothing_stored}
use Rattle.odb_codec.specs.Image.{IsTyped, AreTyped, IsTypedWrite, HasImage}
use Rattle.odb_catalog.specs.Telling.{databank_number, HasCreated, HasDropped}
use Rattle.odb_catalog.proofs.Numbers.{within, next_range}
use Rattle.odb_catalog.proofs.Planned.{test_false}
use Rattle.odb_sound.specs.Sound.{is_bank, IsInItsBank, AreInTheirBanks, NumbersRise, IsInOrder, AllWrites, IsKnown, HaveOneBank, HasColumns, HaveColumns, IsSoundHistory}
use Rattle.odb_sound.proofs.Typed.{IsTypedRow, PutsTyped, puts_row, alone_typed}
use Rattle.odb_sound.proofs.Told.{small_typed, name_text}
use Rattle.odb_sound.proofs.Made.{IsMade, both_small, not_dictionary, dictionary_stays, alone_made, net_of}
use Rattle.odb_sound.proofs.Kept.{Holds, OfRows, OfWrite, of_after, of_replay, WhereIn, to_rows}
use Rattle.odb_sound.proofs.Columns.{IsShape, alone_shaped, rows_shaped, table_shaped}
use Rattle.odb_sound.proofs.Ordered.{same_databanks, same_tables, same_next, order_same, made, before, earlier, still}

-- the state behind one entry more
pub replay-push : (h : List Entry) (e : Entry) → replay (h ++ e ∷ []) ≡ after_writes (replay h) e.writes
replay-push h e = replay_from-append empty h (e ∷ [])

in_banks-push : (s : State) (h : List Entry) (e : Entry) → AreInTheirBanks s h → All (IsInItsBank (replay_from s h)) e.writes → AreInTheirBanks s (h ++ e ∷ [])
in_banks-push s [] e all new = (new, tt)
in_banks-push s (x ∷ h) e all new = (all.0, in_banks-push (after_writes s x.writes) h e all.1 new)

rising-push : (s : State) (h : List Entry) (e : Entry) → NumbersRise s h → next_number (replay_from s h) ≤ next_number (after_writes (replay_from s h) e.writes) → NumbersRise s (h ++ e ∷ [])
rising-push s [] e all new = (new, tt)
rising-push s (x ∷ h) e all new = (all.0, rising-push (after_writes s x.writes) h e all.1 new)

least : (n : ℕ) → n ≤ n
least n = omega arith

through : (a b c : ℕ) → a ≤ b → b ≤ c → a ≤ c
through a b c p q = omega (arith, p, q)

-- the next number behind entries is at least that before them
rises_behind : (s : State) (h : List Entry) → NumbersRise s h → next_number s ≤ next_number (replay_from s h)
rises_behind s [] all = least (next_number s)
rises_behind s (e ∷ h) all =
    through (next_number s) (next_number (after_writes s e.writes)) (next_number (replay_from (after_writes s e.writes) h)) all.0 (rises_behind (after_writes s e.writes) h all.1)

rises_from : (s : State) (h more : List Entry) → NumbersRise s (h ++ more) → next_number (replay_from s h) ≤ next_number (replay_from s (h ++ more))
rises_from s [] more all = rises_behind s more all
rises_from s (e ∷ h) more all = rises_from (after_writes s e.writes) h more all.1

-- so that of a sound history is at least that of each of its beginnings
pub never_falls : (h more : List Entry) → IsSoundHistory (h ++ more) → next_number (replay h) ≤ next_number (replay (h ++ more))
never_falls h more sound = rises_from empty h more sound.rising

no_more : (h : List Entry) (e : Entry) (most : ℕ) → length h < most → length (h ++ e ∷ []) ≤ most
no_more h e most less = omega (arith, length-append h (e ∷ []), less)

-- what a write that is known on one state is on a later one
known_later : (s after : State) → databanks after ≡ databanks s → next_number s ≤ next_number after → (w : Write) → IsKnown s w → IsKnown after w
known_later s after banks more w known =
    let before = known.table in
    record {
      table = omega (arith, before, more);
      bank = subst (λ (bs : List Databank). list_any (λ b. b.number == w.bank) bs ≡ true) (sym banks) known.bank;
    }

all_later : (P Q : Write → Type 0) → ((w : Write) → P w → Q w) → (h : List Entry) → AllWrites P h → AllWrites Q h
all_later P Q weaker h all = All-weaker (λ (x : Entry). All P x.writes) (λ x. All Q x.writes) (λ x each. All-weaker P Q weaker x.writes each) h all

-- what an entry has to be, so that a history stays sound with it
pub record Fits (h : List Entry) (e : Entry) (after : State) : Type 0 where
  pub image : HasImage e
  pub in_banks : All (IsInItsBank (replay h)) e.writes
  pub order : IsInOrder after
  pub banks : databanks after ≡ databanks (replay h)
  pub more : next_number (replay h) ≤ next_number after
  pub known : All (IsKnown after) e.writes
  pub one_bank : HaveOneBank after (h ++ e ∷ [])
  pub columns : HaveColumns after

pub pushed : (h : List Entry) (e : Entry) → IsSoundHistory h → length h < most_entries → Fits h e (after_writes (replay h) e.writes) → IsSoundHistory (h ++ e ∷ [])
pushed h e sound less fits =
    let s : State = replay h in
    let after : State = after_writes s e.writes in
    let is : replay (h ++ e ∷ []) ≡ after = replay-push h e in
    record {
      few = no_more h e most_entries less;
      images = All-push HasImage h e sound.images fits.image;
      in_banks = in_banks-push empty h e sound.in_banks fits.in_banks;
      rising = rising-push empty h e sound.rising fits.more;
      in_order = subst IsInOrder (sym is) fits.order;
      known = subst (λ (x : State). AllWrites (IsKnown x) (h ++ e ∷ [])) (sym is)
          (All-push (λ (x : Entry). All (IsKnown after) x.writes) h e
          (all_later (IsKnown s) (IsKnown after) (known_later s after fits.banks fits.more) h sound.known) fits.known);
      one_bank = subst (λ (x : State). HaveOneBank x (h ++ e ∷ [])) (sym is) fits.one_bank;
      columns = subst (λ (x : State). HaveColumns x) (sym is) fits.columns;
    }

-- the rows of a sound history have keys
rows_keyed : (h : List Entry) → IsSoundHistory h → HasKeys (replay h)
rows_keyed h sound =
    history_keyed h []
    (All-weaker HasImage (λ (x : Entry). HaveKeys x.writes) (λ x is. All-weaker IsTypedWrite (λ (w : Write). IsKey w.key) (λ w typed. typed.key) x.writes is.typed) h sound.images)
    (All-nil (λ (w : Write). IsKey w.key))

-- and their values are typed
rows_typed : (h : List Entry) → IsSoundHistory h → OfRows IsTypedRow (replay h)
rows_typed h sound =
    of_replay IsTypedRow h
    (All-weaker HasImage (λ (x : Entry). All (OfWrite IsTypedRow) x.writes)
    (λ x is. All-weaker IsTypedWrite (OfWrite IsTypedRow) (λ w typed. puts_row w (record { key = typed.key_values; row = typed.row_values })) x.writes is.typed) h sound.images)

-- a write of a table that is there, with a key, is typed where its values are
typed_writes : (s : State) (ws : List Write) → All (IsMade s) ws → HaveKeys ws → All PutsTyped ws → All IsTypedWrite ws
typed_writes s [] there keys puts = All-nil IsTypedWrite
typed_writes s (w ∷ ws) there keys puts =
    let numbers = both_small s w.table w.bank (All-head (IsMade s) w ws there) in
    let values : PutsTyped w = All-head PutsTyped w ws puts in
    All-cons IsTypedWrite w ws
    (record { bank = numbers.1; table = numbers.0; key = All-head (λ (x : Write). IsKey x.key) w ws keys; key_values = values.key; row_values = values.row })
    (typed_writes s ws (All-tail (IsMade s) w ws there) (All-tail (λ (x : Write). IsKey x.key) w ws keys) (All-tail PutsTyped w ws puts))

-- what a transaction writes alone
pub record AreWritten (ws : List Write) : Type 0 where
  pub keys : HaveKeys ws
  pub stored : AreStorable ws

module _ (base : State) (keyed : HasKeys base) where
  abbrev IsKeyedOne : Write → Type 0
  IsKeyedOne w = IsKey w.key

  written_more : (ws : List Write) (st : Statement) → AreWritten ws → AreWritten (ws ++ (meaning_over st base ws 1).writes)
  written_more ws st all =
      let s : State = after_writes base ws in
      let rows : HasKeys s = after_keyed ws base all.keys keyed in
      record {
        keys = All-append IsKeyedOne ws (meaning_over st base ws 1).writes all.keys (writes_keyed s rows (table_keys ws) 1 st);
        stored = any_stored s ws rows all.stored st;
      }

  alone_written : (ws : List Write) (sts : List Statement) → AreWritten ws → AreWritten (alone_writes base ws sts 1)
  alone_written ws [] all = all
  alone_written ws (st ∷ sts) all = alone_written (ws ++ (meaning_over st base ws 1).writes) sts (written_more ws st all)

-- the entry of a transaction whose statements, run alone at the history's end, leave these writes
module _ (h : List Entry) (sound : IsSoundHistory h) (e : Entry) (session : IsSession e.by) (some : 0 < length e.writes) (sts : List Statement) (spelled : All IsSpelled sts) (is : e.writes ≡ net (replay h) (alone_writes (replay h) [] sts 1)) where
  abbrev base : State
  base = replay h

  made_all : All (IsMade base) e.writes
  made_all =
      subst (All (IsMade base)) (sym is)
      (net_of (IsMade base) base (alone_writes base [] sts 1) (alone_made base [] sts 1 (All-nil (IsMade base))))

  left : AreWritten (alone_writes base [] sts 1)
  left = alone_written base (rows_keyed h sound) [] sts (record { keys = All-nil (λ (w : Write). IsKey w.key); stored = nothing_stored })

  keys_all : HaveKeys e.writes
  keys_all = subst HaveKeys (sym is) (net_of (λ (w : Write). IsKey w.key) base (alone_writes base [] sts 1) left.keys)

  puts_all : All PutsTyped e.writes
  puts_all =
      subst (All PutsTyped) (sym is)
      (net_of PutsTyped base (alone_writes base [] sts 1) (alone_typed base (rows_typed h sound) [] sts 1 spelled (All-nil PutsTyped)))

  pub transaction_fits : Fits h e (after_writes (replay h) e.writes)
  transaction_fits =
      let after : State = after_writes base e.writes in
      let same = dictionary_stays base base e.writes made_all in
      let banks : databanks after ≡ databanks base = same_databanks base after same in
      let next : next_number after ≡ next_number base = same_next base after same in
      let order : IsInOrder base = sound.in_order in
      let one : HaveOneBank base h = sound.one_bank in
      let rows : OfRows (IsShape base) base = rows_shaped base sound.columns in
      let shape : All (OfWrite (IsShape base)) e.writes =
      subst (All (OfWrite (IsShape base))) (sym is)
      (net_of (OfWrite (IsShape base)) base (alone_writes base [] sts 1)
      (alone_shaped base order rows [] sts 1 (All-nil (IsMade base)) (All-nil (OfWrite (IsShape base))))) in
      record {
        image = record {
          storable = record { by = session; some = some; writes = subst IsStorableList (sym is) (net_stored base (alone_writes base [] sts 1) left.stored) };
          typed = typed_writes base e.writes made_all keys_all puts_all;
        };
        in_banks = All-weaker (IsMade base) (IsInItsBank base) (λ w has. record { dictionary = λ six. absurd (not_dictionary base w.table w.bank has six); other = λ _. has }) e.writes made_all;
        order = order_same base after same order;
        banks = banks;
        more = omega (arith, next);
        known = All-weaker (IsMade base) (IsKnown after) (λ w has. known_later base after banks (omega (arith, next)) w (record {
          table = subst (λ (n : ℕ). n < next_number base) has.is_number (order.used.tables has.name has.table has.there);
          bank = subst (λ (n : ℕ). is_bank base n ≡ true) has.is_bank (order.in_banks has.name has.table has.there);
        })) e.writes made_all;
        one_bank = record {
          bank_of = one.bank_of;
          dictionary = one.dictionary;
          writes = All-push (λ (x : Entry). All (λ (w : Write). w.bank ≡ one.bank_of w.table) x.writes) h e one.writes
              (All-weaker (IsMade base) (λ w. w.bank ≡ one.bank_of w.table) (λ w has. sym has.is_bank ∙ one.tables has.name has.table has.there ∙ ap one.bank_of has.is_number) e.writes made_all);
          tables = λ name t p. one.tables name t (sym (same_tables base after same name) ∙ p);
        };
        columns = λ name t p. table_shaped base after (of_after (IsShape base) e.writes base shape rows) name t (sym (same_tables base after same name) ∙ p);
      }

-- a write into the dictionary, in SYSDB, with a key and typed values
pub record IsToldWrite (w : Write) : Type 0 where
  pub table : w.table ≡ 6
  pub bank : w.bank ≡ 2
  pub key : IsKey w.key
  pub key_values : AreTyped w.key
  pub row_values : IfSome w.row AreTyped

told_typed : (w : Write) → IsToldWrite w → IsTypedWrite w
told_typed w told =
    let six = told.table in
    let two = told.bank in
    record { bank = omega (arith, two); table = omega (arith, six); key = told.key; key_values = told.key_values; row_values = told.row_values }

told_in_bank : (s : State) (w : Write) → IsToldWrite w → IsInItsBank s w
told_in_bank s w told = record { dictionary = λ _. told.bank; other = λ differ. absurd (differ told.table) }

told_known : (s : State) (w : Write) → IsToldWrite w → IsKnown s w
told_known s w told =
    let large = (within 16 (next_number s) (next_range s)).0 in
    let six = told.table in
    record {
      table = omega (arith, six, large);
      bank = subst (λ (n : ℕ). is_bank s n ≡ true) (sym told.bank) refl;
    }

-- a name has at most 32 bytes
name_short : (name : List ℕ) → has_name_form name ≡ true → length name ≤ 32
name_short [] e = omega arith
name_short (b ∷ bytes) e = below (length bytes) (and_true (is_capital b && list_all is_name_byte bytes) (nat_lt (length bytes) 32) e).1
  where
    below : (n : ℕ) → nat_lt n 32 ≡ true → suc n ≤ 32
    below n e = grind (arith, nat_tests)

two_wide : (a b : Value) → width_of_all (a ∷ b ∷ []) ≡ width_of a + width_of b
two_wide a b = sum_by-cons width_of a (b ∷ []) ∙ ap (λ n. width_of a + n) (sum_by-cons width_of b []) ∙ omega arith

row_keyed : (kind : ℕ) (name : List ℕ) → has_name_form name ≡ true → IsKey (row_key kind name)
row_keyed kind name form = record {
  keyed = record { some = omega arith; few = omega arith; full = refl };
  narrow = omega (arith, two_wide (Int (pos kind)) (Text name), name_short name form);
}

pub told_written : (kind : ℕ) (name : List ℕ) (row : Option (List Value)) → kind < 6 → has_name_form name ≡ true → IfSome row AreTyped → IsToldWrite (dictionary_write kind name row)
told_written kind name row low form typed = record {
  table = refl;
  bank = refl;
  key = row_keyed kind name form;
  key_values = All-cons IsTyped (Int (pos kind)) (Text name ∷ []) (small_typed kind (omega (arith, low))) (All-cons IsTyped (Text name) [] (name_text name form) (All-nil IsTyped));
  row_values = typed;
}

-- what all entries of definitions have
module _ (h : List Entry) (sound : IsSoundHistory h) (e : Entry) (session : IsSession e.by) (some : 0 < length e.writes) (storable : IsStorableList e.writes) (told : All IsToldWrite e.writes) where
  abbrev behind : State
  behind = after_writes (replay h) e.writes

  pub definition_fits : IsInOrder behind → databanks behind ≡ databanks (replay h) → next_number (replay h) ≤ next_number behind → HaveOneBank behind (h ++ e ∷ []) → HaveColumns behind → Fits h e behind
  definition_fits order banks more one columns = record {
    image = record { storable = record { by = session; some = some; writes = storable }; typed = All-weaker IsToldWrite IsTypedWrite told_typed e.writes told };
    in_banks = All-weaker IsToldWrite (IsInItsBank (replay h)) (told_in_bank (replay h)) e.writes told;
    order = order;
    banks = banks;
    more = more;
    known = All-weaker IsToldWrite (IsKnown behind) (told_known behind) e.writes told;
    one_bank = one;
    columns = columns;
  }

-- the databank of each number, behind a table more
abbrev with_bank : ℕ → ℕ → (ℕ → ℕ) → ℕ → ℕ
with_bank number bank bank_of n = cond (n == number) bank (bank_of n)

other_bank : (number bank : ℕ) (bank_of : ℕ → ℕ) (n : ℕ) → n < number → with_bank number bank bank_of n ≡ bank_of n
other_bank number bank bank_of n less = ap (λ b. cond b bank (bank_of n)) (test_false n number (λ same. omega (arith, same, less)))

own_bank : (number bank : ℕ) (bank_of : ℕ → ℕ) → with_bank number bank bank_of number ≡ bank
own_bank number bank bank_of = ap (λ b. cond b bank (bank_of number)) (eq-eqb number number refl)

pub one_created : (h : List Entry) (e : Entry) (after : State) (name : List ℕ) (columns : List ColumnText) (key : List (List ℕ)) (bank : List ℕ)
    → IsSoundHistory h → HasCreated name columns key bank (replay h) after → All IsToldWrite e.writes → HaveOneBank after (h ++ e ∷ [])
one_created h e after name columns key bank sound has told =
    let s : State = replay h in
    let one : HaveOneBank s h = sound.one_bank in
    let number : ℕ = next_number s in
    let of : ℕ → ℕ = with_bank number (databank_number s bank) one.bank_of in
    let large : 16 ≤ next_number s = (within 16 (next_number s) (next_range s)).0 in
    let six : of 6 ≡ 2 = other_bank number (databank_number s bank) one.bank_of 6 (omega (arith, large)) ∙ one.dictionary in
    let old : AllWrites (λ (w : Write). w.bank ≡ of w.table) h =
    both_later h (λ w. (w.bank ≡ one.bank_of w.table)) (IsKnown s) (λ w. w.bank ≡ of w.table)
    (λ w p known. p ∙ sym (other_bank number (databank_number s bank) one.bank_of w.table known.table)) one.writes sound.known in
    record {
      bank_of = of;
      dictionary = six;
      writes = All-push (λ (x : Entry). All (λ (w : Write). w.bank ≡ of w.table) x.writes) h e old
          (All-weaker IsToldWrite (λ w. w.bank ≡ of w.table) (λ w t. t.bank ∙ sym six ∙ ap of (sym t.table)) e.writes told);
      tables = λ m t p. elim (earlier s after name columns key bank has sound.in_order m t p) as (λ w. t.bank ≡ of t.number) [
        | made here is ↦ ap (λ (x : Table). x.bank) is ∙ sym (own_bank number (databank_number s bank) one.bank_of) ∙ ap of (sym (ap (λ (x : Table). x.number) is))
        | before there ↦ one.tables m t there ∙ sym (other_bank number (databank_number s bank) one.bank_of t.number (sound.in_order.used.tables m t there))
      ];
    }
  where
    both : (P Q R : Write → Type 0) → ((w : Write) → P w → Q w → R w) → (ws : List Write) → All P ws → All Q ws → All R ws
    both P Q R f [] p q = All-nil R
    both P Q R f (w ∷ ws) p q = All-cons R w ws (f w (All-head P w ws p) (All-head Q w ws q)) (both P Q R f ws (All-tail P w ws p) (All-tail Q w ws q))

    both_later : (g : List Entry) (P Q R : Write → Type 0) → ((w : Write) → P w → Q w → R w) → AllWrites P g → AllWrites Q g → AllWrites R g
    both_later [] P Q R f p q = All-nil (λ (x : Entry). All R x.writes)
    both_later (x ∷ g) P Q R f p q =
        All-cons (λ (y : Entry). All R y.writes) x g
        (both P Q R f x.writes (All-head (λ (y : Entry). All P y.writes) x g p) (All-head (λ (y : Entry). All Q y.writes) x g q))
        (both_later g P Q R f (All-tail (λ (y : Entry). All P y.writes) x g p) (All-tail (λ (y : Entry). All Q y.writes) x g q))

pub one_dropped : (h : List Entry) (e : Entry) (after : State) (name : List ℕ) → IsSoundHistory h → HasDropped name (replay h) after → All IsToldWrite e.writes → HaveOneBank after (h ++ e ∷ [])
one_dropped h e after name sound has told =
    let one : HaveOneBank (replay h) h = sound.one_bank in
    record {
      bank_of = one.bank_of;
      dictionary = one.dictionary;
      writes = All-push (λ (x : Entry). All (λ (w : Write). w.bank ≡ one.bank_of w.table) x.writes) h e one.writes
          (All-weaker IsToldWrite (λ w. w.bank ≡ one.bank_of w.table) (λ w t. t.bank ∙ sym one.dictionary ∙ ap one.bank_of (sym t.table)) e.writes told);
      tables = λ m t p. one.tables m t (still (replay h) after name has sound.in_order m t p);
    }

-- a definition's writes put no row of a table
told_shaped : (s : State) (w : Write) → IsToldWrite w → OfWrite (IsShape s) w
told_shaped s w told row is name t there same =
    absurd (not_dictionary s t.number t.bank (record { name = name; table = t; there = there; is_number = refl; is_bank = refl }) (sym same ∙ told.table))

still_shaped : (s : State) (ws : List Write) → HaveColumns s → All IsToldWrite ws → OfRows (IsShape s) (after_writes s ws)
still_shaped s ws columns told = of_after (IsShape s) ws s (All-weaker IsToldWrite (OfWrite (IsShape s)) (told_shaped s) ws told) (rows_shaped s columns)

-- a row of a table whose number is used
abbrev IsUsedBelow : ℕ → TableKey → List Value → Type 0
IsUsedBelow next at row = at.table < next

rows_used : (h : List Entry) (e : Entry) → IsSoundHistory h → All IsToldWrite e.writes → OfRows (IsUsedBelow (next_number (replay h))) (after_writes (replay h) e.writes)
rows_used h e sound told =
    let s : State = replay h in
    let next : ℕ = next_number s in
    let large : 16 ≤ next_number s = (within 16 (next_number s) (next_range s)).0 in
    of_after (IsUsedBelow next) e.writes s
    (All-weaker IsToldWrite (OfWrite (IsUsedBelow next)) (λ w t row is. let six = t.table in omega (arith, six, large)) e.writes told)
    (of_replay (IsUsedBelow next) h (all_later (IsKnown s) (OfWrite (IsUsedBelow next)) (λ w k row is. k.table) h sound.known))

-- a number that isn't used has no rows
none_there : (t : Table) (next : ℕ) (s : State) → t.number ≡ next → OfRows (IsUsedBelow next) s → All (λ (e : TableKey × List Value). HasColumns t e.0.key e.1) (rows_of t.number s)
none_there t next s is used =
    to_rows (λ (e : TableKey × List Value). HasColumns t e.0.key e.1) t.number s
    (All-weaker (Holds (IsUsedBelow next)) (WhereIn (λ (e : TableKey × List Value). HasColumns t e.0.key e.1) t.number)
    (λ e less same. absurd (no_such e.0.table t.number next less same is)) (entries s) used)
  where
    no_such : (a b n : ℕ) → a < n → a ≡ b → b ≡ n → ⊥
    no_such a b n less same is = omega (arith, less, same, is)

pub columns_created : (h : List Entry) (e : Entry) (name : List ℕ) (columns : List ColumnText) (key : List (List ℕ)) (bank : List ℕ)
    → IsSoundHistory h → HasCreated name columns key bank (replay h) (after_writes (replay h) e.writes) → All IsToldWrite e.writes → HaveColumns (after_writes (replay h) e.writes)
columns_created h e name columns key bank sound has told m t there =
    let s : State = replay h in
    let after : State = after_writes s e.writes in
    elim (earlier s after name columns key bank has sound.in_order m t there) as (λ w. All (λ (e : TableKey × List Value). HasColumns t e.0.key e.1) (rows_of t.number after)) [
      | made here is ↦ none_there t (next_number s) after (ap (λ (x : Table). x.number) is) (rows_used h e sound told)
      | before old ↦ table_shaped s after (still_shaped s e.writes sound.columns told) m t old
    ]

pub columns_dropped : (h : List Entry) (e : Entry) (name : List ℕ) → IsSoundHistory h → HasDropped name (replay h) (after_writes (replay h) e.writes) → All IsToldWrite e.writes → HaveColumns (after_writes (replay h) e.writes)
columns_dropped h e name sound has told m t there =
    let s : State = replay h in
    let after : State = after_writes s e.writes in
    table_shaped s after (still_shaped s e.writes sound.columns told) m t (still s after name has sound.in_order m t there)
