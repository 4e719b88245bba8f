-- When a machine is sound: its history is one that statements can have made. The dictionary is in order,
-- each write fits the dictionary that it was made on, and each row of a table has the table's columns.
-- There are no further databank files, shadows and backups yet. The rules are this project's own.
use Rattle.std.specs.Prelude.{◌≡◌, ◌≢◌, ℕ, ◌<◌, ◌≤◌, Bool, true, false, ◌&&◌, ◌==◌, nat_le, not, List, [], ◌∷◌, length, map, codes, Some, slice_get, IsTrue}
use Rattle.std.specs.List.{All, list_any}
use Rattle.std.specs.FinMap.{empty, get}
use Rattle.odb_values.specs.declared.value.Value.{Value}
use Rattle.odb_values.specs.declared.value.Value.TheVariants.{Null, Int, Text}
use Rattle.odb_model.specs.declared.table_key.TableKey.{TableKey}
use Rattle.odb_model.specs.declared.write.Write.{Write}
use Rattle.odb_model.specs.declared.entry.Entry.{Entry}
use Rattle.odb_model.specs.declared.event.Event.{Event}
use Rattle.odb_model.specs.declared.event.Event.TheVariants.{Session as OfSession, Control}
use Rattle.odb_model.specs.Session.{Session, Idle, Working}
use Rattle.odb_model.specs.State.{State, after_writes, replay, rows_of}
use Rattle.odb_model.specs.Table.{Column, Table, is_named, places_outside, stored_value}
use Rattle.odb_model.specs.Dictionary.{table_of, table_in_row, has_name_form}
use Rattle.odb_model.specs.Databanks.{Databank, dictionary_table, databank_kind, table_kind, number_kind, row_key, sysdb, fixed_shadow, is_sysdb, databank_in_row, databanks, databank_named, number_in_row, next_number}
use Rattle.odb_model.specs.Definitions.{IsSpelled}
use Rattle.odb_model.specs.Fitting.{characters}
use Rattle.odb_machine.specs.Book.{most_entries}
use Rattle.odb_machine.specs.Machine.{Machine, history_or_more}
use Rattle.odb_model.specs.Script.{IsSession}
use Rattle.odb_machine.specs.Answered.{AnsweredFromSnapshots}
use Rattle.odb_codec.specs.Image.{HasImage}
use Rattle.odb_catalog.specs.Telling.{AreUsed}

-- the dictionary has a databank of this number
abbrev pub is_bank : State → ℕ → Bool
is_bank s number = list_any (λ b. b.number == number) (databanks s)

-- the dictionary has a table of this number, and it is in this databank
pub record HasTable (s : State) (number bank : ℕ) : Type 0 where
  pub name : List ℕ
  pub table : Table
  pub there : table_of s name ≡ Some table
  pub is_number : table.number ≡ number
  pub is_bank : table.bank ≡ bank

-- A write in the dictionary has the databank SYSDB. Any other has the one that the dictionary, before
-- the write's entry, gives its table
pub record IsInItsBank (s : State) (w : Write) : Type 0 where
  pub dictionary : w.table ≡ dictionary_table → w.bank ≡ sysdb.number
  pub other : w.table ≢ dictionary_table → HasTable s w.table w.bank

-- so has each write of these entries, the first of which is made on this state
abbrev pub AreInTheirBanks : State → List Entry → Type 0
AreInTheirBanks s [] = Unit {0}
AreInTheirBanks s (e ∷ h) =
    All (IsInItsBank s) e.writes × AreInTheirBanks (after_writes s e.writes) h

-- the next number never falls: behind each of these entries it is at least what it was before
abbrev pub NumbersRise : State → List Entry → Type 0
NumbersRise s [] = Unit {0}
NumbersRise s (e ∷ h) =
    (next_number s ≤ next_number (after_writes s e.writes))
    × NumbersRise (after_writes s e.writes) h

-- A row of the dictionary has the form of one of a databank, of a table or of the next number, and
-- counts: it is what the dictionary tells by this name
pub data IsRow (s : State) : List Value → List Value → Type 0 where
  databank : {name : List ℕ} {row : List Value} {b : Databank} → IsTrue (has_name_form name)
      → is_sysdb name ≡ false → databank_in_row name row ≡ Some b → databank_named s name ≡ Some b
      → IsRow s (row_key databank_kind name) row
  table : {name : List ℕ} {row : List Value} {t : Table} → IsTrue (has_name_form name)
      → is_named name (codes "KV") ≡ false → table_in_row row ≡ Some t → table_of s name ≡ Some t
      → IsRow s (row_key table_kind name) row
  number : {row : List Value} {n : ℕ} → number_in_row row ≡ Some n
      → IsRow s (row_key number_kind (codes "NEXT")) row

-- no number is twice among these
abbrev pub numbers_differ : List ℕ → Bool
numbers_differ [] = true
numbers_differ (n ∷ ns) = not (list_any (λ m. m == n) ns) && numbers_differ ns

-- The dictionary is in order: each of its rows counts, all numbers and all files differ and are below
-- the next number, and each table is in a databank that is there. KV and the fixed databanks and files
-- are among these
pub record IsInOrder (s : State) : Type 0 where
  pub rows : (at : TableKey) (row : List Value)
      → at.table ≡ dictionary_table → get s at ≡ Some row → IsRow s at.key row
  pub tables : (m n : List ℕ) (t u : Table)
      → table_of s m ≡ Some t → table_of s n ≡ Some u → t.number ≡ u.number → m ≡ n
  pub banks : IsTrue (numbers_differ (map (λ b. b.number) (databanks s)))
  pub apart : (name : List ℕ) (t : Table)
      → table_of s name ≡ Some t → is_bank s t.number ≡ false
  pub files : IsTrue (numbers_differ (fixed_shadow ∷ map (λ b. b.file) (databanks s)))
  pub used : AreUsed s
  pub in_banks : (name : List ℕ) (t : Table)
      → table_of s name ≡ Some t → IsTrue (is_bank s t.bank)

-- A column takes Null where it isn't NOT NULL, and a value of its kind: INTEGER a number, VARCHAR(n) a
-- text of at most n characters
abbrev pub takes : Column → Value → Bool
takes c Null = not c.not_null
takes c (Int n) = c.kind == 0
takes c (Text t) = not (c.kind == 0) && nat_le (characters t) c.kind

-- A key and a row have as many values as their table has columns in the key and outside it, and each
-- column takes its value
pub record HasColumns (t : Table) (key row : List Value) : Type 0 where
  pub key_values : length key ≡ length t.key
  pub row_values : length row ≡ length (places_outside t)
  pub each : (place : ℕ) (c : Column) → slice_get t.columns place ≡ Some c
      → IsTrue (takes c (stored_value t key row place))

-- so have all rows of the tables that are there
abbrev pub HaveColumns : State → Type 0
HaveColumns s =
    (name : List ℕ) (t : Table)
    → table_of s name ≡ Some t → All (λ e. HasColumns t e.0.key e.1) (rows_of t.number s)

-- this holds of each write of these entries
abbrev pub AllWrites : (Write → Type 0) → List Entry → Type 0
AllWrites P h = All (λ e. All P e.writes) h

-- a write has a table's number that is used, and a databank that is there
pub record IsKnown (s : State) (w : Write) : Type 0 where
  pub table : w.table < next_number s
  pub bank : IsTrue (is_bank s w.bank)

-- each number of a table belongs to one databank for good: all writes to the table have it, and the
-- table itself where it is there
pub record HaveOneBank (s : State) (h : List Entry) : Type 0 where
  pub bank_of : ℕ → ℕ
  pub dictionary : bank_of dictionary_table ≡ sysdb.number
  pub writes : AllWrites (λ w. w.bank ≡ bank_of w.table) h
  pub tables : (name : List ℕ) (t : Table)
      → table_of s name ≡ Some t → t.bank ≡ bank_of t.number

-- what a history meets that statements have made
pub record IsSoundHistory (h : List Entry) : Type 0 where
  pub few : length h ≤ most_entries
  pub images : All HasImage h
  pub in_banks : AreInTheirBanks empty h
  pub rising : NumbersRise empty h
  pub in_order : IsInOrder (replay h)
  pub known : AllWrites (IsKnown (replay h)) h
  pub one_bank : HaveOneBank (replay h) h
  pub columns : HaveColumns (replay h)

-- some text spells each statement of an open transaction
abbrev pub HasSpelled : Session → Type 0
HasSpelled Idle = Unit {0}
HasSpelled (Working t) = All (λ a. IsSpelled a.statement) t

-- The history is sound, and it with the entry in doubt. The open transactions have statements that
-- some text spells, and have got the replies of their snapshots of it
pub record IsSound (m : Machine) : Type 0 where
  pub history : IsSoundHistory m.history
  pub doubted : IsSoundHistory (history_or_more m)
  pub spelled : (s : ℕ) → HasSpelled (m.sessions s)
  pub answered : AnsweredFromSnapshots m

-- a control, or a statement of a session from 1 to 64 that some text spells
abbrev pub IsSpelledEvent : Event → Type 0
IsSpelledEvent (OfSession s st) = IsSession s × IsSpelled st
IsSpelledEvent (Control control) = Unit {0}
