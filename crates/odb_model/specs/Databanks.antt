-- Which databanks the dictionary of a state tells of, and which number it gives next. The row of a
-- databank stands in table 6 at the key (1, the databank's name), and that of the next number at
-- (5, NEXT). SYSDB, MAIN and a shadow of SYSDB are fixed. The forms are this project's own.
use Rattle.std.specs.Prelude.{ℕ, pos, Bool, ◌&&◌, ◌||◌, ◌==◌, nat_lt, not, List, [], ◌∷◌, ◌++◌, length, codes, find, Option, Some, None, option_and_then, unwrap_or, if◌then◌else◌}
use Rattle.std.specs.List.{list_any, filter_map}
use Rattle.std.specs.FinMap.{get, entries}
use Rattle.odb_values.specs.declared.value.Value.{Value}
use Rattle.odb_values.specs.declared.value.Value.TheVariants.{Int, Text}
use Rattle.odb_values.specs.declared.edge.Edge.TheVariants.{Free}
use Rattle.odb_values.specs.declared.range.Range.{Range}
use Rattle.odb_model.specs.declared.table_key.TableKey.{TableKey}
use Rattle.odb_model.specs.State.{State, part_in}
use Rattle.odb_model.specs.Table.{is_named}
use Rattle.odb_model.specs.Dictionary.{has_name_form, is_number_from}

-- the number of the dictionary's table
abbrev pub dictionary_table : ℕ
dictionary_table = 6

-- the kinds of its rows: of a databank, of a table, and of the next number
abbrev pub databank_kind : ℕ
databank_kind = 1

abbrev pub table_kind : ℕ
table_kind = 2

abbrev pub number_kind : ℕ
number_kind = 5

-- the key of a row of the dictionary, by its kind and its name. That of a table's is `dictionary_key`
abbrev pub row_key : ℕ → List ℕ → List Value
row_key kind name = Int (pos kind) ∷ Text name ∷ []

abbrev pub in_row : ℕ → List ℕ → TableKey
in_row kind name = record { table = dictionary_table; key = row_key kind name }

-- a databank: its name, its number, and the file of its master
pub record Databank : Type 0 where
  pub name : List ℕ
  pub number : ℕ
  pub file : ℕ

abbrev pub sysdb : Databank
sysdb = record { name = codes "SYSDB"; number = 2; file = 2 }

abbrev pub main : Databank
main = record { name = codes "MAIN"; number = 4; file = 4 }

-- the file of the fixed shadow of SYSDB
abbrev pub fixed_shadow : ℕ
fixed_shadow = 3

abbrev pub is_main : List ℕ → Bool
is_main name = is_named name (codes "MAIN")

abbrev pub is_sysdb : List ℕ → Bool
is_sysdb name = is_named name (codes "SYSDB")

-- MAIN's number is 4, any other is at least 16
abbrev pub is_databank_number : List ℕ → ℕ → Bool
is_databank_number name n = if is_main name then n == 4 else is_number_from 16 n

-- the databank of this name that a row tells of: its number, its option, 1 for LOG, and the file of
-- its master. A row without this form counts as absent
abbrev pub databank_in_row : List ℕ → List Value → Option Databank
databank_in_row name (Int (pos number) ∷ Int (pos option) ∷ Int (pos file) ∷ []) =
    if is_databank_number name number && (option == 1) && is_number_from 4 file
    then Some (record { name = name; number = number; file = file })
    else None
databank_in_row name other = None

-- a row for MAIN takes the place of the fixed one
abbrev pub main_in : State → Databank
main_in s =
    unwrap_or (option_and_then (databank_in_row (codes "MAIN")) (get s (in_row databank_kind (codes "MAIN")))) main

-- the name in the key of a row of a databank other than the fixed ones: a row for SYSDB counts as
-- absent, and that of MAIN is looked for by itself
abbrev pub name_in_key : List Value → Option (List ℕ)
name_in_key (Int (pos kind) ∷ Text name ∷ []) =
    if (kind == databank_kind) && has_name_form name && not (is_sysdb name || is_main name) then Some name
    else None
name_in_key key = None

-- the rows of databanks
abbrev pub databank_rows : Range
databank_rows = record {
  table = dictionary_table;
  prefix = Int (pos databank_kind) ∷ [];
  low = Free;
  high = Free;
}

-- the databank, other than a fixed one, that a row of the dictionary tells of
abbrev pub databank_of : List Value → List Value → Option Databank
databank_of key row = option_and_then (λ name. databank_in_row name row) (name_in_key key)

-- those that the dictionary's rows tell of, in the order of their names
abbrev pub databanks_told : List (TableKey × List Value) → List Databank
databanks_told rows = filter_map (λ e. databank_of e.0.key e.1) rows

-- the files that copies of databanks may be, the fixed ones among them
abbrev pub most_copies : ℕ
most_copies = 16

-- none of these copies is this file, and there may be a further copy
abbrev pub may_be_copy : List ℕ → ℕ → Bool
may_be_copy files file = not (list_any (λ other. other == file) files) && nat_lt (length files) most_copies

-- The databanks that count, of these in the order of their names, behind copies of these files. One
-- counts as absent where a copy before it has its file, or where it would be a copy past the sixteenth
abbrev pub that_count : List ℕ → List Databank → List Databank
that_count files [] = []
that_count files (b ∷ banks) =
    if may_be_copy files b.file then b ∷ that_count (files ++ b.file ∷ []) banks
    else that_count files banks

-- the files of the fixed copies
abbrev pub fixed_files : State → List ℕ
fixed_files s = sysdb.file ∷ fixed_shadow ∷ (main_in s).file ∷ []

-- the databanks of a state's dictionary
abbrev pub databanks : State → List Databank
databanks s =
    sysdb ∷ main_in s
    ∷ that_count (fixed_files s) (databanks_told (entries (part_in databank_rows s)))

abbrev pub databank_named : State → List ℕ → Option Databank
databank_named s name = find (λ b. is_named name b.name) (databanks s)

-- the next number, from a row of it
abbrev pub number_in_row : List Value → Option ℕ
number_in_row (Int (pos n) ∷ []) = if is_number_from 16 n then Some n else None
number_in_row other = None

-- The number that the next object gets. All that have numbers get different ones, since it only
-- rises
abbrev pub next_number : State → ℕ
next_number s = unwrap_or (option_and_then number_in_row (get s (in_row number_kind (codes "NEXT")))) 16
