-- Which copies of databanks the dictionary of a state tells of: the masters, the shadow of SYSDB that
-- is fixed, and the shadows and backups, whose rows stand in table 6 at the keys (3, the shadow's name)
-- and (4, the backup's name). The forms are this project's own.
use Rattle.std.specs.Prelude.{ℕ, pos, Bool, ◌&&◌, ◌==◌, nat_le, not, List, [], ◌∷◌, ◌++◌, length, map, find, Option, Some, None, option_map, option_and_then, if◌then◌else◌}
use Rattle.std.specs.List.{list_any, filter_map}
use Rattle.std.specs.FinMap.{entries}
use Rattle.odb_values.specs.declared.value.Value.{Value}
use Rattle.odb_values.specs.declared.value.Value.TheVariants.{Int, Text}
use Rattle.odb_values.specs.declared.edge.Edge.TheVariants.{Free}
use Rattle.odb_values.specs.declared.range.Range.{Range}
use Rattle.odb_model.specs.declared.table_key.TableKey.{TableKey}
use Rattle.odb_model.specs.State.{State, part_in}
use Rattle.odb_model.specs.Table.{is_named}
use Rattle.odb_model.specs.Ordered.{ordered_by}
use Rattle.odb_model.specs.Dictionary.{has_name_form, is_number_from}
use Rattle.odb_model.specs.Databanks.{Databank, dictionary_table, sysdb, fixed_shadow, most_copies, may_be_copy, databanks}

-- the kinds of the rows of shadows and of backups
abbrev pub shadow_kind : ℕ
shadow_kind = 3

abbrev pub backup_kind : ℕ
backup_kind = 4

-- what the dictionary says of a copy
pub data Standing : Type 0 where
  Master : Standing
  New : Standing
  Online : Standing
  Offline : Standing
  Ready : Standing

-- a copy of a databank: its name, which the fixed shadow has none of, the number of its file, that of
-- its databank, and its standing
pub record NamedCopy : Type 0 where
  pub name : List ℕ
  pub file : ℕ
  pub bank : ℕ
  pub standing : Standing

-- the number by which a row tells a standing; no row tells that of a master
abbrev pub number_of : Standing → ℕ
number_of Master = 0
number_of New = 1
number_of Online = 2
number_of Offline = 3
number_of Ready = 4

-- what a number tells in the row of a shadow, and in that of a backup
abbrev pub shadow_standing : ℕ → Option Standing
shadow_standing n =
    if n == 1 then Some New else if n == 2 then Some Online
    else if n == 3 then Some Offline else None

abbrev pub backup_standing : ℕ → Option Standing
backup_standing n = if n == 1 then Some New else if n == 4 then Some Ready else None

-- what a number tells in a row of this kind
abbrev pub standing_by : ℕ → ℕ → Option Standing
standing_by kind n = if kind == shadow_kind then shadow_standing n else backup_standing n

abbrev pub named_copy : List ℕ → ℕ → ℕ → Standing → NamedCopy
named_copy name file bank standing =
    record { name = name; file = file; bank = bank; standing = standing }

-- the copy that a row of this kind and name tells of: its file, its databank, and its standing. A row
-- without this form counts as absent
abbrev pub copy_in_row : ℕ → List ℕ → List Value → Option NamedCopy
copy_in_row kind name (Int (pos file) ∷ Int (pos bank) ∷ Int (pos state) ∷ []) =
    if is_number_from 4 file && is_number_from 2 bank
    then option_map (named_copy name file bank) (standing_by kind state)
    else None
copy_in_row kind name other = None

-- the name in the key of a row of this kind
abbrev pub name_in : ℕ → List Value → Option (List ℕ)
name_in kind (Int (pos n) ∷ Text name ∷ []) =
    if (n == kind) && has_name_form name then Some name else None
name_in kind key = None

-- the rows of a kind
abbrev pub rows_of_kind : ℕ → Range
rows_of_kind kind = record {
  table = dictionary_table;
  prefix = Int (pos kind) ∷ [];
  low = Free;
  high = Free;
}

abbrev pub copy_of_row : ℕ → TableKey × List Value → Option NamedCopy
copy_of_row kind e = option_and_then (λ name. copy_in_row kind name e.1) (name_in kind e.0.key)

-- the copies that the rows of a kind tell of, in the order of their names
abbrev pub copies_told : ℕ → State → List NamedCopy
copies_told kind s = filter_map (copy_of_row kind) (entries (part_in (rows_of_kind kind) s))

-- its databank is there, and isn't SYSDB
abbrev pub has_databank : List Databank → NamedCopy → Bool
has_databank banks c =
    not (c.bank == sysdb.number) && list_any (λ b. b.number == c.bank) banks

-- The copies that count, of these in the order of their names, behind copies of these files. One
-- counts as absent where it has no databank but SYSDB, where a copy before it has its file, or where it
-- would be a copy past the sixteenth
abbrev pub copies_counted : List Databank → List ℕ → List NamedCopy → List NamedCopy
copies_counted banks files [] = []
copies_counted banks files (c ∷ copies) =
    if has_databank banks c && may_be_copy files c.file
    then c ∷ copies_counted banks (files ++ c.file ∷ []) copies
    else copies_counted banks files copies

abbrev pub master_of : Databank → NamedCopy
master_of b = record { name = b.name; file = b.file; bank = b.number; standing = Master }

-- the shadow of SYSDB that is fixed, and always online
abbrev pub shadow_of_sysdb : NamedCopy
shadow_of_sysdb =
    record { name = []; file = fixed_shadow; bank = sysdb.number; standing = Online }

-- the fixed shadow, and the masters
abbrev pub first_copies : State → List NamedCopy
first_copies s = shadow_of_sysdb ∷ map master_of (databanks s)

abbrev pub files_of : List NamedCopy → List ℕ
files_of copies = map (λ c. c.file) copies

abbrev pub shadows : State → List NamedCopy
shadows s =
    copies_counted (databanks s) (files_of (first_copies s)) (copies_told shadow_kind s)

abbrev pub backups : State → List NamedCopy
backups s =
    copies_counted (databanks s) (files_of (first_copies s ++ shadows s))
    (copies_told backup_kind s)

-- the shadows, or the backups
abbrev pub copies_of_kind : ℕ → State → List NamedCopy
copies_of_kind kind s = if kind == shadow_kind then shadows s else backups s

-- all copies
abbrev pub all_copies : State → List NamedCopy
all_copies s = first_copies s ++ shadows s ++ backups s

-- the copies of a state's dictionary, in ascending order of their files
abbrev pub copies_of : State → List NamedCopy
copies_of s = ordered_by (λ c. c.file) (all_copies s)

abbrev pub copy_named : List NamedCopy → List ℕ → Option NamedCopy
copy_named copies name = find (λ c. is_named name c.name) copies

-- there may be no further copy
abbrev pub is_full : State → Bool
is_full s = nat_le most_copies (length (all_copies s))
