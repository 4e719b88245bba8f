-- How the databanks of the dictionary are gone through, row by row.
use Rattle.std.specs.Prelude.{ℕ, ◌&&◌, ◌==◌, List, [], ◌∷◌, ◌++◌, Option, Some, None, if◌then◌else◌}
use Rattle.odb_model.specs.Table.{is_named}
use Rattle.odb_model.specs.Dictionary.{is_number_from}
use Rattle.odb_model.specs.Databanks.{Databank, is_databank_number, may_be_copy}
use Rattle.odb_catalog.specs.declared.databank.DatabankRow.{DatabankRow}

-- a databank without its name
abbrev pub without_name : Databank → DatabankRow
without_name b = record { number = b.number; file = b.file }

-- the databank of a row with these numbers, where they are those of one
abbrev pub databank_from : List ℕ → Option ℕ → Option ℕ → Option ℕ → Option Databank
databank_from name (Some number) (Some option) (Some file) =
    if is_databank_number name number && (option == 1) && is_number_from 4 file
    then Some (record { name = name; number = number; file = file })
    else None
databank_from name number option file = None

-- the number of a databank behind copies of these files, where it counts and has this name
abbrev pub number_found : List ℕ → List ℕ → Option Databank → Option ℕ
number_found files name None = None
number_found files name (Some b) =
    if may_be_copy files b.file && is_named name b.name then Some b.number else None

-- the files of copies behind a databank: its own too, where it counts
abbrev pub files_after : List ℕ → Option Databank → List ℕ
files_after files None = files
files_after files (Some b) = if may_be_copy files b.file then files ++ b.file ∷ [] else files
