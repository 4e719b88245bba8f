-- The numbers and texts of the program's statuses.
use Rattle.std.specs.Prelude.{ℕ, List, [], ◌++◌, codes, decimal}
use Rattle.odb_model.specs.declared.status.Status.{Status}
use Rattle.odb_model.specs.declared.status.Status.TheVariants.{Done, Usage, ReadFault, WriteFault, FileFault, NoDatabase, Exists, Damaged, NotHeld, InputTooLong, NoMemory, NotACopy, Unfinished}

abbrev pub number_of : Status → ℕ
number_of Done = 0
number_of Usage = 2
number_of ReadFault = 3
number_of WriteFault = 4
number_of (FileFault file) = 5
number_of NoDatabase = 6
number_of Exists = 7
number_of (Damaged file at) = 8
number_of (NotHeld bank mark first) = 9
number_of InputTooLong = 10
number_of NoMemory = 11
number_of (NotACopy bank file) = 12
number_of (Unfinished file) = 13

abbrev pub text_of : Status → List ℕ
text_of Done = []
text_of Usage = codes "optsql: usage"
text_of ReadFault = codes "optsql: read fault"
text_of WriteFault = codes "optsql: write fault"
text_of (FileFault file) = codes "optsql: fault: file " ++ decimal file
text_of NoDatabase = codes "optsql: no database"
text_of Exists = codes "optsql: database exists"
text_of (Damaged file at) =
    codes "optsql: damaged: file " ++ decimal file ++ codes " at " ++ decimal at
text_of (NotHeld bank mark first) =
    codes "optsql: not held: bank " ++ decimal bank ++ codes " mark " ++ decimal mark
    ++ codes " first " ++ decimal first
text_of InputTooLong = codes "optsql: input too long"
text_of NoMemory = codes "optsql: no memory"
text_of (NotACopy bank file) =
    codes "optsql: not a copy: bank " ++ decimal bank ++ codes " file " ++ decimal file
text_of (Unfinished file) = codes "optsql: unfinished: file " ++ decimal file
