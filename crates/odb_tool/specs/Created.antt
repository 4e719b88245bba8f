-- What `create` makes of the files that it finds.
use Rattle.std.specs.Prelude.{◌≡◌, ◌≢◌, ◌⊎◌, ℕ, Bool, true, false, ◌||◌, ◌==◌, [], Option, IfSome}
use Rattle.odb_device.specs.World.{File, World, file_of}
use Rattle.odb_device.specs.Images.{EachImage, TornFrom}
use Rattle.odb_device.specs.Calls.{Keeps, FileCountRose}
use Rattle.odb_device.specs.Moments.{Runs, WritesWithin}
use Rattle.odb_device.specs.Steps.{Steps, Files, IsQuiet}
use Rattle.odb_model.specs.declared.status.Status.{Status}
use Rattle.odb_model.specs.declared.status.Status.TheVariants.{Done, Usage, ReadFault, WriteFault, FileFault, NoDatabase, Exists, Damaged, NotHeld, InputTooLong, NoMemory, NotACopy, Unfinished}
use Rattle.odb_pair.specs.Places.{Opened, no_open_place, opened}
use Rattle.odb_transdb.specs.Header.{new_header}
use Rattle.odb_transdb.specs.Opened.{Holds}
use Rattle.odb_transdb.specs.Steps.{PairComesLast}
use Rattle.odb_bank.specs.History.{History}
use Rattle.odb_bank.specs.Files.{StandsAt}

-- Which status may come, by the pair at the front of file 0: Exists exactly where it has an open
-- place; a fault and want of memory of any
abbrev pub IsCreationOf : Status → Opened → Type 0
IsCreationOf Done pair = pair ≡ no_open_place
IsCreationOf Exists pair = pair ≢ no_open_place
IsCreationOf (FileFault file) pair = Unit {0}
IsCreationOf Usage pair = ⊥
IsCreationOf ReadFault pair = ⊥
IsCreationOf WriteFault pair = ⊥
IsCreationOf NoDatabase pair = ⊥
IsCreationOf (Damaged file at) pair = ⊥
IsCreationOf (NotHeld bank mark first) pair = ⊥
IsCreationOf InputTooLong pair = ⊥
IsCreationOf NoMemory pair = Unit {0}
IsCreationOf (NotACopy bank file) pair = ⊥
IsCreationOf (Unfinished file) pair = ⊥

-- the files that `create` makes: TRANSDB, that of the databank SYSDB, its shadow, and that of MAIN
abbrev pub is_made : ℕ → Bool
is_made file = (file == 0) || ((file == 2) || ((file == 3) || (file == 4)))

-- each other file is as it was in that world
abbrev pub LeavesOthers : World → ℕ → Option File → Type 0
LeavesOthers old file now = is_made file ≡ false → now ≡ file_of file old

-- at each moment just these files and counts of faults are changed, and nothing is said or taken
pub record MakesFiles (old new : World) : Type 0 where
  pub steps : Steps (Files (LeavesOthers old)) old new
  pub quiet : IsQuiet old new

-- every image of the file is one of this databank with the mark 0, which stands for whatever history
abbrev pub IsNewDatabank : ℕ → ℕ → World → Type 0
IsNewDatabank bank file w = (h : History) → EachImage (StandsAt bank h 0) (file_of file w)

-- a new database: every image of file 0 is a TRANSDB without entries, with sides of so many KiB, and
-- the files of the databanks are new
pub record HasDatabase (side_kib : ℕ) (w : World) : Type 0 where
  pub transdb : EachImage (Holds (new_header side_kib) []) (file_of 0 w)
  pub sysdb : IsNewDatabank 2 2 w
  pub shadow : IsNewDatabank 2 3 w
  pub main : IsNewDatabank 4 4 w

-- at each moment TRANSDB is as it was
abbrev pub KeepsLog : World → World → Type 0
KeepsLog old new = Steps (Files (λ g now. g ≡ 0 → now ≡ file_of 0 old)) old new

-- or each image of it is one from before
abbrev pub LeavesLog : World → World → Type 0
LeavesLog old new = Steps (Files (λ g now. g ≡ 0 → TornFrom 0 0 (file_of 0 old) now)) old new

-- TRANSDB comes last: it is left until the files of the databanks are new, and of it the pair comes
-- last
pub record ComesLast
    (side_kib : ℕ) (Leaves : World → World → Type 0) (old new : World) : Type 0 where
  pub mid : World
  pub left : Leaves old mid
  pub sysdb : IsNewDatabank 2 2 mid
  pub shadow : IsNewDatabank 2 3 mid
  pub main : IsNewDatabank 4 4 mid
  pub log : Runs 0 (PairComesLast (new_header side_kib) (file_of 0 mid)) mid new

-- TRANSDB is left, or it comes last
abbrev pub MakesInOrder : ℕ → (World → World → Type 0) → World → World → Type 0
MakesInOrder side_kib Leaves old new = Leaves old new ⊎ ComesLast side_kib Leaves old new

-- Done: there is a new database, with sides of so many KiB. Exists: the bytes of file 0 are as before,
-- and on the disk
abbrev pub CreateOutcome : ℕ → Status → World → World → Type 0
CreateOutcome side_kib Done old new = HasDatabase side_kib new
CreateOutcome side_kib Exists old new = Keeps 0 old new
CreateOutcome side_kib status old new = Unit {0}

-- the statuses that it may end with
abbrev pub IsCreateStatus : Status → Type 0
IsCreateStatus Done = Unit {0}
IsCreateStatus Exists = Unit {0}
IsCreateStatus (FileFault file) = Unit {0}
IsCreateStatus NoMemory = Unit {0}
IsCreateStatus other = ⊥

-- a database that is there is left, also where a call fails: where the pair of file 0 has an open
-- place, nothing is written, at every moment each image of that file is one from before, and every
-- other file is as it was
abbrev pub LeavesDatabase : World → World → Type 0
LeavesDatabase old new =
    IfSome (file_of 0 old) (λ f. opened f.bytes ≢ no_open_place → WritesWithin 0 0 0 old new)

-- what `create` does with sides of so many KiB, in a call that ends with this status
pub record DoesCreate (side_kib : ℕ) (status : Status) (old new : World) : Type 0 where
  pub ends : IsCreateStatus status
  pub created : CreateOutcome side_kib status old new
  pub found : IfSome (file_of 0 old) (λ f. IsCreationOf status (opened f.bytes))
  pub leaves : LeavesDatabase old new
  pub files : MakesFiles old new
  pub order : MakesInOrder side_kib LeavesLog old new
  pub fault : (file : ℕ) → status ≡ FileFault file
      → (is_made file ≡ true) × FileCountRose file old new
