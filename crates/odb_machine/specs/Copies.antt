-- A copy of a databank in numbers: what it is at, and what its file holds.
use Rattle.std.specs.Prelude.{ℕ, Bool, true, false, ◌&&◌, ◌==◌, List, map, find, Option, Some, None, option_map, if◌then◌else◌}
use Rattle.std.specs.FinMap.{FinMap}
use Rattle.odb_model.specs.declared.phase.CopyPhase.{CopyPhase}
use Rattle.odb_model.specs.declared.phase.CopyPhase.TheVariants as name
use Rattle.odb_model.specs.State.{table_key_cmp}
use Rattle.odb_model.specs.Shadows.{Standing, Master, Offline, Ready}
use Rattle.odb_machine.specs.Versions.{Version, Records}

-- a turn: the number of its last entry, and per key its last write as a record
pub record Turn : Type 0 where
  pub reached : ℕ
  pub added : FinMap table_key_cmp Version

-- What a copy is at. Each phase carries what there is to know in it
pub data Phase : Type 0 where
  Idle : Phase
  -- the bodies of a turn are written, behind closed gates
  Bodies : Turn → Phase
  -- the gates are open of a turn that reaches this number
  Gates : ℕ → Phase
  -- it is being copied to a new copy
  Source : Phase
  Blank : Phase
  -- it is new, and so many records are left to be copied to it
  Filling : ℕ → Phase
  Copied : Phase
  Resting : Phase
  Out : Phase

-- Its file is complete to the mark and holds the records; a copy that is being filled is to get them.
-- One that is blank or out has the mark 0 and no records: so a definition and an opening make it
pub record Copy : Type 0 where
  pub file : ℕ
  pub bank : ℕ
  pub standing : Standing
  pub phase : Phase
  pub mark : ℕ
  pub records : Records

-- a databank is read from this file, and not from its master
pub record Choice : Type 0 where
  pub bank : ℕ
  pub file : ℕ

-- what a reply calls a phase
abbrev pub name_of : Phase → CopyPhase
name_of Idle = name.Idle
name_of (Bodies turn) = name.Bodies
name_of (Gates reached) = name.Gates
name_of Source = name.Source
name_of Blank = name.Blank
name_of (Filling left) = name.Filling
name_of Copied = name.Copied
name_of Resting = name.Resting
name_of Out = name.Out

abbrev pub with_phase : Copy → Phase → Copy
with_phase c p = record c { phase = p }

-- the copy in this file
abbrev pub copy_at : List Copy → ℕ → Option Copy
copy_at copies file = find (λ c. c.file == file) copies

-- the copies with the one in this file changed so, where there is one
abbrev pub changed_at : ℕ → (Copy → Copy) → List Copy → List Copy
changed_at file change copies = map (λ c. if c.file == file then change c else c) copies

-- the copies with this one in the place of that of its file
abbrev pub with_copy : Copy → List Copy → List Copy
with_copy c copies = changed_at c.file (λ old. c) copies

-- the file that the choices name for a databank
abbrev pub chosen : List Choice → ℕ → Option ℕ
chosen choices bank = option_map (λ c. c.file) (find (λ c. c.bank == bank) choices)

abbrev pub is_master : Standing → Bool
is_master Master = true
is_master other = false

abbrev pub is_read_by : Option ℕ → Copy → Bool
is_read_by None c = is_master c.standing
is_read_by (Some file) c = c.file == file

-- Its databank is read from this copy, the working master: the chosen file, or the dictionary's master
-- where none is chosen
abbrev pub is_working : List Choice → Copy → Bool
is_working choices c = is_read_by (chosen choices c.bank) c

-- the working master of a databank
abbrev pub working_of : List Choice → List Copy → ℕ → Option Copy
working_of choices copies bank = find (λ c. (c.bank == bank) && is_working choices c) copies

abbrev pub rests_by : Standing → Phase
rests_by Offline = Resting
rests_by Ready = Resting
rests_by other = Idle

-- What a copy is at once a turn or a copying of it is over. A copy that is offline or ready, and isn't
-- a working master, takes no turns
abbrev pub rest_of : List Choice → Copy → Phase
rest_of choices c = if is_working choices c then Idle else rests_by c.standing

abbrev pub is_idle : Phase → Bool
is_idle Idle = true
is_idle other = false

abbrev pub has_bodies : Phase → Bool
has_bodies (Bodies turn) = true
has_bodies other = false

abbrev pub has_gates : Phase → Bool
has_gates (Gates reached) = true
has_gates other = false

abbrev pub is_source : Phase → Bool
is_source Source = true
is_source other = false

abbrev pub is_copied : Phase → Bool
is_copied Copied = true
is_copied other = false

abbrev pub is_out : Phase → Bool
is_out Out = true
is_out other = false
