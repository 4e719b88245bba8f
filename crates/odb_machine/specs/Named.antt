-- The copies of the machine are those that the dictionary names, and none has what the history hasn't.
use Rattle.std.specs.Prelude.{◌≡◌, ℕ, ◌≤◌, List, [], length}
use Rattle.std.specs.List.{All, AllZip}
use Rattle.odb_model.specs.declared.entry.Entry.{Entry}
use Rattle.odb_model.specs.State.{replay}
use Rattle.odb_model.specs.Shadows.{NamedCopy, copies_of}
use Rattle.odb_machine.specs.Copies.{Copy, Phase, Bodies, Gates, Blank, Out}
use Rattle.odb_machine.specs.MachineState.{Machine, history_or_more}

-- the copy is the one that is named
pub record IsNamed (named : NamedCopy) (c : Copy) : Type 0 where
  pub file : c.file ≡ named.file
  pub bank : c.bank ≡ named.bank
  pub standing : c.standing ≡ named.standing

-- just the copies that the dictionary after these entries names
abbrev pub AreNamed : List Entry → List Copy → Type 0
AreNamed h copies = AllZip IsNamed (copies_of (replay h)) copies

-- mark and number reached aren't above the number of entries; a copy that is blank or out has none
abbrev pub IsWithin : ℕ → Copy → Phase → Type 0
IsWithin number c Blank = Unit {0}
IsWithin number c Out = Unit {0}
IsWithin number c (Bodies turn) = (c.mark ≤ number) × (turn.reached ≤ number)
IsWithin number c (Gates reached) = (c.mark ≤ number) × (reached ≤ number)
IsWithin number c phase = c.mark ≤ number

-- those that a definition in doubt would leave are named by the dictionary with its entry
abbrev pub AreDoubted : Machine → List Copy → Type 0
AreDoubted m [] = Unit {0}
AreDoubted m copies = AreNamed (history_or_more m) copies

-- what a sound machine's copies meet
pub record HasSoundCopies (m : Machine) : Type 0 where
  pub named : AreNamed m.history m.copies
  pub doubted : AreDoubted m m.doubted
  pub within : All (λ c. IsWithin (length m.history) c c.phase) m.copies
