-- What a definition's work leaves of the copies and of the choices.
use Rattle.std.specs.Prelude.{ℕ, Bool, false, ◌&&◌, ◌==◌, not, List, [], ◌∷◌, ◌++◌, length, map, filter, Option, Some, None, if◌then◌else◌}
use Rattle.odb_model.specs.Shadows.{Standing, Master, New, Online, Offline, Ready}
use Rattle.odb_machine.specs.Versions.{no_records}
use Rattle.odb_machine.specs.Copies.{Copy, Choice, Phase, Idle, Blank as BlankPhase, Filling, Resting, with_phase, copy_at, changed_at, rest_of, is_idle, is_source}
use Rattle.odb_machine.specs.Book.{Seen, is_told}
use Rattle.odb_machine.specs.MachineState.{Machine, with_honest}
use Rattle.odb_machine.specs.Plan.{Work, Nothing, Format, Blank, GoesOnline, GoesOffline, GetsReady, BecomesMaster, Drop}

-- with one copy more
abbrev pub with_new : Machine → Copy → Machine
with_new m c = record m { copies = m.copies ++ c ∷ [] }

-- with the copy of a file changed so
abbrev pub with_changed : Machine → ℕ → (Copy → Copy) → Machine
with_changed m file change = record m { copies = changed_at file change m.copies }

-- the copy of a new databank, which is complete to the present number
abbrev pub new_master : Machine → ℕ → Copy
new_master m file = record {
  file = file;
  bank = file;
  standing = Master;
  phase = Idle;
  mark = length m.history;
  records = no_records;
}

abbrev pub new_copy : ℕ → ℕ → Copy
new_copy file bank = record {
  file = file;
  bank = bank;
  standing = New;
  phase = BlankPhase;
  mark = 0;
  records = no_records;
}

abbrev pub with_standing : Standing → Phase → Copy → Copy
with_standing standing phase c = record c { standing = standing; phase = phase }

-- the source of a copying that is given up is one no more
abbrev pub freed : List Choice → ℕ → Copy → Copy
freed choices bank c =
    if (c.bank == bank) && is_source c.phase then with_phase c (rest_of choices c) else c

abbrev pub freed_by : Phase → Machine → ℕ → Machine
freed_by (Filling left) m bank = record m { copies = map (freed m.choices bank) m.copies }
freed_by other m bank = m

-- without the copy of a file
abbrev pub without_copy : ℕ → Machine → Machine
without_copy file m = record m { copies = filter (λ c. not (c.file == file)) m.copies }

abbrev pub without : Machine → ℕ → Option Copy → Machine
without m file None = m
without m file (Some c) = without_copy file (freed_by c.phase m c.bank)

-- the databank's master, which is another copy than this one
abbrev pub is_old_master : Copy → Copy → Standing → Bool
is_old_master c old Master = (old.bank == c.bank) && not (old.file == c.file)
is_old_master c old other = false

-- a copy that a choice made a working master, and that is none any more, may rest
abbrev pub settled : List Choice → Copy → Copy
settled choices c = if is_idle c.phase then with_phase c (rest_of choices c) else c

-- the copies once this one is its databank's master, by choices that name none for the databank
abbrev pub copies_under : List Choice → Copy → List Copy → List Copy
copies_under choices c copies =
    map (λ d. if d.file == c.file then with_standing Master Idle d else settled choices d)
    (filter (λ d. not (is_old_master c d d.standing)) copies)

-- the choices without one for the databank
abbrev pub choices_without : ℕ → List Choice → List Choice
choices_without bank choices = filter (λ choice. not (choice.bank == bank)) choices

-- The copy is its databank's master and working master: a choice for the databank is dropped, and the
-- old master's file is no copy any more
abbrev pub under : Machine → Option Copy → Machine
under m None = m
under m (Some c) = record m {
  choices = choices_without c.bank m.choices;
  copies = copies_under (choices_without c.bank m.choices) c m.copies;
}

-- the machine behind a definition's work, but for the definition's entry
abbrev pub worked : Machine → Seen → Work → Machine
worked m seen Nothing = m
worked m seen (Format file) = with_honest (with_new m (new_master m file)) file (is_told seen file)
worked m seen (Blank file bank) = with_honest (with_new m (new_copy file bank)) file false
worked m seen (GoesOnline file) = with_changed m file (with_standing Online Idle)
worked m seen (GoesOffline file) = with_changed m file (with_standing Offline Resting)
worked m seen (GetsReady file) = with_changed m file (with_standing Ready Resting)
worked m seen (BecomesMaster file) = under m (copy_at m.copies file)
worked m seen (Drop file) = without m file (copy_at m.copies file)
