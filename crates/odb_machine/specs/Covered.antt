-- What the machine's numbers say of its files together: which entries are held, and that no copy lacks
-- one that isn't.
use Rattle.std.specs.Prelude.{◌≡◌, ◌+◌, ◌≤◌, Bool, true, false, ◌&&◌, not, length, Contains}
use Rattle.odb_machine.specs.Sides.{first_in}
use Rattle.odb_machine.specs.Log.{Log, Held, Span}
use Rattle.odb_model.specs.Shadows.{Standing, New}
use Rattle.odb_machine.specs.Copies.{Copy, is_out}
use Rattle.odb_machine.specs.MachineState.{Machine, held_from, copies_asked}
use Rattle.odb_machine.specs.Refusals.{is_needed_by}

abbrev pub is_new : Standing → Bool
is_new New = true
is_new other = false

-- something is asked of the file of the copy: it is neither new nor out
abbrev pub is_asked : Copy → Bool
is_asked c = not (is_new c.standing) && not (is_out c.phase)

-- it is a master, a working master, or an online or offline shadow, and isn't out
abbrev pub is_covered : Machine → Copy → Bool
is_covered m c = is_needed_by m c c.standing && not (is_out c.phase)

-- LOGDB doesn't go beyond the history; and where it is honest it goes on to where TRANSDB begins, or
-- further. One that isn't may have shown that records are gone
pub record Joins (m : Machine) (span : Span) : Type 0 where
  pub from : span.first ≤ span.last + 1
  pub to : span.last ≤ length m.history
  pub follows : m.honest 1 ≡ true → first_in m.sides ≤ span.last + 1

abbrev pub LogJoins : Machine → Log → Type 0
LogJoins m (Held span) = Joins m span
LogJoins m other = Unit {0}

-- Where LOGDB is honest, it and TRANSDB hold every entry from the first held on. That is at most one
-- above the mark of each master, working master, online and offline shadow that isn't out, those that
-- a definition in doubt would leave among them
pub record IsCovering (m : Machine) : Type 0 where
  pub joins : LogJoins m m.log
  pub within : first_in m.sides ≤ length m.history + 1
  pub covers : (c : Copy) → Contains (copies_asked m) c → is_covered m c ≡ true
      → held_from m ≤ c.mark + 1
