-- Whether what the databanks are read from is known to come from the history, and by which copies a
-- database can be opened. The claims on a run and on a crash speak of these.
use Rattle.std.specs.Prelude.{◌≡◌, ℕ, Bool, true, false, ◌&&◌, ◌||◌, ◌==◌, not, List, [], ◌∷◌}
use Rattle.std.specs.List.{list_all, list_any}
use Rattle.odb_machine.specs.Sides.{first_in}
use Rattle.odb_machine.specs.Log.{lacks_from}
use Rattle.odb_machine.specs.Copies.{Copy, Choice, is_working}
use Rattle.odb_machine.specs.MachineState.{Machine, held_from}
use Rattle.odb_machine.specs.Arranged.{choices_without}
use Rattle.odb_machine.specs.Covered.{is_asked}
use Rattle.odb_machine.specs.Play.{Answer}

-- TRANSDB holds each entry above the copy's mark, or LOGDB is known to come from the history
abbrev pub is_supplied : Machine → Copy → Bool
is_supplied m c = not (lacks_from (first_in m.sides) c.mark) || m.honest 1

abbrev pub are_masters : (Copy → Bool) → Machine → Bool
are_masters test m = list_all (λ c. not (is_working m.choices c) || test c) m.copies

-- each working master is honest
abbrev pub has_honest_masters : Machine → Bool
has_honest_masters m = are_masters (λ c. m.honest c.file) m

-- and so are the entries above its mark
abbrev pub has_trusted_masters : Machine → Bool
has_trusted_masters m = are_masters (λ c. m.honest c.file && is_supplied m c) m

-- the file is a working master
abbrev pub is_master_file : Machine → ℕ → Bool
is_master_file m file = list_any (λ c. (c.file == file) && is_working m.choices c) m.copies

-- After a step each working master is honest. So is LOGDB where one needs it that the step made. A file
-- that a choice named as the database was opened isn't one that a step made: of it the choices'
-- admissibility tells
abbrev pub makes_trusted : Machine → Machine → Bool
makes_trusted m after =
    are_masters (λ c. after.honest c.file && (is_master_file m c.file || is_supplied after c)) after

-- each file that becomes a master in these steps is trusted
abbrev pub are_trusted_steps : Machine → List Answer → Bool
are_trusted_steps m [] = true
are_trusted_steps m (answer ∷ answers) =
    makes_trusted m answer.after && are_trusted_steps answer.after answers

-- the copy in the place of the file that the choices name for its databank
abbrev pub with_choice : Copy → List Choice → List Choice
with_choice c choices =
    record { bank = c.bank; file = c.file } ∷ choices_without c.bank choices

-- A database can be opened by this copy: it is neither new nor out, and honest; the entries above its
-- mark are held; and they are known to come from the history
pub record IsOpenable (m : Machine) (c : Copy) : Type 0 where
  pub asked : is_asked c ≡ true
  pub honest : m.honest c.file ≡ true
  pub held : lacks_from (held_from m) c.mark ≡ false
  pub supplied : is_supplied m c ≡ true
