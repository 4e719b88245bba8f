-- The machine as an opening finds it again where nothing failed since the last one: what a REOPEN makes
-- of it is then told by the machine alone.
use Rattle.std.specs.Prelude.{Bool, ◌&&◌, ◌||◌, not, is_some, List, map, if◌then◌else◌}
use Rattle.std.specs.List.{list_all}
use Rattle.odb_model.specs.Session.{Idle as IdleSession}
use Rattle.odb_machine.specs.Log.{is_log_out}
use Rattle.odb_model.specs.Shadows.{Standing, New}
use Rattle.odb_machine.specs.Versions.{no_records}
use Rattle.odb_machine.specs.Copies.{Copy, Choice, Phase, Idle, Blank, Out, with_phase, chosen, is_working, rests_by, is_out}
use Rattle.odb_machine.specs.MachineState.{Machine}

-- a copy that is blank or out has the mark 0 and no records
abbrev pub emptied : Phase → Copy → Copy
emptied phase c = record c { phase = phase; mark = 0; records = no_records }

-- a new copy is blank; any other rests, or is idle, with what its file holds
abbrev pub again_beside : Standing → Copy → Copy
again_beside New c = emptied Blank c
again_beside standing c = with_phase c (rests_by standing)

-- The working master is idle. Where a choice names the databank, all its other copies are out
abbrev pub again_by : List Choice → Copy → Copy
again_by choices c =
    if is_working choices c then with_phase c Idle
    else if is_some (chosen choices c.bank) then emptied Out c
    else again_beside c.standing c

-- each turn and each copying is given up, and each transaction is over
abbrev pub found_again : Machine → Machine
found_again m =
    record m { sessions = λ s. IdleSession; copies = map (again_by m.choices) m.copies }

-- LOGDB takes part, and no copy is out but by a choice that the machine has
abbrev pub takes_all : Machine → Bool
takes_all m =
    not (is_log_out m.log)
    && list_all (λ c. not (is_out c.phase) || is_some (chosen m.choices c.bank)) m.copies
