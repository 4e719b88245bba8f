-- TURN and CLEAN of TRANSDB's sides, once nothing refuses them.
use Rattle.std.specs.Prelude.{◌≡◌, ◌≢◌, ◌⊎◌, ℕ, ◌+◌, true, false, length}
use Rattle.odb_model.specs.declared.side.OtherSide.TheVariants.{Dirty, Clean}
use Rattle.odb_model.specs.declared.reply.Reply.{Reply}
use Rattle.odb_model.specs.declared.reply.Reply.TheVariants.{Turned, Cleaned, Fault}
use Rattle.odb_machine.specs.Sides.{other_side, turned, with_other}
use Rattle.odb_machine.specs.Book.{Seen}
use Rattle.odb_machine.specs.MachineState.{Machine, with_sides}

-- the number of the next entry
abbrev pub next_in : Machine → ℕ
next_in m = length m.history + 1

-- the other side takes the next entry, and the one that was active is live
abbrev pub behind_turn : Machine → Machine
behind_turn m = record m { sides = turned (next_in m) m.sides; may_turn = false }

-- the sides on the disk may be those of a turn that was broken off
abbrev pub broken_off : Machine → Machine
broken_off m = record m { may_turn = true }

-- TURN. After a fault the machine's sides are as before
abbrev pub TurnsSides : Machine → Seen → Reply → Machine → Type 0
TurnsSides m seen (Turned side first) after =
    (side ≡ other_side m.sides) × (first ≡ next_in m) × (after ≡ behind_turn m)
TurnsSides m seen (Fault f) after =
    (f ≡ 0) × (seen.rose 0 ≡ true) × (after ≡ broken_off m)
TurnsSides m seen reply after = ⊥

-- a first number on the disk may now be lower than the machine's
abbrev pub lagging : Machine → Machine
lagging m = record m { may_lag = true }

-- CLEAN: the other side is zeros, and holds no entry. A side that is clean is left, so that no fault
-- comes of it; after a fault the side may be dirty
abbrev pub CleansSide : Machine → Seen → Reply → Machine → Type 0
CleansSide m seen Cleaned after = after ≡ with_sides m (with_other Clean m.sides)
CleansSide m seen (Fault f) after =
    (f ≡ 0) × (seen.rose 0 ≡ true) × (m.sides.other ≢ Clean)
    × ((after ≡ lagging m) ⊎ (after ≡ with_sides (lagging m) (with_other Dirty m.sides)))
CleansSide m seen reply after = ⊥
