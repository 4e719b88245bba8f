-- TRANSDB in numbers: two sides, one of which takes the new records.
use Rattle.std.specs.Prelude.{ℕ, zero, suc, ◌-◌, ◌==◌, List, drop, if◌then◌else◌}
use Rattle.odb_model.specs.declared.entry.Entry.{Entry}
use Rattle.odb_model.specs.declared.side.OtherSide.{OtherSide}
use Rattle.odb_model.specs.declared.side.OtherSide.TheVariants.{Live, Dirty, Clean}
use Rattle.odb_model.specs.Width.{records_width}

-- the bytes of a side, the active side, 0 or 1, the state of the other one, and the number of each
-- side's first entry
pub record Sides : Type 0 where
  pub side_size : ℕ
  pub active : ℕ
  pub other : OtherSide
  pub first0 : ℕ
  pub first1 : ℕ

-- the number of a side's first entry
abbrev pub first_on : Sides → ℕ → ℕ
first_on sides zero = sides.first0
first_on sides (suc side) = sides.first1

abbrev pub active_first : Sides → ℕ
active_first sides = first_on sides sides.active

-- the bytes that a history leaves for records on the active side: each entry there, numbered from
-- the side's first on, has its record
abbrev pub room_left : Sides → List Entry → ℕ
room_left sides h = sides.side_size - records_width (drop (active_first sides - 1) h)

-- the side that isn't active
abbrev pub other_side : Sides → ℕ
other_side sides = if sides.active == 0 then 1 else 0

abbrev pub first_by : Sides → OtherSide → ℕ
first_by sides Live = first_on sides (other_side sides)
first_by sides Dirty = active_first sides
first_by sides Clean = active_first sides

-- the number of the first entry that TRANSDB holds: the first of the live side, or of the active one
-- where none is live
abbrev pub first_in : Sides → ℕ
first_in sides = first_by sides sides.other

-- TURN: the other side is active, from this number on, and the one that was active is live
abbrev pub turned : ℕ → Sides → Sides
turned next sides =
    if sides.active == 0 then record sides { active = 1; other = Live; first1 = next }
    else record sides { active = 0; other = Live; first0 = next }

-- the sides with this state of the one that isn't active
abbrev pub with_other : OtherSide → Sides → Sides
with_other state sides = record sides { other = state }
