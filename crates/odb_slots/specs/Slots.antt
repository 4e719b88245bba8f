-- The slots of a databank file: a gate of one byte and a body of 1,023, one behind another from
-- byte 1,024 on.
use Rattle.std.specs.Prelude.{ℕ, ◌+◌, ◌*◌, ◌==◌, if◌then◌else◌, List, slice_index, Option, None}
use Rattle.odb_device.specs.Images.{part}

-- a gate is open exactly where it is this byte
abbrev pub OPEN : ℕ
OPEN = 0xA5

-- where slot n begins, with its gate
abbrev pub slot_place : ℕ → ℕ
slot_place n = 1024 + 1024 * n

unfoldable pub gate_at : ℕ → List ℕ → ℕ
gate_at n bytes = slice_index bytes (slot_place n)

unfoldable pub body_at : ℕ → List ℕ → List ℕ
body_at n bytes = part (slot_place n + 1) 1023 bytes

-- what counts of what a slot spells: behind a closed gate nothing
abbrev pub behind : {T : Type 0} → ℕ → Option T → Option T
behind gate spelled = if gate == OPEN then spelled else None
