-- What the slots of a file have.
use Rattle.std.specs.Prelude.{◌≡◌, ℕ, zero, suc, nat_lt, if◌then◌else◌, List, [], ◌∷◌, ◌++◌, Option, Some, None}
use Rattle.odb_slots.specs.Slots.{OPEN, gate_at, body_at, behind}
use Rattle.odb_slots.specs.Bodies.{item_in}
use Rattle.odb_slots.specs.declared.item.SlotItem.{SlotItem}

-- What a slot spells, given its number, its body and the bodies of all slots. A record whose images
-- fit one slot needs its own body alone.
abbrev pub Spelling : Type 0 → Type 0
Spelling T = ℕ → List ℕ → (ℕ → List ℕ) → Option T

abbrev pub item_of : Spelling SlotItem
item_of n body bodies = item_in n body

abbrev pub spelled : {T : Type 0} → Spelling T → ℕ → List ℕ → Option T
spelled spell n bytes = spell n (body_at n bytes) (λ p. body_at p bytes)

-- what stands in slot n under an open gate; None under a closed one
abbrev pub open_at : {T : Type 0} → Spelling T → ℕ → List ℕ → Option T
open_at spell n bytes = behind (gate_at n bytes) (spelled spell n bytes)

-- what each slot has, of a file whose limit is so many slots; None past the limit
abbrev pub view_by : {T : Type 0} → Spelling T → ℕ → List ℕ → ℕ → Option T
view_by spell limit bytes n = if nat_lt n limit then open_at spell n bytes else None

abbrev pub view_of : ℕ → List ℕ → ℕ → Option SlotItem
view_of = view_by item_of

abbrev pub added : {T : Type 0} → List T → Option T → List T
added list None = list
added list (Some item) = list ++ item ∷ []

-- the records of a file whose limit is so many slots: the items of the open slots, in order
abbrev pub records_in : ℕ → List ℕ → List SlotItem
records_in zero bytes = []
records_in (suc n) bytes = added (records_in n bytes) (open_at item_of n bytes)

-- a gate is open, and nothing is spelled behind it
abbrev pub IsBad : {T : Type 0} → ℕ → Option T → Type 0
IsBad gate it = (gate ≡ OPEN) × (it ≡ None)

-- slot n is open and isn't in the slot grammar
abbrev pub IsMalformed : ℕ → List ℕ → Type 0
IsMalformed n bytes = IsBad (gate_at n bytes) (spelled item_of n bytes)
