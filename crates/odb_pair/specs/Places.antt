-- A value of forty bytes at two places of a file: what bytes stand for. Each place has 64 bytes: a
-- gate, a number of eight bytes, the value, and fifteen bytes that are not looked at. They stand at
-- bytes 0 and 512.
use Rattle.std.specs.Prelude.{◌≡◌, ℕ, ◌+◌, ◌*◌, ◌%◌, ◌^◌, Bool, not, ◌&&◌, ◌==◌, nat_lt, if◌then◌else◌, List, length, slice_index}
use Rattle.std.specs.Int.{w64, from_be_bytes}
use Rattle.odb_device.specs.Images.{part}

-- a gate is open exactly where it is this byte
abbrev pub OPEN : ℕ
OPEN = 0xA5

unfoldable pub gate : ℕ → List ℕ → ℕ
gate place bytes = slice_index bytes (512 * place)

unfoldable pub sequence : ℕ → List ℕ → ℕ
sequence place bytes = from_be_bytes w64 (part (512 * place + 1) 8 bytes)

unfoldable pub payload : ℕ → List ℕ → List ℕ
payload place bytes = part (512 * place + 9) 40 bytes

-- the number after, modulo 2^64
unfoldable pub next : ℕ → ℕ
next n = (n + 1) % 2 ^ 64

abbrev pub is_open : ℕ → List ℕ → Bool
is_open place bytes = gate place bytes == OPEN

-- the number of this place comes after that of the other
abbrev pub follows : ℕ → ℕ → List ℕ → Bool
follows place other bytes = sequence place bytes == next (sequence other bytes)

-- what bytes stand for
pub data Opened : Type 0 where
  no_open_place : Opened
  malformed : Opened
  holding : List ℕ → Opened

-- The place that is open counts; of two, the one whose number comes after the other's.
abbrev pub opened : List ℕ → Opened
opened bytes =
    if not (is_open 0 bytes) && not (is_open 1 bytes) then no_open_place
    else if nat_lt (length bytes) 1024 then malformed
    else if not (is_open 1 bytes) then holding (payload 0 bytes)
    else if not (is_open 0 bytes) then holding (payload 1 bytes)
    else if follows 1 0 bytes then holding (payload 1 bytes)
    else if follows 0 1 bytes then holding (payload 0 bytes)
    else malformed

-- they stand for this value
abbrev pub Holds : List ℕ → List ℕ → Type 0
Holds value bytes = opened bytes ≡ holding value
