-- What the bytes of an extent file stand for. Its pair keeps a limit, which counts extents of 2^20
-- bytes, and 36 bytes of its owner; the content begins behind the pair, at byte 1,024.
use Rattle.std.specs.Prelude.{◌≡◌, ℕ, ◌+◌, ◌*◌, ◌<◌, ◌≤◌, List, ◌++◌, length, if◌then◌else◌}
use Rattle.std.specs.Int.{w32, to_be_bytes, from_be_bytes, is_in_range}
use Rattle.odb_device.specs.Images.{part}
use Rattle.odb_device.specs.Zeros.{AreZero}
use Rattle.odb_pair.specs.Places.{Opened as PairOpened, no_open_place as no_place, malformed as malformed_pair, holding as holding_value, opened as pair_opened}

-- the first byte behind the content of so many extents
abbrev pub content_end : ℕ → ℕ
content_end limit = 1024 + 1048576 * limit

-- The forty bytes of the pair: the limit in 4 bytes, big-endian, and the owner's 36
unfoldable pub value_with : ℕ → List ℕ → List ℕ
value_with limit fields = to_be_bytes w32 limit ++ fields

unfoldable pub limit_in : List ℕ → ℕ
limit_in value = from_be_bytes w32 (part 0 4 value)

unfoldable pub fields_in : List ℕ → List ℕ
fields_in value = part 4 36 value

-- what bytes stand for
pub data Opened : Type 0 where
  no_open_place : Opened
  malformed : Opened
  holding : ℕ → List ℕ → Opened

-- a limit from 1 to `most` with the owner's fields
abbrev pub with_value : ℕ → List ℕ → Opened
with_value most value =
    if is_in_range 1 most (limit_in value) then holding (limit_in value) (fields_in value)
    else malformed

abbrev pub with_pair : ℕ → PairOpened → Opened
with_pair most no_place = no_open_place
with_pair most malformed_pair = malformed
with_pair most (holding_value value) = with_value most value

-- of a file that may have `most` extents: what its pair holds, where that has a limit from 1 to
-- `most`
abbrev pub opened : ℕ → List ℕ → Opened
opened most bytes = with_pair most (pair_opened bytes)

-- they hold this limit and these fields
abbrev pub Holds : ℕ → ℕ → List ℕ → List ℕ → Type 0
Holds most limit fields bytes = opened most bytes ≡ holding limit fields

-- what a greater limit adds to a lesser one is there, and zeros
pub record AddsZeros (from to : ℕ) (bytes : List ℕ) : Type 0 where
  pub long : from < to → content_end to ≤ length bytes
  pub zero : AreZero (content_end from) (content_end to) bytes
