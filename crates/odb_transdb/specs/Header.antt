-- The forty bytes that TRANSDB keeps in its pair: what its two sides are.
use Rattle.std.specs.Prelude.{ℕ, zero, suc, ◌+◌, ◌*◌, ◌^◌, ◌==◌, Bool, ◌&&◌, List, [], ◌∷◌, ◌++◌, replicate, slice_index, Option, Some, None, if◌then◌else◌}
use Rattle.std.specs.Int.{w16, w64, to_be_bytes, from_be_bytes, is_in_range}
use Rattle.std.specs.Cmp.Lexicographic.{pointwise}
use Rattle.odb_device.specs.Images.{part}
use Rattle.odb_model.specs.declared.side.OtherSide.{OtherSide}
use Rattle.odb_model.specs.declared.side.OtherSide.TheVariants.{Live, Dirty, Clean}
use Rattle.odb_transdb.specs.declared.header.Header.{Header}

-- the byte that tells the state of the side that isn't active
abbrev pub state_byte : OtherSide → ℕ
state_byte Live = 1
state_byte Dirty = 2
state_byte Clean = 3

-- The format in 2 bytes, the size of a side in KiB in 2, the active side in 1, the state of the
-- other in 1, the first numbers of side 0 and of side 1 in 8 each, and 18 zeros. Numbers are
-- big-endian
unfoldable pub header_image : Header → List ℕ
header_image h =
    to_be_bytes w16 h.format ++ to_be_bytes w16 h.side_kib ++ (h.active ∷ state_byte h.other ∷ [])
    ++ to_be_bytes w64 h.first0 ++ to_be_bytes w64 h.first1 ++ replicate 18 0

-- format 1, sides of 64 to 16,384 KiB, side 0 or 1, and first numbers from 1 to one more than a
-- history may have entries
abbrev pub is_header : Header → Bool
is_header h =
    (h.format == 1) && is_in_range 64 16384 h.side_kib && is_in_range 0 1 h.active
    && is_in_range 1 (2 ^ 48 + 1) h.first0 && is_in_range 1 (2 ^ 48 + 1) h.first1

-- the state that a byte tells
abbrev pub state_of : ℕ → Option OtherSide
state_of zero = None
state_of (suc zero) = Some Live
state_of (suc (suc zero)) = Some Dirty
state_of (suc (suc (suc zero))) = Some Clean
state_of (suc (suc (suc (suc n)))) = None

-- the fields that stand at their places in forty bytes, whatever the rest is
abbrev pub with_fields : List ℕ → OtherSide → Header
with_fields bytes other = record {
  format = from_be_bytes w16 (part 0 2 bytes);
  side_kib = from_be_bytes w16 (part 2 2 bytes);
  active = slice_index bytes 4;
  other = other;
  first0 = from_be_bytes w64 (part 6 8 bytes);
  first1 = from_be_bytes w64 (part 14 8 bytes);
}

-- the header, where it is lawful and the bytes are its image
abbrev pub checked : List ℕ → Header → Option Header
checked bytes h = if is_header h && pointwise ◌==◌ (header_image h) bytes then Some h else None

abbrev pub with_state : List ℕ → Option OtherSide → Option Header
with_state bytes None = None
with_state bytes (Some other) = checked bytes (with_fields bytes other)

-- the header that forty bytes are the image of; None where they are that of no lawful one
unfoldable pub header_of : List ℕ → Option Header
header_of bytes = with_state bytes (state_of (slice_index bytes 5))

-- the bytes of a side
abbrev pub side_size : Header → ℕ
side_size h = 1024 * h.side_kib

-- the first byte of a side, 0 or 1, and the one behind it
abbrev pub side_start : Header → ℕ → ℕ
side_start h side = 1024 + side * side_size h

abbrev pub side_end : Header → ℕ → ℕ
side_end h side = side_start h side + side_size h

-- the bytes that the file has at least
abbrev pub file_size : Header → ℕ
file_size h = 1024 + 2 * side_size h

-- the number of a side's first record
abbrev pub first_on : Header → ℕ → ℕ
first_on h zero = h.first0
first_on h (suc side) = h.first1

-- of the active side, and the other one
abbrev pub active_first : Header → ℕ
active_first h = first_on h h.active

abbrev pub other_of : Header → ℕ
other_of h = if h.active == 0 then 1 else 0

-- the number of the first entry held: the first of the Live side, or of the active side where none
-- is Live
abbrev pub first_by : Header → OtherSide → ℕ
first_by h Live = first_on h (other_of h)
first_by h Dirty = active_first h
first_by h Clean = active_first h

abbrev pub first_held : Header → ℕ
first_held h = first_by h h.other

-- what a new database has: side 0 active, side 1 clean, and both first numbers 1
abbrev pub new_header : ℕ → Header
new_header kib =
    record { format = 1; side_kib = kib; active = 0; other = Clean; first0 = 1; first1 = 1 }

-- the same header, with the other side in this state
abbrev pub with_other : OtherSide → Header → Header
with_other state h = record h { other = state }

-- After a turn: the side that wasn't active is, with this first number, and the one that was is Live
abbrev pub turned : ℕ → Header → Header
turned n h = record {
  format = h.format;
  side_kib = h.side_kib;
  active = other_of h;
  other = Live;
  first0 = if h.active == 0 then h.first0 else n;
  first1 = if h.active == 0 then n else h.first1;
}
