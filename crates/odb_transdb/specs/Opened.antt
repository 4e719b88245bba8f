-- What the bytes of file 0 stand for: no database, damage at a place, or the entries of a TRANSDB.
use Rattle.std.specs.Prelude.{◌≡◌, ℕ, ◌+◌, not, ◌==◌, nat_lt, List, [], ◌∷◌, ◌++◌, length, position, option_map, Option, Some, None, Result, Ok, Err, if◌then◌else◌}
use Rattle.odb_device.specs.World.{File}
use Rattle.odb_device.specs.Images.{part}
use Rattle.odb_pair.specs.Places.{Opened as PairOpened, no_open_place, malformed, holding as holding_value, opened as pair_opened}
use Rattle.odb_reclog.specs.Records.{HEAD, log_of, end_of_list}
use Rattle.odb_codec.specs.Reading.{read_entry}
use Rattle.odb_model.specs.declared.entry.Entry.{Entry}
use Rattle.odb_model.specs.declared.side.OtherSide.{OtherSide}
use Rattle.odb_model.specs.declared.side.OtherSide.TheVariants.{Live, Dirty, Clean}
use Rattle.odb_transdb.specs.declared.header.Header.{Header}
use Rattle.odb_transdb.specs.Header.{header_of, side_start, side_end, side_size, file_size, first_on, active_first, other_of}

pub data Opened : Type 0 where
  no_database : Opened
  damaged : ℕ → Opened
  holding : Header → List Entry → Opened

-- the payloads of the records of a side
abbrev pub side_list : Header → ℕ → List ℕ → List (List ℕ)
side_list h side bytes = log_of (side_start h side) (side_end h side) (first_on h side) bytes

-- The entries that payloads are the images of, the first of which has this number and whose record
-- stands at this place; or the place of the first record whose payload is no image
abbrev pub one_more : Entry → Result (List Entry) ℕ → Result (List Entry) ℕ
one_more e (Ok entries) = Ok (e ∷ entries)
one_more e (Err at) = Err at

abbrev pub read_first : ℕ → Result Entry ℕ → Result (List Entry) ℕ → Result (List Entry) ℕ
read_first place (Ok e) rest = one_more e rest
read_first place (Err left) rest = Err place

abbrev pub entries_from : ℕ → ℕ → List (List ℕ) → Result (List Entry) ℕ
entries_from number place [] = Ok []
entries_from number place (payload ∷ rest) =
    read_first place (read_entry number payload)
    (entries_from (number + 1) (place + HEAD + length payload) rest)

abbrev pub side_entries : Header → ℕ → List ℕ → Result (List Entry) ℕ
side_entries h side bytes =
    entries_from (first_on h side) (side_start h side) (side_list h side bytes)

-- those of one side and then those of the other; the first that is no image decides
abbrev pub joined : Result (List Entry) ℕ → Result (List Entry) ℕ → Result (List Entry) ℕ
joined (Ok front) (Ok rest) = Ok (front ++ rest)
joined (Ok front) (Err at) = Err at
joined (Err at) rest = Err at

abbrev pub with_entries : Header → Result (List Entry) ℕ → Opened
with_entries h (Ok entries) = holding h entries
with_entries h (Err at) = damaged at

-- the least byte of a side that isn't zero
abbrev pub first_other : Header → ℕ → List ℕ → Option ℕ
first_other h side bytes =
    position (λ b. not (b == 0)) (part (side_start h side) (side_size h) bytes)

-- and its place from the file's start, on the side that isn't active
abbrev pub first_other_place : Header → List ℕ → Option ℕ
first_other_place h bytes =
    option_map (λ n. side_start h (other_of h) + n) (first_other h (other_of h) bytes)

abbrev pub with_clean : Header → Option ℕ → List ℕ → Opened
with_clean h (Some n) bytes = damaged (side_start h (other_of h) + n)
with_clean h None bytes = with_entries h (side_entries h h.active bytes)

-- The entries of a Live side and of the active one: the list of the Live side ends right before the
-- first number of the active one
abbrev pub with_live : Header → List (List ℕ) → List ℕ → Opened
with_live h live bytes =
    if first_on h (other_of h) + length live == active_first h
    then with_entries h (joined (side_entries h (other_of h) bytes) (side_entries h h.active bytes))
    else damaged (end_of_list (side_start h (other_of h)) live)

-- by the state of the other side: a Clean one has to be zeros, and a Dirty one may be anything
abbrev pub with_sides : Header → OtherSide → List ℕ → Opened
with_sides h Clean bytes = with_clean h (first_other h (other_of h) bytes) bytes
with_sides h Dirty bytes = with_entries h (side_entries h h.active bytes)
with_sides h Live bytes = with_live h (side_list h (other_of h) bytes) bytes

abbrev pub with_header : Option Header → List ℕ → Opened
with_header None bytes = damaged 0
with_header (Some h) bytes =
    if nat_lt (length bytes) (file_size h)
    then damaged (length bytes)
    else with_sides h h.other bytes

abbrev pub with_pair : PairOpened → List ℕ → Opened
with_pair no_open_place bytes = no_database
with_pair malformed bytes = damaged 0
with_pair (holding_value value) bytes = with_header (header_of value) bytes

-- The first of these decides: whether the pair has an open place, whether it is in order and holds
-- a lawful header, whether the file is long enough, what the other side has to be, and whether each
-- payload is the image of an entry
unfoldable pub opened : List ℕ → Opened
opened bytes = with_pair (pair_opened bytes) bytes

-- they hold these entries under this header
abbrev pub Holds : Header → List Entry → List ℕ → Type 0
Holds h entries bytes = opened bytes ≡ holding h entries

-- the entries that bytes hold, and those of a file as it reads; of one that isn't told, none
abbrev pub entries_of : Opened → List Entry
entries_of no_database = []
entries_of (damaged at) = []
entries_of (holding h entries) = entries

abbrev pub entries_in : Option File → List Entry
entries_in None = []
entries_in (Some file) = entries_of (opened file.bytes)
