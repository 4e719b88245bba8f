-- What the bytes of file 1 stand for: damage at a place, or the entries of a log from a first number
-- on.
use Rattle.std.specs.Prelude.{◌≡◌, ℕ, ◌+◌, ◌==◌, nat_lt, List, [], length, Option, Some, None, Result, Ok, Err, if◌then◌else◌}
use Rattle.odb_device.specs.World.{File}
use Rattle.odb_extent.specs.Opened.{Opened as ExtentOpened, no_open_place, malformed, holding as holding_extents, opened as extents_opened, content_end}
use Rattle.odb_entries.specs.Listed.{entries_at}
use Rattle.odb_model.specs.declared.entry.Entry.{Entry}
use Rattle.odb_logdb.specs.declared.fields.LogFields.{LogFields}
use Rattle.odb_logdb.specs.Fields.{DIRTY, lawful_in}

pub data Opened : Type 0 where
  damaged : ℕ → Opened
  holding : ℕ → List Entry → Opened

-- how many extents the file may have
abbrev pub MOST : ℕ
MOST = 1024

-- where the region of the records begins, from the file's first byte
abbrev pub records_start : LogFields → ℕ
records_start f = 1024 + f.start

-- the first record whose payload is no entry decides
abbrev pub with_entries : ℕ → Result (List Entry) ℕ → Opened
with_entries first (Ok entries) = holding first entries
with_entries first (Err at) = damaged at

-- A Dirty log holds no entry. A Live one holds those of its records, up to the end of the limit
abbrev pub with_state : ℕ → LogFields → List ℕ → Opened
with_state limit f bytes =
    if f.state == DIRTY then holding f.first []
    else with_entries f.first (entries_at (records_start f) (content_end limit) f.first bytes)

abbrev pub with_fields : ℕ → Option LogFields → List ℕ → Opened
with_fields limit None bytes = damaged 0
with_fields limit (Some f) bytes =
    if nat_lt (length bytes) (content_end limit) then damaged (length bytes)
    else with_state limit f bytes

abbrev pub with_extents : ExtentOpened → List ℕ → Opened
with_extents no_open_place bytes = damaged 0
with_extents malformed bytes = damaged 0
with_extents (holding_extents limit fields) bytes =
    with_fields limit (lawful_in limit fields) bytes

-- The first of these decides: whether the pair has an open place, is in order and keeps a limit from
-- 1 to 1,024 and lawful fields; whether the file is as long as its limit; and whether each payload
-- is the image of an entry
unfoldable pub opened : List ℕ → Opened
opened bytes = with_extents (extents_opened MOST bytes) bytes

-- they hold these entries, the first of which has this number, or would have
abbrev pub Holds : ℕ → List Entry → List ℕ → Type 0
Holds first entries bytes = opened bytes ≡ holding first entries

-- the entries that bytes hold, and those of a file as it reads; of one that isn't told, none
abbrev pub entries_of : Opened → List Entry
entries_of (damaged at) = []
entries_of (holding first entries) = entries

abbrev pub entries_in : Option File → List Entry
entries_in None = []
entries_in (Some file) = entries_of (opened file.bytes)
