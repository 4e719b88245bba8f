-- LOGDB in numbers, and which entries a LOG adds to it.
use Rattle.std.specs.Prelude.{ℕ, ◌+◌, ◌-◌, ◌*◌, min, max, Bool, true, false, nat_lt, nat_le, List, [], ◌∷◌, length, take, drop, if◌then◌else◌}
use Rattle.odb_model.specs.declared.entry.Entry.{Entry}
use Rattle.odb_model.specs.Width.{record_width, records_width}
use Rattle.odb_machine.specs.Sides.{Sides, first_in}

-- the numbers of its first and of its last entry, the last one less than the first where there is
-- none, and the bytes from the beginning of its content to the end of its list
pub record Span : Type 0 where
  pub first : ℕ
  pub last : ℕ
  pub used : ℕ

pub data Log : Type 0 where
  -- a database that has none yet
  Absent : Log
  -- it takes no part until the files are opened again, or a new one is begun
  Out : Log
  -- it holds these entries
  Held : Span → Log

-- Whether a database has a LOGDB. None has until that file is made: file 1 isn't opened, and LOGDB is
-- absent
abbrev pub has_log : Bool
has_log = false

abbrev pub is_log_out : Log → Bool
is_log_out Out = true
is_log_out other = false

-- the number of the first entry that LOGDB and TRANSDB hold together
abbrev pub first_held : Log → Sides → ℕ
first_held Absent sides = first_in sides
first_held Out sides = first_in sides
first_held (Held span) sides = min span.first (first_in sides)

-- where all entries are held from this number on, one above this mark isn't
abbrev pub lacks_from : ℕ → ℕ → Bool
lacks_from first mark = nat_lt (mark + 1) first

-- LOGDB has at most 1,024 extents of 1 MiB
abbrev pub most_logged : ℕ
most_logged = 1024 * 1048576

-- the bytes left for records
abbrev pub log_room : Span → ℕ
log_room span = most_logged - span.used

-- one LOG adds at most so many entries
abbrev pub most_added : ℕ
most_added = 64

-- The next entries of the history that LOGDB lacks, as many as one LOG adds. Those that TRANSDB, whose
-- first entry has this number, no longer holds can't be added any more
abbrev pub lacked : ℕ → List Entry → Span → List Entry
lacked first h span = take most_added (drop (max span.last (first - 1)) h)

-- those from the front whose records fit into so many bytes
abbrev pub fitting : ℕ → List Entry → List Entry
fitting room [] = []
fitting room (e ∷ es) =
    if nat_lt room (record_width e) then [] else e ∷ fitting (room - record_width e) es

-- with these entries behind its own
abbrev pub with_entries : Span → List Entry → Span
with_entries span es =
    record span { last = span.last + length es; used = span.used + records_width es }

-- no entry is left where all up to this number go: the list begins again at the content's beginning.
-- Otherwise no room is won
abbrev pub used_without : ℕ → Span → ℕ
used_without number span = if nat_le span.last number then 0 else span.used

-- DROPLOG up to a number, which never lowers the first one
abbrev pub without_through : ℕ → Span → Span
without_through number span =
    if nat_lt span.first (min number span.last + 1)
    then record span { first = min number span.last + 1; used = used_without number span }
    else span

-- a LOGDB that begins with this number
abbrev pub new_span : ℕ → Span
new_span first = record { first = first; last = first - 1; used = 0 }
