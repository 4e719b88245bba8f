-- The entries that the payloads of a list of records are the images of.
use Rattle.std.specs.Prelude.{ℕ, ◌+◌, List, [], ◌∷◌, length, Result, Ok, Err}
use Rattle.odb_reclog.specs.Records.{HEAD, log_of}
use Rattle.odb_reclog.specs.Standing.{Log}
use Rattle.odb_codec.specs.Reading.{read_entry}
use Rattle.odb_model.specs.declared.entry.Entry.{Entry}

-- an entry, and those behind it
abbrev pub one_more : Entry → Result (List Entry) ℕ → Result (List Entry) ℕ
one_more e (Ok entries) = Ok (e ∷ entries)
one_more e (Err at) = Err at

abbrev pub read_first : ℕ → Result Entry ℕ → Result (List Entry) ℕ → Result (List Entry) ℕ
read_first place (Ok e) rest = one_more e rest
read_first place (Err left) rest = Err place

-- The entries that payloads are the images of, the first of which has this number and whose record
-- stands at this place; or the place of the first record whose payload is no image
abbrev pub entries_from : ℕ → ℕ → List (List ℕ) → Result (List Entry) ℕ
entries_from number place [] = Ok []
entries_from number place (payload ∷ rest) =
    read_first place (read_entry number payload)
    (entries_from (number + 1) (place + HEAD + length payload) rest)

-- those of the list of a region
abbrev pub entries_at : ℕ → ℕ → ℕ → List ℕ → Result (List Entry) ℕ
entries_at start end first bytes = entries_from first start (log_of start end first bytes)

-- and of the list of a log
abbrev pub log_entries : Log → List ℕ → Result (List Entry) ℕ
log_entries log bytes = entries_at log.start log.end log.first bytes
