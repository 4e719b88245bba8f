-- A turn of a copy: which records its entries make.
use Rattle.std.specs.Prelude.{ℕ, ◌+◌, ◌==◌, List, [], ◌∷◌, length, sum_by, if◌then◌else◌}
use Rattle.std.specs.FinMap.{FinMap, empty, get, insert, entries}
use Rattle.odb_model.specs.declared.table_key.TableKey.{TableKey}
use Rattle.odb_model.specs.declared.write.Write.{Write}
use Rattle.odb_model.specs.declared.entry.Entry.{Entry}
use Rattle.odb_model.specs.State.{table_key_cmp, table_key_of}
use Rattle.odb_model.specs.Taken.{run_of}
use Rattle.odb_machine.specs.Versions.{Version, Records, HaveVersions, IsWith, version_of, versions_at, without_stale, slots_in, with_records}
use Rattle.odb_machine.specs.Copies.{Copy, Turn}

-- one record for each key that is written
abbrev pub Added : Type 0
Added = FinMap table_key_cmp Version

-- the last write to each key of the databank counts
abbrev pub with_write : ℕ → ℕ → Added → Write → Added
with_write bank number added w =
    if w.bank == bank then insert added (table_key_of w) (version_of number w) else added

abbrev pub with_writes : ℕ → ℕ → Added → List Write → Added
with_writes bank number added [] = added
with_writes bank number added (w ∷ ws) =
    with_writes bank number (with_write bank number added w) ws

abbrev pub added_from : ℕ → Added → List Entry → Added
added_from bank added [] = added
added_from bank added (e ∷ es) = added_from bank (with_writes bank e.number added e.writes) es

-- the records of a run, for a databank
abbrev pub records_added : ℕ → List Entry → Added
records_added bank run = added_from bank empty run

-- the turn of a copy over the entries behind its mark
abbrev pub turn_over : Copy → List Entry → Turn
turn_over c behind = record {
  reached = c.mark + length (run_of behind);
  added = records_added c.bank (run_of behind);
}

-- the records once the gates of a turn are open
abbrev pub with_turn : Records → Turn → Records
with_turn records turn = with_records records (entries turn.added)

-- the same, where it isn't known at which place among those of its key and stamp each new one stands
pub record HaveTurn (old : Records) (turn : Turn) (new : Records) : Type 0 where
  pub some : HaveVersions new
  pub each : (at : TableKey) → IsWith (get turn.added at) (versions_at old at) (versions_at new at)

-- a file has at most so many slots: 4,096 extents of 1,024
abbrev pub most_slots : ℕ
most_slots = 4194304

-- the slots that the records of a turn take
abbrev pub slots_added : Turn → ℕ
slots_added turn = sum_by (λ e. e.1.slots) (entries turn.added)

-- the slots that the file has in use once its stale records are closed and the turn's gates open
abbrev pub slots_wanted : Copy → Turn → ℕ
slots_wanted c turn = slots_in (without_stale c.mark c.records) + slots_added turn
