-- Entries that wait to be folded into a table.
use Rattle.std.specs.Prelude.{List, [], ◌∷◌}
use Rattle.odb_model.specs.declared.entry.Entry.{Entry}

-- the entry that a list of one entry holds
abbrev pub only_entry : List Entry → Entry
only_entry [] = record { number = 0; by = 0; writes = [] }
only_entry (e ∷ es) = e
