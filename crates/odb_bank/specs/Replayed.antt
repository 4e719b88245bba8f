-- What the entries of a history leave of a key.
use Rattle.std.specs.Prelude.{ℕ, zero, suc, ◌+◌, Option, Some, None}
use Rattle.odb_bank.specs.History.{Key, Row, History}

-- a write over what was there
abbrev pub after_write : Option (Option Row) → Option Row → Option Row
after_write None before = before
after_write (Some row) before = row

-- the key's row after the first k entries
abbrev pub state : History → ℕ → Key → Option Row
state h zero key = None
state h (suc k) key = after_write (h.write (suc k) key) (state h k key)

-- a row changed by the first `more` of the entries above a
abbrev pub changed_by : History → ℕ → ℕ → Key → Option Row → Option Row
changed_by h a zero key base = base
changed_by h a (suc more) key base =
    after_write (h.write (suc (a + more)) key) (changed_by h a more key base)
