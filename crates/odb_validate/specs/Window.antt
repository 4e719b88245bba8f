-- The window: the last entries of a history, which commits are validated against.
use Rattle.std.specs.Prelude.{◌≡◌, ℕ, ◌+◌, ◌≤◌, max, Bool, true, false, nat_le, List, [], ◌∷◌, ◌++◌, length, drop, refl, if◌then◌else◌}
use Rattle.std.specs.Coded.{Coded, code_by, coded×, coded_ℕ, coded_bool, coded_list}
use Rattle.odb_model.specs.declared.entry.Entry.{Entry}
use Rattle.odb_model.specs.contracts.entry.Entry as entry
use Rattle.odb_model.specs.State.{IsNumberedFrom}
use Rattle.odb_model.specs.Window.{write_count, window_start, window_writes}

-- what is seen of a window: the number of entries before it, its entries, and whether the place of
-- the next one is reserved
pub record Windowed : Type 0 where
  pub start : ℕ
  pub entries : List Entry
  pub is_reserved : Bool

abbrev pub windowed_code : Coded Windowed
windowed_code =
    code_by ((ℕ × List Entry) × Bool)
    (coded× (coded× coded_ℕ (coded_list entry.the_row.coded)) coded_bool)
    (λ w. ((w.start, w.entries), w.is_reserved))
    (λ p. record { start = p.0.0; entries = p.0.1; is_reserved = p.1 }) (λ _. refl)

-- the number of the last entry
abbrev pub last_number : Windowed → ℕ
last_number w = w.start + length w.entries

-- the window with the place of the next entry reserved
abbrev pub reserve : Windowed → Windowed
reserve w = record { start = w.start; entries = w.entries; is_reserved = true }

-- the window without its first n entries
abbrev pub forget : Windowed → ℕ → Windowed
forget w n =
    record { start = w.start + n; entries = drop n w.entries; is_reserved = w.is_reserved }

-- the window with an entry behind the last one, in the reserved place
abbrev pub put_last : Windowed → Entry → Windowed
put_last w e =
    record { start = w.start; entries = w.entries ++ e ∷ []; is_reserved = false }

-- the window after an entry more: of its entries and that one the longest suffix that has at most
-- 262,144 writes
abbrev pub push : Windowed → Entry → Windowed
push w e = forget (put_last w e) (window_start (put_last w e).entries)

-- The window of a history whose entries after the first `since` were pushed: the longest suffix of
-- these that has at most 262,144 writes. Its start is the greater of `since` and the start of the
-- whole history's window
pub record IsWindow (since : ℕ) (h : List Entry) (w : Windowed) : Type 0 where
  pub opened : since ≤ length h
  pub start : w.start ≡ max since (window_start h)
  pub entries : w.entries ≡ drop w.start h

-- what a window keeps beside its entries: they are numbered from behind its start to `last`, and
-- have so many writes, which aren't too many
pub record IsKept (start last : ℕ) (entries : List Entry) (writes : ℕ) : Type 0 where
  pub numbered : IsNumberedFrom (start + 1) entries
  pub ends : last ≡ start + length entries
  pub counted : writes ≡ write_count entries
  pub few : writes ≤ window_writes
