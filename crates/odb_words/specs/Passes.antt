-- The passes that are free, by the places of their sessions.
use Rattle.std.specs.Prelude.{◌≡◌, ℕ, ◌+◌, ◌<◌, List, [], ◌∷◌, map, length, get_or, take, set}
use Rattle.std.specs.Prelude.{replicate, Option, None, Some}
use Rattle.std.specs.Coded.{Coded, code_by, coded_list, coded_option, coded×, coded_ℕ}
use mathlib.Core.Path.{refl}
use Rattle.atomic_table.specs.Seated.{table_id_coded}
use Rattle.odb_model.specs.declared.entry.Entry.{Entry}
use Rattle.odb_model.specs.contracts.entry.Entry as entry
use Rattle.odb_words.specs.declared.seats.Pass.{Pass}
use Rattle.odb_words.specs.contracts.opening.OpenedRows as opened
use Rattle.odb_words.specs.Seats.{Name, name_of, list_of}

-- the name of the passes, and at place s - 1 the list of session s's pass, where it is free
pub record PassPlaces : Type 0 where
  pub name : Name
  pub lists : List (Option (List Entry))

abbrev pub places_code : Coded PassPlaces
places_code =
    code_by
    (Name × List (Option (List Entry)))
    (coded×
    (coded× table_id_coded (coded× coded_ℕ opened.the_row.coded))
    (coded_list (coded_option (coded_list entry.the_row.coded))))
    (λ p. (p.name, p.lists))
    (λ p. record { name = p.0; lists = p.1 })
    (λ _. refl)

abbrev pub list_in : Option Pass → Option (List Entry)
list_in None = None
list_in (Some pass) = Some (list_of pass.place)

-- a pass at this place is that of the session, and has the name
abbrev pub SitsAt : Name → ℕ → Option Pass → Type 0
SitsAt name session None = Unit {0}
SitsAt name session (Some pass) = (pass.session ≡ session) × (name_of pass.place ≡ name)

-- so does each pass of a list whose first place is that of the session
abbrev pub SitFrom : Name → ℕ → List (Option Pass) → Type 0
SitFrom name session [] = Unit {0}
SitFrom name session (p ∷ ps) = SitsAt name session p × SitFrom name (session + 1) ps

-- no pass is in the list
abbrev pub HasNone : List (Option Pass) → Type 0
HasNone passes = map list_in passes ≡ replicate (length passes) None

-- this pass was the first in the list, and was taken out of it
abbrev pub TakesFirst : List (Option Pass) → List (Option Pass) → Pass → Type 0
TakesFirst old new pass =
    (place : ℕ)
    × (place < length old)
    × (get_or old place None ≡ Some pass)
    × (take place (map list_in old) ≡ replicate place None)
    × (new ≡ set old place None)
