-- What a statement makes of rows.
use Rattle.std.specs.Prelude.{◌≡◌, ℕ, ◌||◌, List, [], ◌∷◌, Option, Some, None, is_some}
use Rattle.std.specs.Option.{option_or}
use Rattle.std.specs.FinMap.{get}
use Rattle.odb_values.specs.declared.value.Value.{Value}
use Rattle.odb_model.specs.declared.write.Write.{Write}
use Rattle.odb_model.specs.declared.reply.Reply.{Reply}
use Rattle.odb_model.specs.declared.table_key.TableKey.{TableKey}
use Rattle.odb_model.specs.State.{State}
use Rattle.odb_model.specs.Table.{Table, key_of}
use Rattle.odb_model.specs.Fitting.{row_refusal}
use Rattle.odb_model.specs.Meaning.{put_of, with_write, duplicate_refusal}
use Rattle.odb_plain.specs.declared.changes.Change.{Change}
use Rattle.odb_plain.specs.declared.changes.Change.TheVariants as change
use Rattle.odb_plain.specs.declared.changes.Changes.{Changes}
use Rattle.odb_plain.specs.declared.changes.Changes.TheVariants as changes

-- nothing refuses the row and the only write to it is this, or it is refused so
abbrev pub IsChangeOf : Option Reply → List Write → Change → Type 0
IsChangeOf refusal writes (change.Made write) = (refusal ≡ None) × (writes ≡ write ∷ [])
IsChangeOf refusal writes (change.Refused reply) = refusal ≡ Some reply

-- nothing refuses the rows and the writes to them are these, or they are refused so
abbrev pub AreChangesOf : Option Reply → List Write → Changes → Type 0
AreChangesOf refusal writes (changes.Made made) = (refusal ≡ None) × (writes ≡ made)
AreChangesOf refusal writes (changes.Refused reply) = refusal ≡ Some reply

-- what refuses a tuple on a state
abbrev pub next_refusal : ℕ → Table → State → List Value → Option Reply
next_refusal format t s values =
    option_or (row_refusal format t (key_of t values) values)
    (duplicate_refusal s (put_of t values))

-- a state has a row where one of two others has one
abbrev pub Joins : State → State → State → Type 0
Joins s rows others =
    (at : TableKey) → is_some (get s at) ≡ (is_some (get rows at) || is_some (get others at))

-- where a write is made to the state, it still is so
abbrev pub JoinsAfter : State → State → State → Change → Type 0
JoinsAfter s rows others (change.Made write) = Joins (with_write s write) rows others
JoinsAfter s rows others (change.Refused reply) = Unit {0}
