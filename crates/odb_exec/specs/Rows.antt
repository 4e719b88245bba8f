-- What a statement makes of one row.
use Rattle.std.specs.Prelude.{◌≡◌, ℕ, Bool, ◌||◌, List, [], ◌∷◌, is_some, Option, Some, None}
use Rattle.std.specs.Option.{option_or}
use Rattle.std.specs.List.{list_any}
use Rattle.std.specs.Ordering.{eq_by_cmp}
use Rattle.std.specs.FinMap.{get}
use Rattle.odb_values.specs.declared.value.Value.{Value}
use Rattle.odb_values.specs.Value.{values_cmp}
use Rattle.odb_model.specs.declared.write.Write.{Write}
use Rattle.odb_model.specs.declared.reply.Reply.{Reply}
use Rattle.odb_model.specs.declared.reply.Reply.TheVariants.{Duplicate}
use Rattle.odb_model.specs.State.{State}
use Rattle.odb_model.specs.Table.{Table, key_of}
use Rattle.odb_model.specs.Binding.{refuse_if}
use Rattle.odb_model.specs.Fitting.{row_refusal}
use Rattle.odb_model.specs.Meaning.{place_of}
use Rattle.odb_exec.specs.declared.rows.RowChange.{RowChange}
use Rattle.odb_exec.specs.declared.rows.RowChange.TheVariants.{Put, Refused}

-- it is refused so, or nothing refuses it and this is its write
abbrev pub IsChangeOf : Option Reply → List Write → RowChange → Type 0
IsChangeOf refusal writes (Put write) = (refusal ≡ None) × (writes ≡ write ∷ [])
IsChangeOf refusal writes (Refused reply) = refusal ≡ Some reply

-- whether a key is among these
abbrev pub is_among : List (List Value) → List Value → Bool
is_among keys key = list_any (eq_by_cmp values_cmp key) keys

-- What refuses a tuple behind tuples with these keys: it doesn't fit, or its key is theirs or is there
abbrev pub tuple_refusal : ℕ → Table → State → List (List Value) → List Value → Option Reply
tuple_refusal format t s keys values =
    option_or (row_refusal format t (key_of t values) values)
    (refuse_if (is_among keys (key_of t values) || is_some (get s (place_of t values))) Duplicate)

-- these keys with one more, unless what refused the tuple came before it was added
abbrev pub IsPutAmong : List (List Value) → List (List Value) → List Value → RowChange → Type 0
IsPutAmong old new key (Put write) =
    (q : List Value) → is_among new q ≡ (eq_by_cmp values_cmp q key || is_among old q)
IsPutAmong old new key (Refused reply) = Unit {0}
