-- Texts without an end of line inside.
use Rattle.std.specs.Prelude.{◌≡◌, ℕ, ◌<◌, ◌^◌, ◌==◌, false, List}
use Rattle.std.specs.List.{All, list_any}
use Rattle.odb_values.specs.declared.value.Value.{Value}
use Rattle.odb_model.specs.declared.reply.Reply.{Reply}
use Rattle.odb_model.specs.declared.reply.Reply.TheVariants.{Rows, Committed}
use Rattle.odb_model.specs.Canonical.{value_text}
use Rattle.odb_model.specs.Print.{values_text}

-- no byte is an LF
abbrev pub HasNoLf : List ℕ → Type 0
HasNoLf bytes = list_any (λ b. b == 10) bytes ≡ false

abbrev pub IsUnbroken : Value → Type 0
IsUnbroken v = HasNoLf (value_text v)

abbrev pub IsUnbrokenRow : List Value → Type 0
IsUnbrokenRow values = HasNoLf (values_text values)

-- the rows of the reply are written without an LF inside, and the number of a commit is one of 64
-- bits
abbrev pub IsTellable : Reply → Type 0
IsTellable (Rows rows) = All IsUnbrokenRow rows
IsTellable (Committed k) = k < 2 ^ 64
IsTellable reply = Unit {0}
