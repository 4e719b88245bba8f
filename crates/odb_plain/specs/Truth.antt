-- The truth of `IS NULL`.
use Rattle.std.specs.Prelude.{Bool, if◌then◌else◌}
use Rattle.odb_values.specs.declared.value.Value.{Value}
use Rattle.odb_values.specs.Value.{is_null}
use Rattle.odb_model.specs.declared.truth.Truth.{Truth}
use Rattle.odb_model.specs.Truth.{truth_if, not_of}

-- the truth of `IS NULL` for a value, or of `IS NOT NULL`
abbrev pub null_truth : Bool → Value → Truth
null_truth negated v =
    if negated then not_of (truth_if (is_null v)) else truth_if (is_null v)
