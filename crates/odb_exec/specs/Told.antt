-- What a bound SELECT tells.
use Rattle.std.specs.Prelude.{pos, List, [], ◌∷◌, map, length}
use Rattle.odb_values.specs.declared.value.Value.{Value}
use Rattle.odb_values.specs.declared.value.Value.TheVariants.{Int}
use Rattle.odb_model.specs.declared.table_key.TableKey.{TableKey}
use Rattle.odb_model.specs.declared.reply.Reply.{Reply}
use Rattle.odb_model.specs.declared.reply.Reply.TheVariants.{Rows}
use Rattle.odb_model.specs.Sums.{total_of}
use Rattle.odb_model.specs.Meaning.{single_or_overflow}
use Rattle.odb_eval.specs.Bound.{source_value}
use Rattle.odb_plan.specs.declared.what.BoundWhat.{BoundWhat}
use Rattle.odb_plan.specs.declared.what.BoundWhat.TheVariants.{Columns, Count, Sum}

-- of these rows
abbrev pub told_by : BoundWhat → List (TableKey × List Value) → Reply
told_by (Columns sources) rows = Rows (map (λ e. map (source_value e.0.key e.1) sources) rows)
told_by Count rows = Rows ((Int (pos (length rows)) ∷ []) ∷ [])
told_by (Sum source) rows =
    single_or_overflow (total_of (map (λ e. source_value e.0.key e.1 source) rows))
