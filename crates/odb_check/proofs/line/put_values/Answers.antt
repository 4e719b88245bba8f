use Rattle.std.proofs.Common.{unwrap_or, string_bytes}
use Rattle.std.specs.Option.{option_copied}
use Rattle.odb_values.specs.declared.value.Value.TheVariants.{Null}
use Rattle.odb_check.proofs.Cells.{cell_behind, cell_first}
use Rattle.odb_check.proofs.line.put_values.Goals as goal
use Rattle.odb_check.proofs.line.put_values.Goals.{then-place-gt0+in_ok-push_str, else-place-gt0}

pub loop-place-preserved : goal.loop-place-preserved
loop-place-preserved c =
    let value = unwrap_or (option_copied c.stored_value.result) Null in
    elim c.if-place-gt0.branch [
      | then-place-gt0+in_ok-push_str w ↦
          let on = cell_behind c.args.table.now c.args.key.now c.args.row.now c.loop-place.place (string_bytes c.args.out.now) (string_bytes c.loop-place.out) value c.stored_value.ensures w.if-place-gt0.true c.loop-place.invariant in
          cc (on, w.in_ok-push_str.ensures.bytes, c.in_ok-put_value.ensures)
      | else-place-gt0 w ↦
          let on = cell_first c.args.table.now c.args.key.now c.args.row.now c.loop-place.place (string_bytes c.args.out.now) (string_bytes c.loop-place.out) value c.stored_value.ensures w.if-place-gt0.false c.loop-place.invariant in
          cc (on, c.in_ok-put_value.ensures)
    ]
