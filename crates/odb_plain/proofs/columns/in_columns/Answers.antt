use Rattle.std.proofs.Common.{◌∷◌, [], ◌++◌, map, sym, ap, ◌∙◌, arith, ◌≡◌, ◌+◌}
use Rattle.std.specs.List.{range_with_len}
use Rattle.std.proofs.lemmas.List.FromFn.{map-range_with_len_more}
use Rattle.odb_model.specs.Table.{stored_value}
use Rattle.odb_plain.proofs.columns.in_columns.Goals as goal

pub loop-place-preserved : goal.loop-place-preserved
loop-place-preserved c =
    let f = stored_value c.args.table.now c.args.key.now c.args.row.now in
    let n = c.loop-place.place in
    let at : 0 + n ≡ n = omega arith in
    c.in_ok-push.ensures.items
    ∙ ap (λ values. values ++ c.in_ok-stored_value.field-0 ∷ []) c.loop-place.invariant
    ∙ ap (λ value. map f (range_with_len 0 n) ++ value ∷ []) c.in_ok-stored_value.ensures
    ∙ sym (map-range_with_len_more f 0 n n at)
