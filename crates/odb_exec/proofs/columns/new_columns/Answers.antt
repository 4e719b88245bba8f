use Rattle.std.proofs.Common.{◌∷◌, [], ◌++◌, map, sym, ap, ◌∙◌, arith, ◌≡◌, ◌+◌}
use Rattle.std.specs.List.{range_with_len}
use Rattle.std.proofs.lemmas.List.FromFn.{map-range_with_len_more}
use Rattle.odb_exec.specs.Columns.{new_column}
use Rattle.odb_exec.proofs.columns.new_columns.Goals as goal

pub loop-place-preserved : goal.loop-place-preserved
loop-place-preserved c =
    let f = new_column c.args.table.now c.args.assigned.now in
    let n = c.loop-place.place in
    let at : 0 + n ≡ n = omega arith in
    c.in_ok-push.ensures.items
    ∙ ap (λ columns. columns ++ c.new_column.result ∷ []) c.loop-place.invariant
    ∙ ap (λ column. map f (range_with_len 0 n) ++ column ∷ []) c.new_column.ensures
    ∙ sym (map-range_with_len_more f 0 n n at)
