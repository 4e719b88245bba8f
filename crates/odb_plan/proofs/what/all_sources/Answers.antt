use Rattle.std.proofs.Common.{◌∷◌, [], ◌++◌, map, sym, ap, ◌∙◌, arith, ◌≡◌, ◌+◌}
use Rattle.std.specs.List.{range_with_len}
use Rattle.std.proofs.lemmas.List.FromFn.{map-range_with_len_more}
use Rattle.odb_eval.specs.Bound.{place_source}
use Rattle.odb_plan.proofs.what.all_sources.Goals as goal

pub loop-place-preserved : goal.loop-place-preserved
loop-place-preserved c =
    let f = place_source c.args.table.now in
    let n = c.loop-place.place in
    let at : 0 + n ≡ n = omega arith in
    c.in_ok-push.ensures.items
    ∙ ap (λ sources. sources ++ c.of_place.result ∷ []) c.loop-place.invariant
    ∙ ap (λ source. map f (range_with_len 0 n) ++ source ∷ []) c.of_place.ensures
    ∙ sym (map-range_with_len_more f 0 n n at)
