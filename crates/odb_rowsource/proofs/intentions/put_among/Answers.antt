use Rattle.std.proofs.Common.{sym, ap, subst, ◌∙◌, ◌≡◌, ◌≤◌, cond, length, List}
use Rattle.std.proofs.Math.ListN.{set}
use Rattle.std.specs.List.{insert, slice_get}
use Rattle.odb_model.specs.declared.intention.Intention.{Intention}
use Rattle.odb_model.specs.State.{table_key_of}
use Rattle.odb_rowsource.specs.Intentions.{AreAscending, intention_of_write, is_before, put, told_at}
use Rattle.odb_rowsource.proofs.Splits.{Splits, Splits-point}
use Rattle.odb_rowsource.proofs.Intended.{put-new, put-again, AreAscending-put}
use Rattle.odb_rowsource.proofs.intentions.put_among.Goals as goal

pub returns-in-Some-clause-items : goal.returns-in-Some-clause-items
returns-in-Some-clause-items c =
    let items : List Intention = c.args.items.now.items in
    let at = c.place_to_put-place.result in
    let k = table_key_of c.args.write in
    let split : Splits (is_before k) items at =
    subst (λ (xs : List Intention). Splits (is_before k) xs at) c.as_slice-slice.ensures.value
    (Splits-point (is_before k) c.as_slice-slice.result.now at c.place_to_put-place.ensures.splits) in
    ap (set items at) c.intention_of_write.ensures
    ∙ put-again c.args.write items c.args.was_there at c.in-Some.told split
    (c.in-Some.ensures.told ∙ ap (λ (xs : List Intention). told_at k (slice_get xs at)) c.as_slice-slice.ensures.value)

pub returns-in-Some-clause-ascending : goal.returns-in-Some-clause-ascending
returns-in-Some-clause-ascending c =
    subst (λ (intentions : List Intention). AreAscending intentions) (sym (returns-in-Some-clause-items c))
    (AreAscending-put c.args.items.now.items c.args.write c.args.was_there c.requires.ascending)

pub returns-in-None-clause-items : goal.returns-in-None-clause-items
returns-in-None-clause-items c =
    let items : List Intention = c.args.items.now.items in
    let at = c.place_to_put-place.result in
    let k = table_key_of c.args.write in
    let split : Splits (is_before k) items at =
    subst (λ (xs : List Intention). Splits (is_before k) xs at) c.as_slice-slice.ensures.value
    (Splits-point (is_before k) c.as_slice-slice.result.now at c.place_to_put-place.ensures.splits) in
    let within : at ≤ length items = subst (λ (xs : List Intention). at ≤ length xs) c.as_slice-slice.ensures.value c.place_to_put-place.ensures.within in
    c.insert.ensures.items
    ∙ ap (λ b. cond b (insert items at c.intention_of_write-in-None.result) items) (c.insert.ensures.succeeds c.requires.room)
    ∙ ap (insert items at) c.intention_of_write-in-None.ensures
    ∙ put-new c.args.write items c.args.was_there at within split
    (c.in-None.ensures.told ∙ ap (λ (xs : List Intention). told_at k (slice_get xs at)) c.as_slice-slice.ensures.value)

pub returns-in-None-clause-ascending : goal.returns-in-None-clause-ascending
returns-in-None-clause-ascending c =
    subst (λ (intentions : List Intention). AreAscending intentions) (sym (returns-in-None-clause-items c))
    (AreAscending-put c.args.items.now.items c.args.write c.args.was_there c.requires.ascending)
