use Rattle.std.proofs.Common.{sym, ap, subst, ◌∙◌, ◌≡◌, ◌≤◌, length, List}
use Rattle.std.proofs.Math.ListN.{set}
use Rattle.std.specs.List.{slice_get, insert}
use Rattle.std.specs.Prelude.{OnOk}
use Rattle.odb_model.specs.declared.outcome.Read.{Read}
use Rattle.odb_rowsource.proofs.Splits.{Splits, Splits-point}
use Rattle.odb_txn.specs.ReadSet.{AreOrdered, is_before, number_at}
use Rattle.odb_txn.proofs.Keeping.{keep-new, keep-again, AreOrdered-keep}
use Rattle.odb_txn.proofs.read_set.put_among.Goals as goal

pub returns-in-Some-clause-items : goal.returns-in-Some-clause-items
returns-in-Some-clause-items c =
    let items : List Read = c.args.items.now.items in
    let at = c.place_among-place.result in
    let range = c.args.read.range in
    let split : Splits (is_before range) items at =
    subst (λ (xs : List Read). Splits (is_before range) xs at) c.as_slice-slice.ensures
    (Splits-point (is_before range) c.as_slice-slice.result.now at c.place_among-place.ensures.splits) in
    c.replace.ensures.items
    ∙ ap (λ n. set items at (record { range = range; number = n })) c.min-number.ensures
    ∙ keep-again c.args.read items at c.in-Some.number split
    (c.in-Some.ensures.told ∙ ap (λ (xs : List Read). number_at range (slice_get xs at)) c.as_slice-slice.ensures)

pub returns-in-Some-clause-ordered : goal.returns-in-Some-clause-ordered
returns-in-Some-clause-ordered c =
    subst (λ (reads : List Read). AreOrdered reads) (sym (returns-in-Some-clause-items c))
    (AreOrdered-keep c.args.items.now.items c.args.read c.requires.ordered)

pub returns-in-None-clause-items : goal.returns-in-None-clause-items
returns-in-None-clause-items c =
    let items : List Read = c.args.items.now.items in
    let at = c.place_among-place.result in
    let range = c.args.read.range in
    let split : Splits (is_before range) items at =
    subst (λ (xs : List Read). Splits (is_before range) xs at) c.as_slice-slice.ensures
    (Splits-point (is_before range) c.as_slice-slice.result.now at c.place_among-place.ensures.splits) in
    let within : at ≤ length items = subst (λ (xs : List Read). at ≤ length xs) c.as_slice-slice.ensures c.place_among-place.ensures.within in
    subst (λ r. OnOk r (c.insert.new.self.items ≡ insert items at c.args.read)) c.unwrap.ensures c.insert.ensures.ok
    ∙ keep-new c.args.read items at within split
    (c.in-None.ensures.told ∙ ap (λ (xs : List Read). number_at range (slice_get xs at)) c.as_slice-slice.ensures)

pub returns-in-None-clause-ordered : goal.returns-in-None-clause-ordered
returns-in-None-clause-ordered c =
    subst (λ (reads : List Read). AreOrdered reads) (sym (returns-in-None-clause-items c))
    (AreOrdered-keep c.args.items.now.items c.args.read c.requires.ordered)
