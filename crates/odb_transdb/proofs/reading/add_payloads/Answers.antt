use Rattle.std.proofs.Common.{◌≡◌, ℕ, ◌+◌, ◌^◌, ◌<◌, List, [], ◌∷◌, ◌++◌, length, Result, Err, refl, sym, ◌∙◌, ap, subst, arith, rules}
use Rattle.std.specs.Vec.Iter.{into_iter_items}
use Rattle.std.proofs.lemmas.Result.{err_from_is_err_and}
use Rattle.odb_values.specs.Listed.{Listed}
use Rattle.odb_reclog.specs.Records.{end_of_list}
use Rattle.odb_model.specs.declared.entry.Entry.{Entry}
use Rattle.odb_transdb.specs.declared.error.TransdbError.{TransdbError}
use Rattle.odb_transdb.specs.Header.{side_start, first_on}
use Rattle.odb_transdb.specs.Opened.{entries_from}
use Rattle.odb_transdb.specs.Walking.{IsReadOf}
use Rattle.odb_transdb.specs.Kept.{AreSteps}
use Rattle.odb_transdb.proofs.Kept.{steps_none, kept_next}
use Rattle.odb_transdb.proofs.Adding.{added_none, added_more, added_fault, ends_within, counts_within}
use Rattle.odb_transdb.proofs.reading.add_payloads.Goals as goal
use Rattle.odb_transdb.proofs.reading.add_payloads.Goals.{After-into_iter-payload-iterator, After-len}

-- what the iterator began with
begun : (c : After-into_iter-payload-iterator) → into_iter_items c.into_iter-payload-iterator.result ≡ c.args.payloads
begun c = c.into_iter-payload-iterator.ensures.into_iter_gives.0 ∙ c.into_vec-payload-items.ensures

pub loop-payload-init : goal.loop-payload-init
loop-payload-init c = record {
  added = added_none (first_on c.args.header.now c.args.side) (side_start c.args.header.now c.args.side) c.side_start-at.result c.first_on-first.result (into_iter_items c.into_iter-payload-iterator.result)
      (into_iter_items c.into_iter-payload-iterator.result) c.args.entries.now.items refl c.side_start-at.ensures c.first_on-first.ensures;
  steps = subst (AreSteps (side_start c.args.header.now c.args.side) []) (sym c.requires.none) (steps_none (side_start c.args.header.now c.args.side) []);
  counts = search rules;
}

pub returns-in_err-entry-clause-told : goal.returns-in_err-entry-clause-told
returns-in_err-entry-clause-told c =
    let first = first_on c.args.header.now c.args.side in
    let start = side_start c.args.header.now c.args.side in
    let at = c.loop-payload in
    let list = into_iter_items c.into_iter-payload-iterator.result in
    let base = c.args.entries.now.items in
    let e = c.in_err-entry.field-0.0 in
    let P : List Entry → Unit {0} → Type 0 = λ (all : List Entry) (done : Unit {0}). at.entries.items ≡ base ++ all in
    let p = err_from_is_err_and c.from_residual.result c.from_residual.ensures.1 in
    subst (λ (r : Result (Unit {0}) TransdbError). IsReadOf P (entries_from first start c.args.payloads) r) (sym (p.1 ∙ ap Err p.2))
    (subst (λ (l : List (List ℕ)). IsReadOf P (entries_from first start l) (Err e)) (begun (goal.at.returns-in_err-entry-clause-told c).After-into_iter-payload-iterator)
    (added_fault first start list at.yielded (into_iter_items at.payload-iterator) base at.entries.items at.at at.number at.invariant.added c.in-Some.payload (into_iter_items c.next.new.self) c.in-Some.ensures.steps.0 P e c.in_err-entry.ensures))

-- the record ends inside what a number may be
within : (c : After-len) → into_iter_items c.into_iter-payload-iterator.result ≡ c.args.payloads → (c.loop-payload.at + (13 + c.len.result) < 2 ^ 64) × (c.loop-payload.number + 1 < 2 ^ 64)
within c same =
    let first = first_on c.args.header.now c.args.side in
    let start = side_start c.args.header.now c.args.side in
    let at = c.loop-payload in
    let list = into_iter_items c.into_iter-payload-iterator.result in
    let base = c.args.entries.now.items in
    let ends = ends_within first start list at.yielded (into_iter_items at.payload-iterator) base at.entries.items at.at at.number at.invariant.added c.in-Some.payload (into_iter_items c.next.new.self) c.in-Some.ensures.steps.0 in
    let counts = counts_within first start list at.yielded (into_iter_items at.payload-iterator) base at.entries.items at.at at.number at.invariant.added c.in-Some.payload (into_iter_items c.next.new.self) c.in-Some.ensures.steps.0 in (
      omega (arith, ends, ap (end_of_list start) same, c.requires.places, c.len.ensures),
      omega (arith, counts, ap (length {A = List ℕ}) same, c.requires.numbers),
    )

pub overflow_add-at-in-loop-payload : goal.overflow_add-at-in-loop-payload
overflow_add-at-in-loop-payload c =
    let at = goal.at.overflow_add-at-in-loop-payload c in
    let far = within at.After-len (begun at.After-into_iter-payload-iterator) in
    omega (arith, far.0)

pub overflow_add-number : goal.overflow_add-number
overflow_add-number c =
    let at = goal.at.overflow_add-number c in
    let far = within at.After-len (begun at.After-into_iter-payload-iterator) in
    omega (arith, far.1)

pub loop-payload-preserved : goal.loop-payload-preserved
loop-payload-preserved c =
    let first = first_on c.args.header.now c.args.side in
    let start = side_start c.args.header.now c.args.side in
    let at = c.loop-payload in
    let list = into_iter_items c.into_iter-payload-iterator.result in
    let base = c.args.entries.now.items in
    let e = c.in_ok-entry.entry in
    let added : c.push.new.self.items ≡ at.entries.items ++ e ∷ [] =
    ap (λ (l : Listed Entry). l.items) c.push.ensures ∙ ap (λ (l : Listed Entry). l.items ++ e ∷ []) c.in_ok-reserve.ensures.ok in
    let next = added_more first start list at.yielded (into_iter_items at.payload-iterator) base at.entries.items at.at at.number at.invariant.added c.in-Some.payload (into_iter_items c.next.new.self) c.in-Some.ensures.steps.0
    e c.push.new.self.items (at.at + (13 + c.len.result)) c.in_ok-entry.ensures added (omega (arith, c.len.ensures)) in
    record {
      added = next;
      steps = kept_next first c.first_on-first.result start (at.number + 1) (at.at + (13 + c.len.result)) at.yielded c.in-Some.payload at.places c.keep.new.self at.invariant.steps c.first_on-first.ensures next.number_is next.place c.keep.ensures;
      counts = let short = ap (length {A = List ℕ}) c.in-Some.ensures.steps.0 in omega (arith, at.invariant.counts, short, c.in-Some.ensures.steps.1);
    }
