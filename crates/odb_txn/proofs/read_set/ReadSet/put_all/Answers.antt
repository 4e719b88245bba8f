use Rattle.std.proofs.Common.{◌≡◌, ◌+◌, List, [], ◌∷◌, ◌++◌, length, ap, sym, ◌∙◌, arith, append_assoc, length-append}
use Rattle.std.proofs.lemmas.List.{map-append}
use Rattle.odb_values.specs.declared.range.Range.{Range}
use Rattle.odb_model.specs.declared.outcome.Read.{Read}
use Rattle.odb_model.specs.Transaction.{read_at}
use Rattle.odb_txn.specs.ReadSet.{keep, keep_all}
use Rattle.odb_txn.proofs.Keeping.{keep_all-append}
use Rattle.odb_txn.proofs.read_set.ReadSet.put_all.Goals as goal

pub loop-range-preserved : goal.loop-range-preserved
loop-range-preserved c =
    let old : List Read = c.args.self.now.items in
    let read : Range → Read = λ range. record { range = range; number = c.args.number } in
    let rest : List Range = c.next.new.self.rest.items in
    let whole : c.loop-range.yielded ++ c.in-Some.range ∷ rest ≡ c.args.ranges =
    ap (λ (rs : List Range). c.loop-range.yielded ++ rs) (sym c.in-Some.ensures.steps.0) ∙ c.loop-range.invariant.2 in
    let lengths : length c.loop-range.yielded + length (c.in-Some.range ∷ rest) ≡ length c.args.ranges =
    sym (length-append c.loop-range.yielded (c.in-Some.range ∷ rest)) ∙ ap length whole in (
      ap (λ p. p.items) c.put.ensures
          ∙ ap (λ (reads : List Read). keep reads (read c.in-Some.range)) c.loop-range.invariant.0
          ∙ sym (keep_all-append (read_at c.args.number c.loop-range.yielded) (read c.in-Some.range ∷ []) old)
          ∙ ap (keep_all old) (sym (map-append read c.loop-range.yielded (c.in-Some.range ∷ []))),
      omega (arith, ap (λ p. p.spare) c.put.ensures, length-append c.loop-range.yielded (c.in-Some.range ∷ []), c.loop-range.invariant.1, lengths, c.requires),
      append_assoc c.loop-range.yielded (c.in-Some.range ∷ []) rest ∙ whole,
    )
