use Rattle.std.proofs.Common.{sym, ap, ◌∙◌, arith}
use Rattle.odb_model.specs.declared.outcome.Read.{Read}
use Rattle.odb_model.specs.Window.{least_with, oldest_number}
use Rattle.odb_txn.proofs.Alike.{oldest-keep}
use Rattle.odb_txn.proofs.read_set.ReadSet.put.Goals as goal

pub invariant_of-self : goal.invariant_of-self
invariant_of-self c =
    let r : Read = record { range = c.args.range; number = c.args.number } in (
      c.put_among.ensures.ordered,
      c.least_with.ensures
          ∙ ap (least_with c.args.number) c.self.invariant.1
          ∙ sym (oldest-keep c.self.inside.items.items r)
          ∙ ap oldest_number (sym c.put_among.ensures.items),
      omega (arith, c.put_among.ensures.len, c.put_among.ensures.capacity, c.self.invariant.2, ap (λ v. v.spare) c.self.view_is, c.requires),
    )
