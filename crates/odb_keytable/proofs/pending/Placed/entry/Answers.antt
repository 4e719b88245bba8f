use Rattle.std.proofs.Common.{◌≡◌, subst, ◌∙◌, Option}
use Rattle.std.specs.Prelude.{IfSome, slice_index_or}
use Rattle.std.specs.Borrow.{Bor}
use Rattle.odb_model.specs.declared.entry.Entry.{Entry}
use Rattle.odb_keytable.proofs.Placings.{only-front}
use Rattle.odb_keytable.proofs.pending.Placed.entry.Goals as goal

pub returns : goal.returns
returns c =
    only-front c.self.inside.entries c.unwrap.result.now c.self.invariant
    (subst (λ (r : Option (Bor Entry)). IfSome r (λ x. x.now ≡ slice_index_or c.self.inside.entries 0 x.now)) c.unwrap.ensures c.front.ensures.lookup)
    ∙ c.self.view_is
