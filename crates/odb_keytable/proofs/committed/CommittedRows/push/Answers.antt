use Rattle.std.proofs.Common.{◌≡◌, ◌+◌, List, ap, ◌∙◌, arith}
use Rattle.odb_model.specs.declared.write.Write.{Write}
use Rattle.odb_model.specs.declared.entry.Entry.{Entry}
use Rattle.odb_model.specs.State.{State, after_writes}
use Rattle.odb_keytable.specs.Committed.{state_with, waiting_with}
use Rattle.odb_keytable.proofs.Folds.{one_waits_more, state_with_more, waits_within}
use Rattle.odb_keytable.proofs.committed.CommittedRows.push.Goals as goal

pub push-requires : goal.push-requires
push-requires c =
    omega (arith, waits_within c.self.inside.begun.items c.self.inside.pending, ap (λ v. v.waiting) c.self.view_is, c.requires)

pub invariant_of-self : goal.invariant_of-self
invariant_of-self c =
    let begun : List Write = c.self.inside.begun.items in
    let waits : List Entry = c.self.inside.pending in
    omega (arith, one_waits_more begun waits c.push.new.self c.args.placed c.push.ensures, ap (λ v. v.waiting) c.self.view_is, c.requires)

pub returns : goal.returns
returns c =
    let table : State = c.self.inside.table in
    let begun : List Write = c.self.inside.begun.items in
    let waits : List Entry = c.self.inside.pending in
    let e : Entry = c.args.placed in
    let state : state_with table begun c.push.new.self ≡ after_writes c.args.self.now.state e.writes =
    state_with_more table begun waits c.push.new.self e c.push.ensures
    ∙ ap (λ (s : State). after_writes s e.writes) (ap (λ v. v.state) c.self.view_is) in
    let waiting : waiting_with begun c.push.new.self ≡ c.args.self.now.waiting + 1 =
    one_waits_more begun waits c.push.new.self e c.push.ensures ∙ ap (λ v. v.waiting + 1) c.self.view_is in
    λ i. record { state = state i; waiting = waiting i }
