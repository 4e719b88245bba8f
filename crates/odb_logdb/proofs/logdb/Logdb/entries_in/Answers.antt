use Rattle.std.proofs.Common.{ℕ, ◌-◌, List, ◌∙◌, ap, subst, arith}
use Rattle.odb_model.specs.declared.entry.Entry.{Entry}
use Rattle.odb_values.specs.Listed.{Listed}
use Rattle.odb_entries.specs.Walking.{AddsSome}
use Rattle.odb_logdb.proofs.Walked.{numbers_front}
use Rattle.odb_logdb.proofs.logdb.Logdb.entries_in.Goals as goal

pub returns-in-Ok-clause-numbers : goal.returns-in-Ok-clause-numbers
returns-in-Ok-clause-numbers g c =
    let log = c.args.log.now in
    let from = c.args.from in
    let items = c.add_entries.new.entries.items in
    numbers_front c.args.self.now from log.first log.next c.saturating_sub-most.result items c.front_of.result (omega (arith, c.requires.of.first, c.requires.from))
    (subst (λ (x : List Entry). AddsSome from log.first log.next x items) (ap (λ (x : Listed Entry). x.items) c.new-entries.ensures) c.add_entries.ensures.some) c.front_of.ensures
    (c.saturating_sub-most.ensures ∙ ap (λ (n : ℕ). n - from) c.next_number.ensures.next)

pub returns-in-Err-Damaged-clause-numbers : goal.returns-in-Err-Damaged-clause-numbers
returns-in-Err-Damaged-clause-numbers g c =
    let log = c.args.log.now in
    let from = c.args.from in
    let items = c.add_entries.new.entries.items in
    numbers_front c.args.self.now from log.first log.next c.saturating_sub-most.result items c.front_of-in-Err-Damaged.result (omega (arith, c.requires.of.first, c.requires.from))
    (subst (λ (x : List Entry). AddsSome from log.first log.next x items) (ap (λ (x : Listed Entry). x.items) c.new-entries.ensures) c.add_entries.ensures.some) c.front_of-in-Err-Damaged.ensures
    (c.saturating_sub-most.ensures ∙ ap (λ (n : ℕ). n - from) c.next_number.ensures.next)
