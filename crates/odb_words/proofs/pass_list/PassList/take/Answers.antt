use Rattle.std.proofs.Common.{◌≡◌, ◌-◌, List, set, take, ap, subst, ◌∙◌}
use Rattle.std.specs.Prelude.{◌↔◌, Option, None, Some, IsNone, replicate, slice_get}
use Rattle.std.proofs.lemmas.Option.{IfSome_then}
use Rattle.odb_model.specs.declared.entry.Entry.{Entry}
use Rattle.odb_words.specs.Seats.{named, list_of}
use Rattle.odb_words.specs.Passes.{PassPlaces}
use Rattle.odb_words.proofs.Sits.{take_tells, after_take, none_exactly}
use Rattle.odb_words.proofs.pass_list.PassList.take.Goals as goal

pub invariant_of-self : goal.invariant_of-self
invariant_of-self c =
    let n = named c.self.inside.words.value.shared.table_id c.self.inside.words.value.shared.key in
    after_take n c.self.inside.passes.items c.take_first.new.passes.items c.take_first.result c.take_first.ensures.left c.take_first.ensures.some c.self.invariant

pub returns-clause-none : goal.returns-clause-none
returns-clause-none c =
    subst (λ (ls : List (Option (List Entry))). IsNone c.take_first.result ↔ (ls ≡ replicate 64 None)) (ap (λ (v : PassPlaces). v.lists) c.self.view_is)
    (none_exactly c.self.inside.passes.items c.take_first.new.passes.items c.take_first.result c.self.invariant.0 c.take_first.ensures.none c.take_first.ensures.some)

pub returns-clause-named : goal.returns-clause-named
returns-clause-named c =
    let n = named c.self.inside.words.value.shared.table_id c.self.inside.words.value.shared.key in
    IfSome_then c.take_first.result c.take_first.ensures.some (λ pass t.
    (take_tells n c.self.inside.passes.items c.take_first.new.passes.items pass c.self.invariant.1 t).0 ∙ ap (λ (v : PassPlaces). v.name) c.self.view_is)

pub returns-clause-least : goal.returns-clause-least
returns-clause-least c =
    let n = named c.self.inside.words.value.shared.table_id c.self.inside.words.value.shared.key in
    IfSome_then c.take_first.result c.take_first.ensures.some (λ pass t.
    subst (λ (ls : List (Option (List Entry))). take (pass.session - 1) ls ≡ replicate (pass.session - 1) None) (ap (λ (v : PassPlaces). v.lists) c.self.view_is)
    (take_tells n c.self.inside.passes.items c.take_first.new.passes.items pass c.self.invariant.1 t).1)

pub returns-clause-given : goal.returns-clause-given
returns-clause-given c =
    let n = named c.self.inside.words.value.shared.table_id c.self.inside.words.value.shared.key in
    IfSome_then c.take_first.result c.take_first.ensures.some (λ pass t.
    subst (λ (ls : List (Option (List Entry))). slice_get ls (pass.session - 1) ≡ Some (Some (list_of pass.place))) (ap (λ (v : PassPlaces). v.lists) c.self.view_is)
    (take_tells n c.self.inside.passes.items c.take_first.new.passes.items pass c.self.invariant.1 t).2)

pub returns-clause-taken : goal.returns-clause-taken
returns-clause-taken c =
    let n = named c.self.inside.words.value.shared.table_id c.self.inside.words.value.shared.key in
    IfSome_then c.take_first.result c.take_first.ensures.some (λ pass t.
    (take_tells n c.self.inside.passes.items c.take_first.new.passes.items pass c.self.invariant.1 t).3
    ∙ ap (λ (ls : List (Option (List Entry))). set ls (pass.session - 1) None) (ap (λ (v : PassPlaces). v.lists) c.self.view_is))
