use Rattle.std.proofs.Common.{◌-◌, List, set, sym, ap, ◌∙◌, arith}
use Rattle.std.specs.Prelude.{Option, Some}
use Rattle.std.proofs.lemmas.List.{length-set, map-set}
use Rattle.odb_model.specs.declared.entry.Entry.{Entry}
use Rattle.odb_words.specs.Seats.{named, list_of}
use Rattle.odb_words.specs.Passes.{PassPlaces, list_in}
use Rattle.odb_words.proofs.Sits.{sits_set}
use Rattle.odb_words.proofs.pass_list.PassList.give.Goals as goal

pub invariant_of-self : goal.invariant_of-self
invariant_of-self c =
    let ps = c.self.inside.passes.items in
    let pass = c.args.pass in
    let n = named c.self.inside.words.value.shared.table_id c.self.inside.words.value.shared.key in
    let name = c.requires ∙ sym (ap (λ (v : PassPlaces). v.name) c.self.view_is) in (
      length-set ps (pass.session - 1) (Some pass) ∙ c.self.invariant.0,
      sits_set n 1 ps (pass.session - 1) (Some pass) c.self.invariant.1 (omega (arith, pass.is_pass.named), name),
    )

pub returns-clause-given : goal.returns-clause-given
returns-clause-given c =
    let pass = c.args.pass in
    map-set list_in c.self.inside.passes.items (pass.session - 1) (Some pass)
    ∙ ap (λ (ls : List (Option (List Entry))). set ls (pass.session - 1) (Some (list_of pass.place))) (ap (λ (v : PassPlaces). v.lists) c.self.view_is)
