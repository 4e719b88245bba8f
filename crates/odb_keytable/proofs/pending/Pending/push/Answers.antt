use Rattle.std.proofs.Common.{◌∙◌, ap, ◌∷◌, [], ◌++◌, List, sym, subst, ◌≡◌, length, ◌+◌, ◌<◌, ◌^◌}
use Rattle.odb_model.specs.declared.entry.Entry.{Entry}
use Rattle.odb_keytable.proofs.Placings.{joined}
use Rattle.odb_keytable.proofs.pending.Pending.push.Goals as goal

pub returns : goal.returns
returns c =
    let more : List Entry = c.placed.inside.entries in
    let old : List Entry = c.self.inside.entries in
    let one : length more ≡ 1 = c.placed.invariant in
    let all : length old + length more < 2 ^ 63 =
    subst (λ (es : List Entry). length es + length more < 2 ^ 63) (sym c.self.view_is) (rw one c.requires) in
    joined c.append-joined.result old c.append-joined.new.self more one c.append-joined.ensures.items (c.append-joined.ensures.succeeds all)
    ∙ ap (λ (e : Entry). old ++ e ∷ []) c.placed.view_is
    ∙ ap (λ (es : List Entry). es ++ c.args.placed ∷ []) c.self.view_is
