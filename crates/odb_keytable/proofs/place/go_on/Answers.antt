use Rattle.std.proofs.Common.{sym, subst, ◌∙◌, Option, IfSome}
use Rattle.std.specs.Option.{option_copied}
use Rattle.odb_keytable.specs.declared.place.Place.{Place}
use Rattle.odb_keytable.specs.Place.{IsPlace}
use Rattle.odb_keytable.proofs.Places.{left-place}
use Rattle.odb_keytable.proofs.place.go_on.Goals as goal

pub returns-then-goes_on-clause-found : goal.returns-then-goes_on-clause-found
returns-then-goes_on-clause-found c = λ s stands.
    let place = c.in-Some.place in
    let here = subst (λ (o : Option Place). IfSome o (λ p. IsPlace s p.table p.key.now p.rest)) c.in-Some.is stands in
    c.advance.ensures.found s (option_copied c.args.after)
    (left-place c.args.range.now (option_copied c.args.after) s place.table place.key.now place.rest (sym c.goes_on.ensures ∙ c.if-goes_on.true) here)

pub returns-then-goes_on-clause-place : goal.returns-then-goes_on-clause-place
returns-then-goes_on-clause-place c = λ s stands.
    let place = c.in-Some.place in
    let here = subst (λ (o : Option Place). IfSome o (λ p. IsPlace s p.table p.key.now p.rest)) c.in-Some.is stands in
    c.advance.ensures.place s (option_copied c.args.after) here
    (left-place c.args.range.now (option_copied c.args.after) s place.table place.key.now place.rest (sym c.goes_on.ensures ∙ c.if-goes_on.true) here)
