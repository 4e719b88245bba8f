use Rattle.std.proofs.Common.{◌∙◌, drop, sym, ap, arith}
use Rattle.odb_memstore.specs.Crash.{first_digit}
use Rattle.odb_memstore.proofs.Crashes.{digits_more, digits_none}
use Rattle.odb_memstore.proofs.crash.Digits.next.Goals as goal

pub returns-then-self-eq0-clause-digit : goal.returns-then-self-eq0-clause-digit
returns-then-self-eq0-clause-digit c = sym (ap first_digit (sym c.self.view_is ∙ digits_none c.self.inside.count c.self.inside.rest (omega arith)))

pub returns-then-self-eq0-clause-rest : goal.returns-then-self-eq0-clause-rest
returns-then-self-eq0-clause-rest c =
    let none = sym c.self.view_is ∙ digits_none c.self.inside.count c.self.inside.rest (omega arith) in
    none ∙ sym (ap (drop 1) none)

pub returns-clause-digit : goal.returns-clause-digit
returns-clause-digit c = sym (ap first_digit (sym c.self.view_is ∙ digits_more c.self.inside.count c.self.inside.rest (omega arith)))

pub returns-clause-rest : goal.returns-clause-rest
returns-clause-rest c = sym (ap (drop 1) (sym c.self.view_is ∙ digits_more c.self.inside.count c.self.inside.rest (omega arith)))
