use Rattle.std.proofs.Common.{sym, subst}
use Rattle.odb_model.proofs.Decimal.{no_lf-signed}
use Rattle.odb_reply.specs.Unbroken.{IsUnbroken}
use Rattle.odb_reply.proofs.Lines.{quoted-no_lf}
use Rattle.odb_reply.proofs.values.put_value.Goals as goal

pub returns-in-Int-clause-unbroken : goal.returns-in-Int-clause-unbroken
returns-in-Int-clause-unbroken c = subst IsUnbroken (sym c.in-Int.is) (no_lf-signed c.in-Int.number)

pub returns-in-Text-clause-unbroken : goal.returns-in-Text-clause-unbroken
returns-in-Text-clause-unbroken c = subst IsUnbroken (sym c.in-Text.is) (quoted-no_lf c.in-Text.text c.as_str.ensures.text.plain)
