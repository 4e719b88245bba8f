use Rattle.odb_lex.proofs.Slices.{next_stands}
use Rattle.odb_lex.proofs.laws.tokens_stand.Goals as goal

pub returns-clause-stands : goal.returns-clause-stands
returns-clause-stands c text at t within e = (next_stands text at t within e).stands

pub returns-clause-slice : goal.returns-clause-slice
returns-clause-slice c text at t within e = (next_stands text at t within e).slice
