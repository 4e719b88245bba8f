use Rattle.std.proofs.Common.{eq-eqb}
use Rattle.odb_model.proofs.Agree.{covers}
use Rattle.odb_model.proofs.Covering.{both_true}
use Rattle.odb_model.proofs.Keyed.{placed}
use Rattle.odb_model.proofs.laws.covers_matches.Goals as goal

pub returns : goal.returns
returns c = λ t f e is same kept. covers t (placed t is) f e (both_true _ _ (eq-eqb t.number e.0.table same) kept)
