-- Each open transaction has got the replies of its snapshots.
use Rattle.std.specs.Prelude.{ℕ}
use Rattle.odb_model.specs.State.{IsHistory}
use Rattle.odb_model.specs.Serial.{SessionAnsweredFromSnapshots}
use Rattle.odb_machine.specs.Machine.{Machine}

-- The history is numbered, and each open transaction has got the replies that its statements get at
-- their snapshots. The first machine is so, and each step leaves one that is
pub record AnsweredFromSnapshots (m : Machine) : Type 0 where
  pub history : IsHistory m.history
  pub sessions : (s : ℕ) → SessionAnsweredFromSnapshots m.history (m.sessions s) m.format
