-- What a session is in.
use Rattle.std.specs.Prelude.{List}
use Rattle.odb_model.specs.Transaction.{Executed}

-- a session is idle, or in a transaction that has executed these statements
pub data Session : Type 0 where
  Idle : Session
  Working : List Executed → Session
