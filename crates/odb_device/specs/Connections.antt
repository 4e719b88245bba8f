-- What a link and a listener show to proofs, and what their calls do.
use Rattle.std.specs.Prelude.{◌≡◌, ℕ, Bool, List, Option, Some, None}
use Rattle.odb_device.specs.Counts.{Adds, Ends}

-- a link: the bytes received and sent, where they are told, whether 0 was answered to `receive`,
-- and its count of faults
pub record Wire : Type 0 where
  pub received : Option (List ℕ)
  pub sent : Option (List ℕ)
  pub has_ended : Bool
  pub faults : ℕ

-- just these bytes are received
abbrev pub Receives : List ℕ → Wire → Wire → Type 0
Receives bytes old new = Adds bytes old.received new.received

-- nothing is received, and the record of the input's end stays
abbrev pub ReceivesNothing : Wire → Wire → Type 0
ReceivesNothing old new = (new.received ≡ old.received) × (new.has_ended ≡ old.has_ended)

-- a `receive` that answered n: the end of the input is recorded where n = 0, and stays recorded
abbrev pub EndsReceiving : ℕ → Wire → Wire → Type 0
EndsReceiving n old new = Ends n old.has_ended new.has_ended

-- just these bytes are sent
abbrev pub Sends : List ℕ → Wire → Wire → Type 0
Sends bytes old new = Adds bytes old.sent new.sent

-- nothing is sent
abbrev pub SendsNothing : Wire → Wire → Type 0
SendsNothing old new = new.sent ≡ old.sent

-- how far a listener is: `listen` wasn't answered Ok yet, it listens, or `accept` has answered None
pub data Stage : Type 0 where
  Idle : Stage
  Listening : Stage
  Ended : Stage

-- a listener: how far it is, and its count of faults
pub record Front : Type 0 where
  pub stage : Stage
  pub faults : ℕ

-- how far a listener is after this answer of `accept`: None alone ends the listening
abbrev pub stage_after : {C : Type 0} → Option C → Stage
stage_after None = Ended
stage_after (Some connection) = Listening
