use Rattle.std.proofs.Common.{◌≡◌, replicate}
use Rattle.odb_system.specs.Held.{none_open}
use Rattle.odb_system.proofs.system.idle_sessions.Given as goal

abbrev pub invariant-loop-session : goal.invariant-loop-session
invariant-loop-session l = l.sessions.items ≡ replicate l._session none_open
