use Rattle.std.proofs.Common.{◌≡◌, ◌-◌, None}
use Rattle.odb_codec.specs.Reading.{writes_at}
use Rattle.odb_codec.proofs.Loop.{with_front, last_key}
use Rattle.odb_codec.proofs.write.writes_at.Given as goal

abbrev pub invariant-loop : goal.invariant-loop
invariant-loop l = with_front l.writes.items (writes_at (last_key l.writes.items) (l.count - l.counter) l.rest) ≡ writes_at None l.count l.bytes
