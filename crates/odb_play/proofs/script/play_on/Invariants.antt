use Rattle.std.proofs.Common.{◌≡◌, ◌-◌, ◌≤◌, ◌<◌, [], length}
use Rattle.odb_device.specs.World.{file_of, present}
use Rattle.odb_machine.specs.Machine.{Machine}
use Rattle.odb_machine.specs.Play.{most_input}
use Rattle.odb_system.specs.Held.{StandsFor}
use Rattle.odb_system.specs.Durable.{IsDurable}
use Rattle.odb_system.specs.Kept.{Rests}
use Rattle.odb_play.specs.Outside.{TouchesOnly}
use Rattle.odb_play.proofs.Playing.{IsPlaying}
use Rattle.odb_play.proofs.script.play_on.Given as goal

abbrev pub invariant-loop-taken : goal.invariant-loop-taken
invariant-loop-taken g l = record {
  few : l.taken ≤ most_input;
  room : 0 < length l.piece;
  only : TouchesOnly 0 (g.H.Outside.world l.fn.host) (g.H.Outside.world l.host);
  durable : IsDurable l.player.system (file_of 0 (g.H.Outside.world l.host));
  playing : (m : Machine) → StandsFor l.fn.player.system m → Rests m (present (g.H.Outside.world l.fn.host)) → l.fn.player.front.items ≡ []
      → IsPlaying m l.player.system l.player.front.items l.taken (g.H.Outside.world l.fn.host) (g.H.Outside.world l.host);
}

abbrev pub decreases-loop-taken : goal.decreases-loop-taken
decreases-loop-taken g l = most_input - l.taken
