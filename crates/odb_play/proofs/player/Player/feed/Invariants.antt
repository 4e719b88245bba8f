use Rattle.std.proofs.Common.{length}
use Rattle.odb_play.proofs.Feeding.{IsFeeding}
use Rattle.odb_play.proofs.player.Player.feed.Given as goal

abbrev pub invariant-loop-end : goal.invariant-loop-end
invariant-loop-end g l =
    IsFeeding l.fn.self.system l.fn.self.front.items l.piece (g.H.Outside.world l.fn.host) l.self.system l.self.front.items l.rest (g.H.Outside.world l.host)

abbrev pub decreases-loop-end : goal.decreases-loop-end
decreases-loop-end g l = length l.rest
