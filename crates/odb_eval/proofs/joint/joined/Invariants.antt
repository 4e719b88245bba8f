use Rattle.std.proofs.Common.{◌≡◌, fold, reverse, vec_len}
use Rattle.odb_eval.specs.Joint.{under}
use Rattle.odb_eval.proofs.joint.joined.Given as goal

-- the joints that are left make the same of what is joined so far
abbrev pub invariant-loop-joint : goal.invariant-loop-joint
invariant-loop-joint l = fold under l.whole (reverse l.joints.items) ≡ fold under l.fn.lowest (reverse l.fn.joints.items)

abbrev pub decreases-loop-joint : goal.decreases-loop-joint
decreases-loop-joint l = vec_len l.joints
