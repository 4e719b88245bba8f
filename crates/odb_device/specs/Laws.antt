-- Which moments there are: laws of every world, and so of every implementation of the traits.
use Rattle.std.proofs.Common.{◌≡◌, ℕ, ◌≤◌, subst, arith}
use Rattle.odb_device.specs.World.{Moment, World, present}
use Rattle.odb_device.specs.Moments.{EachMoment}

-- the present is one of the moments from an earlier world on: what holds at each of them holds now
pub now_counts : (Q : Moment → Type 0) (old new : World) → old.time ≤ new.time
    → EachMoment Q old new → Q (present new)
now_counts Q old new later each = each new.time later (omega arith)

-- since now there is no other moment than the present: what holds now holds at each of them
pub now_alone : (Q : Moment → Type 0) (w : World) → Q (present w) → EachMoment Q w w
now_alone Q w here = λ k from to.
    let same : w.time ≡ k = omega arith in
    subst (λ (m : ℕ). Q (w.moment m)) same here
