use Rattle.std.proofs.Common.{ℕ, List, subst}
use Rattle.odb_extent.specs.Standing.{ExtentState, IsFileOf, HoldsKept}
use Rattle.odb_extent.proofs.Putting.{kept_holds}
use Rattle.odb_extent.proofs.extents.Extents.limit.Goals as goal

pub returns-clause-holds : goal.returns-clause-holds
returns-clause-holds c =
    let e : ExtentState = record { pair = c.self.inside.pair; most = c.self.inside.most } in
    subst (λ (x : ExtentState). (bytes : List ℕ) → IsFileOf x bytes → HoldsKept x bytes) c.self.view_is
    (λ bytes h. kept_holds e bytes c.self.invariant h.added (c.value.ensures.holds bytes h.pair))
