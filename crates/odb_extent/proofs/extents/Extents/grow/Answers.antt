use Rattle.std.proofs.Common.{◌≡◌, ◌⊎◌, inl, inr, ℕ, ◌+◌, ◌<◌, ◌≤◌, List, refl, sym, ◌∙◌, ap, subst, arith, rules}
use Rattle.odb_device.specs.World.{World, file_of}
use Rattle.odb_device.specs.Images.{EachImage}
use Rattle.odb_pair.specs.Places.{Holds as PairHolds}
use Rattle.odb_pair.specs.Standing.{PairState, StandsFor, LeavesUnsettled}
use Rattle.odb_extent.specs.Opened.{AddsZeros}
use Rattle.odb_extent.specs.Standing.{ExtentState, limit_of, fields_of, IsSound, Stands, HoldsAt, HoldsKeptOr, RunsExtents, Takes, LeavesTried}
use Rattle.odb_extent.proofs.Putting.{IsValueOf, made_value, put_sound, put_takes, settled_stands, Leaves, unsettled_leaves, left_sound, left_tried, left_kept, with_pair, on_err_any}
use Rattle.odb_extent.proofs.Growing.{still_runs, runs_then, settle_runs, settle_stands, raise_runs, raise_holds, raise_stands, IsZeroed, zeroed, zeros_here}
use Rattle.odb_extent.proofs.extents.Extents.grow.Given.{Over}
use Rattle.odb_extent.proofs.extents.Extents.grow.Goals as goal
use Rattle.odb_extent.proofs.extents.Extents.grow.Goals.{After-settle, After-zero_extent, After-put}

-- what a growth leaves at each moment
abbrev Leads : ExtentState → World → World → Type 0
Leads x old new = RunsExtents x (HoldsKeptOr x (limit_of x + 1) (fields_of x)) old new

-- where there is no room for an extent more
pub returns-then-limit-self-clause-run : goal.returns-then-limit-self-clause-run
returns-then-limit-self-clause-run g c =
    let e = c.args.self.now in
    still_runs e (HoldsKeptOr e (limit_of e + 1) (fields_of e)) (g.S.Outside.world c.args.store.now) (λ bytes h. inl (c.limit-limit.ensures.holds bytes h)) c.requires

-- while the pair is settled
module _ (g : Over) (c : After-settle g) where
  abbrev s-e : ExtentState
  s-e = record { pair = c.self.inside.pair; most = c.self.inside.most }

  abbrev s-w : World
  s-w = g.S.Outside.world c.args.store.now

  abbrev s-mid : World
  s-mid = g.S.Outside.world c.settle.new.store

  s-stands : Stands s-e (file_of s-e.pair.file s-w)
  s-stands = subst (λ (x : ExtentState). Stands x (file_of x.pair.file s-w)) (sym c.self.view_is) c.requires

  s-leaves : LeavesUnsettled c.self.inside.pair.value c.self.inside.pair c.settle.new.self → Leaves s-e c.settle.new.self c.self.inside.pair.value
  s-leaves left = unsettled_leaves s-e c.settle.new.self c.self.inside.pair.value c.settle.ensures.same.0 left

pub returns-in_err-settle-clause-run : goal.returns-in_err-settle-clause-run
returns-in_err-settle-clause-run g c =
    let a = (goal.at.returns-in_err-settle-clause-run g c).After-settle in
    subst (λ (x : ExtentState). Leads x (s-w g a) (s-mid g a)) c.self.view_is (settle_runs (s-e g a) (fields_of (s-e g a)) c.self.invariant (s-w g a) (s-mid g a) (s-stands g a) c.settle.ensures.run)

pub returns-in_err-settle-clause-stands : goal.returns-in_err-settle-clause-stands
returns-in_err-settle-clause-stands g c =
    let a = (goal.at.returns-in_err-settle-clause-stands g c).After-settle in
    subst (λ (x : ExtentState). Stands (with_pair (s-e g a) c.settle.new.self) (file_of x.pair.file (s-mid g a))) c.self.view_is
    (settle_stands (s-e g a) (fields_of (s-e g a)) c.self.invariant c.settle.new.self (s-w g a) (s-mid g a) (s-leaves g a c.in_err-settle.ensures.unsettled) (s-stands g a) c.settle.ensures.run
    c.settle.ensures.stands)

pub returns-in_err-settle-clause-tried : goal.returns-in_err-settle-clause-tried
returns-in_err-settle-clause-tried g c =
    let a = (goal.at.returns-in_err-settle-clause-tried g c).After-settle in
    on_err_any c.from_residual.result _
    (subst (λ (x : ExtentState). LeavesTried (limit_of x + 1) (fields_of x) x (with_pair (s-e g a) c.settle.new.self)) c.self.view_is
    (left_kept (s-e g a) c.settle.new.self (limit_of (s-e g a) + 1) (fields_of (s-e g a)) (s-leaves g a c.in_err-settle.ensures.unsettled)))

pub invariant_of-self : goal.invariant_of-self
invariant_of-self g c =
    let a = (goal.at.invariant_of-self g c).After-settle in
    let sound : IsSound (s-e g a) = c.self.invariant in
    left_sound (s-e g a) c.settle.new.self c.self.inside.pair.value (s-leaves g a c.in_err-settle.ensures.unsettled) sound (omega arith) sound.high

-- while the extent is zeroed
module _ (g : Over) (c : After-zero_extent g) where
  abbrev z-e : ExtentState
  z-e = record { pair = c.self.inside.pair; most = c.self.inside.most }

  abbrev z-w : World
  z-w = g.S.Outside.world c.args.store.now

  abbrev z-now : World
  z-now = g.S.Outside.world c.zero_extent.new.store

  z-stands : Stands z-e (file_of z-e.pair.file z-w)
  z-stands = subst (λ (x : ExtentState). Stands x (file_of x.pair.file z-w)) (sym c.self.view_is) c.requires

  z-limit : c.limit-limit.result ≡ limit_of z-e
  z-limit = c.limit-limit.ensures.value ∙ ap limit_of (sym c.self.view_is)

  z-zeroed : IsZeroed z-e c.settle.new.self z-w z-now
  z-zeroed = zeroed z-e c.settle.new.self z-w (g.S.Outside.world c.settle.new.store) z-now c.limit-limit.result c.file.result c.self.invariant z-stands c.settle.ensures.run c.settle.ensures.stands c.settle.ensures.same
      c.in_ok-settle.ensures.ok.tried c.in_ok-settle.ensures.holds z-limit c.file.ensures c.zero_extent.ensures.run

  z-leaves : Leaves z-e c.settle.new.self c.self.inside.pair.value
  z-leaves = record { file = z-zeroed.limit_settled.file; kept = z-zeroed.limit_settled.kept; tried = inr (inl z-zeroed.limit_settled.tried) }

pub returns-in_err-zero_extent-clause-run : goal.returns-in_err-zero_extent-clause-run
returns-in_err-zero_extent-clause-run g c =
    let a = (goal.at.returns-in_err-zero_extent-clause-run g c).After-zero_extent in
    subst (λ (x : ExtentState). Leads x (z-w g a) (z-now g a)) c.self.view_is (z-zeroed g a).runs

pub returns-in_err-zero_extent-clause-stands : goal.returns-in_err-zero_extent-clause-stands
returns-in_err-zero_extent-clause-stands g c =
    let a = (goal.at.returns-in_err-zero_extent-clause-stands g c).After-zero_extent in
    let z = z-zeroed g a in
    subst (λ (x : ExtentState). Stands (with_pair (z-e g a) c.settle.new.self) (file_of x.pair.file (z-now g a))) c.self.view_is
    (settled_stands (with_pair (z-e g a) c.settle.new.self) (file_of c.self.inside.pair.file (z-now g a)) (z.limit_settled.tried ∙ sym z.limit_settled.kept) z.pair)

pub returns-in_err-zero_extent-clause-tried : goal.returns-in_err-zero_extent-clause-tried
returns-in_err-zero_extent-clause-tried g c =
    let a = (goal.at.returns-in_err-zero_extent-clause-tried g c).After-zero_extent in
    on_err_any c.from_residual-in_err-zero_extent.result _
    (subst (λ (x : ExtentState). LeavesTried (limit_of x + 1) (fields_of x) x (with_pair (z-e g a) c.settle.new.self)) c.self.view_is
    (left_kept (z-e g a) c.settle.new.self (limit_of (z-e g a) + 1) (fields_of (z-e g a)) (z-leaves g a)))

pub invariant_of-self-in_err-zero_extent : goal.invariant_of-self-in_err-zero_extent
invariant_of-self-in_err-zero_extent g c =
    let a = (goal.at.invariant_of-self-in_err-zero_extent g c).After-zero_extent in
    let sound : IsSound (z-e g a) = c.self.invariant in
    left_sound (z-e g a) c.settle.new.self c.self.inside.pair.value (z-leaves g a) sound (omega arith) sound.high

pub put-requires : goal.put-requires
put-requires g c =
    let a = (goal.at.put-requires g c).After-zero_extent in
    let z = z-zeroed g a in
    subst (λ (f : ℕ). EachImage (StandsFor c.settle.new.self) (file_of f (z-now g a))) (sym z.limit_settled.file) z.pair

-- while the limit is put
module _ (g : Over) (c : After-put g) where
  abbrev p-e : ExtentState
  p-e = record { pair = c.self.inside.pair; most = c.self.inside.most }

  abbrev p-w : World
  p-w = g.S.Outside.world c.args.store.now

  abbrev p-mid : World
  p-mid = g.S.Outside.world c.zero_extent.new.store

  abbrev p-now : World
  p-now = g.S.Outside.world c.put.new.store

  abbrev p-value : List ℕ
  p-value = c.value_with.result

  p-sound : IsSound p-e
  p-sound = c.self.invariant

  p-stands : Stands p-e (file_of p-e.pair.file p-w)
  p-stands = subst (λ (x : ExtentState). Stands x (file_of x.pair.file p-w)) (sym c.self.view_is) c.requires

  p-limit : c.limit-limit.result ≡ limit_of p-e
  p-limit = c.limit-limit.ensures.value ∙ ap limit_of (sym c.self.view_is)

  p-fields : c.fields-fields.result ≡ fields_of p-e
  p-fields = c.fields-fields.ensures ∙ ap fields_of (sym c.self.view_is)

  -- the limit isn't the greatest yet
  p-less : limit_of p-e < p-e.most
  p-less =
      let high : limit_of p-e ≤ p-e.most = p-sound.high in
      omega (arith, p-limit)

  p-is : IsValueOf (limit_of p-e + 1) (fields_of p-e) p-value
  p-is =
      let most = p-sound.most in
      let less = p-less in
      let made = made_value (c.limit-limit.result + 1) (c.limit-limit.result + 1) c.fields-fields.result p-value c.value_with.ensures refl (omega (arith, p-limit)) (search rules) in
      record { limit_is = made.limit_is ∙ ap (λ (k : ℕ). k + 1) p-limit; fields_are = made.fields_are ∙ p-fields }

  p-zeroed : IsZeroed p-e c.settle.new.self p-w p-mid
  p-zeroed = zeroed p-e c.settle.new.self p-w (g.S.Outside.world c.settle.new.store) p-mid c.limit-limit.result c.file.result p-sound p-stands c.settle.ensures.run c.settle.ensures.stands c.settle.ensures.same
      c.in_ok-settle.ensures.ok.tried c.in_ok-settle.ensures.holds p-limit c.file.ensures c.zero_extent.ensures.run

  p-zeros : EachImage (AddsZeros (limit_of p-e) (limit_of p-e + 1)) (file_of p-e.pair.file p-mid)
  p-zeros = zeros_here p-e c.settle.new.self p-mid c.limit-limit.result c.file.result p-limit c.file.ensures c.settle.ensures.same.0 c.in_ok-zero_extent.ensures.zero

  p-runs : Leads p-e p-w p-now
  p-runs = runs_then p-e (HoldsKeptOr p-e (limit_of p-e + 1) (fields_of p-e)) p-w p-mid p-now p-zeroed.runs
      (raise_runs p-e (fields_of p-e) p-sound c.settle.new.self p-zeroed.limit_settled p-value p-is p-mid p-now p-zeros c.put.ensures.run p-less)

  p-same : c.put.new.self.file ≡ p-e.pair.file
  p-same = c.put.ensures.same ∙ p-zeroed.limit_settled.file

  p-there : EachImage (StandsFor c.put.new.self) (file_of p-e.pair.file p-now)
  p-there = subst (λ (f : ℕ). EachImage (StandsFor c.put.new.self) (file_of f p-now)) p-zeroed.limit_settled.file c.put.ensures.stands

  -- where it failed
  p-tried : LeavesUnsettled p-value c.settle.new.self c.put.new.self → (c.put.new.self.tried ≡ p-e.pair.value) ⊎ (c.put.new.self.tried ≡ p-value)
  p-tried left = elim left.tried [ inl before ↦ inl (before ∙ p-zeroed.limit_settled.tried) | inr given ↦ inr given ]

  p-leaves : LeavesUnsettled p-value c.settle.new.self c.put.new.self → Leaves p-e c.put.new.self p-value
  p-leaves left = record { file = p-same; kept = left.value ∙ p-zeroed.limit_settled.kept; tried = inr (p-tried left) }

pub returns-in_err-put-clause-run : goal.returns-in_err-put-clause-run
returns-in_err-put-clause-run g c =
    let a = (goal.at.returns-in_err-put-clause-run g c).After-put in
    subst (λ (x : ExtentState). Leads x (p-w g a) (p-now g a)) c.self.view_is (p-runs g a)

pub returns-in_err-put-clause-stands : goal.returns-in_err-put-clause-stands
returns-in_err-put-clause-stands g c =
    let a = (goal.at.returns-in_err-put-clause-stands g c).After-put in
    let e = p-e g a in
    let left = c.in_err-put.ensures.unsettled in
    subst (λ (x : ExtentState). Stands (with_pair e c.put.new.self) (file_of x.pair.file (p-now g a))) c.self.view_is
    (raise_stands e (fields_of e) (p-sound g a) c.settle.new.self (p-zeroed g a).limit_settled (p-value g a) (p-is g a) (p-mid g a) (p-now g a) (p-zeros g a) c.put.ensures.run
    c.put.new.self (p-leaves g a left) (p-tried g a left) (p-there g a))

pub returns-in_err-put-clause-tried : goal.returns-in_err-put-clause-tried
returns-in_err-put-clause-tried g c =
    let a = (goal.at.returns-in_err-put-clause-tried g c).After-put in
    let e = p-e g a in
    on_err_any c.from_residual-in_err-put.result _
    (subst (λ (x : ExtentState). LeavesTried (limit_of x + 1) (fields_of x) x (with_pair e c.put.new.self)) c.self.view_is
    (left_tried e c.put.new.self (p-value g a) (p-leaves g a c.in_err-put.ensures.unsettled) (limit_of e + 1) (fields_of e) (p-is g a)))

pub invariant_of-self-in_err-put : goal.invariant_of-self-in_err-put
invariant_of-self-in_err-put g c =
    let a = (goal.at.invariant_of-self-in_err-put g c).After-put in
    let less = p-less g a in
    left_sound (p-e g a) c.put.new.self (p-value g a) (p-leaves g a c.in_err-put.ensures.unsettled) (p-sound g a) (omega (arith, (p-is g a).limit_is)) (omega (arith, (p-is g a).limit_is))

pub returns-clause-run : goal.returns-clause-run
returns-clause-run g c =
    let a = (goal.at.returns-clause-run g c).After-put in
    subst (λ (x : ExtentState). Leads x (p-w g a) (p-now g a)) c.self.view_is (p-runs g a)

pub returns-clause-stands : goal.returns-clause-stands
returns-clause-stands g c =
    let a = (goal.at.returns-clause-stands g c).After-put in
    let e = p-e g a in
    subst (λ (x : ExtentState). Stands (with_pair e c.put.new.self) (file_of x.pair.file (p-now g a))) c.self.view_is
    (settled_stands (with_pair e c.put.new.self) (file_of e.pair.file (p-now g a))
    (ap (λ (k : PairState). k.tried) c.in_ok-put.ensures.counts ∙ sym (ap (λ (k : PairState). k.value) c.in_ok-put.ensures.counts)) (p-there g a))

pub returns-clause-holds : goal.returns-clause-holds
returns-clause-holds g c =
    let a = (goal.at.returns-clause-holds g c).After-put in
    let e = p-e g a in
    let here = (p-zeroed g a).limit_settled.file in
    subst (λ (x : ExtentState). EachImage (HoldsAt x (limit_of x + 1) (fields_of x)) (file_of x.pair.file (p-now g a))) c.self.view_is
    (raise_holds e (fields_of e) (p-sound g a) c.settle.new.self (p-zeroed g a).limit_settled (p-value g a) (p-is g a) (p-mid g a) (p-now g a) (p-zeros g a) c.put.ensures.run (p-less g a)
    (subst (λ (f : ℕ). EachImage (PairHolds (p-value g a)) (file_of f (p-now g a))) here c.in_ok-put.ensures.holds))

pub returns-clause-grown : goal.returns-clause-grown
returns-clause-grown g c =
    let a = (goal.at.returns-clause-grown g c).After-put in
    let e = p-e g a in
    subst (λ (x : ExtentState). Takes (limit_of x + 1) (fields_of x) x (with_pair e c.put.new.self)) c.self.view_is
    (put_takes e c.settle.new.self c.put.new.self (limit_of e + 1) (fields_of e) (p-value g a) (p-is g a) c.in_ok-put.ensures.counts (p-same g a))

pub invariant_of-self-2 : goal.invariant_of-self-2
invariant_of-self-2 g c =
    let a = (goal.at.invariant_of-self-2 g c).After-put in
    let e = p-e g a in
    let less = p-less g a in
    put_sound e c.settle.new.self c.put.new.self (limit_of e + 1) (fields_of e) (p-value g a) (p-is g a) c.in_ok-put.ensures.counts (omega arith) (omega arith) (p-sound g a).most
