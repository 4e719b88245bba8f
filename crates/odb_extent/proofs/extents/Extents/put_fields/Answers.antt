use Rattle.std.proofs.Common.{◌≡◌, ℕ, List, refl, sym, ◌∙◌, ap, subst, arith, rules}
use Rattle.odb_device.specs.World.{World, file_of}
use Rattle.odb_device.specs.Images.{EachImage}
use Rattle.odb_pair.specs.Standing.{PairState, LeavesUnsettled}
use Rattle.odb_extent.specs.Standing.{ExtentState, limit_of, IsSound, Stands, HoldsAt, HoldsKeptOr, RunsExtents, Takes, LeavesTried}
use Rattle.odb_extent.proofs.Putting.{IsValueOf, made_value, put_runs, put_stands, put_holding, put_sound, put_takes, settled_stands, Leaves, unsettled_leaves, left_sound, left_tried, with_pair, on_err_any}
use Rattle.odb_extent.proofs.extents.Extents.put_fields.Given.{Over}
use Rattle.odb_extent.proofs.extents.Extents.put_fields.Goals as goal
use Rattle.odb_extent.proofs.extents.Extents.put_fields.Goals.{After-put}

module _ (g : Over) (c : After-put g) where
  abbrev e : ExtentState
  e = record { pair = c.self.inside.pair; most = c.self.inside.most }

  abbrev w : World
  w = g.S.Outside.world c.args.store.now

  abbrev now : World
  now = g.S.Outside.world c.put.new.store

  abbrev value : List ℕ
  value = c.value_with-value.result

  sound : IsSound e
  sound = c.self.invariant

  is : IsValueOf (limit_of e) c.args.fields.now value
  is =
      let same : c.limit.result ≡ limit_of e = c.limit.ensures.value ∙ ap limit_of (sym c.self.view_is) in
      let high = sound.high in
      let most = sound.most in
      made_value c.limit.result (limit_of e) c.args.fields.now value c.value_with-value.ensures same (omega arith) (search rules)

  stands : Stands e (file_of e.pair.file w)
  stands = subst (λ (x : ExtentState). Stands x (file_of x.pair.file w)) (sym c.self.view_is) c.requires

  runs : RunsExtents c.args.self.now (HoldsKeptOr c.args.self.now (limit_of c.args.self.now) c.args.fields.now) w now
  runs = subst (λ (x : ExtentState). RunsExtents x (HoldsKeptOr x (limit_of x) c.args.fields.now) w now) c.self.view_is (put_runs e c.args.fields.now value is w now c.put.ensures.run sound stands)

  failed : LeavesUnsettled value e.pair c.put.new.self → Leaves e c.put.new.self value
  failed left = unsettled_leaves e c.put.new.self value c.put.ensures.same left

  failed_stands : LeavesUnsettled value e.pair c.put.new.self → Stands (with_pair e c.put.new.self) (file_of c.args.self.now.pair.file now)
  failed_stands left = subst (λ (x : ExtentState). Stands (with_pair e c.put.new.self) (file_of x.pair.file now)) c.self.view_is
      (put_stands e c.args.fields.now value is w now c.put.ensures.run c.put.new.self (failed left) stands c.put.ensures.stands)

pub invariant_of-self : goal.invariant_of-self
invariant_of-self g c =
    let a = (goal.at.invariant_of-self g c).After-put in
    let same : limit_of (e g a) ≡ limit_of (e g a) = refl in
    left_sound (e g a) c.put.new.self (value g a) (failed g a c.in_err-put.ensures.unsettled) (sound g a) (omega (arith, (is g a).limit_is)) (omega (arith, (is g a).limit_is, (sound g a).high))

pub returns-in_err-put-clause-run : goal.returns-in_err-put-clause-run
returns-in_err-put-clause-run g c = runs g (goal.at.returns-in_err-put-clause-run g c).After-put

pub returns-in_err-put-clause-stands : goal.returns-in_err-put-clause-stands
returns-in_err-put-clause-stands g c = failed_stands g (goal.at.returns-in_err-put-clause-stands g c).After-put c.in_err-put.ensures.unsettled

pub returns-in_err-put-clause-tried : goal.returns-in_err-put-clause-tried
returns-in_err-put-clause-tried g c =
    let a = (goal.at.returns-in_err-put-clause-tried g c).After-put in
    on_err_any c.from_residual.result _
    (subst (λ (x : ExtentState). LeavesTried (limit_of x) c.args.fields.now x (with_pair (e g a) c.put.new.self)) c.self.view_is
    (left_tried (e g a) c.put.new.self (value g a) (failed g a c.in_err-put.ensures.unsettled) (limit_of (e g a)) c.args.fields.now (is g a)))

pub invariant_of-self-2 : goal.invariant_of-self-2
invariant_of-self-2 g c =
    let a = (goal.at.invariant_of-self-2 g c).After-put in
    put_sound (e g a) c.self.inside.pair c.put.new.self (limit_of (e g a)) c.args.fields.now (value g a) (is g a) c.in_ok-put.ensures.counts (sound g a).low (sound g a).high (sound g a).most

pub returns-clause-run : goal.returns-clause-run
returns-clause-run g c = runs g (goal.at.returns-clause-run g c).After-put

pub returns-clause-stands : goal.returns-clause-stands
returns-clause-stands g c =
    let a = (goal.at.returns-clause-stands g c).After-put in
    subst (λ (x : ExtentState). Stands (with_pair (e g a) c.put.new.self) (file_of x.pair.file (now g a))) c.self.view_is
    (settled_stands (with_pair (e g a) c.put.new.self) (file_of c.self.inside.pair.file (now g a))
    (ap (λ (k : PairState). k.tried) c.in_ok-put.ensures.counts ∙ sym (ap (λ (k : PairState). k.value) c.in_ok-put.ensures.counts)) c.put.ensures.stands)

pub returns-clause-holds : goal.returns-clause-holds
returns-clause-holds g c =
    let a = (goal.at.returns-clause-holds g c).After-put in
    subst (λ (x : ExtentState). EachImage (HoldsAt x (limit_of x) c.args.fields.now) (file_of x.pair.file (now g a))) c.self.view_is
    (put_holding (e g a) c.args.fields.now (value g a) (is g a) (w g a) (now g a) c.put.ensures.run (sound g a) c.in_ok-put.ensures.holds)

pub returns-clause-put : goal.returns-clause-put
returns-clause-put g c =
    let a = (goal.at.returns-clause-put g c).After-put in
    subst (λ (x : ExtentState). Takes (limit_of x) c.args.fields.now x (with_pair (e g a) c.put.new.self)) c.self.view_is
    (put_takes (e g a) c.self.inside.pair c.put.new.self (limit_of (e g a)) c.args.fields.now (value g a) (is g a) c.in_ok-put.ensures.counts c.put.ensures.same)
