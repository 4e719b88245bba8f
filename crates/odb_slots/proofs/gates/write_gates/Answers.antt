use Rattle.std.proofs.Common.{◌≡◌, ◌+◌, ◌*◌, ◌^◌, ◌<◌, ℕ, List, [], ◌∷◌, length, sym, subst, arith, rules}
use Rattle.std.specs.Prelude.{slice_index}
use Rattle.odb_device.specs.World.{World, file_of}
use Rattle.odb_device.specs.Images.{EachImage, overwritten}
use Rattle.odb_device.specs.Calls.{Keeps}
use Rattle.odb_device.specs.Moments.{Runs}
use Rattle.odb_device.specs.TornSets.{InRange, TornInFrom}
use Rattle.odb_device.proofs.Writing.{write_inside, writing_begins, writing_on, writing_sync, writing_done, if_some, on_ok}
use Rattle.odb_slots.specs.Slots.{slot_place}
use Rattle.odb_slots.specs.Sets.{GatesOf, IsOneOf, HaveGates}
use Rattle.odb_slots.proofs.Gating.{gates_more, gate_inside}
use Rattle.odb_slots.proofs.gates.write_gates.Given.{Over}
use Rattle.odb_slots.proofs.gates.write_gates.Goals.{After-write_at}
use Rattle.odb_slots.proofs.gates.write_gates.Goals as goal

module _ (g : Over) (c : After-write_at g) where
  abbrev slots : List ℕ
  slots = c.args.slots.now

  abbrev i : ℕ
  i = c.loop-slot.slot-index

  abbrev first : World
  first = g.S.Outside.world c.args.store.now

  abbrev new : World
  new = g.S.Outside.world c.write_at.new.self

  low : i < length slots
  low = c.loop-slot-test.true

  this : c.from.result ≡ slice_index slots i
  this = search rules

  run : Runs c.args.file (TornInFrom (GatesOf (IsOneOf slots)) (2 ^ 40) (file_of c.args.file first)) first new
  run = write_inside (GatesOf (IsOneOf slots)) (2 ^ 40) c.args.file first (g.S.Outside.world c.loop-slot.store) new c.write_at.result (1024 + 1024 * c.from.result) (c.args.gate ∷ [])
      (subst (λ (s : ℕ). (x : ℕ) → InRange (slot_place s) 1 x → GatesOf (IsOneOf slots) x) (sym this) (λ x. gate_inside slots i x low))
      (omega (arith, this, c.requires i low)) c.loop-slot.invariant.run c.write_at.ensures.call c.write_at.ensures.written c.write_at.ensures.torn

  step : (before : List ℕ) → HaveGates c.args.gate slots i before → HaveGates c.args.gate slots (i + 1) (overwritten (1024 + 1024 * c.from.result) (c.args.gate ∷ []) before)
  step = subst (λ (s : ℕ). (before : List ℕ) → HaveGates c.args.gate slots i before → HaveGates c.args.gate slots (i + 1) (overwritten (slot_place s) (c.args.gate ∷ []) before)) (sym this) (gates_more c.args.gate slots i)

pub returns-in_err-write_at-clause-run : goal.returns-in_err-write_at-clause-run
returns-in_err-write_at-clause-run g c = run g (goal.at.returns-in_err-write_at-clause-run g c).After-write_at

pub loop-slot-preserved : goal.loop-slot-preserved
loop-slot-preserved g c =
    let a = (goal.at.loop-slot-preserved g c).After-write_at in
    let P = GatesOf (IsOneOf c.args.slots.now) in
    writing_on P (2 ^ 40) c.args.file (HaveGates c.args.gate c.args.slots.now c.loop-slot.slot-index) (HaveGates c.args.gate c.args.slots.now (c.loop-slot.slot-index + 1))
    (g.S.Outside.world c.args.store.now) (g.S.Outside.world c.loop-slot.store) (g.S.Outside.world c.write_at.new.self) (1024 + 1024 * c.from.result) (c.args.gate ∷ [])
    (step g a) (run g a) c.loop-slot.invariant c.in_ok-write_at.ensures.written

pub returns-clause-run : goal.returns-clause-run
returns-clause-run g c =
    let first = g.S.Outside.world c.args.store.now in
    let old = g.S.Outside.world c.loop-slot.store in
    let new = g.S.Outside.world c.sync.new.self in
    writing_sync (GatesOf (IsOneOf c.args.slots.now)) (2 ^ 40) c.args.file first old new c.sync.result c.loop-slot.invariant.run c.sync.ensures.call (g.met.S.Store.reads_image c.loop-slot.store c.args.file) c.sync.ensures.kept c.sync.ensures.unsettled

pub returns-clause-done : goal.returns-clause-done
returns-clause-done g c =
    let P = GatesOf (IsOneOf c.args.slots.now) in
    let old = g.S.Outside.world c.loop-slot.store in
    let new = g.S.Outside.world c.sync.new.self in
    let all : c.loop-slot.slot-index ≡ length c.args.slots.now = omega (arith, c.loop-slot-test.false, c.loop-slot.auto.slot-index-end) in
    let D = HaveGates c.args.gate c.args.slots.now in
    on_ok (Keeps c.args.file old new) (EachImage (D (length c.args.slots.now)) (file_of c.args.file new)) c.sync.result
    (λ keeps. subst (λ (n : ℕ). EachImage (D n) (file_of c.args.file new)) all
    (writing_done P (2 ^ 40) c.args.file (D c.loop-slot.slot-index) (g.S.Outside.world c.args.store.now) old new c.loop-slot.invariant keeps))
    c.sync.ensures.kept

pub loop-slot-init : goal.loop-slot-init
loop-slot-init g c = writing_begins (GatesOf (IsOneOf c.args.slots.now)) (2 ^ 40) c.args.file (HaveGates c.args.gate c.args.slots.now 0) (g.S.Outside.world c.args.store.now)
    (if_some (λ f. HaveGates c.args.gate c.args.slots.now 0 f.bytes) (file_of c.args.file (g.S.Outside.world c.args.store.now)) (λ f k none. absurd (omega arith)))
