use Rattle.std.proofs.Common.{◌≡◌, ◌+◌, ◌*◌, ◌^◌, ◌<◌, ◌≤◌, ℕ, List, length, Some, sym, ◌∙◌, ap, subst, arith}
use Rattle.std.specs.Prelude.{slice_get}
use Rattle.std.proofs.lemmas.Option.{slice_get_read}
use Rattle.odb_device.specs.World.{World, file_of}
use Rattle.odb_device.specs.Images.{overwritten}
use Rattle.odb_device.specs.Moments.{Runs}
use Rattle.odb_device.specs.TornSets.{InRange, TornInFrom}
use Rattle.odb_device.proofs.Torn.{each_weakens}
use Rattle.odb_device.proofs.Writing.{write_inside, writing_on, writing_sync, writing_done}
use Rattle.odb_slots.specs.Slots.{slot_place}
use Rattle.odb_slots.specs.Bodies.{IsInGrammar, slot_image}
use Rattle.odb_slots.specs.Sets.{BodiesOf, HasSlot, HasItems}
use Rattle.odb_slots.specs.declared.item.SlotItem.{SlotItem}
use Rattle.odb_slots.proofs.Imaging.{length-slot_image}
use Rattle.odb_slots.proofs.Filling.{HaveItems, each_of, items_more, items_all, body_inside}
use Rattle.odb_slots.proofs.bodies.put_bodies.Given.{Over}
use Rattle.odb_slots.proofs.bodies.put_bodies.Goals.{After-write_at}
use Rattle.odb_slots.proofs.bodies.put_bodies.Goals as goal

module _ (g : Over) (c : After-write_at g) where
  abbrev items : List SlotItem
  items = c.args.items.now

  abbrev i : ℕ
  i = c.loop-item.item-index

  abbrev item : SlotItem
  item = c.item-item.result

  abbrev body : List ℕ
  body = c.body_of.result

  abbrev first : World
  first = g.S.Outside.world c.args.store.now

  abbrev new : World
  new = g.S.Outside.world c.write_at.new.self

  here : slice_get items i ≡ Some item
  here = slice_get_read items (length items) i item (omega arith) c.loop-item-test.true c.item-item.is

  slot : c.from.result ≡ item.slot
  slot = c.from.ensures

  fits : IsInGrammar item
  fits = each_of IsInGrammar items i item here c.requires.grammar

  below : item.slot < 4194304
  below = each_of (λ x. x.slot < 4194304) items i item here c.requires.below

  image : body ≡ slot_image item
  image = c.body_of.ensures.image

  size : length body ≡ 1023
  size = ap (λ (l : List ℕ). length l) image ∙ length-slot_image item fits.narrow

  inside : (x : ℕ) → InRange (1025 + 1024 * c.from.result) (length body) x → BodiesOf (HasSlot items) x
  inside x within = body_inside items i x (length body) item here size (omega (arith, slot, within.0), omega (arith, slot, within.1))

  run : Runs c.args.file (TornInFrom (BodiesOf (HasSlot items)) (2 ^ 40) (file_of c.args.file first)) first new
  run = write_inside (BodiesOf (HasSlot items)) (2 ^ 40) c.args.file first (g.S.Outside.world c.loop-item.store) new c.write_at.result (1025 + 1024 * c.from.result) body inside
      (omega (arith, slot, below, size)) c.loop-item.invariant.run c.write_at.ensures.call c.write_at.ensures.written c.write_at.ensures.torn

  step : (before : List ℕ) → HaveItems items i before → HaveItems items (i + 1) (overwritten (1025 + 1024 * c.from.result) body before)
  step before have =
      let there : slot_place item.slot + 1 ≡ 1025 + 1024 * c.from.result = omega (arith, slot) in
      subst (λ (at : ℕ). HaveItems items (i + 1) (overwritten at body before)) there
      (subst (λ (l : List ℕ). HaveItems items (i + 1) (overwritten (slot_place item.slot + 1) l before)) (sym image)
      (items_more items i item before c.requires.apart here fits c.body_of.ensures.typed have))

pub returns-in_err-write_at-clause-run : goal.returns-in_err-write_at-clause-run
returns-in_err-write_at-clause-run g c = run g (goal.at.returns-in_err-write_at-clause-run g c).After-write_at

pub loop-item-preserved : goal.loop-item-preserved
loop-item-preserved g c =
    let a = (goal.at.loop-item-preserved g c).After-write_at in
    writing_on (BodiesOf (HasSlot c.args.items.now)) (2 ^ 40) c.args.file (HaveItems c.args.items.now c.loop-item.item-index) (HaveItems c.args.items.now (c.loop-item.item-index + 1))
    (g.S.Outside.world c.args.store.now) (g.S.Outside.world c.loop-item.store) (g.S.Outside.world c.write_at.new.self) (1025 + 1024 * c.from.result) (body g a)
    (step g a) (run g a) c.loop-item.invariant c.in_ok-write_at.ensures.written

pub returns-in_err-sync-clause-run : goal.returns-in_err-sync-clause-run
returns-in_err-sync-clause-run g c =
    writing_sync (BodiesOf (HasSlot c.args.items.now)) (2 ^ 40) c.args.file (g.S.Outside.world c.args.store.now) (g.S.Outside.world c.loop-item.store) (g.S.Outside.world c.sync.new.self)
    c.sync.result c.loop-item.invariant.run c.sync.ensures.call (g.met.S.Store.reads_image c.loop-item.store c.args.file) c.sync.ensures.kept c.sync.ensures.unsettled

pub returns-clause-run : goal.returns-clause-run
returns-clause-run g c =
    writing_sync (BodiesOf (HasSlot c.args.items.now)) (2 ^ 40) c.args.file (g.S.Outside.world c.args.store.now) (g.S.Outside.world c.loop-item.store) (g.S.Outside.world c.sync.new.self)
    c.sync.result c.loop-item.invariant.run c.sync.ensures.call (g.met.S.Store.reads_image c.loop-item.store c.args.file) c.sync.ensures.kept c.sync.ensures.unsettled

pub returns-clause-done : goal.returns-clause-done
returns-clause-done g c =
    let D = HaveItems c.args.items.now c.loop-item.item-index in
    let new = g.S.Outside.world c.sync.new.self in
    let all : length c.args.items.now ≤ c.loop-item.item-index = c.loop-item-test.false in
    each_weakens D (HasItems c.args.items.now) (file_of c.args.file new) (λ image have. items_all c.args.items.now c.loop-item.item-index image all have)
    (writing_done (BodiesOf (HasSlot c.args.items.now)) (2 ^ 40) c.args.file D (g.S.Outside.world c.args.store.now) (g.S.Outside.world c.loop-item.store) new c.loop-item.invariant c.in_ok-sync.ensures.kept)
