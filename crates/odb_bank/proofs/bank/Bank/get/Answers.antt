use Rattle.std.proofs.Common.{◌≡◌, ℕ, ◌+◌, ◌<◌, ◌≤◌, List, length, Option, Some, None, Ok, sym, ap, subst, arith}
use Rattle.std.specs.Prelude.{IfSome, IfOk}
use Rattle.std.proofs.lemmas.Option.{get_or_from_slice_get}
use Rattle.odb_values.specs.declared.value.Value.{Value}
use Rattle.odb_device.specs.World.{file_of}
use Rattle.odb_slots.specs.Slots.{slot_place}
use Rattle.odb_bank.specs.declared.kept.Kept.{Kept}
use Rattle.odb_bank.specs.History.{Key}
use Rattle.odb_bank.specs.Bank.{BankState, file_number, slot_limit, Stands}
use Rattle.odb_bank.specs.Choosing.{IsBest, HasRowAt}
use Rattle.odb_bank.proofs.Got.{Gives, got_none, got_mark, got_row, slot_there}
use Rattle.odb_bank.proofs.Reached.{IsSoFar, best_is}
use Rattle.odb_bank.proofs.bank.Bank.get.Goals as goal

pub returns-in_default-clause-row : goal.returns-in_default-clause-row
returns-in_default-clause-row g c =
    let v : BankState = record {
      extents = c.self.inside.extents;
      bank = c.self.inside.bank;
      mark = c.self.inside.mark;
      reached = c.self.inside.reached;
      phase = c.self.inside.phase;
      run = c.self.inside.run.items;
      slots = c.self.inside.slots;
    } in
    let key : Key = record { table = c.args.table; key = c.args.key.now } in
    let w = g.S.Outside.world c.args.store.now in
    let none : IsBest key v.slots (length v.slots) None = subst (λ (o : Option Kept). IsSoFar key v.slots (length v.slots) o) (sym c.in_default.ensures) (best_is key v.slots) in
    subst (λ (b : BankState). IfSome (file_of (file_number b) w) (Gives b key (Ok None))) c.self.view_is
    (got_none c.self.inside.file v c.self.invariant key (file_of (file_number v) w) none)

pub returns-then-not-kept-clause-row : goal.returns-then-not-kept-clause-row
returns-then-not-kept-clause-row g c =
    let v : BankState = record {
      extents = c.self.inside.extents;
      bank = c.self.inside.bank;
      mark = c.self.inside.mark;
      reached = c.self.inside.reached;
      phase = c.self.inside.phase;
      run = c.self.inside.run.items;
      slots = c.self.inside.slots;
    } in
    let key : Key = record { table = c.args.table; key = c.args.key.now } in
    let w = g.S.Outside.world c.args.store.now in
    let it : Kept = c.in-Some.kept.now in
    let found : IsSoFar key v.slots (length v.slots) (Some it) = subst (λ (o : Option Kept). IsSoFar key v.slots (length v.slots) o) (sym c.in-Some.ensures) (best_is key v.slots) in
    let best = found.1 in
    subst (λ (b : BankState). IfSome (file_of (file_number b) w) (Gives b key (Ok None))) c.self.view_is
    (got_mark c.self.inside.file v c.self.invariant key found.0 it best.is_it (it, found.1) (file_of (file_number v) w) c.if-not-kept.true)

pub returns-clause-row : goal.returns-clause-row
returns-clause-row g c =
    let v : BankState = record {
      extents = c.self.inside.extents;
      bank = c.self.inside.bank;
      mark = c.self.inside.mark;
      reached = c.self.inside.reached;
      phase = c.self.inside.phase;
      run = c.self.inside.run.items;
      slots = c.self.inside.slots;
    } in
    let key : Key = record { table = c.args.table; key = c.args.key.now } in
    let w = g.S.Outside.world c.args.store.now in
    let it : Kept = c.in-Some.kept.now in
    let found : IsSoFar key v.slots (length v.slots) (Some it) = subst (λ (o : Option Kept). IsSoFar key v.slots (length v.slots) o) (sym c.in-Some.ensures) (best_is key v.slots) in
    let best = found.1 in
    let inside = c.self.invariant.inside found.0 it best.below in
    let low : it.slot < slot_limit v = omega (arith, inside, ap (λ (x : Kept). x.slot) (get_or_from_slice_get v.slots found.0 it it best.is_it)) in
    let reads = subst (λ (n : ℕ). IfSome (file_of n w) (λ f. (row : List Value) → HasRowAt it.slot row f.bytes → IfOk c.row_at.result (λ found. found ≡ Some row))) (sym c.self.invariant.number) c.row_at.ensures.row in
    subst (λ (b : BankState). IfSome (file_of (file_number b) w) (Gives b key c.row_at.result)) c.self.view_is
    (got_row c.self.inside.file v c.self.invariant key found.0 it best.is_it (it, found.1) (file_of (file_number v) w) c.row_at.result (g.met.S.Store.reads_image c.args.store.now (file_number v)) low c.if-not-kept.false reads)

pub row_at-requires-clause-below : goal.row_at-requires-clause-below
row_at-requires-clause-below g c =
    let v : BankState = record {
      extents = c.self.inside.extents;
      bank = c.self.inside.bank;
      mark = c.self.inside.mark;
      reached = c.self.inside.reached;
      phase = c.self.inside.phase;
      run = c.self.inside.run.items;
      slots = c.self.inside.slots;
    } in
    let key : Key = record { table = c.args.table; key = c.args.key.now } in
    let w = g.S.Outside.world c.args.store.now in
    let it : Kept = c.in-Some.kept.now in
    let found : IsSoFar key v.slots (length v.slots) (Some it) = subst (λ (o : Option Kept). IsSoFar key v.slots (length v.slots) o) (sym c.in-Some.ensures) (best_is key v.slots) in
    let best = found.1 in
    let inside = c.self.invariant.inside found.0 it best.below in
    let low : it.slot < slot_limit v = omega (arith, inside, ap (λ (x : Kept). x.slot) (get_or_from_slice_get v.slots found.0 it it best.is_it)) in
    omega (arith, low, c.self.invariant.high)

pub row_at-requires-clause-long : goal.row_at-requires-clause-long
row_at-requires-clause-long g c =
    let v : BankState = record {
      extents = c.self.inside.extents;
      bank = c.self.inside.bank;
      mark = c.self.inside.mark;
      reached = c.self.inside.reached;
      phase = c.self.inside.phase;
      run = c.self.inside.run.items;
      slots = c.self.inside.slots;
    } in
    let key : Key = record { table = c.args.table; key = c.args.key.now } in
    let w = g.S.Outside.world c.args.store.now in
    let it : Kept = c.in-Some.kept.now in
    let found : IsSoFar key v.slots (length v.slots) (Some it) = subst (λ (o : Option Kept). IsSoFar key v.slots (length v.slots) o) (sym c.in-Some.ensures) (best_is key v.slots) in
    let best = found.1 in
    let inside = c.self.invariant.inside found.0 it best.below in
    let low : it.slot < slot_limit v = omega (arith, inside, ap (λ (x : Kept). x.slot) (get_or_from_slice_get v.slots found.0 it it best.is_it)) in
    let before : Stands v (file_of (file_number v) w) = subst (λ (b : BankState). Stands b (file_of (file_number b) w)) (sym c.self.view_is) c.requires in
    subst (λ (n : ℕ). IfSome (file_of n w) (λ f. slot_place (it.slot + 1) ≤ length f.bytes)) c.self.invariant.number
    (slot_there c.self.inside.file v c.self.invariant key (file_of (file_number v) w) it.slot (g.met.S.Store.reads_image c.args.store.now (file_number v)) before low)
