use Rattle.std.proofs.Common.{◌≡◌, ◌^◌, ◌<◌, sym, subst, arith}
use Rattle.odb_device.specs.World.{file_of}
use Rattle.odb_device.specs.Images.{EachImage}
use Rattle.odb_device.specs.Moments.{Runs, ChangesOnly}
use Rattle.odb_bank.specs.declared.phase.Phase.TheVariants.{Idle}
use Rattle.odb_bank.specs.History.{History}
use Rattle.odb_bank.specs.Files.{StandsAt}
use Rattle.odb_bank.specs.Bank.{BankState, file_number, Stands, StandsFor}
use Rattle.odb_bank.specs.Begun.{HasGrown, KeepsTold}
use Rattle.odb_bank.specs.Growing.{IsGrowing}
use Rattle.odb_bank.proofs.RoomTurn.{with_extents, extents_stand, room_sound, room_grown, room_told, room_stands, room_run, room_history}
use Rattle.odb_bank.proofs.bank.Bank.make_room.Goals as goal

pub grow_to-requires-clause-stands : goal.grow_to-requires-clause-stands
grow_to-requires-clause-stands g c =
    let v : BankState = record {
      extents = c.self.inside.extents;
      bank = c.self.inside.bank;
      mark = c.self.inside.mark;
      reached = c.self.inside.reached;
      phase = c.self.inside.phase;
      run = c.self.inside.run.items;
      slots = c.self.inside.slots;
    } in
    let w = g.S.Outside.world c.args.store.now in
    let before : Stands v (file_of (file_number v) w) = subst (λ (b : BankState). Stands b (file_of (file_number b) w)) (sym c.self.view_is) c.requires.stands in
    extents_stand v (file_of (file_number v) w) before

pub invariant_of-self : goal.invariant_of-self
invariant_of-self g c =
    let v : BankState = record {
      extents = c.self.inside.extents;
      bank = c.self.inside.bank;
      mark = c.self.inside.mark;
      reached = c.self.inside.reached;
      phase = c.self.inside.phase;
      run = c.self.inside.run.items;
      slots = c.self.inside.slots;
    } in
    let w = g.S.Outside.world c.args.store.now in
    let now = g.S.Outside.world c.grow_to.new.store in
    let idle : v.phase ≡ Idle = subst (λ (b : BankState). b.phase ≡ Idle) (sym c.self.view_is) c.requires.idle in
    let e = c.grow_to.new.extents in
    let small : v.mark < 2 ^ 64 = omega arith in
    let growing : IsGrowing v.extents w e now = c.grow_to.ensures.grown in
    room_sound v c.self.inside.file c.self.invariant idle small e w now growing (omega (arith, c.grow_to.ensures.bound, c.self.invariant.high, c.requires.limit))

pub returns-clause-only : goal.returns-clause-only
returns-clause-only g c =
    let v : BankState = record {
      extents = c.self.inside.extents;
      bank = c.self.inside.bank;
      mark = c.self.inside.mark;
      reached = c.self.inside.reached;
      phase = c.self.inside.phase;
      run = c.self.inside.run.items;
      slots = c.self.inside.slots;
    } in
    let w = g.S.Outside.world c.args.store.now in
    let now = g.S.Outside.world c.grow_to.new.store in
    let idle : v.phase ≡ Idle = subst (λ (b : BankState). b.phase ≡ Idle) (sym c.self.view_is) c.requires.idle in
    let e = c.grow_to.new.extents in
    let small : v.mark < 2 ^ 64 = omega arith in
    let growing : IsGrowing v.extents w e now = c.grow_to.ensures.grown in
    subst (λ (b : BankState). ChangesOnly (file_number b) w now) c.self.view_is
    growing.only

pub returns-clause-run : goal.returns-clause-run
returns-clause-run g c =
    let v : BankState = record {
      extents = c.self.inside.extents;
      bank = c.self.inside.bank;
      mark = c.self.inside.mark;
      reached = c.self.inside.reached;
      phase = c.self.inside.phase;
      run = c.self.inside.run.items;
      slots = c.self.inside.slots;
    } in
    let w = g.S.Outside.world c.args.store.now in
    let now = g.S.Outside.world c.grow_to.new.store in
    let idle : v.phase ≡ Idle = subst (λ (b : BankState). b.phase ≡ Idle) (sym c.self.view_is) c.requires.idle in
    let e = c.grow_to.new.extents in
    let small : v.mark < 2 ^ 64 = omega arith in
    let growing : IsGrowing v.extents w e now = c.grow_to.ensures.grown in
    subst (λ (b : BankState). (h : History) → StandsFor h b (file_of (file_number b) w) → Runs (file_number b) (EachImage (StandsAt b.bank h b.mark)) w now) c.self.view_is
    (λ h stands. room_run v c.self.inside.file c.self.invariant idle small e w now growing h stands)

pub returns-clause-history : goal.returns-clause-history
returns-clause-history g c =
    let v : BankState = record {
      extents = c.self.inside.extents;
      bank = c.self.inside.bank;
      mark = c.self.inside.mark;
      reached = c.self.inside.reached;
      phase = c.self.inside.phase;
      run = c.self.inside.run.items;
      slots = c.self.inside.slots;
    } in
    let w = g.S.Outside.world c.args.store.now in
    let now = g.S.Outside.world c.grow_to.new.store in
    let idle : v.phase ≡ Idle = subst (λ (b : BankState). b.phase ≡ Idle) (sym c.self.view_is) c.requires.idle in
    let e = c.grow_to.new.extents in
    let small : v.mark < 2 ^ 64 = omega arith in
    let growing : IsGrowing v.extents w e now = c.grow_to.ensures.grown in
    subst (λ (b : BankState). (h : History) → StandsFor h b (file_of (file_number b) w) → StandsFor h (with_extents v e) (file_of (file_number b) now)) c.self.view_is
    (λ h stands. room_history v c.self.inside.file c.self.invariant idle small e w now growing h stands)

pub returns-clause-grown : goal.returns-clause-grown
returns-clause-grown g c =
    let v : BankState = record {
      extents = c.self.inside.extents;
      bank = c.self.inside.bank;
      mark = c.self.inside.mark;
      reached = c.self.inside.reached;
      phase = c.self.inside.phase;
      run = c.self.inside.run.items;
      slots = c.self.inside.slots;
    } in
    let w = g.S.Outside.world c.args.store.now in
    let now = g.S.Outside.world c.grow_to.new.store in
    let idle : v.phase ≡ Idle = subst (λ (b : BankState). b.phase ≡ Idle) (sym c.self.view_is) c.requires.idle in
    let e = c.grow_to.new.extents in
    let small : v.mark < 2 ^ 64 = omega arith in
    let growing : IsGrowing v.extents w e now = c.grow_to.ensures.grown in
    subst (λ (b : BankState). HasGrown b (with_extents v e)) c.self.view_is
    (room_grown v c.self.inside.file c.self.invariant idle small e w now growing)

pub returns-clause-told : goal.returns-clause-told
returns-clause-told g c =
    let v : BankState = record {
      extents = c.self.inside.extents;
      bank = c.self.inside.bank;
      mark = c.self.inside.mark;
      reached = c.self.inside.reached;
      phase = c.self.inside.phase;
      run = c.self.inside.run.items;
      slots = c.self.inside.slots;
    } in
    let w = g.S.Outside.world c.args.store.now in
    let now = g.S.Outside.world c.grow_to.new.store in
    let idle : v.phase ≡ Idle = subst (λ (b : BankState). b.phase ≡ Idle) (sym c.self.view_is) c.requires.idle in
    let e = c.grow_to.new.extents in
    let small : v.mark < 2 ^ 64 = omega arith in
    let growing : IsGrowing v.extents w e now = c.grow_to.ensures.grown in
    subst (λ (b : BankState). KeepsTold b (with_extents v e) (file_of (file_number b) w) (file_of (file_number b) now)) c.self.view_is
    (room_told v c.self.inside.file c.self.invariant idle small e w now growing)

pub returns-clause-stands : goal.returns-clause-stands
returns-clause-stands g c =
    let v : BankState = record {
      extents = c.self.inside.extents;
      bank = c.self.inside.bank;
      mark = c.self.inside.mark;
      reached = c.self.inside.reached;
      phase = c.self.inside.phase;
      run = c.self.inside.run.items;
      slots = c.self.inside.slots;
    } in
    let w = g.S.Outside.world c.args.store.now in
    let now = g.S.Outside.world c.grow_to.new.store in
    let idle : v.phase ≡ Idle = subst (λ (b : BankState). b.phase ≡ Idle) (sym c.self.view_is) c.requires.idle in
    let e = c.grow_to.new.extents in
    let small : v.mark < 2 ^ 64 = omega arith in
    let growing : IsGrowing v.extents w e now = c.grow_to.ensures.grown in
    let before : Stands v (file_of (file_number v) w) = subst (λ (b : BankState). Stands b (file_of (file_number b) w)) (sym c.self.view_is) c.requires.stands in
    subst (λ (b : BankState). Stands (with_extents v e) (file_of (file_number b) now)) c.self.view_is
    (room_stands v c.self.inside.file c.self.invariant idle small e w now growing before)
