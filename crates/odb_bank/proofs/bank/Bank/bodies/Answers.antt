use Rattle.std.proofs.Common.{◌≡◌, ◌⊎◌, ℕ, ◌+◌, ◌*◌, ◌≤◌, List, Result, Err, subst, rules}
use Rattle.odb_slots.specs.Sets.{IsOneOf}
use Rattle.odb_bank.specs.declared.error.BankError.{BankError}
use Rattle.odb_bank.specs.declared.error.BankError.TheVariants.{Fault}
use Rattle.odb_bank.specs.Begun.{IsBodiesAnswer}
use Rattle.odb_bank.specs.Closing.{staying_of}
use Rattle.odb_bank.proofs.Beginning.{IsPart, part_closed, part_room, then_part, then_only, then_run, then_history, then_closes, room_for, taken, filled}
use Rattle.odb_bank.proofs.bank.Bank.bodies.Goals as goal

pub returns-in_err-make_room-clause-only : goal.returns-in_err-make_room-clause-only
returns-in_err-make_room-clause-only g c =
    let b = c.args.self.now in
    let entries = c.args.entries.now in
    let p = c.in_ok-plan.plan in
    let w = g.S.Outside.world c.args.store.now in
    let m = g.S.Outside.world c.close.new.store in
    let answer = c.in_ok-plan.ensures in
    let closes = c.close.new.self in
    let n = g.S.Outside.world c.make_room.new.store in
    let d = c.make_room.new.self in
    let closed = c.in_ok-close.ensures.closed in
    let one : IsPart b closes w m = part_closed b closes w m (staying_of b) closed c.close.ensures.frame.only c.close.ensures.run c.close.ensures.history in
    let grown = c.make_room.ensures.grown in
    then_only b closes w m n one c.make_room.ensures.only

pub returns-in_err-make_room-clause-run : goal.returns-in_err-make_room-clause-run
returns-in_err-make_room-clause-run g c =
    let b = c.args.self.now in
    let entries = c.args.entries.now in
    let p = c.in_ok-plan.plan in
    let w = g.S.Outside.world c.args.store.now in
    let m = g.S.Outside.world c.close.new.store in
    let answer = c.in_ok-plan.ensures in
    let closes = c.close.new.self in
    let n = g.S.Outside.world c.make_room.new.store in
    let d = c.make_room.new.self in
    let closed = c.in_ok-close.ensures.closed in
    let one : IsPart b closes w m = part_closed b closes w m (staying_of b) closed c.close.ensures.frame.only c.close.ensures.run c.close.ensures.history in
    let grown = c.make_room.ensures.grown in
    λ h idle stands. then_run b closes w m n one h (c.make_room.ensures.run h) stands

pub returns-in_err-fill-clause-answer : goal.returns-in_err-fill-clause-answer
returns-in_err-fill-clause-answer g c =
    let b = c.args.self.now in
    let entries = c.args.entries.now in
    let p = c.in_ok-plan.plan in
    let w = g.S.Outside.world c.args.store.now in
    let m = g.S.Outside.world c.close.new.store in
    let answer = c.in_ok-plan.ensures in
    let closes = c.close.new.self in
    let same : ◌≡◌ {A = Result ℕ BankError} (Err Fault) c.from_residual-in_err-fill.result = search rules in
    subst (IsBodiesAnswer b entries) same (answer.0, answer.1, room_for b entries p answer.2)

pub returns-in_err-fill-clause-only : goal.returns-in_err-fill-clause-only
returns-in_err-fill-clause-only g c =
    let b = c.args.self.now in
    let entries = c.args.entries.now in
    let p = c.in_ok-plan.plan in
    let w = g.S.Outside.world c.args.store.now in
    let m = g.S.Outside.world c.close.new.store in
    let answer = c.in_ok-plan.ensures in
    let closes = c.close.new.self in
    let n = g.S.Outside.world c.make_room.new.store in
    let d = c.make_room.new.self in
    let closed = c.in_ok-close.ensures.closed in
    let one : IsPart b closes w m = part_closed b closes w m (staying_of b) closed c.close.ensures.frame.only c.close.ensures.run c.close.ensures.history in
    let grown = c.make_room.ensures.grown in
    let z = g.S.Outside.world c.fill.new.store in
    let e = c.fill.new.self in
    let room = part_room closes d m n grown c.make_room.ensures.only c.make_room.ensures.run c.make_room.ensures.history in
    let both : IsPart b d w n = then_part b closes w m n one d room in
    then_only b d w n z both c.fill.ensures.frame.only

pub returns-in_err-fill-clause-run : goal.returns-in_err-fill-clause-run
returns-in_err-fill-clause-run g c =
    let b = c.args.self.now in
    let entries = c.args.entries.now in
    let p = c.in_ok-plan.plan in
    let w = g.S.Outside.world c.args.store.now in
    let m = g.S.Outside.world c.close.new.store in
    let answer = c.in_ok-plan.ensures in
    let closes = c.close.new.self in
    let n = g.S.Outside.world c.make_room.new.store in
    let d = c.make_room.new.self in
    let closed = c.in_ok-close.ensures.closed in
    let one : IsPart b closes w m = part_closed b closes w m (staying_of b) closed c.close.ensures.frame.only c.close.ensures.run c.close.ensures.history in
    let grown = c.make_room.ensures.grown in
    let z = g.S.Outside.world c.fill.new.store in
    let e = c.fill.new.self in
    let room = part_room closes d m n grown c.make_room.ensures.only c.make_room.ensures.run c.make_room.ensures.history in
    let both : IsPart b d w n = then_part b closes w m n one d room in
    λ h idle stands. then_run b d w n z both h (c.fill.ensures.run h) stands

pub returns-in_err-fill-clause-history : goal.returns-in_err-fill-clause-history
returns-in_err-fill-clause-history g c =
    let b = c.args.self.now in
    let entries = c.args.entries.now in
    let p = c.in_ok-plan.plan in
    let w = g.S.Outside.world c.args.store.now in
    let m = g.S.Outside.world c.close.new.store in
    let answer = c.in_ok-plan.ensures in
    let closes = c.close.new.self in
    let n = g.S.Outside.world c.make_room.new.store in
    let d = c.make_room.new.self in
    let closed = c.in_ok-close.ensures.closed in
    let one : IsPart b closes w m = part_closed b closes w m (staying_of b) closed c.close.ensures.frame.only c.close.ensures.run c.close.ensures.history in
    let grown = c.make_room.ensures.grown in
    let z = g.S.Outside.world c.fill.new.store in
    let e = c.fill.new.self in
    let room = part_room closes d m n grown c.make_room.ensures.only c.make_room.ensures.run c.make_room.ensures.history in
    let both : IsPart b d w n = then_part b closes w m n one d room in
    λ h stands of_h. then_history b d w n z both h e (λ now. c.fill.ensures.history h entries now (taken b entries p answer.2 closes d closed answer.0 grown h c.requires.consecutive answer.1 of_h)) stands

pub returns-clause-only : goal.returns-clause-only
returns-clause-only g c =
    let b = c.args.self.now in
    let entries = c.args.entries.now in
    let p = c.in_ok-plan.plan in
    let w = g.S.Outside.world c.args.store.now in
    let m = g.S.Outside.world c.close.new.store in
    let answer = c.in_ok-plan.ensures in
    let closes = c.close.new.self in
    let n = g.S.Outside.world c.make_room.new.store in
    let d = c.make_room.new.self in
    let closed = c.in_ok-close.ensures.closed in
    let one : IsPart b closes w m = part_closed b closes w m (staying_of b) closed c.close.ensures.frame.only c.close.ensures.run c.close.ensures.history in
    let grown = c.make_room.ensures.grown in
    let z = g.S.Outside.world c.fill.new.store in
    let e = c.fill.new.self in
    let room = part_room closes d m n grown c.make_room.ensures.only c.make_room.ensures.run c.make_room.ensures.history in
    let both : IsPart b d w n = then_part b closes w m n one d room in
    then_only b d w n z both c.fill.ensures.frame.only

pub returns-clause-run : goal.returns-clause-run
returns-clause-run g c =
    let b = c.args.self.now in
    let entries = c.args.entries.now in
    let p = c.in_ok-plan.plan in
    let w = g.S.Outside.world c.args.store.now in
    let m = g.S.Outside.world c.close.new.store in
    let answer = c.in_ok-plan.ensures in
    let closes = c.close.new.self in
    let n = g.S.Outside.world c.make_room.new.store in
    let d = c.make_room.new.self in
    let closed = c.in_ok-close.ensures.closed in
    let one : IsPart b closes w m = part_closed b closes w m (staying_of b) closed c.close.ensures.frame.only c.close.ensures.run c.close.ensures.history in
    let grown = c.make_room.ensures.grown in
    let z = g.S.Outside.world c.fill.new.store in
    let e = c.fill.new.self in
    let room = part_room closes d m n grown c.make_room.ensures.only c.make_room.ensures.run c.make_room.ensures.history in
    let both : IsPart b d w n = then_part b closes w m n one d room in
    λ h idle stands. then_run b d w n z both h (c.fill.ensures.run h) stands

pub returns-clause-history : goal.returns-clause-history
returns-clause-history g c =
    let b = c.args.self.now in
    let entries = c.args.entries.now in
    let p = c.in_ok-plan.plan in
    let w = g.S.Outside.world c.args.store.now in
    let m = g.S.Outside.world c.close.new.store in
    let answer = c.in_ok-plan.ensures in
    let closes = c.close.new.self in
    let n = g.S.Outside.world c.make_room.new.store in
    let d = c.make_room.new.self in
    let closed = c.in_ok-close.ensures.closed in
    let one : IsPart b closes w m = part_closed b closes w m (staying_of b) closed c.close.ensures.frame.only c.close.ensures.run c.close.ensures.history in
    let grown = c.make_room.ensures.grown in
    let z = g.S.Outside.world c.fill.new.store in
    let e = c.fill.new.self in
    let room = part_room closes d m n grown c.make_room.ensures.only c.make_room.ensures.run c.make_room.ensures.history in
    let both : IsPart b d w n = then_part b closes w m n one d room in
    λ h stands of_h. then_history b d w n z both h e (λ now. c.fill.ensures.history h entries now (taken b entries p answer.2 closes d closed answer.0 grown h c.requires.consecutive answer.1 of_h)) stands

pub returns-clause-filled : goal.returns-clause-filled
returns-clause-filled g c =
    let b = c.args.self.now in
    let entries = c.args.entries.now in
    let p = c.in_ok-plan.plan in
    let w = g.S.Outside.world c.args.store.now in
    let m = g.S.Outside.world c.close.new.store in
    let answer = c.in_ok-plan.ensures in
    let closes = c.close.new.self in
    let n = g.S.Outside.world c.make_room.new.store in
    let d = c.make_room.new.self in
    let closed = c.in_ok-close.ensures.closed in
    let one : IsPart b closes w m = part_closed b closes w m (staying_of b) closed c.close.ensures.frame.only c.close.ensures.run c.close.ensures.history in
    let grown = c.make_room.ensures.grown in
    let z = g.S.Outside.world c.fill.new.store in
    let e = c.fill.new.self in
    let room = part_room closes d m n grown c.make_room.ensures.only c.make_room.ensures.run c.make_room.ensures.history in
    let both : IsPart b d w n = then_part b closes w m n one d room in
    let last = subst (λ (l : List ℕ). (c.extents_for.result ≡ 0) ⊎ ((k : ℕ) × IsOneOf l k × (1024 * c.extents_for.result ≤ k + 1024))) c.as_slice-2.ensures.value c.extents_for.ensures.last in
    filled b entries p answer.2 closes d closed answer.0 grown c.extents_for.result c.in_ok-make_room.ensures.exact e last c.in_ok-fill.ensures.filled c.in_ok-fill.ensures.closed

pub returns-clause-closed : goal.returns-clause-closed
returns-clause-closed g c =
    let b = c.args.self.now in
    let entries = c.args.entries.now in
    let p = c.in_ok-plan.plan in
    let w = g.S.Outside.world c.args.store.now in
    let m = g.S.Outside.world c.close.new.store in
    let answer = c.in_ok-plan.ensures in
    let closes = c.close.new.self in
    let n = g.S.Outside.world c.make_room.new.store in
    let d = c.make_room.new.self in
    let closed = c.in_ok-close.ensures.closed in
    let one : IsPart b closes w m = part_closed b closes w m (staying_of b) closed c.close.ensures.frame.only c.close.ensures.run c.close.ensures.history in
    let grown = c.make_room.ensures.grown in
    let z = g.S.Outside.world c.fill.new.store in
    let e = c.fill.new.self in
    let room = part_room closes d m n grown c.make_room.ensures.only c.make_room.ensures.run c.make_room.ensures.history in
    let both : IsPart b d w n = then_part b closes w m n one d room in
    then_closes b d w n z both e (then_closes b closes w m n one d c.in_ok-close.ensures.told c.make_room.ensures.told) c.in_ok-fill.ensures.told
