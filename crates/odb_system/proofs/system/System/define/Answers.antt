use Rattle.std.proofs.Common.{◌≡◌, ◌+◌, ◌<◌, ◌≤◌, ℕ, false, List, length, Option, Some, None, is_some, refl, ap, subst, sym, ◌∙◌, arith}
use Rattle.odb_device.specs.World.{World}
use Rattle.odb_model.specs.declared.reply.Reply.{Reply}
use Rattle.odb_model.specs.declared.write.Write.{Write}
use Rattle.odb_model.specs.Definitions.{planned, Plans}
use Rattle.odb_model.specs.State.{State}
use Rattle.odb_transdb.specs.Header.{first_held}
use Rattle.odb_keytable.specs.Committed.{Committed}
use Rattle.odb_txn.specs.Transaction.{Kept}
use Rattle.odb_model.specs.declared.entry.Entry.{Entry}
use Rattle.odb_machine.specs.Book.{most_entries}
use Rattle.odb_commit.specs.Parts.{Parts, count, sealing_of, entry_after}
use Rattle.odb_system.specs.Sealed.{CanCarry}
use Rattle.odb_system.specs.Held.{Held, HeldDefines, without_place, session_at}
use Rattle.odb_system.proofs.Holding.{held_on, session_here}
use Rattle.odb_system.proofs.Behind.{aligned_out, few_to_seal}
use Rattle.odb_system.proofs.Prepared.{Came, came, defines_planned, can_carry, few_left, few_carried, first_left, first_carried}
use Rattle.odb_system.proofs.system.System.define.Goals as goal

none_is : (o : Option Kept) → is_some o ≡ false → o ≡ None
none_is None is = refl
none_is (Some t) is = cc

none_other : (o : Option ℕ) → ((n : ℕ) → o ≡ Some n → ⊥) → o ≡ None
none_other None other = refl
none_other (Some n) other = absurd (other n refl)

pub invariant_of-self-2 : goal.invariant_of-self-2
invariant_of-self-2 g c =
    let b : Parts = c.self.inside.book in
    let mid : Parts = c.prepare_writes-prepared.new.self in
    let old : World = g.H.Outside.world c.args.host.now in
    let now : World = g.H.Outside.world c.carry_out.new.store in
    let held : Held = record { book = without_place b; sessions = c.self.inside.sessions.items; rows = c.self.inside.rows.state } in
    let entry : Entry = entry_after b (c.args.at + 1) c.in-Ok.writes in
    let can : CanCarry mid c.prepare_writes-prepared.result =
    can_carry (sealing_of b entry) c.prepare_writes-prepared.result b mid (few_to_seal b entry) c.prepare_writes-prepared.ensures.prepared c.prepare_writes-prepared.ensures.left in
    let few : count c.carry_out.new.book ≤ most_entries =
    few_carried c.prepare_writes-prepared.result c.carry_out.result mid c.carry_out.new.book c.planned_writes.new.rows c.carry_out.new.rows old now can c.carry_out.ensures.aligned c.carry_out.ensures.carried
    (few_left c.prepare_writes-prepared.result b mid c.prepare_writes-prepared.ensures.left c.self.invariant.0.few) in
    let begun : first_held mid.transdb.header ≡ 1 =
    first_left c.prepare_writes-prepared.result b mid c.prepare_writes-prepared.ensures.left c.self.invariant.0.first in
    let first : first_held c.carry_out.new.book.transdb.header ≡ 1 =
    first_carried c.prepare_writes-prepared.result c.carry_out.result mid c.carry_out.new.book c.planned_writes.new.rows c.carry_out.new.rows old now c.carry_out.ensures.carried begun in (
      held_on held (without_place c.carry_out.new.book) c.carry_out.new.rows.state c.self.invariant.0 (aligned_out c.carry_out.new.book c.carry_out.ensures.aligned) few first c.carry_out.ensures.fit.keyed,
      c.carry_out.ensures.fit.waiting,
    )

pub returns : goal.returns
returns g c =
    let b : Parts = c.self.inside.book in
    let mid : Parts = c.prepare_writes-prepared.new.self in
    let at : ℕ = c.args.at in
    let st = c.args.statement.now in
    let writes : List Write = c.in-Ok.writes in
    let reply : Reply = c.carry_out.result in
    let old : World = g.H.Outside.world c.args.host.now in
    let now : World = g.H.Outside.world c.carry_out.new.store in
    let xs : List (Option Kept) = c.self.inside.sessions.items in
    let rows : Committed = c.planned_writes.new.rows in
    let held : Held = record { book = without_place b; sessions = xs; rows = rows.state } in
    let after : Held = record { book = without_place c.carry_out.new.book; sessions = xs; rows = c.carry_out.new.rows.state } in
    let within : at < length xs = omega (arith, c.requires.place, c.self.invariant.0.count) in
    let idle : session_at held at ≡ None =
    session_here xs at c.index.result.now within c.index.ensures ∙ none_is c.index.result.now (sym c.is_some.ensures ∙ c.if-is_some.false) in
    let settled : held.book.halted ≡ None = sym c.halted.ensures ∙ none_other c.halted.result c.in_default.not-Some in
    let plan : planned st held.rows ≡ Plans writes = ap (planned st) c.planned_writes.ensures.state ∙ c.in-Ok.ensures.writes in
    let step : Came held (sealing_of held.book (entry_after held.book (at + 1) writes)) reply after old now =
    came b rows xs xs (sealing_of b (entry_after b (at + 1) writes)) c.prepare_writes-prepared.result reply mid c.carry_out.new.book c.carry_out.new.rows old now
    c.self.invariant.0.first c.prepare_writes-prepared.ensures.prepared c.prepare_writes-prepared.ensures.left c.carry_out.ensures.carried in
    let done : HeldDefines held at st (session_at held at) reply after old now =
    subst (λ (o : Option Kept). HeldDefines held at st o reply after old now) (sym idle) (defines_planned held at st writes reply after old now settled plan step refl) in
    subst (λ (h : Held). HeldDefines h at st (session_at h at) reply after old now) c.self.view_is
    (subst (λ (s : State). HeldDefines (record { book = without_place b; sessions = xs; rows = s }) at st (session_at held at) reply after old now) c.planned_writes.ensures.state done)
