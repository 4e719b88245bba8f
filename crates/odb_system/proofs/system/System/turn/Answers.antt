use Rattle.std.proofs.Common.{◌≡◌, ◌+◌, ◌≤◌, ℕ, List, Option, Some, None, refl, ap, subst, sym, ◌∙◌, arith}
use Rattle.odb_device.specs.World.{World, file_of}
use Rattle.odb_model.specs.State.{State}
use Rattle.odb_machine.specs.Book.{most_entries}
use Rattle.odb_transdb.specs.Header.{first_held}
use Rattle.odb_transdb.specs.Standing.{Db}
use Rattle.odb_transdb.specs.Turning.{MayStand}
use Rattle.odb_txn.specs.Transaction.{Kept}
use Rattle.odb_commit.specs.Parts.{Parts, count, IsAligned}
use Rattle.odb_system.specs.Held.{Held, HeldTurns, TurnsHeld, without_place, turn_reply, turn_told}
use Rattle.odb_system.specs.Durable.{IsDurable}
use Rattle.odb_system.proofs.Holding.{held_on}
use Rattle.odb_system.proofs.Behind.{aligned_in, aligned_out, stands_settled}
use Rattle.odb_system.proofs.Turns.{turns_with, turns_held, first_turned}
use Rattle.odb_system.proofs.system.System.turn.Goals as goal

none_other : (o : Option ℕ) → ((n : ℕ) → o ≡ Some n → ⊥) → o ≡ None
none_other None other = refl
none_other (Some n) other = absurd (other n refl)

pub turn-turned-requires-clause-settled : goal.turn-turned-requires-clause-settled
turn-turned-requires-clause-settled g c = sym c.halted.ensures ∙ none_other c.halted.result c.in_default.not-Some

pub turn-turned-requires-clause-aligned : goal.turn-turned-requires-clause-aligned
turn-turned-requires-clause-aligned g c = aligned_in c.self.inside.book c.self.invariant.0.aligned

pub turn-turned-requires-clause-few : goal.turn-turned-requires-clause-few
turn-turned-requires-clause-few g c = c.self.invariant.0.few

pub turn-turned-requires-clause-stands : goal.turn-turned-requires-clause-stands
turn-turned-requires-clause-stands g c =
    let file = file_of 0 (g.H.Outside.world c.args.host.now) in
    stands_settled c.self.inside.book file (sym c.halted.ensures ∙ none_other c.halted.result c.in_default.not-Some) (subst (λ (h : Held). IsDurable h file) (sym c.self.view_is) c.requires.durable)

pub invariant_of-self : goal.invariant_of-self
invariant_of-self g c =
    let b : Parts = c.self.inside.book in
    let held : Held = record { book = without_place b; sessions = c.self.inside.sessions.items; rows = c.self.inside.rows.state } in
    let same : count c.turn-turned.new.self ≡ count b = ap count c.turn-turned.ensures.rest in
    let first : first_held c.turn-turned.new.self.transdb.header ≡ 1 =
    first_turned c.turn-turned.result b.transdb c.turn-turned.new.self.transdb (g.H.Outside.world c.args.host.now) (g.H.Outside.world c.turn-turned.new.store) c.turn-turned.ensures.log c.self.invariant.0.first in (
      held_on held (without_place c.turn-turned.new.self) c.self.inside.rows.state c.self.invariant.0 (aligned_out c.turn-turned.new.self c.turn-turned.ensures.aligned) (omega (arith, same, c.self.invariant.0.few)) first c.self.invariant.0.keyed,
      omega (arith, same, c.self.invariant.1),
    )

pub returns : goal.returns
returns g c =
    let b : Parts = c.self.inside.book in
    let now : Parts = c.turn-turned.new.self in
    let xs : List (Option Kept) = c.self.inside.sessions.items in
    let rows : State = c.self.inside.rows.state in
    let old : World = g.H.Outside.world c.args.host.now in
    let new : World = g.H.Outside.world c.turn-turned.new.store in
    let held : Held = record { book = without_place b; sessions = xs; rows = rows } in
    let after : Held = record { book = without_place now; sessions = xs; rows = rows } in
    let settled : b.halted ≡ None = sym c.halted.ensures ∙ none_other c.halted.result c.in_default.not-Some in
    let step : TurnsHeld held c.turn-turned.result after old new = turns_held b now xs rows c.turn-turned.result old new settled c.self.invariant.0.first (aligned_in b c.self.invariant.0.aligned) c.turn-turned.ensures.log c.turn-turned.ensures.rest in
    let side : c.active.result ≡ now.transdb.header.active = c.active.ensures.value ∙ ap (λ (d : Db). d.header.active) c.transdb.ensures in
    let next : c.count-next.result + 1 ≡ count now + 1 = omega (arith, c.count-next.ensures, ap count c.turn-turned.ensures.rest) in
    let told : c.turn_reply.result ≡ turn_told after c.turn-turned.result =
    c.turn_reply.ensures ∙ (λ i. turn_reply (side i) (next i) c.turn-turned.result) in
    record { turns = subst (λ (h : Held). HeldTurns h c.turn_reply.result after old new) c.self.view_is (turns_with held c.turn-turned.result c.turn_reply.result after old new told step) }
