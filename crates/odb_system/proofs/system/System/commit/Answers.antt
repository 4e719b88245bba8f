use Rattle.std.proofs.Common.{◌≡◌, ◌<◌, ◌≤◌, ℕ, Bool, true, false, cond, List, length, Option, Some, None, ap, subst, sym, ◌∙◌, arith}
use Rattle.std.specs.Prelude.{slice_set}
use Rattle.odb_device.specs.World.{World}
use Rattle.odb_model.specs.declared.reply.Reply.{Reply}
use Rattle.odb_machine.specs.Book.{ends_transaction}
use Rattle.odb_transdb.specs.Header.{first_held}
use Rattle.odb_keytable.specs.Committed.{Committed}
use Rattle.odb_txn.specs.Transaction.{Kept}
use Rattle.odb_machine.specs.Book.{most_entries}
use Rattle.odb_commit.specs.Parts.{Parts, count, prepared}
use Rattle.odb_system.specs.Sealed.{CanCarry}
use Rattle.odb_system.specs.Held.{Held, HeldCommits, without_place, session_at, sessions_behind}
use Rattle.odb_system.proofs.Holding.{held_on, held_open, session_here}
use Rattle.odb_system.proofs.Behind.{aligned_out, few_prepared}
use Rattle.odb_system.proofs.Prepared.{Came, came, commits, can_carry, few_left, few_carried, first_left, first_carried}
use Rattle.odb_system.proofs.system.System.commit.Goals as goal
use Rattle.odb_system.proofs.system.System.commit.Goals.{in-Some-1, in-None-1}

pub invariant_of-self : goal.invariant_of-self
invariant_of-self g c =
    let b : Parts = c.self.inside.book in
    let mid : Parts = c.prepare-prepared.new.self in
    let old : World = g.H.Outside.world c.args.host.now in
    let now : World = g.H.Outside.world c.carry_out-reply.new.store in
    let held : Held = record { book = without_place b; sessions = c.self.inside.sessions.items; rows = c.self.inside.rows.state } in
    let can : CanCarry mid c.prepare-prepared.result =
    can_carry (prepared b c.in-Some.transaction) c.prepare-prepared.result b mid (few_prepared b c.in-Some.transaction) c.prepare-prepared.ensures.prepared c.prepare-prepared.ensures.left in
    let few : count c.carry_out-reply.new.book ≤ most_entries =
    few_carried c.prepare-prepared.result c.carry_out-reply.result mid c.carry_out-reply.new.book c.self.inside.rows c.carry_out-reply.new.rows old now can c.carry_out-reply.ensures.aligned c.carry_out-reply.ensures.carried
    (few_left c.prepare-prepared.result b mid c.prepare-prepared.ensures.left c.self.invariant.0.few) in
    let begun : first_held mid.transdb.header ≡ 1 = first_left c.prepare-prepared.result b mid c.prepare-prepared.ensures.left c.self.invariant.0.first in
    let first : first_held c.carry_out-reply.new.book.transdb.header ≡ 1 =
    first_carried c.prepare-prepared.result c.carry_out-reply.result mid c.carry_out-reply.new.book c.self.inside.rows c.carry_out-reply.new.rows old now c.carry_out-reply.ensures.carried begun in (
      held_open (record { book = without_place c.carry_out-reply.new.book; sessions = c.self.inside.sessions.items; rows = c.carry_out-reply.new.rows.state }) c.args.at None
          (held_on held (without_place c.carry_out-reply.new.book) c.carry_out-reply.new.rows.state c.self.invariant.0 (aligned_out c.carry_out-reply.new.book c.carry_out-reply.ensures.aligned) few first c.carry_out-reply.ensures.fit.keyed) tt,
      c.carry_out-reply.ensures.fit.waiting,
    )

pub invariant_of-self-else-ends_transaction : goal.invariant_of-self-else-ends_transaction
invariant_of-self-else-ends_transaction g c =
    let b : Parts = c.self.inside.book in
    let mid : Parts = c.prepare-prepared.new.self in
    let old : World = g.H.Outside.world c.args.host.now in
    let now : World = g.H.Outside.world c.carry_out-reply.new.store in
    let held : Held = record { book = without_place b; sessions = c.self.inside.sessions.items; rows = c.self.inside.rows.state } in
    let can : CanCarry mid c.prepare-prepared.result =
    can_carry (prepared b c.in-Some.transaction) c.prepare-prepared.result b mid (few_prepared b c.in-Some.transaction) c.prepare-prepared.ensures.prepared c.prepare-prepared.ensures.left in
    let few : count c.carry_out-reply.new.book ≤ most_entries =
    few_carried c.prepare-prepared.result c.carry_out-reply.result mid c.carry_out-reply.new.book c.self.inside.rows c.carry_out-reply.new.rows old now can c.carry_out-reply.ensures.aligned c.carry_out-reply.ensures.carried
    (few_left c.prepare-prepared.result b mid c.prepare-prepared.ensures.left c.self.invariant.0.few) in
    let begun : first_held mid.transdb.header ≡ 1 = first_left c.prepare-prepared.result b mid c.prepare-prepared.ensures.left c.self.invariant.0.first in
    let first : first_held c.carry_out-reply.new.book.transdb.header ≡ 1 =
    first_carried c.prepare-prepared.result c.carry_out-reply.result mid c.carry_out-reply.new.book c.self.inside.rows c.carry_out-reply.new.rows old now c.carry_out-reply.ensures.carried begun in (
      held_on held (without_place c.carry_out-reply.new.book) c.carry_out-reply.new.rows.state c.self.invariant.0 (aligned_out c.carry_out-reply.new.book c.carry_out-reply.ensures.aligned) few first c.carry_out-reply.ensures.fit.keyed,
      c.carry_out-reply.ensures.fit.waiting,
    )

pub returns-then-ends_transaction : goal.returns-then-ends_transaction
returns-then-ends_transaction g c =
    let b : Parts = c.self.inside.book in
    let mid : Parts = c.prepare-prepared.new.self in
    let at : ℕ = c.args.at in
    let t : Kept = c.in-Some.transaction in
    let reply : Reply = c.carry_out-reply.result in
    let old : World = g.H.Outside.world c.args.host.now in
    let now : World = g.H.Outside.world c.carry_out-reply.new.store in
    let xs : List (Option Kept) = c.self.inside.sessions.items in
    let ys : List (Option Kept) = slice_set xs at None in
    let held : Held = record { book = without_place b; sessions = xs; rows = c.self.inside.rows.state } in
    let after : Held = record { book = without_place c.carry_out-reply.new.book; sessions = ys; rows = c.carry_out-reply.new.rows.state } in
    let within : at < length xs = omega (arith, c.requires.place, c.self.invariant.0.count) in
    let open_there : session_at held at ≡ Some t = session_here xs at c.index.result.now within c.index.ensures ∙ c.in-Some.is in
    let step : Came held (prepared b t) reply after old now =
    came b c.self.inside.rows xs ys (prepared b t) c.prepare-prepared.result reply mid c.carry_out-reply.new.book c.carry_out-reply.new.rows old now
    c.self.invariant.0.first c.prepare-prepared.ensures.prepared c.prepare-prepared.ensures.left c.carry_out-reply.ensures.carried in
    let ends : ends_transaction reply ≡ true = sym c.ends_transaction.ensures ∙ c.if-ends_transaction.true in
    let sessions : after.sessions ≡ sessions_behind held at reply = ap (λ (e : Bool). cond e ys xs) (sym ends) in
    let done : HeldCommits held at (session_at held at) reply after old now =
    subst (λ (o : Option Kept). HeldCommits held at o reply after old now) (sym open_there) (commits held at t reply after old now step sessions) in
    let left : c.match-index_mut.self ≡ after =
    elim c.match-index_mut.branch as (λ _. c.match-index_mut.self ≡ after) [ in-Some-1 w ↦ w.self-is | in-None-1 w ↦ w.self-is ] in
    subst (λ (h : Held). HeldCommits h at (session_at h at) reply c.match-index_mut.self old now) c.self.view_is
    (subst (λ (a : Held). HeldCommits held at (session_at held at) reply a old now) (sym left) done)

pub returns-else-ends_transaction : goal.returns-else-ends_transaction
returns-else-ends_transaction g c =
    let b : Parts = c.self.inside.book in
    let mid : Parts = c.prepare-prepared.new.self in
    let at : ℕ = c.args.at in
    let t : Kept = c.in-Some.transaction in
    let reply : Reply = c.carry_out-reply.result in
    let old : World = g.H.Outside.world c.args.host.now in
    let now : World = g.H.Outside.world c.carry_out-reply.new.store in
    let xs : List (Option Kept) = c.self.inside.sessions.items in
    let held : Held = record { book = without_place b; sessions = xs; rows = c.self.inside.rows.state } in
    let after : Held = record { book = without_place c.carry_out-reply.new.book; sessions = xs; rows = c.carry_out-reply.new.rows.state } in
    let within : at < length xs = omega (arith, c.requires.place, c.self.invariant.0.count) in
    let open_there : session_at held at ≡ Some t = session_here xs at c.index.result.now within c.index.ensures ∙ c.in-Some.is in
    let step : Came held (prepared b t) reply after old now =
    came b c.self.inside.rows xs xs (prepared b t) c.prepare-prepared.result reply mid c.carry_out-reply.new.book c.carry_out-reply.new.rows old now
    c.self.invariant.0.first c.prepare-prepared.ensures.prepared c.prepare-prepared.ensures.left c.carry_out-reply.ensures.carried in
    let goes_on : ends_transaction reply ≡ false = sym c.ends_transaction.ensures ∙ c.if-ends_transaction.false in
    let sessions : after.sessions ≡ sessions_behind held at reply = ap (λ (e : Bool). cond e (slice_set xs at None) xs) (sym goes_on) in
    let done : HeldCommits held at (session_at held at) reply after old now =
    subst (λ (o : Option Kept). HeldCommits held at o reply after old now) (sym open_there) (commits held at t reply after old now step sessions) in
    subst (λ (h : Held). HeldCommits h at (session_at h at) reply after old now) c.self.view_is done
