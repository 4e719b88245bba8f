use Rattle.std.proofs.Common.{◌≡◌, ◌<◌, length, Option, Some, None, refl, ap, subst, sym, ◌∙◌, arith}
use Rattle.std.specs.Prelude.{slice_set}
use Rattle.odb_device.specs.World.{World}
use Rattle.odb_model.specs.declared.reply.Reply.{Reply}
use Rattle.odb_model.specs.declared.reply.Reply.TheVariants.{NoTransaction, Memory}
use Rattle.odb_model.specs.State.{State}
use Rattle.odb_transdb.specs.Standing.{Db}
use Rattle.odb_txn.specs.Transaction.{Kept}
use Rattle.odb_system.specs.Open.{HasKeyedRows, HasOwnKeys, IsOpen, meaning_on, grown_on}
use Rattle.odb_system.specs.Held.{Held, IsHeld, HeldExecutes, format_in, without_place, session_at, with_open, grown, meaning_in}
use Rattle.odb_system.proofs.Owned.{sees_keys, grown_keyed}
use Rattle.odb_system.proofs.Holding.{executes_none, held_open, session_here, open_here, set_same}
use Rattle.odb_system.proofs.Simulates.{executed}
use Rattle.odb_system.proofs.system.System.execute.Goals as goal
use Rattle.odb_system.proofs.system.System.execute.Goals.{In-Some, in-Ok, in-Err}

none_here : (o : Option Kept) → ((t : Kept) → o ≡ Some t → ⊥) → o ≡ None
none_here None other = refl
none_here (Some t) other = absurd (other t refl)

pub returns-in_default : goal.returns-in_default
returns-in_default c = λ w.
    let held : Held = record { book = without_place c.self.inside.book; sessions = c.self.inside.sessions.items; rows = c.self.inside.rows.state } in
    let x : Option Kept = c.index_mut.result.now in
    let within : c.args.at < length held.sessions = omega (arith, c.requires, c.self.invariant.0.count) in
    let after : Held = record held { sessions = slice_set held.sessions c.args.at x } in
    subst (λ (h : Held). HeldExecutes h c.args.at c.args.statement.now (session_at h c.args.at) NoTransaction after w w) c.self.view_is
    (executes_none held c.args.at c.args.statement.now x w within c.index_mut.ensures.value (none_here x c.in_default.not-Some))

module _ (c : In-Some) where
  abbrev held : Held
  held = record { book = without_place c.self.inside.book; sessions = c.self.inside.sessions.items; rows = c.self.inside.rows.state }

  owns_keys : HasOwnKeys c.in-Some.transaction
  owns_keys = subst IsOpen c.in-Some.is (open_here held c.args.at c.index_mut.result.now c.self.invariant.0 c.requires c.index_mut.ensures.value)

  sees : HasKeyedRows c.self.inside.rows.state c.in-Some.transaction
  sees = sees_keys c.self.inside.rows.state c.in-Some.transaction c.self.invariant.0.keyed owns_keys

  here : session_at held c.args.at ≡ Some c.in-Some.transaction
  here =
      let within : c.args.at < length c.self.inside.sessions.items = omega (arith, c.requires, c.self.invariant.0.count) in
      session_here c.self.inside.sessions.items c.args.at c.index_mut.result.now within c.index_mut.ensures.value ∙ c.in-Some.is

pub run_statement-requires-clause-keys : goal.run_statement-requires-clause-keys
run_statement-requires-clause-keys c = sees (goal.at.run_statement-requires-clause-keys c).In-Some

pub invariant_of-self-2 : goal.invariant_of-self-2
invariant_of-self-2 c =
    let b = (goal.at.invariant_of-self-2 c).In-Some in
    let t : Kept = c.in-Some.transaction in
    let own : HasOwnKeys c.run_statement.new.transaction =
    elim c.match-run_statement.branch as (λ _. HasOwnKeys c.run_statement.new.transaction) [
      | in-Ok w ↦ subst HasOwnKeys (sym w.in-Ok.ensures.ok) (grown_keyed c.self.inside.rows.state c.args.statement.now t c.count-number.result c.format-format.result (sees b) (owns_keys b))
      | in-Err w ↦ subst HasOwnKeys (sym w.in-Err.ensures.err) (owns_keys b)
    ] in (
      subst (λ (s : State). IsHeld (record { book = without_place c.self.inside.book; sessions = slice_set c.self.inside.sessions.items c.args.at (Some c.run_statement.new.transaction); rows = s })) (sym c.run_statement.ensures.state)
          (held_open (held b) c.args.at (Some c.run_statement.new.transaction) c.self.invariant.0 own),
      omega (arith, c.run_statement.ensures.fewer, c.self.invariant.1),
    )

pub returns : goal.returns
returns c = λ w.
    let b = (goal.at.returns c).In-Some in
    let st = c.args.statement.now in
    let t : Kept = c.in-Some.transaction in
    let by_format : c.format-format.result ≡ format_in (held b) = c.format-format.ensures.value ∙ ap (λ (d : Db). d.header.format) c.transdb.ensures in
    let after : Held = record { book = (held b).book; sessions = slice_set (held b).sessions c.args.at (Some c.run_statement.new.transaction); rows = c.run_statement.new.rows.state } in
    let with_new : after ≡ with_open (held b) c.args.at (Some c.run_statement.new.transaction) =
    ap (λ (s : State). record { book = (held b).book; sessions = slice_set (held b).sessions c.args.at (Some c.run_statement.new.transaction); rows = s }) c.run_statement.ensures.state in
    let step : HeldExecutes (held b) c.args.at st (Some t) c.match-run_statement.result after w w =
    elim c.match-run_statement.branch as (λ _. HeldExecutes (held b) c.args.at st (Some t) c.match-run_statement.result after w w) [
      | in-Ok v ↦
          let meant : v.in-Ok.reply ≡ (meaning_in (held b) st t).reply =
          v.in-Ok.ensures.reply ∙ (λ i. (meaning_on (held b).rows st t (by_format i)).reply) in
          let next : c.run_statement.new.transaction ≡ grown (held b) st t =
          v.in-Ok.ensures.ok ∙ (λ i. grown_on (held b).rows st t (c.count-number.ensures i) (by_format i)) in
          subst (λ (r : Reply). HeldExecutes (held b) c.args.at st (Some t) r after w w) (sym v.result-is)
          (executed (held b) c.args.at st t v.in-Ok.reply after w meant (with_new ∙ ap (λ (x : Kept). with_open (held b) c.args.at (Some x)) next))
      | in-Err v ↦
          let same : after ≡ held b =
          with_new ∙ ap (λ (x : Kept). with_open (held b) c.args.at (Some x)) v.in-Err.ensures.err
          ∙ ap (with_open (held b) c.args.at) (sym c.in-Some.is)
          ∙ ap (λ xs. record (held b) { sessions = xs }) (set_same (held b).sessions c.args.at c.index_mut.result.now c.index_mut.ensures.value) in
          subst (λ (r : Reply). HeldExecutes (held b) c.args.at st (Some t) r after w w) (sym v.result-is) (same, refl)
    ] in
    subst (λ (h : Held). HeldExecutes h c.args.at st (session_at h c.args.at) c.match-run_statement.result after w w) c.self.view_is
    (subst (λ (o : Option Kept). HeldExecutes (held b) c.args.at st o c.match-run_statement.result after w w) (sym (here b)) step)
