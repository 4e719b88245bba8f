use Rattle.std.proofs.Common.{◌≡◌, ℕ, [], length, ap, subst, ◌∙◌, arith}
use Rattle.std.specs.Prelude.{replicate, Some}
use Rattle.odb_words.specs.Views.{is_spent}
use Rattle.odb_words.specs.Seats.{IsMaking, Name, name_of}
use Rattle.odb_words.proofs.Sits.{pushed}
use Rattle.odb_words.proofs.making.make_passes.Goals as goal

pub loop-session-preserved : goal.loop-session-preserved
loop-session-preserved c =
    let inv = c.loop-session.invariant in
    let made = c.make_pass.ensures in
    let pass = c.in_ok-make_pass.field-0 in
    let given = c.in_ok-make_pass.ensures.given in
    let next = pushed (name_of c.args.book.now) c.loop-session.passes.items c.push.new.self.items pass c.loop-session.session c.in_ok-push.ensures.items inv.4 inv.5 inv.3 c.in_ok-make_pass.ensures.session (given.0 ∙ inv.2) given.1 in (
      record { table_id = ap (λ (n : Name). n.0) made.kept.0 ∙ inv.0.table_id; words = inv.0.words; empty = made.kept.1; live = ap is_spent made.made.book.kind },
      subst (λ (k : ℕ). IsMaking k c.make_pass.new.book.me.0) (omega arith) made.made,
      made.kept.0 ∙ inv.2,
      next.0,
      next.1,
      next.2,
    )

pub returns-clause-lists : goal.returns-clause-lists
returns-clause-lists c =
    let all : length c.loop-session.passes.items ≡ 64 = omega (arith, c.loop-session.invariant.3, c.loop-session-test.false, c.loop-session.auto.session, c.loop-session.auto.session-end) in
    c.loop-session.invariant.5 ∙ ap (λ (k : ℕ). replicate k (Some [])) all
