use Rattle.std.proofs.Common.{◌≡◌, ◌∙◌, ◌+◌, ◌++◌, [], ◌∷◌, List, drop, None, Some, ap, sym, subst}
use Rattle.odb_model.specs.declared.write.Write.{Write}
use Rattle.odb_model.specs.State.{State, after_writes}
use Rattle.odb_model.specs.Meaning.{writes_of, tuples_refusal}
use Rattle.odb_plain.specs.declared.changes.Change.{Change}
use Rattle.odb_plain.specs.Changes.{IsChangeOf, next_refusal, Joins, JoinsAfter}
use Rattle.odb_plain.proofs.Making.{after_writes-append, made-more, joins-none, tuples-passed, tuples-refused}
use Rattle.odb_plain.proofs.insert.tuples_changes.Goals as goal

pub loop-tuple-init : goal.loop-tuple-init
loop-tuple-init c =
    let t = c.args.table.now in
    let s = c.args.rows.now in
    let none = c.new-writes.ensures.items in
    record {
      refusal = ap (λ (ws : List Write). tuples_refusal c.args.format t (after_writes s ws) c.args.tuples.now) none;
      made = none;
      joins = subst (λ (ws : List Write). Joins (after_writes s ws) s c.new-earlier.result) (sym none)
          (subst (λ (x : State). Joins s s x) (sym c.new-earlier.ensures) (joins-none s));
    }

pub returns-in-Refused : goal.returns-in-Refused
returns-in-Refused c =
    let t = c.args.table.now in
    let s = c.args.rows.now in
    let tuples = c.args.tuples.now in
    let v = c.tuple-item.result in
    let ws : List Write = c.loop-tuple.writes.items in
    let here = after_writes s ws in
    let change = subst (λ (x : Change). IsChangeOf (next_refusal c.args.format t here v) (writes_of t v) x) c.in-Refused.is (c.in_ok-reply.ensures.change here c.loop-tuple.invariant.joins) in
    tuples-refused t c.args.format s tuples (tuples_refusal c.args.format t s tuples) c.loop-tuple.tuple-index v c.loop-tuple-test.true c.tuple-item.is ws c.loop-tuple.invariant.refusal c.in-Refused.reply change

pub loop-tuple-preserved : goal.loop-tuple-preserved
loop-tuple-preserved c =
    let t = c.args.table.now in
    let s = c.args.rows.now in
    let tuples = c.args.tuples.now in
    let i = c.loop-tuple.tuple-index in
    let v = c.tuple-item.result in
    let w = c.in-Made.write in
    let ws : List Write = c.loop-tuple.writes.items in
    let here = after_writes s ws in
    let items : c.push.new.self.items ≡ ws ++ w ∷ [] = c.in_ok-push-in-Made.ensures.items in
    let change = subst (λ (x : Change). IsChangeOf (next_refusal c.args.format t here v) (writes_of t v) x) c.in-Made.is (c.in_ok-reply.ensures.change here c.loop-tuple.invariant.joins) in
    let joins = subst (λ (x : Change). JoinsAfter here s c.next_change.new.earlier x) c.in-Made.is (c.in_ok-reply.ensures.earlier here c.loop-tuple.invariant.joins) in
    record {
      refusal = ap (λ (l : List Write). tuples_refusal c.args.format t (after_writes s l) (drop (i + 1) tuples)) items
          ∙ tuples-passed t c.args.format s tuples (tuples_refusal c.args.format t s tuples) i v c.loop-tuple-test.true c.tuple-item.is ws c.loop-tuple.invariant.refusal w change.0 change.1;
      made = items ∙ made-more (writes_of t) tuples i v ws w c.loop-tuple-test.true c.tuple-item.is c.loop-tuple.invariant.made change.1;
      joins = subst (λ (l : List Write). Joins (after_writes s l) s c.next_change.new.earlier) (sym items)
          (subst (λ (x : State). Joins x s c.next_change.new.earlier) (sym (after_writes-append s ws (w ∷ []))) joins);
    }
