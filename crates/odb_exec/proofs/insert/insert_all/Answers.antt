use Rattle.std.proofs.Common.{◌≡◌, ◌<◌, ◌∷◌, [], ◌∙◌, ℕ, List, length, Some, None, ap, sym, subst, arith}
use Rattle.odb_values.specs.declared.value.Value.{Value}
use Rattle.odb_model.specs.State.{State}
use Rattle.odb_model.specs.Table.{key_of}
use Rattle.odb_model.specs.Meaning.{Meaning, writes_of}
use Rattle.odb_exec.specs.declared.rows.RowChange.{RowChange}
use Rattle.odb_exec.specs.declared.rows.RowChange.TheVariants.{Put}
use Rattle.odb_exec.specs.Rows.{IsChangeOf, IsPutAmong, tuple_refusal}
use Rattle.odb_exec.specs.Written.{keys_written}
use Rattle.odb_exec.specs.Effect.{IsEffectOf}
use Rattle.odb_exec.proofs.Tuples.{puts}
use Rattle.odb_exec.proofs.Inserting.{IsInserted, inserted-one, inserted-refused, inserted-all, stands-all}
use Rattle.odb_exec.proofs.insert.insert_all.Goals as goal

pub returns-in-Refused-clause-effect : goal.returns-in-Refused-clause-effect
returns-in-Refused-clause-effect g c =
    let t = c.args.table.now in
    let s = g.R.RowSource.state c.args.rows.now in
    let v = c.tuple-item.result in
    let earlier = c.loop-tuple.earlier.keys in
    let within : c.loop-tuple.tuple-index < length c.args.tuples.now = omega arith in
    let told = subst (λ (x : RowChange). IsChangeOf (tuple_refusal c.args.format t (g.R.RowSource.state c.loop-tuple.rows) earlier c.as_slice.result.now) (writes_of t c.as_slice.result.now) x) c.in-Refused.is c.in_ok-reply.ensures.change in
    let refuses : tuple_refusal c.args.format t s earlier v ≡ Some c.in-Refused.reply =
    ap (λ (u : State). tuple_refusal c.args.format t u earlier v) (sym c.loop-tuple.invariant.state)
    ∙ ap (λ (x : List Value). tuple_refusal c.args.format t (g.R.RowSource.state c.loop-tuple.rows) earlier x) (sym c.as_slice.ensures) ∙ told in
    subst (λ (m : Meaning). IsEffectOf m c.without_writes.result)
    (sym (inserted-refused t c.args.format s (keys_written c.args.written.now.items) c.args.tuples.now c.loop-tuple.tuple-index v within c.tuple-item.is earlier c.loop-tuple.changes c.loop-tuple.invariant.inserted c.in-Refused.reply refuses))
    c.without_writes.ensures

pub loop-tuple-preserved : goal.loop-tuple-preserved
loop-tuple-preserved g c =
    let t = c.args.table.now in
    let s = g.R.RowSource.state c.args.rows.now in
    let v = c.tuple-item.result in
    let earlier = c.loop-tuple.earlier.keys in
    let within : c.loop-tuple.tuple-index < length c.args.tuples.now = omega arith in
    let told = subst (λ (x : RowChange). IsChangeOf (tuple_refusal c.args.format t (g.R.RowSource.state c.loop-tuple.rows) earlier c.as_slice.result.now) (writes_of t c.as_slice.result.now) x) c.in-Put.is c.in_ok-reply.ensures.change in
    let among = subst (λ (x : RowChange). IsPutAmong earlier c.tuple_change.new.earlier.keys (key_of t c.as_slice.result.now) x) c.in-Put.is c.in_ok-reply.ensures.earlier in
    let agreed : tuple_refusal c.args.format t s earlier v ≡ None =
    ap (λ (u : State). tuple_refusal c.args.format t u earlier v) (sym c.loop-tuple.invariant.state)
    ∙ ap (λ (x : List Value). tuple_refusal c.args.format t (g.R.RowSource.state c.loop-tuple.rows) earlier x) (sym c.as_slice.ensures) ∙ told.0 in
    let one : writes_of t v ≡ c.in-Put.write ∷ [] = ap (writes_of t) (sym c.as_slice.ensures) ∙ told.1 in
    record {
      state = c.tuple_change.ensures.state ∙ c.loop-tuple.invariant.state;
      counts = λ file. omega (arith, c.loop-tuple.invariant.counts file, c.tuple_change.ensures.counts file);
      inserted = inserted-one t c.args.format s (keys_written c.args.written.now.items) c.args.tuples.now c.loop-tuple.tuple-index v within c.tuple-item.is earlier c.loop-tuple.changes c.loop-tuple.invariant.inserted
          c.tuple_change.new.earlier.keys c.in_ok-changes-in-Put.changes c.in-Put.write agreed one
          (subst (λ (x : List Value). IsPutAmong earlier c.tuple_change.new.earlier.keys (key_of t x) (Put c.in-Put.write)) c.as_slice.ensures among)
          c.in_ok-changes-in-Put.ensures;
    }

pub returns-clause-effect : goal.returns-clause-effect
returns-clause-effect g c =
    let t = c.args.table.now in
    let s = g.R.RowSource.state c.args.rows.now in
    let ks = keys_written c.args.written.now.items in
    let tuples = c.args.tuples.now in
    let end : c.loop-tuple.tuple-index ≡ length tuples = omega arith in
    let all = subst (λ (n : ℕ). IsInserted t c.args.format s ks tuples n c.loop-tuple.earlier.keys c.loop-tuple.changes) end c.loop-tuple.invariant.inserted in
    subst (λ (m : Meaning). IsEffectOf m c.into_effect.result) (sym (inserted-all t c.args.format s ks tuples c.loop-tuple.earlier.keys c.loop-tuple.changes all))
    (c.into_effect.ensures ks (puts t tuples) (stands-all t c.args.format s ks tuples c.loop-tuple.earlier.keys c.loop-tuple.changes all))
