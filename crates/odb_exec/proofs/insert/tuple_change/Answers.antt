use Rattle.std.proofs.Common.{[], List, subst, sym}
use Rattle.odb_values.specs.declared.value.Value.{Value}
use Rattle.odb_model.specs.Meaning.{writes_of}
use Rattle.odb_exec.specs.declared.rows.RowChange.{RowChange}
use Rattle.odb_exec.specs.Rows.{IsChangeOf, IsPutAmong, tuple_refusal}
use Rattle.odb_exec.proofs.Tuples.{refused-behind, key-behind, change-behind}
use Rattle.odb_exec.proofs.insert.tuple_change.Goals as goal

pub returns-in-Refused-clause-change : goal.returns-in-Refused-clause-change
returns-in-Refused-clause-change g c =
    let t = c.args.table.now in
    let s = g.R.RowSource.state c.args.rows.now in
    let v : List Value = c.args.values.now in
    let told = subst (λ (x : RowChange). IsChangeOf (tuple_refusal c.args.format t s [] v) (writes_of t v) x) c.in-Refused.is c.in_ok-reply.ensures.change in
    refused-behind t c.args.format s c.args.earlier.now.keys v c.in-Refused.reply told

pub returns-in_ok-put_behind-in-Put-clause-change : goal.returns-in_ok-put_behind-in-Put-clause-change
returns-in_ok-put_behind-in-Put-clause-change g c =
    let t = c.args.table.now in
    let s = g.R.RowSource.state c.args.rows.now in
    let v : List Value = c.args.values.now in
    let told = subst (λ (x : RowChange). IsChangeOf (tuple_refusal c.args.format t s [] v) (writes_of t v) x) c.in-Put.is c.in_ok-reply.ensures.change in
    change-behind t c.args.format s c.args.earlier.now.keys v c.in-Put.write c.in_ok-put_behind-in-Put.field-0 told.0 told.1 c.in_ok-put_behind-in-Put.ensures.change

pub returns-in_ok-put_behind-in-Put-clause-earlier : goal.returns-in_ok-put_behind-in-Put-clause-earlier
returns-in_ok-put_behind-in-Put-clause-earlier g c =
    let t = c.args.table.now in
    let s = g.R.RowSource.state c.args.rows.now in
    let v : List Value = c.args.values.now in
    let told = subst (λ (x : RowChange). IsChangeOf (tuple_refusal c.args.format t s [] v) (writes_of t v) x) c.in-Put.is c.in_ok-reply.ensures.change in
    subst (λ (k : List Value). IsPutAmong c.args.earlier.now.keys c.put_behind.new.earlier.keys k c.in_ok-put_behind-in-Put.field-0)
    (sym (key-behind t c.args.format s c.args.earlier.now.keys v c.in-Put.write told.1)) c.in_ok-put_behind-in-Put.ensures.earlier
