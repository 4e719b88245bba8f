use Rattle.std.proofs.Common.{◌∙◌, List, None, ap, sym, subst}
use Rattle.std.specs.Prelude.{IfOk}
use Rattle.odb_model.specs.declared.reply.Reply.{Reply}
use Rattle.odb_model.specs.declared.statement.Assignment.{Assignment}
use Rattle.odb_model.specs.declared.statement.Statement.{Statement}
use Rattle.odb_model.specs.Meaning.{Meaning, refused, executed, updated}
use Rattle.odb_plan.specs.Bound.{IsBound}
use Rattle.odb_exec.specs.Walk.{rows_left}
use Rattle.odb_exec.specs.Written.{keys_written}
use Rattle.odb_exec.specs.Effect.{IsEffectOf}
use Rattle.odb_exec.proofs.Bounds.{select-does, update-does, delete-does}
use Rattle.odb_exec.proofs.on_table.executed.Goals as goal

pub returns-in_ok-reply-in-Select-clause-effect : goal.returns-in_ok-reply-in-Select-clause-effect
returns-in_ok-reply-in-Select-clause-effect g c = λ is.
    let t = c.args.table.now in
    let b = c.args.bound.now in
    let s = g.R.RowSource.state c.args.rows.now in
    let ks = keys_written c.args.written.now.items in
    let bound = subst (λ (st : Statement). IsBound t st b) c.in-Select.is c.requires in
    subst (λ (m : Meaning). IsEffectOf m c.without_writes.result)
    (ap (λ (r : Reply). refused r) c.in_ok-reply-in-Select.ensures.reply
    ∙ sym (select-does t b is s ks c.args.format c.in-Select.what c.in-Select.table c.in-Select.filter bound)
    ∙ ap (λ (st : Statement). executed t st s ks c.args.format) (sym c.in-Select.is))
    c.without_writes.ensures

pub returns-in-Update-clause-effect : goal.returns-in-Update-clause-effect
returns-in-Update-clause-effect g c = λ is.
    let t = c.args.table.now in
    let b = c.args.bound.now in
    let s = g.R.RowSource.state c.args.rows.now in
    let ks = keys_written c.args.written.now.items in
    let bound = subst (λ (st : Statement). IsBound t st b) c.in-Update.is c.requires in
    subst (λ (m : Meaning). IfOk c.update.result (IsEffectOf m))
    (ap (λ (a : List Assignment). updated t a (rows_left b.range b.filter None s) ks c.args.format) c.as_slice-in-Update.ensures
    ∙ sym (update-does t b is s ks c.args.format c.in-Update.table c.in-Update.sets c.in-Update.filter bound)
    ∙ ap (λ (st : Statement). executed t st s ks c.args.format) (sym c.in-Update.is))
    c.update.ensures.effect

pub returns-in-Delete-clause-effect : goal.returns-in-Delete-clause-effect
returns-in-Delete-clause-effect g c = λ is.
    let t = c.args.table.now in
    let b = c.args.bound.now in
    let s = g.R.RowSource.state c.args.rows.now in
    let ks = keys_written c.args.written.now.items in
    let bound = subst (λ (st : Statement). IsBound t st b) c.in-Delete.is c.requires in
    subst (λ (m : Meaning). IfOk c.delete.result (IsEffectOf m))
    (sym (delete-does t b is s ks c.args.format c.in-Delete.table c.in-Delete.filter bound)
    ∙ ap (λ (st : Statement). executed t st s ks c.args.format) (sym c.in-Delete.is))
    c.delete.ensures.effect
