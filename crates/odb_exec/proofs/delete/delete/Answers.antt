use Rattle.std.proofs.Common.{[], ◌∷◌, ◌∙◌, ap, sym, subst, arith, length, None}
use Rattle.std.specs.Option.{option_copied}
use Rattle.std.specs.List.{flat_map}
use Rattle.odb_model.specs.declared.write.Write.{Write}
use Rattle.odb_model.specs.Meaning.{Meaning, delete_writes}
use Rattle.odb_rowsource.specs.RowSource.{entry_of}
use Rattle.odb_exec.specs.Walk.{rows_left, key_shown}
use Rattle.odb_exec.specs.Written.{keys_written}
use Rattle.odb_exec.specs.Changes.{StandsFor}
use Rattle.odb_rowsource.proofs.Above.{Entry}
use Rattle.odb_exec.proofs.Walks.{step-some, step-none}
use Rattle.odb_exec.proofs.Passing.{passed-one, passed-all}
use Rattle.odb_exec.specs.Effect.{IsEffectOf}
use Rattle.odb_exec.proofs.Deleting.{deleted-one, deleted-all}
use Rattle.odb_exec.proofs.delete.delete.Goals as goal

pub loop-last-smaller : goal.loop-last-smaller
loop-last-smaller g c =
    let s = g.R.RowSource.state c.args.rows.now in
    let step = step-some c.args.range.now c.args.filter.now g.R.Shown.ShownRow.keyed (option_copied c.key_shown.result) (key_shown g.R.Shown.ShownRow.keyed c.loop-last.last) (g.R.RowSource.state c.loop-last.rows) s c.in_ok-row.field-0
    c.in_ok-row.ensures.row c.key_shown.ensures c.loop-last.invariant.state c.in-Some.row c.in-Some.is in
    omega (arith, ap length step)

pub loop-last-preserved : goal.loop-last-preserved
loop-last-preserved g c =
    let s = g.R.RowSource.state c.args.rows.now in
    let step = step-some c.args.range.now c.args.filter.now g.R.Shown.ShownRow.keyed (option_copied c.key_shown.result) (key_shown g.R.Shown.ShownRow.keyed c.loop-last.last) (g.R.RowSource.state c.loop-last.rows) s c.in_ok-row.field-0
    c.in_ok-row.ensures.row c.key_shown.ensures c.loop-last.invariant.state c.in-Some.row c.in-Some.is in
    let t = c.args.table.now in
    let ks = keys_written c.args.written.now.items in
    let x : Entry = entry_of c.args.range.now.table (g.R.Shown.ShownRow.keyed c.in-Some.row) in
    let w : Write = record { bank = c.bank.result; table = c.args.range.now.table; key = c.in_ok-copy.field-0; row = None } in
    record {
      state = c.next_kept.ensures.state ∙ c.loop-last.invariant.state;
      counts = λ file. omega (arith, c.loop-last.invariant.counts file, c.next_kept.ensures.counts file);
      changes = passed-one (λ passed. StandsFor ks (flat_map (delete_writes t) passed) c.loop-last.changes) (λ passed. StandsFor ks (flat_map (delete_writes t) passed) c.in_ok-changes.changes)
          (rows_left c.args.range.now c.args.filter.now None s) _ _ x c.loop-last.invariant.changes step
          (deleted-one t ks c.args.range.now c.args.filter.now s c.loop-last.changes c.in_ok-changes.changes x _ w
          (λ i. record { bank = sym c.bank.ensures i; table = c.args.range.now.table; key = sym (c.in_ok-copy.ensures ∙ c.key.ensures) i; row = None } ∷ [])
          (λ i. record { table = c.args.range.now.table; key = (c.in_ok-copy.ensures ∙ c.key.ensures) i }) c.in_ok-changes.ensures);
    }

pub returns-clause-effect : goal.returns-clause-effect
returns-clause-effect g c =
    let s = g.R.RowSource.state c.args.rows.now in
    let none = step-none c.args.range.now c.args.filter.now g.R.Shown.ShownRow.keyed (option_copied c.key_shown.result) (key_shown g.R.Shown.ShownRow.keyed c.loop-last.last) (g.R.RowSource.state c.loop-last.rows) s c.in_ok-row.field-0
    c.in_ok-row.ensures.row c.key_shown.ensures c.loop-last.invariant.state c.in_default.is in
    let t = c.args.table.now in
    let ks = keys_written c.args.written.now.items in
    let all = rows_left c.args.range.now c.args.filter.now None s in
    subst (λ (m : Meaning). IsEffectOf m c.into_effect.result) (sym (deleted-all t ks all))
    (c.into_effect.ensures ks (flat_map (delete_writes t) all) (passed-all (λ passed. StandsFor ks (flat_map (delete_writes t) passed) c.loop-last.changes) all _ c.loop-last.invariant.changes none))
