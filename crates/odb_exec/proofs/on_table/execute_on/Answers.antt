use Rattle.std.proofs.Common.{◌≡◌, ◌∷◌, [], ◌++◌, ◌∙◌, List, Some, ap, sym, subst}
use Rattle.odb_values.specs.declared.range.Range.{Range}
use Rattle.odb_model.specs.declared.outcome.Outcome.{Outcome}
use Rattle.odb_model.specs.Dictionary.{table_of}
use Rattle.odb_model.specs.Reads.{table_reads, dictionary_row}
use Rattle.odb_model.proofs.Keyed.{table-is}
use Rattle.odb_exec.specs.Written.{keys_written}
use Rattle.odb_exec.specs.Outcome.{IsOutcomeOf}
use Rattle.odb_exec.proofs.Executing.{refused_as, unbound, bound_to}
use Rattle.odb_exec.proofs.on_table.execute_on.Goals as goal

pub returns-in_ok-effect-in-Ok-clause-outcome : goal.returns-in_ok-effect-in-Ok-clause-outcome
returns-in_ok-effect-in-Ok-clause-outcome g c = λ on told.
    let t = c.in-Some.table in
    let st = c.args.statement.now in
    let name = c.args.name.now in
    let s = g.R.RowSource.state c.args.rows.now in
    let ks = keys_written c.args.written.now.items in
    let there : table_of s name ≡ Some t = sym told ∙ c.in-Some.is in
    let ranges : c.put_reads.new.reads.items ≡ dictionary_row name ∷ table_reads t st =
    c.in_ok-put_reads-in-Ok.ensures
    ∙ ap (λ (l : List Range). l ++ table_reads t st) (c.in_ok-reads.ensures.items ∙ ap (λ (r : Range). r ∷ []) c.in_ok-dictionary_row.ensures) in
    subst (λ (o : Outcome). IsOutcomeOf st s ks c.args.format o) (sym c.with_reads-in-Ok.ensures)
    (bound_to s ks c.args.format st name on c.in_ok-effect-in-Ok.effect c.put_reads.new.reads.items t there c.in-Ok.ensures.bound.agreed
    (c.in_ok-effect-in-Ok.ensures.effect (table-is s name t there)) ranges)

pub returns-in_ok-reply-in-Err-clause-outcome : goal.returns-in_ok-reply-in-Err-clause-outcome
returns-in_ok-reply-in-Err-clause-outcome g c = λ on told.
    let t = c.in-Some.table in
    let st = c.args.statement.now in
    let name = c.args.name.now in
    let s = g.R.RowSource.state c.args.rows.now in
    let ks = keys_written c.args.written.now.items in
    let there : table_of s name ≡ Some t = sym told ∙ c.in-Some.is in
    let refuses = refused_as t st c.in-Err.error c.in_ok-reply-in-Err.reply c.in_ok-reply-in-Err.ensures c.in-Err.ensures.refused in
    let ranges : c.in_ok-reads.reads.items ≡ dictionary_row name ∷ [] =
    c.in_ok-reads.ensures.items ∙ ap (λ (r : Range). r ∷ []) c.in_ok-dictionary_row.ensures in
    subst (λ (o : Outcome). IsOutcomeOf st s ks c.args.format o) (sym c.with_reads-in-Err.ensures)
    (unbound s ks c.args.format st name on c.without_writes-in-Err.result c.in_ok-reads.reads.items t there c.in_ok-reply-in-Err.reply refuses c.without_writes-in-Err.ensures ranges)
