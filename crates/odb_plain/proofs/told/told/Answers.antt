use Rattle.std.proofs.Common.{◌≡◌, ap, sym, ◌∙◌, List, map}
use Rattle.std.proofs.lemmas.Result.{IfOk-weaker}
use Rattle.odb_values.specs.declared.value.Value.{Value}
use Rattle.odb_model.specs.declared.reply.Reply.{Reply}
use Rattle.odb_model.specs.declared.statement.What.{What}
use Rattle.odb_model.specs.Table.{column_value}
use Rattle.odb_model.specs.Sums.{total_of}
use Rattle.odb_model.specs.Meaning.{told, single_or_overflow}
use Rattle.odb_plain.proofs.told.told.Goals as goal

pub returns-in_ok-given-in-Sum : goal.returns-in_ok-given-in-Sum
returns-in_ok-given-in-Sum c =
    let columns = c.args.table.now.columns in
    let rows : List (List Value) = c.args.rows.items in
    let f = λ (values : List Value). column_value columns values c.in-Sum.name in
    let total : c.total_of.result ≡ total_of (map f rows) =
    c.total_of.ensures ∙ ap total_of (c.as_slice-in-Sum-2.ensures.value ∙ c.in_ok-given-in-Sum.ensures ∙ ap (map f) c.as_slice-in-Sum.ensures.value) in
    IfOk-weaker c.single_or_overflow.result (λ (r : Reply). r ≡ single_or_overflow c.total_of.result) (λ (r : Reply). r ≡ told columns c.args.what.now rows)
    (λ r e. e ∙ ap single_or_overflow total ∙ ap (λ (w : What). told columns w rows) (sym c.in-Sum.is)) c.single_or_overflow.ensures
