use Rattle.std.proofs.Common.{codes, string_bytes}
use Rattle.std.proofs.lemmas.Result.{on_ok_weaker}
use Rattle.odb_model.specs.Canonical.{joined, names_text, column_text}
use Rattle.odb_print.proofs.Appends.{eight}
use Rattle.odb_print.proofs.statements.put_table.Goals as goal

pub returns : goal.returns
returns c =
    let all = eight (string_bytes c.args.out.now) (codes "CREATE TABLE ") c.args.name.now (codes " (") (joined column_text c.args.columns.now) (codes ", PRIMARY KEY (") (names_text c.args.key.now) (codes ")) IN ") c.args.bank.now in
    on_ok_weaker c.put_last.result
    (λ written. cc (written, c.in_ok-put_one.ensures, c.in_ok-put_joined.ensures, c.in_ok-push_str.ensures.bytes, c.in_ok-put_joined-2.ensures, c.as_slice.ensures, c.as_slice-2.ensures, all))
    c.put_last.ensures
