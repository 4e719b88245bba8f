use Rattle.std.proofs.Common.{codes, string_bytes}
use Rattle.std.proofs.lemmas.Result.{on_ok_weaker}
use Rattle.odb_model.specs.Canonical.{joined, tuple_text}
use Rattle.odb_print.proofs.Appends.{four}
use Rattle.odb_print.proofs.statements.put_insert.Goals as goal

pub returns : goal.returns
returns c =
    let all = four (string_bytes c.args.out.now) (codes "INSERT INTO ") c.args.table.now (codes " VALUES ") (joined tuple_text c.args.tuples.now) in
    on_ok_weaker c.put_joined.result (λ written. cc (written, c.in_ok-put_one.ensures, c.as_slice.ensures, all)) c.put_joined.ensures
