use Rattle.std.proofs.Common.{codes, string_bytes}
use Rattle.std.proofs.lemmas.Result.{on_ok_weaker}
use Rattle.odb_model.specs.Canonical.{filter_text}
use Rattle.odb_print.proofs.Appends.{three_joined}
use Rattle.odb_print.proofs.statements.put_delete.Goals as goal

pub returns : goal.returns
returns c =
    let all = three_joined (string_bytes c.args.out.now) (codes "DELETE FROM ") c.args.table.now (filter_text c.args.filter.now) in
    on_ok_weaker c.put_filter.result (λ written. cc (written, c.in_ok-put_last.ensures, all)) c.put_filter.ensures
