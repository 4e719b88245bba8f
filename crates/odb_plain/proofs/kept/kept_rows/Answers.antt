use Rattle.std.proofs.Common.{◌++◌, ap, sym, ◌∙◌}
use Rattle.std.specs.List.{filter}
use Rattle.std.proofs.lemmas.List.{append-nil}
use Rattle.odb_plain.proofs.Keeping.{is_kept, kept-all}
use Rattle.odb_plain.proofs.kept.kept_rows.Goals as goal

pub returns : goal.returns
returns c =
    let t = c.args.table.now in
    let where_of = c.args.filter.now in
    sym (append-nil c.loop-at.kept.items)
    ∙ ap (λ es. c.loop-at.kept.items ++ filter (is_kept t where_of) es) (sym c.in-None.ensures.steps.0)
    ∙ c.loop-at.invariant ∙ sym (kept-all t where_of c.args.rows.now)
