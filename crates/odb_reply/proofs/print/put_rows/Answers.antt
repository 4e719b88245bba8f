use Rattle.std.proofs.Common.{◌∙◌, ◌++◌, [], ◌∷◌, take, flat_map, string_bytes, ap, sym, subst}
use Rattle.std.proofs.lemmas.List.{take_more, flat_map_more}
use Rattle.std.proofs.lemmas.List.Elements.{All-more}
use Rattle.odb_model.specs.Print.{row_line}
use Rattle.odb_reply.specs.Unbroken.{IsUnbrokenRow}
use Rattle.odb_reply.proofs.print.put_rows.Goals as goal

pub loop-row-preserved : goal.loop-row-preserved
loop-row-preserved c =
    let rows = c.args.rows.now in
    let row = c.row-item.result in
    let i = c.loop-row.row-index in
    let out = string_bytes c.args.out.now in
    let line = row_line c.args.head in
    record {
      text = c.in_ok-put_row.ensures.text ∙ ap (λ b. b ++ line row) c.loop-row.invariant.text ∙ flat_map_more line out (take i rows) row
          ∙ ap (λ x. out ++ flat_map line (take i rows ++ x ∷ [])) c.row-item.is
          ∙ ap (λ xs. out ++ flat_map line xs) (sym (take_more rows i row c.loop-row-test.true));
      unbroken = All-more IsUnbrokenRow rows i row c.loop-row-test.true c.loop-row.invariant.unbroken (subst IsUnbrokenRow c.row-item.is c.in_ok-put_row.ensures.unbroken);
    }
