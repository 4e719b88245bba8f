use Rattle.std.proofs.Common.{sym, ap, ◌∙◌}
use Rattle.std.specs.Str.{bytes_eq}
use Rattle.odb_model.specs.Lexeme.{sign_text}
use Rattle.odb_model.proofs.Finds.{find_later}
use Rattle.odb_model.proofs.sign.+found.Goals as goal

pub returns-else-eq : goal.returns-else-eq
returns-else-eq t c =
    find_later (λ sign. bytes_eq (sign_text sign) c.args.bytes.now) c.args.signs.now _ c.found.result c.in-len1-up.len_at_least
    (ap (λ text. bytes_eq text c.args.bytes.now) (sym c.text.ensures) ∙ sym c.eq.ensures ∙ c.if-eq.false) c.found.ensures
