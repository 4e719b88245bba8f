use Rattle.std.proofs.Common.{◌≡◌, Some, Ok, slice_range, subst, sym, ap, ◌∙◌}
use Rattle.odb_values.specs.Text.{IsText}
use Rattle.odb_parse.proofs.Texts.{name_text, named_here}
use Rattle.odb_parse.proofs.tokens.Tokens.name.Goals as goal

pub unwrap-requires : goal.unwrap-requires
unwrap-requires c =
    let inner : c.in-Ok-Some.field-0 ≡ Some c.in-Ok-Some.token = rw c.in-Ok-Some.is at c.in-Ok-Some.field-0-is in
    let t = c.in-Ok-Some.token in
    let text = c.self.inside.text.now in
    let named = named_here text c.self.inside.next c.self.inside.kind t c.self.invariant.token c.self.invariant.kind
    (c.in-Ok-Some.is ∙ ap Ok inner) c.in-Name.is in
    c.new.ensures.text.1 (subst IsText (sym c.in_ok-name.ensures) (name_text (slice_range text t.from t.to) named))
