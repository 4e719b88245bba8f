use Rattle.std.proofs.Common.{◌≡◌, Some, Ok, subst, sym, ap, ◌∙◌}
use Rattle.odb_values.specs.Text.{IsText}
use Rattle.odb_parse.proofs.Texts.{quoted_here}
use Rattle.odb_parse.proofs.tokens.Tokens.quoted.Goals as goal

pub text_of-requires : goal.text_of-requires
text_of-requires c =
    let inner : c.in-Ok-Some.field-0 ≡ Some c.in-Ok-Some.token = rw c.in-Ok-Some.is at c.in-Ok-Some.field-0-is in
    quoted_here c.self.inside.text.now c.self.inside.next c.self.inside.kind c.in-Ok-Some.token c.self.invariant.token c.self.invariant.kind
    (c.in-Ok-Some.is ∙ ap Ok inner) c.in-Quoted.is

pub unwrap-requires : goal.unwrap-requires
unwrap-requires c =
    let inner : c.in-Ok-Some.field-0 ≡ Some c.in-Ok-Some.token = rw c.in-Ok-Some.is at c.in-Ok-Some.field-0-is in
    let t = c.in-Ok-Some.token in
    let text = c.self.inside.text.now in
    let spelled = quoted_here text c.self.inside.next c.self.inside.kind t c.self.invariant.token c.self.invariant.kind
    (c.in-Ok-Some.is ∙ ap Ok inner) c.in-Quoted.is in
    c.new.ensures.text.1 (subst IsText (sym c.in_ok-value.ensures) spelled.value)
