use Rattle.std.proofs.Common.{◌≡◌, ℕ, List, Some, None, cond, subst}
use Rattle.std.specs.Prelude.{IfOk}
use Rattle.odb_codec.specs.Reading.{is_text}
use Rattle.odb_codec.proofs.Texts.{if_made, is_none_made}
use Rattle.odb_codec.proofs.value.text_of.Goals as goal

pub returns-in-Err : goal.returns-in-Err
returns-in-Err c = is_none_made c.args.bytes.now c.in-Err.ensures.cases.0

pub returns-in-Ok : goal.returns-in-Ok
returns-in-Ok c =
    subst (λ (b : List ℕ). IfOk c.from_str.result (λ made. made ≡ cond (is_text b) (Some b) None)) c.in-Ok.ensures.cases.0
    (if_made c.in-Ok.text.now c.from_str.result c.from_str.ensures.text c.from_str.ensures.value)
