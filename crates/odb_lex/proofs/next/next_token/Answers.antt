use Rattle.std.proofs.Common.{sym, ◌∙◌, arith}
use Rattle.odb_lex.proofs.Slices.{next_is}
use Rattle.odb_lex.proofs.next.next_token.Goals as goal

pub returns-clause-stands : goal.returns-clause-stands
returns-clause-stands c =
    (next_is c.args.text.now c.args.at c.blank_len.result c.in_ok-front.field-0 c.blank_len.ensures.len (omega arith) (sym c.front.ensures ∙ c.in_ok-front.was)).stands

pub returns-clause-blank : goal.returns-clause-blank
returns-clause-blank c =
    (next_is c.args.text.now c.args.at c.blank_len.result c.in_ok-front.field-0 c.blank_len.ensures.len (omega arith) (sym c.front.ensures ∙ c.in_ok-front.was)).blank

pub returns-clause-slice : goal.returns-clause-slice
returns-clause-slice c =
    (next_is c.args.text.now c.args.at c.blank_len.result c.in_ok-front.field-0 c.blank_len.ensures.len (omega arith) (sym c.front.ensures ∙ c.in_ok-front.was)).slice
