use Rattle.std.proofs.Common.{◌≡◌, Some, ◌<◌, ◌≤◌, Ok, Err, length, subst, sym, ap, ◌∙◌}
use Rattle.odb_lex.specs.Token.{IfToken}
use Rattle.odb_parse.specs.Items.{items_of, items_behind}
use Rattle.odb_parse.specs.Reading.{Reads, passed, skip}
use Rattle.odb_parse.proofs.Behind.{skip_is, passes_ok}
use Rattle.odb_parse.proofs.Shorter.{skip_short}
use Rattle.odb_parse.proofs.tokens.Tokens.skip.Goals.{in-Ok, in-Err}
use Rattle.odb_parse.proofs.tokens.Tokens.skip.Goals as goal

pub returns-clause-reads : goal.returns-clause-reads
returns-clause-reads c =
    let inner : c.in-Ok-Some.field-0 ≡ Some c.in-Ok-Some.token = rw c.in-Ok-Some.is at c.in-Ok-Some.field-0-is in
    let text = c.self.inside.text.now in
    let token = c.in-Ok-Some.token in
    let next = c.next_token-self-inside.result in
    let is = c.in-Ok-Some.is ∙ ap Ok inner in
    let within = subst (λ n. IfToken n (λ t. (t.from < t.to) × (t.to ≤ length text))) is c.self.invariant.within in
    let past = skip_is c.tokens_stand.ensures.stands text c.self.inside.next token c.args.self.now c.self.view_is is within.0 within.1
    ∙ ap (λ r. passed (items_of text r)) (sym c.next_token-self-inside.ensures.next) in
    elim c.match-self-3.branch [
      | in-Ok w ↦ subst (λ r. Reads (skip c.args.self.now) r (items_of text next)) (sym w.result-is)
          (past ∙ ap (λ r. passed (items_of text r)) w.in-Ok.is ∙ passes_ok text (items_behind (length text) text) _
          ∙ ap (λ r. Ok (tt, items_of text r)) (sym w.in-Ok.is))
      | in-Err w ↦ subst (λ r. Reads (skip c.args.self.now) r (items_of text next)) (sym w.result-is)
          (λ _. past ∙ ap (λ r. passed (items_of text r)) w.in-Err.is
          ∙ (λ i. Err (sym w.from.ensures i, items_of text (sym w.in-Err.is i))))
    ]

pub returns-clause-shorter : goal.returns-clause-shorter
returns-clause-shorter c = skip_short c.args.self.now c.match-self-3.result (items_of c.self.inside.text.now c.next_token-self-inside.result) (returns-clause-reads c)
