-- What stands behind a token, however many tokens are asked for.
use Rattle.std.proofs.Common.{◌≡◌, ℕ, zero, suc, ◌+◌, ◌<◌, ◌≤◌, List, ◌∷◌, length, Option, Some, None, Result, Ok, Err, refl, sym, ap, ◌∙◌, arith}
use Rattle.odb_lex.specs.declared.error.LexError.{LexError}
use Rattle.odb_lex.specs.declared.token.Token.{Token}
use Rattle.odb_lex.specs.Token.{StandsIn}
use Rattle.odb_lex.specs.Next.{next_in}
use Rattle.odb_model.specs.Answer.{lexeme_in}
use Rattle.odb_parse.specs.Codes.{Item, Stands}
use Rattle.odb_parse.specs.Items.{first_and, items_behind, items_of}
use Rattle.odb_parse.specs.Reading.{passed, skip}

abbrev pub Ascends : Type 0
Ascends = (text : List ℕ) (at : ℕ) (token : Token) → at ≤ length text → next_in text at ≡ Ok (Some token) → StandsIn at token (length text)

same_first : (text : List ℕ) (f g : ℕ → List Item) (r : Result (Option Token) LexError)
    → ((token : Token) → r ≡ Ok (Some token) → f token.to ≡ g token.to) → first_and text f r ≡ first_and text g r
same_first text f g (Ok None) same = refl
same_first text f g (Ok (Some token)) same = ap (λ items. Stands (lexeme_in text token) token.from ∷ items) (same token refl)
same_first text f g (Err wrong) same = refl

-- one token more than bytes are left changes nothing
pub behind_enough : Ascends → (n : ℕ) (text : List ℕ) (at : ℕ) → length text < n + at → at ≤ length text
    → items_behind n text at ≡ items_behind (suc n) text at
unfolding items_behind
behind_enough law zero text at enough within = absurd (omega arith)
behind_enough law (suc n) text at enough within =
    same_first text (items_behind n text) (items_behind (suc n) text) (next_in text at)
    (λ (token : Token) is.
    let stands = law text at token within is in
    let behind = stands.behind in
    let some = stands.some in
    let fits = stands.within in
    behind_enough law n text token.to (omega arith) fits)

-- going past a token
pub skip_is : Ascends → (text : List ℕ) (next : Result (Option Token) LexError) (token : Token) (old : List Item) → items_of text next ≡ old
    → next ≡ Ok (Some token) → token.from < token.to → token.to ≤ length text → skip old ≡ passed (items_of text (next_in text token.to))
unfolding skip items_behind
skip_is law text next token old view is some within =
    let shown : old ≡ items_of text (Ok (Some token)) = sym view ∙ ap (items_of text) is in
    ap skip shown ∙ ap passed (behind_enough law (length text) text token.to (omega arith) within)

pub passes_ok : (text : List ℕ) (f : ℕ → List Item) (o : Option Token) → passed (first_and text f (Ok o)) ≡ Ok (tt, first_and text f (Ok o))
passes_ok text f None = refl
passes_ok text f (Some token) = refl
