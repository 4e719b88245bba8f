-- Each text has one answer.
use Rattle.std.proofs.Common.{◌≡◌, ℕ, List, [], ◌∷◌, ◌++◌, Option, Some, None, Result, Ok, Err, refl, sym, ap, subst, ◌∙◌, append_assoc}
use Rattle.std.proofs.lemmas.List.{append-nil}
use Rattle.odb_lex.specs.declared.error.LexError.{LexError}
use Rattle.odb_lex.specs.declared.token.Token.{Token}
use Rattle.odb_lex.specs.Next.{next_in}
use Rattle.odb_model.specs.declared.statement.Statement.{Statement}
use Rattle.odb_model.specs.Lexeme.{Lexeme}
use Rattle.odb_model.specs.Grammar.{Spells}
use Rattle.odb_model.specs.Answer.{lexeme_in, HasLexemes, Begins, IsStatementText, IsUnexpected, IsUnfinished, IsNoToken, Refusal, NoToken, Unexpected, End, Answers}
use Rattle.odb_parse.specs.Reading.{Outcome}
use Rattle.odb_parse.proofs.StatementsRead.{reads_lexemes}

-- ---- some lexemes spell one statement

statement_in : Statement → Outcome Statement → Statement
statement_in other (Ok read) = read.0
statement_in other (Err wrong) = other

pub spells_once : (ls : List Lexeme) (a b : Statement) → Spells ls a → Spells ls b → a ≡ b
unfolding statement_in
spells_once ls a b one other = ap (statement_in a) (sym (reads_lexemes ls a one) ∙ reads_lexemes ls b other)

-- ---- of two runs of tokens from one place, one is the front of the other

data Compared (text : List ℕ) (ls : List Lexeme) (to : ℕ) (ks : List Lexeme) (up : ℕ) : Type 0 where
  same : ls ≡ ks → to ≡ up → Compared text ls to ks up
  longer : (token : Token) (more : List Lexeme) → next_in text up ≡ Ok (Some token) → ls ≡ ks ++ lexeme_in text token ∷ more
      → Compared text ls to ks up
  shorter : (token : Token) (more : List Lexeme) → next_in text to ≡ Ok (Some token) → ks ≡ ls ++ lexeme_in text token ∷ more
      → Compared text ls to ks up

one_more : (text : List ℕ) (l k : Lexeme) (ls ks : List Lexeme) (to up : ℕ) → l ≡ k → Compared text ls to ks up
    → Compared text (l ∷ ls) to (k ∷ ks) up
one_more text l k ls ks to up e (same f g) = same (ap (l ∷◌) f ∙ ap (◌∷ ks) e) g
one_more text l k ls ks to up e (longer token more f g) =
    longer token more f (ap (l ∷◌) g ∙ ap (λ l. l ∷ (ks ++ lexeme_in text token ∷ more)) e)
one_more text l k ls ks to up e (shorter token more f g) =
    shorter token more f (ap (k ∷◌) g ∙ ap (λ l. l ∷ (ls ++ lexeme_in text token ∷ more)) (sym e))

one_token : (text : List ℕ) (at : ℕ) (t u : Token) → next_in text at ≡ Ok (Some t) → next_in text at ≡ Ok (Some u) → t ≡ u
one_token text at t u e f = cc

compare : (text : List ℕ) (at : ℕ) (ls ks : List Lexeme) (to up : ℕ) → HasLexemes text at ls to → HasLexemes text at ks up
    → Compared text ls to ks up
compare text at [] [] to up h g = same refl (sym h ∙ g)
compare text at [] (k ∷ ks) to up h g = shorter g.0 ks (ap (next_in text) (sym h) ∙ g.1) (ap (◌∷ ks) (sym g.2))
compare text at (l ∷ ls) [] to up h g = longer h.0 ls (ap (next_in text) (sym g) ∙ h.1) (ap (◌∷ ls) (sym h.2))
compare text at (l ∷ ls) (k ∷ ks) to up h g =
    let e = one_token text at h.0 g.0 h.1 g.1 in
    let rest = subst (λ (token : Token). HasLexemes text token.to ls to) e h.3 in
    one_more text l k ls ks to up (sym h.2 ∙ ap (lexeme_in text) e ∙ g.2) (compare text g.0.to ls ks to up rest g.3)

-- ---- how far a text is read

begins_less : (ls ks more : List Lexeme) (l : Lexeme) → ls ≡ ks ++ l ∷ more → Begins ls → Begins (ks ++ l ∷ [])
begins_less ls ks more l e b =
    let regroup = ap (◌++ b.rest) e ∙ append_assoc ks (l ∷ more) b.rest ∙ sym (append_assoc ks (l ∷ []) (more ++ b.rest)) in
    record { rest = more ++ b.rest; statement = b.statement; whole = subst (λ ls. Spells ls b.statement) regroup b.whole }

-- the longest front with which some statement begins
record Run (text : List ℕ) : Type 0 where
  pub front : List Lexeme
  pub to : ℕ
  pub has : HasLexemes text 0 front to
  pub before : Begins front
  pub stops : (token : Token) → next_in text to ≡ Ok (Some token) → ¬ Begins (front ++ lexeme_in text token ∷ [])

record OneRun (text : List ℕ) (ls : List Lexeme) (to : ℕ) (ks : List Lexeme) (up : ℕ) : Type 0 where
  pub front : ls ≡ ks
  pub to_ : to ≡ up

one_run : (text : List ℕ) (a b : Run text) → OneRun text a.front a.to b.front b.to
one_run text a b = go (compare text 0 a.front b.front a.to b.to a.has b.has)
  where
    go : Compared text a.front a.to b.front b.to → OneRun text a.front a.to b.front b.to
    go (same e f) = record { front = e; to_ = f }
    go (longer token more e f) = absurd (b.stops token e (begins_less a.front b.front more (lexeme_in text token) f a.before))
    go (shorter token more e f) = absurd (a.stops token e (begins_less b.front a.front more (lexeme_in text token) f b.before))

no_token_none : (o : Result (Option Token) LexError) (token : Token) → o ≡ Ok None → o ≡ Ok (Some token) → ⊥
no_token_none o token e f = cc

no_token_wrong : (o : Result (Option Token) LexError) (wrong : LexError) (token : Token) → o ≡ Err wrong → o ≡ Ok (Some token) → ⊥
no_token_wrong o wrong token e f = cc

none_wrong : (o : Result (Option Token) LexError) (wrong : LexError) → o ≡ Ok None → o ≡ Err wrong → ⊥
none_wrong o wrong e f = cc

abbrev run_statement : (text : List ℕ) (a : Statement) → IsStatementText text a → Run text
run_statement text a is = record {
  front = is.lexemes;
  to = is.to;
  has = is.has;
  before = record { rest = []; statement = a; whole = subst (λ ls. Spells ls a) (sym (append-nil is.lexemes)) is.spells };
  stops = λ token e. absurd (no_token_none (next_in text is.to) token is.all e);
}

abbrev run_wrong : (text : List ℕ) (wrong : LexError) → IsNoToken text wrong → Run text
run_wrong text wrong is = record {
  front = is.front;
  to = is.to;
  has = is.has;
  before = is.before;
  stops = λ token e. absurd (no_token_wrong (next_in text is.to) wrong token is.next e);
}

abbrev run_unexpected : (text : List ℕ) (at : ℕ) → IsUnexpected text at → Run text
run_unexpected text at is = record {
  front = is.front;
  to = is.to;
  has = is.has;
  before = is.before;
  stops = λ token e.
      subst (λ token. ¬ Begins (is.front ++ lexeme_in text token ∷ [])) (one_token text is.to is.token token is.next e) is.never;
}

abbrev run_unfinished : (text : List ℕ) → IsUnfinished text → Run text
run_unfinished text is = record {
  front = is.front;
  to = is.to;
  has = is.has;
  before = is.before;
  stops = λ token e. absurd (no_token_none (next_in text is.to) token is.all e);
}

-- ---- two answers

module _ (text : List ℕ) where
  -- what stands behind two runs
  alike : (a b : Run text) → next_in text a.to ≡ next_in text b.to
  alike a b = ap (next_in text) (one_run text a b).to_

  statements : (a b : Statement) → IsStatementText text a → IsStatementText text b → a ≡ b
  statements a b one other =
      let e = (one_run text (run_statement text a one) (run_statement text b other)).front in
      spells_once other.lexemes a b (subst (λ ls. Spells ls a) e one.spells) other.spells

  statement_wrong : (a : Statement) (wrong : LexError) → IsStatementText text a → IsNoToken text wrong → ⊥
  statement_wrong a wrong one other =
      none_wrong (next_in text other.to) wrong (sym (alike (run_statement text a one) (run_wrong text wrong other)) ∙ one.all) other.next

  statement_unexpected : (a : Statement) (at : ℕ) → IsStatementText text a → IsUnexpected text at → ⊥
  statement_unexpected a at one other =
      no_token_none (next_in text other.to) other.token (sym (alike (run_statement text a one) (run_unexpected text at other)) ∙ one.all) other.next

  statement_unfinished : (a : Statement) → IsStatementText text a → IsUnfinished text → ⊥
  statement_unfinished a one other =
      let e = (one_run text (run_statement text a one) (run_unfinished text other)).front in
      other.never a (subst (λ ls. Spells ls a) e one.spells)

  wrongs : (v w : LexError) → IsNoToken text v → IsNoToken text w → v ≡ w
  wrongs v w one other = same_wrong (next_in text other.to) v w (sym (alike (run_wrong text v one) (run_wrong text w other)) ∙ one.next) other.next
    where
      same_wrong : (o : Result (Option Token) LexError) (v w : LexError) → o ≡ Err v → o ≡ Err w → v ≡ w
      same_wrong o v w e f = cc

  wrong_unexpected : (wrong : LexError) (at : ℕ) → IsNoToken text wrong → IsUnexpected text at → ⊥
  wrong_unexpected wrong at one other =
      no_token_wrong (next_in text other.to) wrong other.token (sym (alike (run_wrong text wrong one) (run_unexpected text at other)) ∙ one.next) other.next

  wrong_unfinished : (wrong : LexError) → IsNoToken text wrong → IsUnfinished text → ⊥
  wrong_unfinished wrong one other =
      none_wrong (next_in text one.to) wrong (alike (run_wrong text wrong one) (run_unfinished text other) ∙ other.all) one.next

  places : (at on : ℕ) → IsUnexpected text at → IsUnexpected text on → at ≡ on
  places at on one other =
      let next = sym (alike (run_unexpected text at one) (run_unexpected text on other)) ∙ one.next in
      sym one.place ∙ ap (λ (token : Token). token.from) (one_token text other.to one.token other.token next other.next) ∙ other.place

  unexpected_unfinished : (at : ℕ) → IsUnexpected text at → IsUnfinished text → ⊥
  unexpected_unfinished at one other =
      no_token_none (next_in text one.to) one.token (alike (run_unexpected text at one) (run_unfinished text other) ∙ other.all) one.next

pub one_answer : (text : List ℕ) (a b : Result Statement Refusal) → Answers text a → Answers text b → a ≡ b
one_answer text (Ok a) (Ok b) one other = ap Ok (statements text a b one other)
one_answer text (Ok a) (Err (NoToken w)) one other = absurd (statement_wrong text a w one other)
one_answer text (Ok a) (Err (Unexpected on)) one other = absurd (statement_unexpected text a on one other)
one_answer text (Ok a) (Err End) one other = absurd (statement_unfinished text a one other)
one_answer text (Err (NoToken v)) (Ok b) one other = absurd (statement_wrong text b v other one)
one_answer text (Err (NoToken v)) (Err (NoToken w)) one other = ap (λ wrong. Err (NoToken wrong)) (wrongs text v w one other)
one_answer text (Err (NoToken v)) (Err (Unexpected on)) one other = absurd (wrong_unexpected text v on one other)
one_answer text (Err (NoToken v)) (Err End) one other = absurd (wrong_unfinished text v one other)
one_answer text (Err (Unexpected at)) (Ok b) one other = absurd (statement_unexpected text b at other one)
one_answer text (Err (Unexpected at)) (Err (NoToken w)) one other = absurd (wrong_unexpected text w at other one)
one_answer text (Err (Unexpected at)) (Err (Unexpected on)) one other = ap (λ at. Err (Unexpected at)) (places text at on one other)
one_answer text (Err (Unexpected at)) (Err End) one other = absurd (unexpected_unfinished text at one other)
one_answer text (Err End) (Ok b) one other = absurd (statement_unfinished text b other one)
one_answer text (Err End) (Err (NoToken w)) one other = absurd (wrong_unfinished text w other one)
one_answer text (Err End) (Err (Unexpected on)) one other = absurd (unexpected_unfinished text on other one)
one_answer text (Err End) (Err End) one other = refl
