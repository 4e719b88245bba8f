-- What the readers of literals, operands, sums and tuples fit.
use Rattle.std.proofs.Common.{◌≡◌, ℕ, zero, suc, ◌^◌, ◌<◌, ◌≤◌, pos, neg_ℤ, Bool, true, false, List, [], ◌∷◌, ◌++◌, length, Option, Some, None, Ok, refl, sym, subst, arith, append_assoc, append-nil}
use Rattle.odb_values.specs.declared.value.Value.{Value}
use Rattle.odb_values.specs.declared.value.Value.TheVariants.{Int, Text, Null}
use Rattle.odb_model.specs.declared.keyword.Keyword.TheVariants as k
use Rattle.odb_model.specs.declared.sign.Sign.TheVariants as s
use Rattle.odb_model.specs.declared.predicate.Operand.{Operand}
use Rattle.odb_model.specs.declared.predicate.Operand.TheVariants.{Column, Literal}
use Rattle.odb_model.specs.declared.statement.Term.{Term}
use Rattle.odb_model.specs.declared.statement.Expression.{Expression}
use Rattle.odb_model.specs.Lexeme.{Lexeme, Word, Symbol}
use Rattle.odb_model.specs.Grammar.{IsListed, IsNamed, IsLiteral, IsOperand, AreTerms, IsExpression, IsTuple}
use Rattle.odb_parse.specs.declared.kind.Kind.{Kind}
use Rattle.odb_parse.specs.declared.kind.Kind.TheVariants as kind
use Rattle.odb_parse.specs.Codes.{Item, Stands, Wrong}
use Rattle.odb_parse.specs.Items.{kind_of}
use Rattle.odb_parse.specs.Reading.{Reader, and_then, skip, passed}
use Rattle.odb_parse.specs.Sums.{greatest, literal_by, literal, operand_by, operand, adds, term, terms_by, terms_from, terms, expression, tuple}
use Rattle.odb_parse.proofs.Fits.{Seq, seq, Nil, nil, Mapped, mapped, Fits, fits_more, fits_pure, fits_peek, fits_shorter}
use Rattle.odb_parse.proofs.Words.{Only, only, IsNumber, IsValue, fits_name, fits_number, fits_quoted, fits_word, fits_sign}
use Rattle.odb_parse.proofs.StepsFit.{FitsAt, anywhere, more_at, fits_choice, past_sign, then_at, fits_then, fits_with, fits_bounded}
use Rattle.odb_parse.proofs.ListsFit.{then_same, fits_listed}

-- ---- literals

to_negative : (ls : List Lexeme) (v : Value)
    → Seq (Only (Symbol s.Minus)) (λ _. Mapped (λ n. Int (neg_ℤ (pos n))) (IsNumber 9223372036854775808)) ls v → IsLiteral ls v
to_negative ls v (seq only (mapped (IsNumber.number small))) = IsLiteral.negative small

pub below_most : (n : ℕ) → n ≤ greatest → n < 2 ^ 63
below_most n small = omega arith

to_positive : (ls : List Lexeme) (v : Value) → Mapped (λ n. Int (pos n)) (IsNumber greatest) ls v → IsLiteral ls v
to_positive ls v (mapped (IsNumber.number {n = n} small)) = IsLiteral.number (below_most n small)

to_text : (ls : List Lexeme) (v : Value) → Mapped Text IsValue ls v → IsLiteral ls v
to_text ls v (mapped (IsValue.value fine)) = IsLiteral.text fine

to_null : (ls : List Lexeme) (v : Value) → Seq (Only (Word k.Null)) (λ _. Nil Null) ls v → IsLiteral ls v
to_null ls v (seq only nil) = IsLiteral.null

literal_at : (found : Kind) → FitsAt found (literal_by found) IsLiteral
literal_at (kind.Symbol s.Minus) = more_at to_negative (past_sign s.Minus (fits_with (λ n. Int (neg_ℤ (pos n))) (fits_number 9223372036854775808)))
literal_at kind.Number = anywhere (fits_more to_positive (fits_with (λ n. Int (pos n)) (fits_number greatest)))
literal_at kind.Quoted = anywhere (fits_more to_text (fits_with Text fits_quoted))
literal_at _ = anywhere (fits_more to_null (fits_then (fits_word k.Null) (λ _. fits_pure Null)))

pub fits_literal : Fits literal IsLiteral
unfolding literal
fits_literal = fits_choice literal_at

-- ---- operands

to_column : (ls : List Lexeme) (x : Operand) → Mapped Column IsNamed ls x → IsOperand ls x
to_column ls x (mapped (IsNamed.name free)) = IsOperand.column free

to_operand : (ls : List Lexeme) (x : Operand) → Mapped Literal IsLiteral ls x → IsOperand ls x
to_operand ls x (mapped v) = IsOperand.literal v

operand_fits : (found : Kind) → Fits (operand_by found) IsOperand
operand_fits kind.Name = fits_more to_column (fits_with Column fits_name)
operand_fits _ = fits_more to_operand (fits_with Literal fits_literal)

pub fits_operand : Fits operand IsOperand
unfolding operand
fits_operand = fits_peek operand_by operand_fits

-- ---- sums

-- behind what was found, further terms
data TermsOn (found : List Term) : List Lexeme → List Term → Type 0 where
  on : {ls : List Lexeme} {ts : List Term} → AreTerms ls ts → TermsOn found ls (found ++ ts)

no_more : (found : List Term) (ls : List Lexeme) (out : List Term) → Nil found ls out → TermsOn found ls out
no_more found ls out nil = subst (λ out. TermsOn found [] out) (append-nil found) (on AreTerms.none)

to_plus : (found : List Term) (ls : List Lexeme) (out : List Term)
    → Seq (Seq (Only (Symbol s.Plus)) (λ _. IsOperand)) (λ x. TermsOn (found ++ term false x ∷ [])) ls out → TermsOn found ls out
to_plus found ls out (seq {a = x} (seq {vs = us} only g) (on {ls = vs} {ts = ts} gs)) =
    subst (λ out. TermsOn found (Symbol s.Plus ∷ us ++ vs) out) (sym (append_assoc found (term false x ∷ []) ts)) (on (AreTerms.plus g gs))

to_minus : (found : List Term) (ls : List Lexeme) (out : List Term)
    → Seq (Seq (Only (Symbol s.Minus)) (λ _. IsOperand)) (λ x. TermsOn (found ++ term true x ∷ [])) ls out → TermsOn found ls out
to_minus found ls out (seq {a = x} (seq {vs = us} only g) (on {ls = vs} {ts = ts} gs)) =
    subst (λ out. TermsOn found (Symbol s.Minus ∷ us ++ vs) out) (sym (append_assoc found (term true x ∷ []) ts)) (on (AreTerms.minus g gs))

terms_at : (next : List Term → Reader (List Term)) → ((found : List Term) → Fits (next found) (TermsOn found)) → (found : List Term) (seen : Kind)
    → FitsAt seen (terms_by next found (adds seen)) (TermsOn found)
terms_at next f found (kind.Symbol s.Plus) = more_at (to_plus found) (then_at (past_sign s.Plus fits_operand) (λ x. f (found ++ term false x ∷ [])))
terms_at next f found (kind.Symbol s.Minus) = more_at (to_minus found) (then_at (past_sign s.Minus fits_operand) (λ x. f (found ++ term true x ∷ [])))
terms_at next f found _ = anywhere (fits_more (no_more found) (fits_pure found))

fits_terms_from : (left : ℕ) (found : List Term) → Fits (terms_from left found) (TermsOn found)
unfolding terms_from
fits_terms_from zero found = fits_more (no_more found) (fits_pure found)
fits_terms_from (suc left) found = fits_choice (terms_at (terms_from left) (λ found. fits_terms_from left found) found)

-- behind a token that is passed
passed_shorter : {A : Type 0} {q : Reader A} {G : List Lexeme → A → Type 0} → Fits q G → (items rest : List Item) (a : A)
    → and_then (passed items) (λ _. q) ≡ Ok (a, rest) → length rest ≤ length items
passed_shorter f [] rest a e = fits_shorter f [] rest a e
passed_shorter f (Stands l at ∷ items) rest a e = fits_shorter f (Stands l at ∷ items) rest a e
passed_shorter f (Wrong w ∷ items) rest a e = cc

-- each turn takes a sign
turns_same : (n m : ℕ) (found : List Term) (items : List Item) → length items < n → length items < m → terms_from n found items ≡ terms_from m found items
unfolding terms_from skip
turns_same zero m found items less small = absurd (omega arith)
turns_same (suc n) zero found items less small = absurd (omega arith)
turns_same (suc n) (suc m) found [] less small = refl
turns_same (suc n) (suc m) found (Wrong w ∷ items) less small = refl
turns_same (suc n) (suc m) found (Stands l at ∷ items) less small = go (adds (kind_of l)) (λ found rest short. turns_same n m found rest (omega arith) (omega arith))
  where
    go : (adding : Option Bool) → ((found : List Term) (rest : List Item) → length rest ≤ length items → terms_from n found rest ≡ terms_from m found rest)
        → terms_by (terms_from n) found adding (Stands l at ∷ items) ≡ terms_by (terms_from m) found adding (Stands l at ∷ items)
    go None same = refl
    go (Some minus) same =
        then_same (and_then (passed items) (λ _. operand)) _ _ (λ x rest read.
        same (found ++ term minus x ∷ []) rest (passed_shorter fits_operand items rest x read))

to_terms : (ls : List Lexeme) (out : List Term) → TermsOn [] ls out → AreTerms ls out
to_terms ls out (on gs) = gs

pub fits_terms : Fits terms AreTerms
unfolding terms
fits_terms = fits_more to_terms (fits_bounded (λ n. terms_from n []) (TermsOn []) (λ n. fits_terms_from n []) (λ n m items. turns_same n m [] items))

to_sum : (ls : List Lexeme) (e : Expression)
    → Seq IsOperand (λ first. Mapped (λ (rest : List Term). record { first = first; rest = rest }) AreTerms) ls e → IsExpression ls e
to_sum ls e (seq first (mapped rest)) = IsExpression.sum first rest

pub fits_expression : Fits expression IsExpression
unfolding expression
fits_expression = fits_more to_sum (fits_then fits_operand (λ first. fits_with (λ rest. record { first = first; rest = rest }) fits_terms))

-- ---- tuples

to_tuple : (ls : List Lexeme) (vs : List Value)
    → Seq (Only (Symbol s.Open)) (λ _. Seq (IsListed IsLiteral) (λ vs. Seq (Only (Symbol s.Close)) (λ _. Nil vs))) ls vs → IsTuple ls vs
to_tuple ls vs (seq only (seq values (seq only nil))) = IsTuple.tuple values

pub fits_tuple : Fits tuple IsTuple
unfolding tuple
fits_tuple =
    fits_more to_tuple (fits_then (fits_sign s.Open) (λ _. fits_then (fits_listed fits_literal) (λ vs. fits_then (fits_sign s.Close) (λ _. fits_pure vs))))
