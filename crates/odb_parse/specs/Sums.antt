-- Readers of literals, operands, sums and tuples.
use Rattle.std.specs.Prelude.{ℕ, zero, suc, pos, neg_ℤ, Bool, true, false, if◌then◌else◌, List, [], ◌∷◌, ◌++◌, length, Option, Some, None}
use Rattle.odb_values.specs.declared.value.Value.{Value}
use Rattle.odb_values.specs.declared.value.Value.TheVariants.{Int, Text, Null}
use Rattle.odb_model.specs.declared.keyword.Keyword.TheVariants as k
use Rattle.odb_model.specs.declared.sign.Sign.TheVariants as s
use Rattle.odb_model.specs.declared.predicate.Operand.{Operand}
use Rattle.odb_model.specs.declared.predicate.Operand.TheVariants.{Column, Literal}
use Rattle.odb_model.specs.declared.statement.Term.{Term}
use Rattle.odb_model.specs.declared.statement.Expression.{Expression}
use Rattle.odb_parse.specs.declared.kind.Kind.{Kind}
use Rattle.odb_parse.specs.declared.kind.Kind.TheVariants as kind
use Rattle.odb_parse.specs.Reading.{Reader, ◌>>=◌, ◌>>◌, ◌<$>◌, pure, refuse, peek, skip, eat_sign, expect_word, expect_sign, name, quoted, number}

-- 2^63 - 1 and 2^63
abbrev pub greatest : ℕ
greatest = 9223372036854775807

abbrev pub literal_by : Kind → Reader Value
literal_by (kind.Symbol s.Minus) = skip >> (λ n. Int (neg_ℤ (pos n))) <$> number 9223372036854775808
literal_by kind.Number = (λ n. Int (pos n)) <$> number greatest
literal_by kind.Quoted = Text <$> quoted
literal_by _ = expect_word k.Null >> pure Null

unfoldable pub literal : Reader Value
literal = peek >>= literal_by

abbrev pub operand_by : Kind → Reader Operand
operand_by kind.Name = Column <$> name
operand_by _ = Literal <$> literal

unfoldable pub operand : Reader Operand
operand = peek >>= operand_by

-- whether a `+` (false) or a `-` (true) goes on with a sum
abbrev pub adds : Kind → Option Bool
adds (kind.Symbol s.Plus) = Some false
adds (kind.Symbol s.Minus) = Some true
adds _ = None

abbrev pub term : Bool → Operand → Term
term minus operand = record { minus = minus; operand = operand }

-- the number bounds the turns; each turn takes a token
abbrev pub terms_by : (List Term → Reader (List Term)) → List Term → Option Bool
    → Reader (List Term)
terms_by more found None = pure found
terms_by more found (Some minus) = skip >> operand >>= (λ x. more (found ++ term minus x ∷ []))

unfoldable pub terms_from : ℕ → List Term → Reader (List Term)
terms_from zero found = pure found
terms_from (suc left) found = peek >>= (λ kind. terms_by (terms_from left) found (adds kind))

unfoldable pub terms : Reader (List Term)
terms items = terms_from (suc (length items)) [] items

unfoldable pub expression : Reader Expression
expression = do
  first ← operand
  rest ← terms
  pure (record { first = first; rest = rest })

-- one item and a comma, again and again. The number is above that of the turns, so that it is never
-- used up.
unfoldable pub listed_from : {A : Type 0} → Reader A → ℕ → List A → Reader (List A)
listed_from item zero found = refuse
listed_from item (suc left) found = do
  x ← item
  more ← eat_sign s.Comma
  if more then listed_from item left (found ++ x ∷ []) else pure (found ++ x ∷ [])

-- item {, item}
unfoldable pub listed : {A : Type 0} → Reader A → Reader (List A)
listed item items = listed_from item (suc (length items)) [] items

unfoldable pub tuple : Reader (List Value)
tuple = do
  expect_sign s.Open
  values ← listed literal
  expect_sign s.Close
  pure values
