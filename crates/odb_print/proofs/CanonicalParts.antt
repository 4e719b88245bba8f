-- What some lexemes spell, its own lexemes spell too: values, sums, tuples, columns, and lists of these.
use Rattle.std.proofs.Common.{ℕ, zero, suc, flat_map, List, [], ◌∷◌, Option, arith}
use Rattle.odb_values.specs.declared.value.Value.{Value}
use Rattle.odb_model.specs.declared.predicate.Operand.{Operand}
use Rattle.odb_model.specs.declared.statement.What.{What}
use Rattle.odb_model.specs.declared.statement.Term.{Term}
use Rattle.odb_model.specs.declared.statement.Expression.{Expression}
use Rattle.odb_model.specs.declared.statement.Assignment.{Assignment}
use Rattle.odb_model.specs.declared.statement.ColumnText.{ColumnText}
use Rattle.odb_model.specs.Lexeme.{Lexeme, Name}
use Rattle.odb_model.specs.Grammar.{IsListed, last, more, IsNamed, IsLiteral, IsOperand, AreTerms, none, plus, minus, IsExpression, IsTuple, tuple, IsAssignment, set, IsKind, integer, varchar, may, must, IsColumn, IsWhat}
use Rattle.odb_print.proofs.Lexemes.{joined_lexemes, value_lexemes, tuple_lexemes, operand_lexemes, term_lexemes, expression_lexemes, assignment_lexemes, kind_lexemes, column_lexemes, what_lexemes}

pub canonical_literal : {ts : List Lexeme} {v : Value} → IsLiteral ts v → IsLiteral (value_lexemes v) v
canonical_literal (IsLiteral.number small) = IsLiteral.number small
canonical_literal (IsLiteral.negative {n = zero} small) = IsLiteral.number (omega arith)
canonical_literal (IsLiteral.negative {n = suc n} small) = IsLiteral.negative small
canonical_literal (IsLiteral.text right) = IsLiteral.text right
canonical_literal IsLiteral.null = IsLiteral.null

pub canonical_operand : {ts : List Lexeme} {x : Operand} → IsOperand ts x → IsOperand (operand_lexemes x) x
canonical_operand (IsOperand.column free) = IsOperand.column free
canonical_operand (IsOperand.literal v) = IsOperand.literal (canonical_literal v)

-- ---- lists

pub canonical_listed : {A : Type 0} {Item : List Lexeme → A → Type 0} (lexemes : A → List Lexeme)
    → ((ts : List Lexeme) (x : A) → Item ts x → Item (lexemes x) x)
    → {ts : List Lexeme} {xs : List A} → IsListed Item ts xs → IsListed Item (joined_lexemes lexemes xs) xs
canonical_listed lexemes item (last {ts = ts} {x = x} h) = last (item ts x h)
canonical_listed lexemes item (more {ts = ts} {x = x} h (last k)) = more (item ts x h) (canonical_listed lexemes item (last k))
canonical_listed lexemes item (more {ts = ts} {x = x} h (more k others)) = more (item ts x h) (canonical_listed lexemes item (more k others))

pub canonical_name : (ts : List Lexeme) (n : List ℕ) → IsNamed ts n → IsNamed (Name n ∷ []) n
canonical_name ts n (IsNamed.name free) = IsNamed.name free

pub canonical_tuple : (ts : List Lexeme) (vs : List Value) → IsTuple ts vs → IsTuple (tuple_lexemes vs) vs
canonical_tuple ts vs (tuple listed) = tuple (canonical_listed value_lexemes (λ ts v h. canonical_literal h) listed)

-- ---- sums

canonical_terms : {ts : List Lexeme} {terms : List Term} → AreTerms ts terms → AreTerms (flat_map term_lexemes terms) terms
canonical_terms none = none
canonical_terms (plus x others) = plus (canonical_operand x) (canonical_terms others)
canonical_terms (minus x others) = minus (canonical_operand x) (canonical_terms others)

pub canonical_expression : {ts : List Lexeme} {e : Expression} → IsExpression ts e → IsExpression (expression_lexemes e) e
canonical_expression (IsExpression.sum x terms) = IsExpression.sum (canonical_operand x) (canonical_terms terms)

pub canonical_assignment : (ts : List Lexeme) (a : Assignment) → IsAssignment ts a → IsAssignment (assignment_lexemes a) a
canonical_assignment ts a (set free e) = set free (canonical_expression e)

-- ---- columns

canonical_kind : {ts : List Lexeme} {length : Option ℕ} → IsKind ts length → IsKind (kind_lexemes length) length
canonical_kind integer = integer
canonical_kind (varchar small) = varchar small

pub canonical_column : (ts : List Lexeme) (c : ColumnText) → IsColumn ts c → IsColumn (column_lexemes c) c
canonical_column ts c (IsColumn.column free kind may) = IsColumn.column free (canonical_kind kind) may
canonical_column ts c (IsColumn.column free kind must) = IsColumn.column free (canonical_kind kind) must

-- ---- what a SELECT gives

pub canonical_what : {ts : List Lexeme} {w : What} → IsWhat ts w → IsWhat (what_lexemes w) w
canonical_what IsWhat.all = IsWhat.all
canonical_what (IsWhat.columns names) = IsWhat.columns (canonical_listed (λ n. Name n ∷ []) canonical_name names)
canonical_what IsWhat.count = IsWhat.count
canonical_what (IsWhat.sum free) = IsWhat.sum free
