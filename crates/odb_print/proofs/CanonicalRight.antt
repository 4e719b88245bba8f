-- The lexemes that spell a statement are right: its names are free, its texts are texts, and its numbers are at most 2^63.
use Rattle.std.proofs.Common.{ℕ, ◌^◌, ◌≤◌, Bool, List, [], ◌∷◌, ◌++◌, Option, arith}
use Rattle.odb_values.specs.Text.{IsText}
use Rattle.odb_values.specs.declared.value.Value.{Value}
use Rattle.odb_model.specs.declared.keyword.Keyword.TheVariants as k
use Rattle.odb_model.specs.declared.sign.Sign.TheVariants as s
use Rattle.odb_model.specs.declared.predicate.Operand.{Operand}
use Rattle.odb_model.specs.declared.predicate.Predicate.{Predicate}
use Rattle.odb_model.specs.declared.statement.What.{What}
use Rattle.odb_model.specs.declared.statement.Term.{Term}
use Rattle.odb_model.specs.declared.statement.Expression.{Expression}
use Rattle.odb_model.specs.declared.statement.Assignment.{Assignment}
use Rattle.odb_model.specs.declared.statement.ColumnText.{ColumnText}
use Rattle.odb_model.specs.declared.statement.Statement.{Statement}
use Rattle.odb_model.specs.Lexeme.{Lexeme, Word, Name, Number, Quoted, Symbol, IsFree}
use Rattle.odb_model.specs.Grammar.{IsListed, IsNamed, IsLiteral, IsOperand, AreTerms, IsExpression, IsTuple, IsAssignment, IsKind, IsMust, IsColumn, IsTest, IsPredicate, IsBooleanTerm, IsBooleanFactor, IsFilter, IsWhat, IsStatement, Spells}

abbrev pub IsRight : Lexeme → Type 0
IsRight (Word word) = Unit {0}
IsRight (Name name) = IsFree name
IsRight (Number n) = n ≤ 2 ^ 63
IsRight (Quoted value) = IsText value
IsRight (Symbol sign) = Unit {0}

abbrev pub AllRight : List Lexeme → Type 0
AllRight [] = Unit {0}
AllRight (l ∷ ls) = IsRight l × AllRight ls

pub right_both : (ls ks : List Lexeme) → AllRight ls → AllRight ks → AllRight (ls ++ ks)
right_both [] ks h i = i
right_both (l ∷ ls) ks h i = (h.0, right_both ls ks h.1 i)

pub right_front : (ls ks : List Lexeme) → AllRight (ls ++ ks) → AllRight ls
right_front [] ks h = tt
right_front (l ∷ ls) ks h = (h.0, right_front ls ks h.1)

pub right_back : (ls ks : List Lexeme) → AllRight (ls ++ ks) → AllRight ks
right_back [] ks h = h
right_back (l ∷ ls) ks h = right_back ls ks h.1

-- ---- the parts of a statement

right_literal : {ts : List Lexeme} {v : Value} → IsLiteral ts v → AllRight ts
right_literal (IsLiteral.number small) = (omega arith, tt)
right_literal (IsLiteral.negative small) = (tt, (small, tt))
right_literal (IsLiteral.text right) = (right, tt)
right_literal IsLiteral.null = (tt, tt)

right_operand : {ts : List Lexeme} {x : Operand} → IsOperand ts x → AllRight ts
right_operand (IsOperand.column free) = (free, tt)
right_operand (IsOperand.literal h) = right_literal h

right_terms : {ts : List Lexeme} {terms : List Term} → AreTerms ts terms → AllRight ts
right_terms AreTerms.none = tt
right_terms (AreTerms.plus {ts = ts} {us = us} x others) = (tt, right_both ts us (right_operand x) (right_terms others))
right_terms (AreTerms.minus {ts = ts} {us = us} x others) = (tt, right_both ts us (right_operand x) (right_terms others))

right_expression : {ts : List Lexeme} {e : Expression} → IsExpression ts e → AllRight ts
right_expression (IsExpression.sum {ts = ts} {us = us} x terms) = right_both ts us (right_operand x) (right_terms terms)

right_listed : {A : Type 0} {Item : List Lexeme → A → Type 0} → ((ts : List Lexeme) (x : A) → Item ts x → AllRight ts)
    → {ts : List Lexeme} {xs : List A} → IsListed Item ts xs → AllRight ts
right_listed item (IsListed.last {ts = ts} {x = x} h) = item ts x h
right_listed item (IsListed.more {ts = ts} {us = us} {x = x} h others) = right_both ts (Symbol s.Comma ∷ us) (item ts x h) (tt, right_listed item others)

right_name : (ts : List Lexeme) (n : List ℕ) → IsNamed ts n → AllRight ts
right_name ts n (IsNamed.name free) = (free, tt)

right_tuple : (ts : List Lexeme) (vs : List Value) → IsTuple ts vs → AllRight ts
right_tuple all vs (IsTuple.tuple {ts = ts} listed) = (tt, right_both ts _ (right_listed (λ ts v h. right_literal h) listed) (tt, tt))

right_assignment : (ts : List Lexeme) (a : Assignment) → IsAssignment ts a → AllRight ts
right_assignment ts a (IsAssignment.set free e) = (free, (tt, right_expression e))

right_kind : {ts : List Lexeme} {length : Option ℕ} → IsKind ts length → AllRight ts
right_kind IsKind.integer = (tt, tt)
right_kind (IsKind.varchar small) = (tt, (tt, (omega arith, (tt, tt))))

right_must : {ts : List Lexeme} {must : Bool} → IsMust ts must → AllRight ts
right_must IsMust.may = tt
right_must IsMust.must = (tt, (tt, tt))

right_column : (ts : List Lexeme) (c : ColumnText) → IsColumn ts c → AllRight ts
right_column all c (IsColumn.column {ts = ts} {us = us} free kind end) = (free, right_both ts us (right_kind kind) (right_must end))

right_what : {ts : List Lexeme} {w : What} → IsWhat ts w → AllRight ts
right_what IsWhat.all = (tt, tt)
right_what (IsWhat.columns names) = right_listed right_name names
right_what IsWhat.count = (tt, (tt, (tt, (tt, tt))))
right_what (IsWhat.sum free) = (tt, (tt, (free, (tt, tt))))

right_test : {ts : List Lexeme} {a : Predicate} → IsTest ts a → AllRight ts
right_test (IsTest.test {ts = ts} {us = us} {sign = sign} x op y) = right_both ts (Symbol sign ∷ us) (right_operand x) (tt, right_operand y)
right_test (IsTest.null free) = (free, (tt, (tt, tt)))
right_test (IsTest.not_null free) = (free, (tt, (tt, (tt, tt))))

mutual
  right_predicate : {room : ℕ} {ts : List Lexeme} {a : Predicate} → IsPredicate room ts a → AllRight ts
  right_predicate (IsPredicate.term h) = right_in_both h
  right_predicate (IsPredicate.or {ts = ts} {us = us} h i) = right_both ts (Word k.Or ∷ us) (right_predicate h) (tt, right_in_both i)

  right_in_both : {room : ℕ} {ts : List Lexeme} {a : Predicate} → IsBooleanTerm room ts a → AllRight ts
  right_in_both (IsBooleanTerm.factor h) = right_no h
  right_in_both (IsBooleanTerm.and {ts = ts} {us = us} h i) = right_both ts (Word k.And ∷ us) (right_in_both h) (tt, right_no i)

  right_no : {room : ℕ} {ts : List Lexeme} {a : Predicate} → IsBooleanFactor room ts a → AllRight ts
  right_no (IsBooleanFactor.not h) = (tt, right_no h)
  right_no (IsBooleanFactor.parens {ts = ts} h) = (tt, right_both ts _ (right_predicate h) (tt, tt))
  right_no (IsBooleanFactor.test h) = right_test h

right_filter : {ts : List Lexeme} {filter : Option Predicate} → IsFilter ts filter → AllRight ts
right_filter IsFilter.all = tt
right_filter (IsFilter.where_ h) = (tt, right_predicate h)

-- ---- statements

pub statement_right : {ts : List Lexeme} {st : Statement} → IsStatement ts st → AllRight ts
statement_right IsStatement.start = (tt, tt)
statement_right IsStatement.commit = (tt, tt)
statement_right IsStatement.rollback = (tt, tt)
statement_right (IsStatement.select {ws = ws} what free filter) = (tt, right_both ws _ (right_what what) (tt, (free, right_filter filter)))
statement_right (IsStatement.insert free tuples) = (tt, (tt, (free, (tt, right_listed right_tuple tuples))))
statement_right (IsStatement.update {ts = ts} free sets filter) =
    (tt, (free, (tt, right_both ts _ (right_listed right_assignment sets) (right_filter filter))))
statement_right (IsStatement.delete free filter) = (tt, (tt, (free, right_filter filter)))
statement_right (IsStatement.create_databank free) = (tt, (tt, (free, tt)))
statement_right (IsStatement.create_table {cs = cs} {ks = ks} free columns key bank) =
    let keys = Symbol s.Comma ∷ Word k.Primary ∷ Word k.Key ∷ Symbol s.Open ∷ ks in
    let front = right_both cs keys (right_listed right_column columns) (tt, (tt, (tt, (tt, right_listed right_name key)))) in
    (tt, (tt, (free, (tt, right_both (cs ++ keys) _ front (tt, (tt, (tt, (bank, tt))))))))
statement_right (IsStatement.drop_table free) = (tt, (tt, (free, tt)))
statement_right (IsStatement.create_shadow free bank) = (tt, (tt, (free, (tt, (bank, tt)))))
statement_right (IsStatement.shadow_online free) = (tt, (tt, (free, (tt, tt))))
statement_right (IsStatement.shadow_offline free) = (tt, (tt, (free, (tt, tt))))
statement_right (IsStatement.shadow_master free) = (tt, (tt, (free, (tt, (tt, tt)))))
statement_right (IsStatement.drop_shadow free) = (tt, (tt, (free, tt)))
statement_right (IsStatement.create_backup free bank) = (tt, (tt, (free, (tt, (bank, tt)))))
statement_right (IsStatement.backup_ready free) = (tt, (tt, (free, (tt, tt))))
statement_right (IsStatement.drop_backup free) = (tt, (tt, (free, tt)))
statement_right (IsStatement.restore bank free) = (tt, (bank, (tt, (free, tt))))

spells_right_of : {ls : List Lexeme} {st : Statement} → Spells ls st → AllRight ls
spells_right_of (Spells.bare h) = statement_right h
spells_right_of (Spells.ended {ts = ts} h) = right_both ts _ (statement_right h) (tt, tt)

pub spells_right : (ls : List Lexeme) (st : Statement) → Spells ls st → AllRight ls
spells_right ls st h = spells_right_of h
