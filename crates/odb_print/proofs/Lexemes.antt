-- The lexemes of the one text that a statement is printed as.
use Rattle.std.specs.Prelude.{ℕ, suc, nat_lt, pos, negsuc, if◌then◌else◌, List, [], ◌∷◌, ◌++◌, flat_map, Option, Some, None}
use Rattle.odb_values.specs.declared.value.Value.{Value}
use Rattle.odb_values.specs.declared.value.Value.TheVariants.{Int, Text, Null}
use Rattle.odb_model.specs.declared.keyword.Keyword.TheVariants as k
use Rattle.odb_model.specs.declared.sign.Sign.{Sign}
use Rattle.odb_model.specs.declared.sign.Sign.TheVariants as s
use Rattle.odb_model.specs.declared.predicate.Compare.{Compare}
use Rattle.odb_model.specs.declared.predicate.Compare.TheVariants.{Eq, Ne, Lt, Le, Gt, Ge}
use Rattle.odb_model.specs.declared.predicate.Operand.{Operand}
use Rattle.odb_model.specs.declared.predicate.Operand.TheVariants.{Column, Literal}
use Rattle.odb_model.specs.declared.predicate.Predicate.{Predicate, fold-Predicate}
use Rattle.odb_model.specs.declared.predicate.Predicate.TheOpen.{Predicate-F}
use Rattle.odb_model.specs.declared.statement.What.{What}
use Rattle.odb_model.specs.declared.statement.What.TheVariants as w
use Rattle.odb_model.specs.declared.statement.Term.{Term}
use Rattle.odb_model.specs.declared.statement.Expression.{Expression}
use Rattle.odb_model.specs.declared.statement.Assignment.{Assignment}
use Rattle.odb_model.specs.declared.statement.ColumnText.{ColumnText}
use Rattle.odb_model.specs.declared.statement.Statement.{Statement}
use Rattle.odb_model.specs.declared.statement.Statement.TheVariants as st
use Rattle.odb_model.specs.Lexeme.{Lexeme, Word, Name, Number, Quoted, Symbol}

-- the lexemes of some items, with a comma between two
abbrev pub joined_lexemes : {A : Type 0} → (A → List Lexeme) → List A → List Lexeme
joined_lexemes lexemes [] = []
joined_lexemes lexemes (x ∷ []) = lexemes x
joined_lexemes lexemes (x ∷ y ∷ xs) = lexemes x ++ Symbol s.Comma ∷ joined_lexemes lexemes (y ∷ xs)

abbrev pub names_lexemes : List (List ℕ) → List Lexeme
names_lexemes = joined_lexemes (λ name. Name name ∷ [])

abbrev pub value_lexemes : Value → List Lexeme
value_lexemes Null = Word k.Null ∷ []
value_lexemes (Int (pos n)) = Number n ∷ []
value_lexemes (Int (negsuc n)) = Symbol s.Minus ∷ Number (suc n) ∷ []
value_lexemes (Text t) = Quoted t ∷ []

abbrev pub tuple_lexemes : List Value → List Lexeme
tuple_lexemes values = Symbol s.Open ∷ joined_lexemes value_lexemes values ++ Symbol s.Close ∷ []

abbrev pub operand_lexemes : Operand → List Lexeme
operand_lexemes (Column name) = Name name ∷ []
operand_lexemes (Literal v) = value_lexemes v

abbrev pub term_lexemes : Term → List Lexeme
term_lexemes term = Symbol (if term.minus then s.Minus else s.Plus) ∷ operand_lexemes term.operand

abbrev pub expression_lexemes : Expression → List Lexeme
expression_lexemes sum = operand_lexemes sum.first ++ flat_map term_lexemes sum.rest

abbrev pub assignment_lexemes : Assignment → List Lexeme
assignment_lexemes set = Name set.column ∷ Symbol s.Equal ∷ expression_lexemes set.value

abbrev pub kind_lexemes : Option ℕ → List Lexeme
kind_lexemes None = Word k.Integer ∷ []
kind_lexemes (Some n) = Word k.Varchar ∷ Symbol s.Open ∷ Number n ∷ Symbol s.Close ∷ []

abbrev pub column_lexemes : ColumnText → List Lexeme
column_lexemes column =
    Name column.name ∷ kind_lexemes column.length ++ (if column.not_null then Word k.Not ∷ Word k.Null ∷ [] else [])

abbrev pub what_lexemes : What → List Lexeme
what_lexemes w.All = Symbol s.Star ∷ []
what_lexemes (w.Columns names) = names_lexemes names
what_lexemes w.Count = Word k.Count ∷ Symbol s.Open ∷ Symbol s.Star ∷ Symbol s.Close ∷ []
what_lexemes (w.Sum name) = Word k.Sum ∷ Symbol s.Open ∷ Name name ∷ Symbol s.Close ∷ []

abbrev pub compare_sign : Compare → Sign
compare_sign Eq = s.Equal
compare_sign Ne = s.Unequal
compare_sign Lt = s.Less
compare_sign Le = s.AtMost
compare_sign Gt = s.Greater
compare_sign Ge = s.AtLeast

-- the lexemes of a predicate, and how tightly it binds: 1 an OR, 2 an AND, 3 any other
pub record Spelled : Type 0 where
  pub binds : ℕ
  pub lexemes : List Lexeme

abbrev pub spelled : ℕ → List Lexeme → Spelled
spelled binds lexemes = record { binds = binds; lexemes = lexemes }

-- a part that has to bind as tightly at least, with parentheses where it doesn't
abbrev pub bound : ℕ → Spelled → List Lexeme
bound least part = if nat_lt part.binds least then Symbol s.Open ∷ part.lexemes ++ Symbol s.Close ∷ [] else part.lexemes

-- Parentheses stand round an OR under AND or NOT, round an AND under NOT, and round a right operand of the same kind.
abbrev pub spelled_step : Predicate-F Spelled → Spelled
spelled_step (Predicate-F.Test op left right) =
    spelled 3 (operand_lexemes left ++ Symbol (compare_sign op) ∷ operand_lexemes right)
spelled_step (Predicate-F.Null column negated) =
    spelled 3 (Name column ∷ Word k.Is ∷ (if negated then Word k.Not ∷ Word k.Null ∷ [] else Word k.Null ∷ []))
spelled_step (Predicate-F.Not a) = spelled 3 (Word k.Not ∷ bound 3 a)
spelled_step (Predicate-F.And a b) = spelled 2 (bound 2 a ++ Word k.And ∷ bound 3 b)
spelled_step (Predicate-F.Or a b) = spelled 1 (bound 1 a ++ Word k.Or ∷ bound 2 b)

abbrev pub spelled_predicate : Predicate → Spelled
spelled_predicate = fold-Predicate Spelled spelled_step

abbrev pub predicate_lexemes : Predicate → List Lexeme
predicate_lexemes a = (spelled_predicate a).lexemes

abbrev pub filter_lexemes : Option Predicate → List Lexeme
filter_lexemes None = []
filter_lexemes (Some a) = Word k.Where ∷ predicate_lexemes a

abbrev pub statement_lexemes : Statement → List Lexeme
statement_lexemes st.Start = Word k.Start ∷ []
statement_lexemes st.Commit = Word k.Commit ∷ []
statement_lexemes st.Rollback = Word k.Rollback ∷ []
statement_lexemes (st.Select what table filter) =
    Word k.Select ∷ what_lexemes what ++ Word k.From ∷ Name table ∷ filter_lexemes filter
statement_lexemes (st.Insert table tuples) =
    Word k.Insert ∷ Word k.Into ∷ Name table ∷ Word k.Values ∷ joined_lexemes tuple_lexemes tuples
statement_lexemes (st.Update table sets filter) =
    Word k.Update ∷ Name table ∷ Word k.Set ∷ joined_lexemes assignment_lexemes sets ++ filter_lexemes filter
statement_lexemes (st.Delete table filter) = Word k.Delete ∷ Word k.From ∷ Name table ∷ filter_lexemes filter
statement_lexemes (st.CreateDatabank name) = Word k.Create ∷ Word k.Databank ∷ Name name ∷ []
statement_lexemes (st.CreateTable name columns key bank) =
    Word k.Create ∷ Word k.Table ∷ Name name ∷ Symbol s.Open ∷ joined_lexemes column_lexemes columns
    ++ Symbol s.Comma ∷ Word k.Primary ∷ Word k.Key ∷ Symbol s.Open ∷ names_lexemes key
    ++ Symbol s.Close ∷ Symbol s.Close ∷ Word k.In ∷ Name bank ∷ []
statement_lexemes (st.DropTable name) = Word k.Drop ∷ Word k.Table ∷ Name name ∷ []
statement_lexemes (st.CreateShadow name bank) = Word k.Create ∷ Word k.Shadow ∷ Name name ∷ Word k.For ∷ Name bank ∷ []
statement_lexemes (st.ShadowOnline name) = Word k.Set ∷ Word k.Shadow ∷ Name name ∷ Word k.Online ∷ []
statement_lexemes (st.ShadowOffline name) = Word k.Set ∷ Word k.Shadow ∷ Name name ∷ Word k.Offline ∷ []
statement_lexemes (st.ShadowMaster name) = Word k.Alter ∷ Word k.Shadow ∷ Name name ∷ Word k.To ∷ Word k.Master ∷ []
statement_lexemes (st.DropShadow name) = Word k.Drop ∷ Word k.Shadow ∷ Name name ∷ []
statement_lexemes (st.CreateBackup name bank) = Word k.Create ∷ Word k.Backup ∷ Name name ∷ Word k.Of ∷ Name bank ∷ []
statement_lexemes (st.BackupReady name) = Word k.Set ∷ Word k.Backup ∷ Name name ∷ Word k.Ready ∷ []
statement_lexemes (st.DropBackup name) = Word k.Drop ∷ Word k.Backup ∷ Name name ∷ []
statement_lexemes (st.Restore bank name) = Word k.Restore ∷ Name bank ∷ Word k.From ∷ Name name ∷ []
