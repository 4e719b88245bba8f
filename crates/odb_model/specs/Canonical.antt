-- The one text that a statement is printed as: one space between two tokens, but none after `(`,
-- before `)`, before `,`, after the `-` of a literal, or between COUNT, SUM or VARCHAR and `(`.
-- Names are in capitals, and no `;` ends it. The rules are this project's own.
use Rattle.std.specs.Prelude.{ℕ, nat_lt, if◌then◌else◌, List, [], ◌∷◌, ◌++◌, codes, flat_map, Option, Some, None}
use Rattle.std.specs.Fmt.{decimal, signed_decimal}
use Rattle.odb_values.specs.declared.value.Value.{Value}
use Rattle.odb_values.specs.declared.value.Value.TheVariants.{Int, Text, Null}
use Rattle.odb_lex.specs.Quoted.{doubled}
use Rattle.odb_model.specs.declared.predicate.Compare.{Compare}
use Rattle.odb_model.specs.declared.predicate.Compare.TheVariants.{Eq, Ne, Lt, Le, Gt, Ge}
use Rattle.odb_model.specs.declared.predicate.Operand.{Operand}
use Rattle.odb_model.specs.declared.predicate.Operand.TheVariants.{Column, Literal}
use Rattle.odb_model.specs.declared.predicate.Predicate.{Predicate, fold-Predicate}
use Rattle.odb_model.specs.declared.predicate.Predicate.TheOpen.{Predicate-F}
use Rattle.odb_model.specs.declared.statement.What.{What}
use Rattle.odb_model.specs.declared.statement.What.TheVariants as w
use Rattle.odb_model.specs.declared.statement.Term.{Term}
use Rattle.odb_model.specs.declared.statement.Expression.{Expression}
use Rattle.odb_model.specs.declared.statement.Assignment.{Assignment}
use Rattle.odb_model.specs.declared.statement.ColumnText.{ColumnText}
use Rattle.odb_model.specs.declared.statement.Statement.{Statement}
use Rattle.odb_model.specs.declared.statement.Statement.TheVariants as st

-- the texts of some items, with a comma between two
abbrev pub joined : {A : Type 0} → (A → List ℕ) → List A → List ℕ
joined text [] = []
joined text (x ∷ []) = text x
joined text (x ∷ y ∷ xs) = text x ++ codes ", " ++ joined text (y ∷ xs)

abbrev pub names_text : List (List ℕ) → List ℕ
names_text = joined (λ name. name)

-- a number in decimals, NULL, or a text in quotes, each of its own quotes twice
abbrev pub value_text : Value → List ℕ
value_text Null = codes "NULL"
value_text (Int n) = signed_decimal n
value_text (Text t) = codes "'" ++ doubled t ++ codes "'"

abbrev pub tuple_text : List Value → List ℕ
tuple_text values = codes "(" ++ joined value_text values ++ codes ")"

abbrev pub operand_text : Operand → List ℕ
operand_text (Column name) = name
operand_text (Literal v) = value_text v

abbrev pub term_text : Term → List ℕ
term_text term = (if term.minus then codes " - " else codes " + ") ++ operand_text term.operand

abbrev pub expression_text : Expression → List ℕ
expression_text sum = operand_text sum.first ++ flat_map term_text sum.rest

abbrev pub assignment_text : Assignment → List ℕ
assignment_text set = set.column ++ codes " = " ++ expression_text set.value

abbrev pub kind_text : Option ℕ → List ℕ
kind_text None = codes " INTEGER"
kind_text (Some n) = codes " VARCHAR(" ++ decimal n ++ codes ")"

abbrev pub column_text : ColumnText → List ℕ
column_text column =
    column.name ++ kind_text column.length ++ (if column.not_null then codes " NOT NULL" else [])

abbrev pub what_text : What → List ℕ
what_text w.All = codes "*"
what_text (w.Columns names) = names_text names
what_text w.Count = codes "COUNT(*)"
what_text (w.Sum name) = codes "SUM(" ++ name ++ codes ")"

abbrev pub compare_text : Compare → List ℕ
compare_text Eq = codes " = "
compare_text Ne = codes " <> "
compare_text Lt = codes " < "
compare_text Le = codes " <= "
compare_text Gt = codes " > "
compare_text Ge = codes " >= "

-- the text of a predicate, and how tightly it binds: 1 an OR, 2 an AND, 3 any other
pub record Shown : Type 0 where
  pub binds : ℕ
  pub text : List ℕ

abbrev pub shown : ℕ → List ℕ → Shown
shown binds text = record { binds = binds; text = text }

-- a part that has to bind as tightly at least, with parentheses where it doesn't
abbrev pub within : ℕ → Shown → List ℕ
within least part =
    if nat_lt part.binds least then codes "(" ++ part.text ++ codes ")" else part.text

-- Parentheses stand round an OR under AND or NOT, round an AND under NOT, and round a right operand
-- of the same kind.
abbrev pub shown_step : Predicate-F Shown → Shown
shown_step (Predicate-F.Test op left right) =
    shown 3 (operand_text left ++ compare_text op ++ operand_text right)
shown_step (Predicate-F.Null column negated) =
    shown 3 (column ++ (if negated then codes " IS NOT NULL" else codes " IS NULL"))
shown_step (Predicate-F.Not a) = shown 3 (codes "NOT " ++ within 3 a)
shown_step (Predicate-F.And a b) = shown 2 (within 2 a ++ codes " AND " ++ within 3 b)
shown_step (Predicate-F.Or a b) = shown 1 (within 1 a ++ codes " OR " ++ within 2 b)

abbrev pub predicate_text : Predicate → List ℕ
predicate_text a = (fold-Predicate Shown shown_step a).text

abbrev pub filter_text : Option Predicate → List ℕ
filter_text None = []
filter_text (Some a) = codes " WHERE " ++ predicate_text a

abbrev pub statement_text : Statement → List ℕ
statement_text st.Start = codes "START"
statement_text st.Commit = codes "COMMIT"
statement_text st.Rollback = codes "ROLLBACK"
statement_text (st.Select what table filter) =
    codes "SELECT " ++ what_text what ++ codes " FROM " ++ table ++ filter_text filter
statement_text (st.Insert table tuples) =
    codes "INSERT INTO " ++ table ++ codes " VALUES " ++ joined tuple_text tuples
statement_text (st.Update table sets filter) =
    codes "UPDATE " ++ table ++ codes " SET " ++ joined assignment_text sets ++ filter_text filter
statement_text (st.Delete table filter) = codes "DELETE FROM " ++ table ++ filter_text filter
statement_text (st.CreateDatabank name) = codes "CREATE DATABANK " ++ name
statement_text (st.CreateTable name columns key bank) =
    codes "CREATE TABLE " ++ name ++ codes " (" ++ joined column_text columns
    ++ codes ", PRIMARY KEY (" ++ names_text key ++ codes ")) IN " ++ bank
statement_text (st.DropTable name) = codes "DROP TABLE " ++ name
statement_text (st.CreateShadow name bank) = codes "CREATE SHADOW " ++ name ++ codes " FOR " ++ bank
statement_text (st.ShadowOnline name) = codes "SET SHADOW " ++ name ++ codes " ONLINE"
statement_text (st.ShadowOffline name) = codes "SET SHADOW " ++ name ++ codes " OFFLINE"
statement_text (st.ShadowMaster name) = codes "ALTER SHADOW " ++ name ++ codes " TO MASTER"
statement_text (st.DropShadow name) = codes "DROP SHADOW " ++ name
statement_text (st.CreateBackup name bank) = codes "CREATE BACKUP " ++ name ++ codes " OF " ++ bank
statement_text (st.BackupReady name) = codes "SET BACKUP " ++ name ++ codes " READY"
statement_text (st.DropBackup name) = codes "DROP BACKUP " ++ name
statement_text (st.Restore bank name) = codes "RESTORE " ++ bank ++ codes " FROM " ++ name
