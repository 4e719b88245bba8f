-- Readers of statements.
use Rattle.std.specs.Prelude.{ℕ, zero, suc, Bool, true, false, if◌then◌else◌, List, [], ◌∷◌, ◌++◌, length, Option, Some, None}
use Rattle.odb_model.specs.declared.keyword.Keyword.{Keyword}
use Rattle.odb_model.specs.declared.keyword.Keyword.TheVariants as k
use Rattle.odb_model.specs.declared.sign.Sign.TheVariants as s
use Rattle.odb_model.specs.declared.statement.What.{What}
use Rattle.odb_model.specs.declared.statement.What.TheVariants as w
use Rattle.odb_model.specs.declared.statement.Assignment.{Assignment}
use Rattle.odb_model.specs.declared.statement.ColumnText.{ColumnText}
use Rattle.odb_model.specs.declared.statement.Statement.{Statement}
use Rattle.odb_model.specs.declared.statement.Statement.TheVariants as st
use Rattle.odb_parse.specs.declared.kind.Kind.{Kind}
use Rattle.odb_parse.specs.declared.kind.Kind.TheVariants as kind
use Rattle.odb_parse.specs.Reading.{Reader, ◌>>=◌, ◌>>◌, ◌<$>◌, pure, refuse, peek, skip, sees_word, eat_word, eat_sign, expect_word, expect_sign, finish, name, number}
use Rattle.odb_parse.specs.Sums.{expression, tuple, listed, greatest}
use Rattle.odb_parse.specs.Predicates.{filter}

-- a statement of one word, which stands next
abbrev pub alone : Statement → Reader Statement
alone statement = skip >> pure statement

-- ---- statements on rows. The first word of each stands next.

abbrev pub what_by : Kind → Reader What
what_by (kind.Symbol s.Star) = skip >> pure w.All
what_by (kind.Word k.Count) = do
  skip
  expect_sign s.Open
  expect_sign s.Star
  expect_sign s.Close
  pure w.Count
what_by (kind.Word k.Sum) = do
  skip
  expect_sign s.Open
  column ← name
  expect_sign s.Close
  pure (w.Sum column)
what_by _ = w.Columns <$> listed name

unfoldable pub what : Reader What
what = peek >>= what_by

unfoldable pub select : Reader Statement
select = do
  skip
  shown ← what
  expect_word k.From
  table ← name
  kept ← filter
  pure (st.Select shown table kept)

unfoldable pub insert : Reader Statement
insert = do
  skip
  expect_word k.Into
  table ← name
  expect_word k.Values
  tuples ← listed tuple
  pure (st.Insert table tuples)

unfoldable pub assignment : Reader Assignment
assignment = do
  column ← name
  expect_sign s.Equal
  value ← expression
  pure (record { column = column; value = value })

unfoldable pub update : Reader Statement
update = do
  skip
  table ← name
  expect_word k.Set
  sets ← listed assignment
  kept ← filter
  pure (st.Update table sets kept)

unfoldable pub delete : Reader Statement
delete = do
  skip
  expect_word k.From
  table ← name
  kept ← filter
  pure (st.Delete table kept)

-- ---- definitions

-- INTEGER | VARCHAR ( number )
unfoldable pub column_length : Reader (Option ℕ)
column_length items = if sees_word k.Varchar items then (do
  skip
  expect_sign s.Open
  most ← number greatest
  expect_sign s.Close
  pure (Some most)) items
    else (expect_word k.Integer >> pure None) items

-- [NOT NULL]
unfoldable pub not_null : Reader Bool
not_null = do
  found ← eat_word k.Not
  if found then expect_word k.Null >> pure true else pure false

unfoldable pub column : Reader ColumnText
column = do
  called ← name
  most ← column_length
  must ← not_null
  pure (record { name = called; length = most; not_null = must })

-- column {, column} , PRIMARY. The number is above that of the turns, so that it is never used up.
unfoldable pub columns_from : ℕ → List ColumnText → Reader (List ColumnText)
columns_from zero found = refuse
columns_from (suc left) found = do
  x ← column
  expect_sign s.Comma
  last ← eat_word k.Primary
  if last then pure (found ++ x ∷ []) else columns_from left (found ++ x ∷ [])

unfoldable pub columns : Reader (List ColumnText)
columns items = columns_from (suc (length items)) [] items

unfoldable pub create_table : Reader Statement
create_table = do
  expect_word k.Table
  table ← name
  expect_sign s.Open
  made ← columns
  expect_word k.Key
  expect_sign s.Open
  key ← listed name
  expect_sign s.Close
  expect_sign s.Close
  expect_word k.In
  bank ← name
  pure (st.CreateTable table made key bank)

abbrev pub create_by : Kind → Reader Statement
create_by (kind.Word k.Databank) = skip >> st.CreateDatabank <$> name
create_by (kind.Word k.Shadow) = do
  skip
  shadow ← name
  expect_word k.For
  bank ← name
  pure (st.CreateShadow shadow bank)
create_by (kind.Word k.Backup) = do
  skip
  backup ← name
  expect_word k.Of
  bank ← name
  pure (st.CreateBackup backup bank)
create_by _ = create_table

unfoldable pub create : Reader Statement
create = skip >> (peek >>= create_by)

abbrev pub drop_by : Kind → Reader Statement
drop_by (kind.Word k.Table) = skip >> st.DropTable <$> name
drop_by (kind.Word k.Shadow) = skip >> st.DropShadow <$> name
drop_by _ = expect_word k.Backup >> st.DropBackup <$> name

unfoldable pub drop_object : Reader Statement
drop_object = skip >> (peek >>= drop_by)

unfoldable pub set_shadow : Reader Statement
set_shadow = do
  skip
  shadow ← name
  online ← eat_word k.Online
  if online then pure (st.ShadowOnline shadow)
      else expect_word k.Offline >> pure (st.ShadowOffline shadow)

unfoldable pub set_backup : Reader Statement
set_backup = do
  expect_word k.Backup
  backup ← name
  expect_word k.Ready
  pure (st.BackupReady backup)

abbrev pub set_second : Reader Statement
set_second items = if sees_word k.Shadow items then set_shadow items else set_backup items

unfoldable pub set_object : Reader Statement
set_object = skip >> set_second

unfoldable pub alter : Reader Statement
alter = do
  skip
  expect_word k.Shadow
  shadow ← name
  expect_word k.To
  expect_word k.Master
  pure (st.ShadowMaster shadow)

unfoldable pub restore : Reader Statement
restore = do
  skip
  bank ← name
  expect_word k.From
  backup ← name
  pure (st.Restore bank backup)

-- ---- a statement, and a text of one

abbrev pub by_word : Keyword → Reader Statement
by_word k.Start = alone st.Start
by_word k.Commit = alone st.Commit
by_word k.Rollback = alone st.Rollback
by_word k.Select = select
by_word k.Insert = insert
by_word k.Update = update
by_word k.Delete = delete
by_word k.Create = create
by_word k.Drop = drop_object
by_word k.Set = set_object
by_word k.Alter = alter
by_word k.Restore = restore
by_word _ = refuse

abbrev pub statement_by : Kind → Reader Statement
statement_by (kind.Word word) = by_word word
statement_by _ = refuse

unfoldable pub statement : Reader Statement
statement = peek >>= statement_by

-- one `;` may end a text
unfoldable pub end : Reader (Unit {0})
end = do
  ended ← eat_sign s.Semicolon
  finish

unfoldable pub whole : Reader Statement
whole = do
  found ← statement
  ended ← eat_sign s.Semicolon
  finish
  pure found
