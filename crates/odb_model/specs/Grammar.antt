-- The grammar of statements: which lexemes spell what. Each type below is a nonterminal, whose
-- constructors are its productions in the order given here:
--
--   statement = START | COMMIT | ROLLBACK | SELECT what FROM name filter
--     | INSERT INTO name VALUES tuple {, tuple} | UPDATE name SET set {, set} filter
--     | DELETE FROM name filter | CREATE DATABANK name
--     | CREATE TABLE name ( column {, column} , PRIMARY KEY ( name {, name} ) ) IN name
--     | DROP TABLE name | CREATE SHADOW name FOR name | SET SHADOW name ONLINE
--     | SET SHADOW name OFFLINE | ALTER SHADOW name TO MASTER | DROP SHADOW name
--     | CREATE BACKUP name OF name | SET BACKUP name READY | DROP BACKUP name
--     | RESTORE name FROM name
--   filter = [WHERE pred]        what = * | name {, name} | COUNT ( * ) | SUM ( name )
--   tuple = ( literal {, literal} )        literal = [-] number | text | NULL
--   set = name = expr        expr = operand {(+ | -) operand}        operand = name | literal
--   column = name (INTEGER | VARCHAR ( number )) [NOT NULL]
--   pred = term {OR term}        term = factor {AND factor}        factor = NOT factor | ( pred ) | test
--   test = operand (= | <> | < | <= | > | >=) operand | name IS [NOT] NULL
--
-- The rules are this project's own.
use Rattle.std.specs.Prelude.{ℕ, suc, ◌^◌, ◌<◌, ◌≤◌, pos, neg_ℤ, Bool, true, false, List, [], ◌∷◌, ◌++◌, Option, Some, None}
use Rattle.odb_values.specs.Text.{IsText}
use Rattle.odb_values.specs.declared.value.Value.{Value}
use Rattle.odb_values.specs.declared.value.Value.TheVariants.{Int, Text, Null}
use Rattle.odb_model.specs.declared.keyword.Keyword.TheVariants as k
use Rattle.odb_model.specs.declared.sign.Sign.{Sign}
use Rattle.odb_model.specs.declared.sign.Sign.TheVariants as s
use Rattle.odb_model.specs.declared.predicate.Compare.{Compare}
use Rattle.odb_model.specs.declared.predicate.Compare.TheVariants.{Eq, Ne, Lt, Le, Gt, Ge}
use Rattle.odb_model.specs.declared.predicate.Operand.{Operand}
use Rattle.odb_model.specs.declared.predicate.Operand.TheVariants.{Column, Literal}
use Rattle.odb_model.specs.declared.predicate.Predicate.{Predicate}
use Rattle.odb_model.specs.declared.predicate.Predicate.TheVariants as p
use Rattle.odb_model.specs.declared.statement.What.{What}
use Rattle.odb_model.specs.declared.statement.What.TheVariants as w
use Rattle.odb_model.specs.declared.statement.Term.{Term}
use Rattle.odb_model.specs.declared.statement.Expression.{Expression}
use Rattle.odb_model.specs.declared.statement.Assignment.{Assignment}
use Rattle.odb_model.specs.declared.statement.ColumnText.{ColumnText}
use Rattle.odb_model.specs.declared.statement.Statement.{Statement}
use Rattle.odb_model.specs.declared.statement.Statement.TheVariants as st
use Rattle.odb_model.specs.Lexeme.{Lexeme, Word, Name, Number, Quoted, Symbol, IsFree}

-- item {, item}
pub data IsListed {A : Type 0} (Item : List Lexeme → A → Type 0) :
    List Lexeme → List A → Type 0 where
  last : {ts : List Lexeme} {x : A} → Item ts x → IsListed Item ts (x ∷ [])
  more : {ts us : List Lexeme} {x : A} {xs : List A} → Item ts x → IsListed Item us xs
      → IsListed Item (ts ++ Symbol s.Comma ∷ us) (x ∷ xs)

-- a word that isn't reserved
pub data IsNamed : List Lexeme → List ℕ → Type 0 where
  name : {n : List ℕ} → IsFree n → IsNamed (Name n ∷ []) n

-- 2^63 needs the `-` of its own literal directly before it
pub data IsLiteral : List Lexeme → Value → Type 0 where
  number : {n : ℕ} → n < 2 ^ 63 → IsLiteral (Number n ∷ []) (Int (pos n))
  negative : {n : ℕ} → n ≤ 2 ^ 63 → IsLiteral (Symbol s.Minus ∷ Number n ∷ []) (Int (neg_ℤ (pos n)))
  text : {t : List ℕ} → IsText t → IsLiteral (Quoted t ∷ []) (Text t)
  null : IsLiteral (Word k.Null ∷ []) Null

pub data IsOperand : List Lexeme → Operand → Type 0 where
  column : {n : List ℕ} → IsFree n → IsOperand (Name n ∷ []) (Column n)
  literal : {ts : List Lexeme} {v : Value} → IsLiteral ts v → IsOperand ts (Literal v)

-- {(+ | -) operand}
pub data AreTerms : List Lexeme → List Term → Type 0 where
  none : AreTerms [] []
  plus : {ts us : List Lexeme} {x : Operand} {terms : List Term} → IsOperand ts x
      → AreTerms us terms
      → AreTerms (Symbol s.Plus ∷ ts ++ us) (record { minus = false; operand = x } ∷ terms)
  minus : {ts us : List Lexeme} {x : Operand} {terms : List Term} → IsOperand ts x
      → AreTerms us terms
      → AreTerms (Symbol s.Minus ∷ ts ++ us) (record { minus = true; operand = x } ∷ terms)

pub data IsExpression : List Lexeme → Expression → Type 0 where
  sum : {ts us : List Lexeme} {x : Operand} {terms : List Term} → IsOperand ts x → AreTerms us terms
      → IsExpression (ts ++ us) (record { first = x; rest = terms })

pub data IsTuple : List Lexeme → List Value → Type 0 where
  tuple : {ts : List Lexeme} {vs : List Value} → IsListed IsLiteral ts vs
      → IsTuple (Symbol s.Open ∷ ts ++ Symbol s.Close ∷ []) vs

pub data IsAssignment : List Lexeme → Assignment → Type 0 where
  set : {n : List ℕ} {ts : List Lexeme} {e : Expression} → IsFree n → IsExpression ts e
      → IsAssignment (Name n ∷ Symbol s.Equal ∷ ts) (record { column = n; value = e })

-- INTEGER | VARCHAR ( number ); 2^63 has no `-` of its own here
pub data IsKind : List Lexeme → Option ℕ → Type 0 where
  integer : IsKind (Word k.Integer ∷ []) None
  varchar : {n : ℕ} → n < 2 ^ 63
      → IsKind (Word k.Varchar ∷ Symbol s.Open ∷ Number n ∷ Symbol s.Close ∷ []) (Some n)

-- [NOT NULL]
pub data IsMust : List Lexeme → Bool → Type 0 where
  may : IsMust [] false
  must : IsMust (Word k.Not ∷ Word k.Null ∷ []) true

pub data IsColumn : List Lexeme → ColumnText → Type 0 where
  column : {n : List ℕ} {ts us : List Lexeme} {length : Option ℕ} {not_null : Bool} → IsFree n
      → IsKind ts length → IsMust us not_null
      → IsColumn (Name n ∷ ts ++ us) (record { name = n; length = length; not_null = not_null })

pub data IsCompare : Sign → Compare → Type 0 where
  equal : IsCompare s.Equal Eq
  unequal : IsCompare s.Unequal Ne
  less : IsCompare s.Less Lt
  at_most : IsCompare s.AtMost Le
  greater : IsCompare s.Greater Gt
  at_least : IsCompare s.AtLeast Ge

pub data IsTest : List Lexeme → Predicate → Type 0 where
  test : {ts us : List Lexeme} {left right : Operand} {sign : Sign} {op : Compare}
      → IsOperand ts left → IsCompare sign op → IsOperand us right
      → IsTest (ts ++ Symbol sign ∷ us) (p.Test op left right)
  null : {n : List ℕ} → IsFree n → IsTest (Name n ∷ Word k.Is ∷ Word k.Null ∷ []) (p.Null n false)
  not_null : {n : List ℕ} → IsFree n
      → IsTest (Name n ∷ Word k.Is ∷ Word k.Not ∷ Word k.Null ∷ []) (p.Null n true)

-- AND and OR group to the left. The number is how many NOTs and parentheses may still stand inside
-- one another.
mutual
  pub data IsPredicate : ℕ → List Lexeme → Predicate → Type 0 where
    term : {room : ℕ} {ts : List Lexeme} {a : Predicate} → IsBooleanTerm room ts a
        → IsPredicate room ts a
    or : {room : ℕ} {ts us : List Lexeme} {a b : Predicate} → IsPredicate room ts a
        → IsBooleanTerm room us b
        → IsPredicate room (ts ++ Word k.Or ∷ us) (p.Or a b)

  pub data IsBooleanTerm : ℕ → List Lexeme → Predicate → Type 0 where
    factor : {room : ℕ} {ts : List Lexeme} {a : Predicate} → IsBooleanFactor room ts a
        → IsBooleanTerm room ts a
    and : {room : ℕ} {ts us : List Lexeme} {a b : Predicate} → IsBooleanTerm room ts a
        → IsBooleanFactor room us b
        → IsBooleanTerm room (ts ++ Word k.And ∷ us) (p.And a b)

  pub data IsBooleanFactor : ℕ → List Lexeme → Predicate → Type 0 where
    not : {room : ℕ} {ts : List Lexeme} {a : Predicate} → IsBooleanFactor room ts a
        → IsBooleanFactor (suc room) (Word k.Not ∷ ts) (p.Not a)
    parens : {room : ℕ} {ts : List Lexeme} {a : Predicate} → IsPredicate room ts a
        → IsBooleanFactor (suc room) (Symbol s.Open ∷ ts ++ Symbol s.Close ∷ []) a
    test : {room : ℕ} {ts : List Lexeme} {a : Predicate} → IsTest ts a → IsBooleanFactor room ts a

-- [WHERE pred]
pub data IsFilter : List Lexeme → Option Predicate → Type 0 where
  all : IsFilter [] None
  where_ : {ts : List Lexeme} {a : Predicate} → IsPredicate 64 ts a
      → IsFilter (Word k.Where ∷ ts) (Some a)

pub data IsWhat : List Lexeme → What → Type 0 where
  all : IsWhat (Symbol s.Star ∷ []) w.All
  columns : {ts : List Lexeme} {ns : List (List ℕ)} → IsListed IsNamed ts ns
      → IsWhat ts (w.Columns ns)
  count : IsWhat (Word k.Count ∷ Symbol s.Open ∷ Symbol s.Star ∷ Symbol s.Close ∷ []) w.Count
  sum : {n : List ℕ} → IsFree n
      → IsWhat (Word k.Sum ∷ Symbol s.Open ∷ Name n ∷ Symbol s.Close ∷ []) (w.Sum n)

pub data IsStatement : List Lexeme → Statement → Type 0 where
  start : IsStatement (Word k.Start ∷ []) st.Start
  commit : IsStatement (Word k.Commit ∷ []) st.Commit
  rollback : IsStatement (Word k.Rollback ∷ []) st.Rollback
  select : {ws fs : List Lexeme} {n : List ℕ} {what : What} {filter : Option Predicate}
      → IsWhat ws what → IsFree n → IsFilter fs filter
      → IsStatement (Word k.Select ∷ ws ++ Word k.From ∷ Name n ∷ fs) (st.Select what n filter)
  insert : {n : List ℕ} {ts : List Lexeme} {tuples : List (List Value)} → IsFree n
      → IsListed IsTuple ts tuples
      → IsStatement (Word k.Insert ∷ Word k.Into ∷ Name n ∷ Word k.Values ∷ ts) (st.Insert n tuples)
  update : {n : List ℕ} {ts fs : List Lexeme} {sets : List Assignment} {filter : Option Predicate}
      → IsFree n → IsListed IsAssignment ts sets → IsFilter fs filter
      → IsStatement (Word k.Update ∷ Name n ∷ Word k.Set ∷ ts ++ fs) (st.Update n sets filter)
  delete : {n : List ℕ} {fs : List Lexeme} {filter : Option Predicate} → IsFree n
      → IsFilter fs filter
      → IsStatement (Word k.Delete ∷ Word k.From ∷ Name n ∷ fs) (st.Delete n filter)
  create_databank : {n : List ℕ} → IsFree n
      → IsStatement (Word k.Create ∷ Word k.Databank ∷ Name n ∷ []) (st.CreateDatabank n)
  create_table : {n bank : List ℕ} {cs ks : List Lexeme} {columns : List ColumnText}
      {key : List (List ℕ)} → IsFree n
      → IsListed IsColumn cs columns → IsListed IsNamed ks key → IsFree bank
      → IsStatement
      (Word k.Create ∷ Word k.Table ∷ Name n ∷ Symbol s.Open ∷ cs
      ++ Symbol s.Comma ∷ Word k.Primary ∷ Word k.Key ∷ Symbol s.Open
      ∷ ks ++ Symbol s.Close ∷ Symbol s.Close ∷ Word k.In ∷ Name bank ∷ [])
      (st.CreateTable n columns key bank)
  drop_table : {n : List ℕ} → IsFree n
      → IsStatement (Word k.Drop ∷ Word k.Table ∷ Name n ∷ []) (st.DropTable n)
  create_shadow : {n bank : List ℕ} → IsFree n → IsFree bank
      → IsStatement (Word k.Create ∷ Word k.Shadow ∷ Name n ∷ Word k.For ∷ Name bank ∷ [])
      (st.CreateShadow n bank)
  shadow_online : {n : List ℕ} → IsFree n
      → IsStatement (Word k.Set ∷ Word k.Shadow ∷ Name n ∷ Word k.Online ∷ []) (st.ShadowOnline n)
  shadow_offline : {n : List ℕ} → IsFree n
      → IsStatement (Word k.Set ∷ Word k.Shadow ∷ Name n ∷ Word k.Offline ∷ []) (st.ShadowOffline n)
  shadow_master : {n : List ℕ} → IsFree n
      → IsStatement (Word k.Alter ∷ Word k.Shadow ∷ Name n ∷ Word k.To ∷ Word k.Master ∷ [])
      (st.ShadowMaster n)
  drop_shadow : {n : List ℕ} → IsFree n
      → IsStatement (Word k.Drop ∷ Word k.Shadow ∷ Name n ∷ []) (st.DropShadow n)
  create_backup : {n bank : List ℕ} → IsFree n → IsFree bank
      → IsStatement (Word k.Create ∷ Word k.Backup ∷ Name n ∷ Word k.Of ∷ Name bank ∷ [])
      (st.CreateBackup n bank)
  backup_ready : {n : List ℕ} → IsFree n
      → IsStatement (Word k.Set ∷ Word k.Backup ∷ Name n ∷ Word k.Ready ∷ []) (st.BackupReady n)
  drop_backup : {n : List ℕ} → IsFree n
      → IsStatement (Word k.Drop ∷ Word k.Backup ∷ Name n ∷ []) (st.DropBackup n)
  restore : {bank n : List ℕ} → IsFree bank → IsFree n
      → IsStatement (Word k.Restore ∷ Name bank ∷ Word k.From ∷ Name n ∷ []) (st.Restore bank n)

-- The lexemes spell the statement. One `;` may end it.
pub data Spells : List Lexeme → Statement → Type 0 where
  bare : {ts : List Lexeme} {statement : Statement} → IsStatement ts statement → Spells ts statement
  ended : {ts : List Lexeme} {statement : Statement} → IsStatement ts statement
      → Spells (ts ++ Symbol s.Semicolon ∷ []) statement
