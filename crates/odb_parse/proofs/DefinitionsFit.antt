-- What the readers of definitions fit.
use Rattle.std.proofs.Common.{◌≡◌, ℕ, zero, suc, ◌<◌, Bool, true, false, cond, List, [], ◌∷◌, ◌++◌, length, Option, Some, None, Ok, refl, sym, ap, subst, arith, append_assoc}
use Rattle.odb_model.specs.declared.keyword.Keyword.TheVariants as k
use Rattle.odb_model.specs.declared.sign.Sign.{Sign}
use Rattle.odb_model.specs.declared.sign.Sign.TheVariants as s
use Rattle.odb_model.specs.declared.statement.ColumnText.{ColumnText}
use Rattle.odb_model.specs.declared.statement.Statement.{Statement}
use Rattle.odb_model.specs.declared.statement.Statement.TheVariants as st
use Rattle.odb_model.specs.Lexeme.{Lexeme, Word, Name, Symbol}
use Rattle.odb_model.specs.Grammar.{IsListed, IsNamed, IsKind, IsMust, IsColumn, IsStatement}
use Rattle.odb_parse.specs.declared.kind.Kind.{Kind}
use Rattle.odb_parse.specs.declared.kind.Kind.TheVariants as kind
use Rattle.odb_parse.specs.Codes.{Item, Stands, Wrong}
use Rattle.odb_parse.specs.Items.{kind_of}
use Rattle.odb_parse.specs.Reading.{Reader, ◌>>=◌, ◌>>◌, pure, refuse, skip, passed, is_sign, sees_sign, eat_word, expect_word, expect_sign, number}
use Rattle.odb_parse.specs.Sums.{greatest}
use Rattle.odb_parse.specs.Statements.{column_length, not_null, column, columns_from, columns, create_table, create_by}
use Rattle.odb_parse.proofs.Fits.{Completes, Seq, seq, Nil, nil, Mapped, mapped, rest_of, Fits, fits_more, fits_pure, fits_refuse, fits_shorter}
use Rattle.odb_parse.proofs.Words.{Only, only, IsNumber, fits_name, fits_number, fits_word, fits_sign}
use Rattle.odb_parse.proofs.StepsFit.{FitsAt, begins, anywhere, more_at, past_word, fits_if_word, Maybe, there, left_out, fits_eat_word, fits_then, fits_with, fits_bounded}
use Rattle.odb_parse.proofs.ListsFit.{then_same, fits_listed}
use Rattle.odb_parse.proofs.SumsFit.{below_most}

-- ---- a column

to_varchar : (ls : List Lexeme) (out : Option ℕ)
    → Seq (Only (Word k.Varchar)) (λ _. Seq (Only (Symbol s.Open)) (λ _. Seq (IsNumber greatest) (λ most. Seq (Only (Symbol s.Close)) (λ _. Nil (Some most))))) ls out
    → IsKind ls out
to_varchar ls out (seq only (seq only (seq (IsNumber.number {n = n} small) (seq only nil)))) = IsKind.varchar (below_most n small)

to_integer : (ls : List Lexeme) (out : Option ℕ) → Seq (Only (Word k.Integer)) (λ _. Nil None) ls out → IsKind ls out
to_integer ls out (seq only nil) = IsKind.integer

fits_column_length : Fits column_length IsKind
unfolding column_length
fits_column_length =
    fits_if_word k.Varchar
    {p = skip >> (expect_sign s.Open >> (number greatest >>= (λ most. expect_sign s.Close >> pure (Some most))))}
    {q = expect_word k.Integer >> pure None}
    (more_at to_varchar (past_word k.Varchar (fits_then (fits_sign s.Open) (λ _. fits_then (fits_number greatest) (λ most. fits_then (fits_sign s.Close) (λ _. fits_pure (Some most)))))))
    (fits_more to_integer (fits_then (fits_word k.Integer) (λ _. fits_pure None)))

abbrev must_after : Bool → List Lexeme → Bool → Type 0
must_after true = Seq (Only (Word k.Null)) (λ _. Nil true)
must_after false = Nil false

must_more : (b : Bool) → Fits (cond b (expect_word k.Null >> pure true) (pure false)) (must_after b)
must_more true = fits_then (fits_word k.Null) (λ _. fits_pure true)
must_more false = fits_pure false

to_must : (ls : List Lexeme) (out : Bool) → Seq (Maybe (Word k.Not)) must_after ls out → IsMust ls out
to_must ls out (seq there (seq only nil)) = IsMust.must
to_must ls out (seq left_out nil) = IsMust.may

fits_not_null : Fits not_null IsMust
unfolding not_null
fits_not_null = fits_more to_must (fits_then (fits_eat_word k.Not) must_more)

to_column : (ls : List Lexeme) (out : ColumnText)
    → Seq IsNamed (λ called. Seq IsKind (λ most. Mapped (λ (must : Bool). record { name = called; length = most; not_null = must }) IsMust)) ls out
    → IsColumn ls out
to_column ls out (seq (IsNamed.name free) (seq most (mapped needed))) = IsColumn.column free most needed

pub fits_column : Fits column IsColumn
unfolding column
fits_column =
    fits_more to_column (fits_then fits_name (λ called. fits_then fits_column_length (λ most. fits_with (λ must. record { name = called; length = most; not_null = must }) fits_not_null)))

-- ---- the columns of a table, up to PRIMARY

-- behind what was found, further columns
data ColumnsOn (found : List ColumnText) : List Lexeme → List ColumnText → Type 0 where
  on : {ls : List Lexeme} {cs : List ColumnText} → IsListed IsColumn ls cs → ColumnsOn found (ls ++ Symbol s.Comma ∷ Word k.Primary ∷ []) (found ++ cs)

abbrev columns_after : List ColumnText → Bool → List Lexeme → List ColumnText → Type 0
columns_after found true = Nil found
columns_after found false = ColumnsOn found

to_columns_on : (found : List ColumnText) (ls : List Lexeme) (out : List ColumnText)
    → Seq IsColumn (λ x. Seq (Only (Symbol s.Comma)) (λ _. Seq (Maybe (Word k.Primary)) (columns_after (found ++ x ∷ [])))) ls out → ColumnsOn found ls out
to_columns_on found ls out (seq g (seq only (seq there nil))) = on (IsListed.last g)
to_columns_on found ls out (seq {us = us} {a = x} g (seq only (seq left_out (on {ls = ks} {cs = cs} gs)))) =
    subst (λ out. ColumnsOn found (us ++ (Symbol s.Comma ∷ (ks ++ Symbol s.Comma ∷ Word k.Primary ∷ []))) out) (sym (append_assoc found (x ∷ []) cs))
    (subst (λ ls. ColumnsOn found ls (found ++ x ∷ cs)) (append_assoc us (Symbol s.Comma ∷ ks) (Symbol s.Comma ∷ Word k.Primary ∷ [])) (on (IsListed.more g gs)))

columns_more : (p : Reader (List ColumnText)) (found : List ColumnText) → Fits p (ColumnsOn found) → (b : Bool) → Fits (cond b (pure found) p) (columns_after found b)
columns_more p found f true = fits_pure found
columns_more p found f false = f

some_columns : (found : List ColumnText) → Completes IsColumn [] → Completes (ColumnsOn found) []
some_columns found c = record { more = c.more ++ Symbol s.Comma ∷ Word k.Primary ∷ []; value = found ++ c.value ∷ []; whole = on (IsListed.last c.whole) }

fits_columns_from : (left : ℕ) (found : List ColumnText) → Fits (columns_from left found) (ColumnsOn found)
unfolding columns_from
fits_columns_from zero found = fits_refuse (some_columns found (begins fits_column))
fits_columns_from (suc left) found =
    fits_more (to_columns_on found) (fits_then fits_column (λ x. fits_then (fits_sign s.Comma) (λ _. fits_then (fits_eat_word k.Primary)
    (columns_more (columns_from left (found ++ x ∷ [])) (found ++ x ∷ []) (fits_columns_from left (found ++ x ∷ []))))))

-- each turn takes a comma
passed_less : (l : Lexeme) (at : ℕ) (items rest : List Item) (u : Unit {0}) (b : Bool)
    → cond b (passed items) (refuse (Stands l at ∷ items)) ≡ Ok (u, rest) → length rest < length (Stands l at ∷ items)
passed_less l at [] rest u true e = let len = ap (λ o. length (rest_of o)) e in omega arith
passed_less l at (Stands k place ∷ items) rest u true e = let len = ap (λ o. length (rest_of o)) e in omega arith
passed_less l at (Wrong w ∷ items) rest u true e = cc
passed_less l at items rest u false e = cc

sign_taken : (s : Sign) (items rest : List Item) (u : Unit {0}) → expect_sign s items ≡ Ok (u, rest) → length rest < length items
unfolding expect_sign sees_sign skip
sign_taken s [] rest u e = cc
sign_taken s (Stands l at ∷ items) rest u e = passed_less l at items rest u (is_sign s (kind_of l)) e
sign_taken s (Wrong w ∷ items) rest u e = cc

turns_same : (n m : ℕ) (found : List ColumnText) (items : List Item) → length items < n → length items < m → columns_from n found items ≡ columns_from m found items
unfolding columns_from
turns_same zero m found items less small = absurd (omega arith)
turns_same (suc n) zero found items less small = absurd (omega arith)
turns_same (suc n) (suc m) found items less small =
    then_same (column items) _ _ (λ x rest read.
    let short = fits_shorter fits_column items rest x read in
    then_same (expect_sign s.Comma rest) _ _ (λ u after taken.
    let fewer = sign_taken s.Comma rest after u taken in
    then_same (eat_word k.Primary after) _ _ (λ b behind eaten.
    let lesser = fits_shorter (fits_eat_word k.Primary) after behind b eaten in
    go x b behind (turns_same n m (found ++ x ∷ []) behind (omega arith) (omega arith)))))
  where
    go : (x : ColumnText) (b : Bool) (behind : List Item) → columns_from n (found ++ x ∷ []) behind ≡ columns_from m (found ++ x ∷ []) behind
        → cond b (pure (found ++ x ∷ [])) (columns_from n (found ++ x ∷ [])) behind ≡ cond b (pure (found ++ x ∷ [])) (columns_from m (found ++ x ∷ [])) behind
    go x true behind same = refl
    go x false behind same = same

fits_columns : Fits columns (ColumnsOn [])
unfolding columns
fits_columns = fits_bounded (λ n. columns_from n []) (ColumnsOn []) (λ n. fits_columns_from n []) (λ n m items. turns_same n m [] items)

-- ---- behind CREATE

pub data Created : List Lexeme → Statement → Type 0 where
  created : {ls : List Lexeme} {out : Statement} → IsStatement (Word k.Create ∷ ls) out → Created ls out

to_create_table : (ls : List Lexeme) (out : Statement)
    → Seq (Only (Word k.Table)) (λ _. Seq IsNamed (λ table. Seq (Only (Symbol s.Open)) (λ _. Seq (ColumnsOn []) (λ made.
    Seq (Only (Word k.Key)) (λ _. Seq (Only (Symbol s.Open)) (λ _. Seq (IsListed IsNamed) (λ key. Seq (Only (Symbol s.Close)) (λ _.
    Seq (Only (Symbol s.Close)) (λ _. Seq (Only (Word k.In)) (λ _. Mapped (st.CreateTable table made key) IsNamed)))))))))) ls out
    → Created ls out
to_create_table ls out (seq only (seq (IsNamed.name {n = n} free) (seq only (seq (on {ls = cs} gs) (seq only (seq only (seq {us = ks} {vs = vs} key (seq only (seq only (seq only (mapped (IsNamed.name bank)))))))))))) =
    let columns : List Lexeme = Word k.Create ∷ Word k.Table ∷ Name n ∷ Symbol s.Open ∷ cs in
    let keys : List Lexeme = Symbol s.Comma ∷ Word k.Primary ∷ Word k.Key ∷ Symbol s.Open ∷ ks in
    let whole = subst (λ ls. IsStatement ls out) (append_assoc columns keys vs) (IsStatement.create_table free gs key bank) in
    created (subst (λ ls. IsStatement (Word k.Create ∷ Word k.Table ∷ Name n ∷ Symbol s.Open ∷ ls) out)
    (sym (append_assoc cs (Symbol s.Comma ∷ Word k.Primary ∷ []) (Word k.Key ∷ Symbol s.Open ∷ (ks ++ vs)))) whole)

fits_create_table : Fits create_table Created
unfolding create_table
fits_create_table =
    fits_more to_create_table (fits_then (fits_word k.Table) (λ _. fits_then fits_name (λ table. fits_then (fits_sign s.Open) (λ _. fits_then fits_columns (λ made.
    fits_then (fits_word k.Key) (λ _. fits_then (fits_sign s.Open) (λ _. fits_then (fits_listed fits_name) (λ key. fits_then (fits_sign s.Close) (λ _.
    fits_then (fits_sign s.Close) (λ _. fits_then (fits_word k.In) (λ _. fits_with (st.CreateTable table made key) fits_name)))))))))))

to_databank : (ls : List Lexeme) (out : Statement) → Seq (Only (Word k.Databank)) (λ _. Mapped st.CreateDatabank IsNamed) ls out → Created ls out
to_databank ls out (seq only (mapped (IsNamed.name free))) = created (IsStatement.create_databank free)

to_shadow : (ls : List Lexeme) (out : Statement)
    → Seq (Only (Word k.Shadow)) (λ _. Seq IsNamed (λ shadow. Seq (Only (Word k.For)) (λ _. Mapped (st.CreateShadow shadow) IsNamed))) ls out → Created ls out
to_shadow ls out (seq only (seq (IsNamed.name free) (seq only (mapped (IsNamed.name bank))))) = created (IsStatement.create_shadow free bank)

to_backup : (ls : List Lexeme) (out : Statement)
    → Seq (Only (Word k.Backup)) (λ _. Seq IsNamed (λ backup. Seq (Only (Word k.Of)) (λ _. Mapped (st.CreateBackup backup) IsNamed))) ls out → Created ls out
to_backup ls out (seq only (seq (IsNamed.name free) (seq only (mapped (IsNamed.name bank))))) = created (IsStatement.create_backup free bank)

pub create_by_at : (seen : Kind) → FitsAt seen (create_by seen) Created
create_by_at (kind.Word k.Databank) = more_at to_databank (past_word k.Databank (fits_with st.CreateDatabank fits_name))
create_by_at (kind.Word k.Shadow) =
    more_at to_shadow (past_word k.Shadow (fits_then fits_name (λ shadow. fits_then (fits_word k.For) (λ _. fits_with (st.CreateShadow shadow) fits_name))))
create_by_at (kind.Word k.Backup) =
    more_at to_backup (past_word k.Backup (fits_then fits_name (λ backup. fits_then (fits_word k.Of) (λ _. fits_with (st.CreateBackup backup) fits_name))))
create_by_at _ = anywhere fits_create_table
