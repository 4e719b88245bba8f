-- What the readers of statements fit.
use Rattle.std.proofs.Common.{ℕ, Bool, true, false, cond, List, [], ◌∷◌, sym, subst, append-nil}
use Rattle.odb_model.specs.declared.keyword.Keyword.{Keyword}
use Rattle.odb_model.specs.declared.keyword.Keyword.TheVariants as k
use Rattle.odb_model.specs.declared.sign.Sign.TheVariants as s
use Rattle.odb_model.specs.declared.statement.What.{What}
use Rattle.odb_model.specs.declared.statement.What.TheVariants as w
use Rattle.odb_model.specs.declared.statement.Expression.{Expression}
use Rattle.odb_model.specs.declared.statement.Assignment.{Assignment}
use Rattle.odb_model.specs.declared.statement.Statement.{Statement}
use Rattle.odb_model.specs.declared.statement.Statement.TheVariants as st
use Rattle.odb_model.specs.Lexeme.{Lexeme, Word, Symbol}
use Rattle.odb_model.specs.Grammar.{IsListed, IsNamed, IsExpression, IsTuple, IsAssignment, IsFilter, IsWhat, IsStatement, Spells}
use Rattle.odb_parse.specs.declared.kind.Kind.{Kind}
use Rattle.odb_parse.specs.declared.kind.Kind.TheVariants as kind
use Rattle.odb_parse.specs.Reading.{◌>>◌, pure, expect_word}
use Rattle.odb_parse.specs.Statements.{what_by, what, select, insert, assignment, update, delete, drop_by, drop_object, create, set_shadow, set_backup, set_second, set_object, alter, restore, by_word, statement_by, statement, whole}
use Rattle.odb_parse.proofs.Fits.{Completes, Seq, seq, Nil, nil, Mapped, mapped, Fits, fits_more, fits_pure, fits_refuse}
use Rattle.odb_parse.proofs.Words.{Only, only, fits_name, fits_word, fits_sign}
use Rattle.odb_parse.proofs.StepsFit.{FitsAt, anywhere, more_at, fits_choice, past_word, past_sign, fits_if_word, Maybe, there, left_out, fits_eat_word, fits_eat_sign, fits_finish, fits_then, fits_with}
use Rattle.odb_parse.proofs.ListsFit.{fits_listed}
use Rattle.odb_parse.proofs.SumsFit.{fits_expression, fits_tuple}
use Rattle.odb_parse.proofs.PredicatesFit.{fits_filter}
use Rattle.odb_parse.proofs.DefinitionsFit.{Created, created, create_by_at}

-- ---- what a SELECT shows

to_all : (ls : List Lexeme) (out : What) → Seq (Only (Symbol s.Star)) (λ _. Nil w.All) ls out → IsWhat ls out
to_all ls out (seq only nil) = IsWhat.all

to_count : (ls : List Lexeme) (out : What)
    → Seq (Only (Word k.Count)) (λ _. Seq (Only (Symbol s.Open)) (λ _. Seq (Only (Symbol s.Star)) (λ _. Seq (Only (Symbol s.Close)) (λ _. Nil w.Count)))) ls out
    → IsWhat ls out
to_count ls out (seq only (seq only (seq only (seq only nil)))) = IsWhat.count

to_sum : (ls : List Lexeme) (out : What)
    → Seq (Only (Word k.Sum)) (λ _. Seq (Only (Symbol s.Open)) (λ _. Seq IsNamed (λ n. Seq (Only (Symbol s.Close)) (λ _. Nil (w.Sum n))))) ls out
    → IsWhat ls out
to_sum ls out (seq only (seq only (seq (IsNamed.name free) (seq only nil)))) = IsWhat.sum free

to_columns : (ls : List Lexeme) (out : What) → Mapped w.Columns (IsListed IsNamed) ls out → IsWhat ls out
to_columns ls out (mapped names) = IsWhat.columns names

what_at : (seen : Kind) → FitsAt seen (what_by seen) IsWhat
what_at (kind.Symbol s.Star) = more_at to_all (past_sign s.Star (fits_pure w.All))
what_at (kind.Word k.Count) =
    more_at to_count (past_word k.Count (fits_then (fits_sign s.Open) (λ _. fits_then (fits_sign s.Star) (λ _. fits_then (fits_sign s.Close) (λ _. fits_pure w.Count)))))
what_at (kind.Word k.Sum) =
    more_at to_sum (past_word k.Sum (fits_then (fits_sign s.Open) (λ _. fits_then fits_name (λ n. fits_then (fits_sign s.Close) (λ _. fits_pure (w.Sum n))))))
what_at _ = anywhere (fits_more to_columns (fits_with w.Columns (fits_listed fits_name)))

pub fits_what : Fits what IsWhat
unfolding what
fits_what = fits_choice what_at

-- ---- statements on rows

to_select : (ls : List Lexeme) (out : Statement)
    → Seq (Only (Word k.Select)) (λ _. Seq IsWhat (λ shown. Seq (Only (Word k.From)) (λ _. Seq IsNamed (λ table. Mapped (st.Select shown table) IsFilter)))) ls out
    → IsStatement ls out
to_select ls out (seq only (seq shown (seq only (seq (IsNamed.name free) (mapped kept))))) = IsStatement.select shown free kept

select_at : FitsAt (kind.Word k.Select) select IsStatement
unfolding select
select_at =
    more_at to_select (past_word k.Select (fits_then fits_what (λ shown. fits_then (fits_word k.From) (λ _. fits_then fits_name (λ table. fits_with (st.Select shown table) fits_filter)))))

to_insert : (ls : List Lexeme) (out : Statement)
    → Seq (Only (Word k.Insert)) (λ _. Seq (Only (Word k.Into)) (λ _. Seq IsNamed (λ table. Seq (Only (Word k.Values)) (λ _. Mapped (st.Insert table) (IsListed IsTuple))))) ls out
    → IsStatement ls out
to_insert ls out (seq only (seq only (seq (IsNamed.name free) (seq only (mapped tuples))))) = IsStatement.insert free tuples

insert_at : FitsAt (kind.Word k.Insert) insert IsStatement
unfolding insert
insert_at =
    more_at to_insert (past_word k.Insert (fits_then (fits_word k.Into) (λ _. fits_then fits_name (λ table. fits_then (fits_word k.Values) (λ _. fits_with (st.Insert table) (fits_listed fits_tuple))))))

to_assignment : (ls : List Lexeme) (out : Assignment)
    → Seq IsNamed (λ column. Seq (Only (Symbol s.Equal)) (λ _. Mapped (λ (value : Expression). record { column = column; value = value }) IsExpression)) ls out
    → IsAssignment ls out
to_assignment ls out (seq (IsNamed.name free) (seq only (mapped value))) = IsAssignment.set free value

pub fits_assignment : Fits assignment IsAssignment
unfolding assignment
fits_assignment = fits_more to_assignment (fits_then fits_name (λ column. fits_then (fits_sign s.Equal) (λ _. fits_with (λ value. record { column = column; value = value }) fits_expression)))

to_update : (ls : List Lexeme) (out : Statement)
    → Seq (Only (Word k.Update)) (λ _. Seq IsNamed (λ table. Seq (Only (Word k.Set)) (λ _. Seq (IsListed IsAssignment) (λ sets. Mapped (st.Update table sets) IsFilter)))) ls out
    → IsStatement ls out
to_update ls out (seq only (seq (IsNamed.name free) (seq only (seq sets (mapped kept))))) = IsStatement.update free sets kept

update_at : FitsAt (kind.Word k.Update) update IsStatement
unfolding update
update_at =
    more_at to_update (past_word k.Update (fits_then fits_name (λ table. fits_then (fits_word k.Set) (λ _. fits_then (fits_listed fits_assignment) (λ sets. fits_with (st.Update table sets) fits_filter)))))

to_delete : (ls : List Lexeme) (out : Statement)
    → Seq (Only (Word k.Delete)) (λ _. Seq (Only (Word k.From)) (λ _. Seq IsNamed (λ table. Mapped (st.Delete table) IsFilter))) ls out → IsStatement ls out
to_delete ls out (seq only (seq only (seq (IsNamed.name free) (mapped kept)))) = IsStatement.delete free kept

delete_at : FitsAt (kind.Word k.Delete) delete IsStatement
unfolding delete
delete_at = more_at to_delete (past_word k.Delete (fits_then (fits_word k.From) (λ _. fits_then fits_name (λ table. fits_with (st.Delete table) fits_filter))))

-- ---- the others

data Dropped : List Lexeme → Statement → Type 0 where
  dropped : {ls : List Lexeme} {out : Statement} → IsStatement (Word k.Drop ∷ ls) out → Dropped ls out

to_drop_table : (ls : List Lexeme) (out : Statement) → Seq (Only (Word k.Table)) (λ _. Mapped st.DropTable IsNamed) ls out → Dropped ls out
to_drop_table ls out (seq only (mapped (IsNamed.name free))) = dropped (IsStatement.drop_table free)

to_drop_shadow : (ls : List Lexeme) (out : Statement) → Seq (Only (Word k.Shadow)) (λ _. Mapped st.DropShadow IsNamed) ls out → Dropped ls out
to_drop_shadow ls out (seq only (mapped (IsNamed.name free))) = dropped (IsStatement.drop_shadow free)

to_drop_backup : (ls : List Lexeme) (out : Statement) → Seq (Only (Word k.Backup)) (λ _. Mapped st.DropBackup IsNamed) ls out → Dropped ls out
to_drop_backup ls out (seq only (mapped (IsNamed.name free))) = dropped (IsStatement.drop_backup free)

drop_by_at : (seen : Kind) → FitsAt seen (drop_by seen) Dropped
drop_by_at (kind.Word k.Table) = more_at to_drop_table (past_word k.Table (fits_with st.DropTable fits_name))
drop_by_at (kind.Word k.Shadow) = more_at to_drop_shadow (past_word k.Shadow (fits_with st.DropShadow fits_name))
drop_by_at _ = anywhere (fits_more to_drop_backup (fits_then (fits_word k.Backup) (λ _. fits_with st.DropBackup fits_name)))

to_drop : (ls : List Lexeme) (out : Statement) → Seq (Only (Word k.Drop)) (λ _. Dropped) ls out → IsStatement ls out
to_drop ls out (seq only (dropped g)) = g

drop_at : FitsAt (kind.Word k.Drop) drop_object IsStatement
unfolding drop_object
drop_at = more_at to_drop (past_word k.Drop (fits_choice drop_by_at))

to_create : (ls : List Lexeme) (out : Statement) → Seq (Only (Word k.Create)) (λ _. Created) ls out → IsStatement ls out
to_create ls out (seq only (created g)) = g

create_at : FitsAt (kind.Word k.Create) create IsStatement
unfolding create
create_at = more_at to_create (past_word k.Create (fits_choice create_by_at))

-- behind SET
data Set : List Lexeme → Statement → Type 0 where
  is_set : {ls : List Lexeme} {out : Statement} → IsStatement (Word k.Set ∷ ls) out → Set ls out

abbrev online_after : List ℕ → Bool → List Lexeme → Statement → Type 0
online_after shadow true = Nil (st.ShadowOnline shadow)
online_after shadow false = Seq (Only (Word k.Offline)) (λ _. Nil (st.ShadowOffline shadow))

online_more : (shadow : List ℕ) (b : Bool)
    → Fits (cond b (pure (st.ShadowOnline shadow)) (expect_word k.Offline >> pure (st.ShadowOffline shadow))) (online_after shadow b)
online_more shadow true = fits_pure (st.ShadowOnline shadow)
online_more shadow false = fits_then (fits_word k.Offline) (λ _. fits_pure (st.ShadowOffline shadow))

to_set_shadow : (ls : List Lexeme) (out : Statement)
    → Seq (Only (Word k.Shadow)) (λ _. Seq IsNamed (λ shadow. Seq (Maybe (Word k.Online)) (online_after shadow))) ls out → Set ls out
to_set_shadow ls out (seq only (seq (IsNamed.name free) (seq there nil))) = is_set (IsStatement.shadow_online free)
to_set_shadow ls out (seq only (seq (IsNamed.name free) (seq left_out (seq only nil)))) = is_set (IsStatement.shadow_offline free)

set_shadow_at : FitsAt (kind.Word k.Shadow) set_shadow Set
unfolding set_shadow
set_shadow_at = more_at to_set_shadow (past_word k.Shadow (fits_then fits_name (λ shadow. fits_then (fits_eat_word k.Online) (online_more shadow))))

to_set_backup : (ls : List Lexeme) (out : Statement)
    → Seq (Only (Word k.Backup)) (λ _. Seq IsNamed (λ backup. Seq (Only (Word k.Ready)) (λ _. Nil (st.BackupReady backup)))) ls out → Set ls out
to_set_backup ls out (seq only (seq (IsNamed.name free) (seq only nil))) = is_set (IsStatement.backup_ready free)

fits_set_backup : Fits set_backup Set
unfolding set_backup
fits_set_backup =
    fits_more to_set_backup (fits_then (fits_word k.Backup) (λ _. fits_then fits_name (λ backup. fits_then (fits_word k.Ready) (λ _. fits_pure (st.BackupReady backup)))))

fits_set_second : Fits set_second Set
fits_set_second = fits_if_word k.Shadow {p = set_shadow} {q = set_backup} set_shadow_at fits_set_backup

to_set : (ls : List Lexeme) (out : Statement) → Seq (Only (Word k.Set)) (λ _. Set) ls out → IsStatement ls out
to_set ls out (seq only (is_set g)) = g

set_at : FitsAt (kind.Word k.Set) set_object IsStatement
unfolding set_object
set_at = more_at to_set (past_word k.Set fits_set_second)

to_alter : (ls : List Lexeme) (out : Statement)
    → Seq (Only (Word k.Alter)) (λ _. Seq (Only (Word k.Shadow)) (λ _. Seq IsNamed (λ shadow. Seq (Only (Word k.To)) (λ _. Seq (Only (Word k.Master)) (λ _. Nil (st.ShadowMaster shadow)))))) ls out
    → IsStatement ls out
to_alter ls out (seq only (seq only (seq (IsNamed.name free) (seq only (seq only nil))))) = IsStatement.shadow_master free

alter_at : FitsAt (kind.Word k.Alter) alter IsStatement
unfolding alter
alter_at =
    more_at to_alter (past_word k.Alter (fits_then (fits_word k.Shadow) (λ _. fits_then fits_name (λ shadow. fits_then (fits_word k.To) (λ _. fits_then (fits_word k.Master) (λ _. fits_pure (st.ShadowMaster shadow)))))))

to_restore : (ls : List Lexeme) (out : Statement)
    → Seq (Only (Word k.Restore)) (λ _. Seq IsNamed (λ bank. Seq (Only (Word k.From)) (λ _. Mapped (st.Restore bank) IsNamed))) ls out → IsStatement ls out
to_restore ls out (seq only (seq (IsNamed.name free) (seq only (mapped (IsNamed.name other))))) = IsStatement.restore free other

restore_at : FitsAt (kind.Word k.Restore) restore IsStatement
unfolding restore
restore_at = more_at to_restore (past_word k.Restore (fits_then fits_name (λ bank. fits_then (fits_word k.From) (λ _. fits_with (st.Restore bank) fits_name))))

-- ---- a statement, and a text of one

to_start : (ls : List Lexeme) (out : Statement) → Seq (Only (Word k.Start)) (λ _. Nil st.Start) ls out → IsStatement ls out
to_start ls out (seq only nil) = IsStatement.start

to_commit : (ls : List Lexeme) (out : Statement) → Seq (Only (Word k.Commit)) (λ _. Nil st.Commit) ls out → IsStatement ls out
to_commit ls out (seq only nil) = IsStatement.commit

to_rollback : (ls : List Lexeme) (out : Statement) → Seq (Only (Word k.Rollback)) (λ _. Nil st.Rollback) ls out → IsStatement ls out
to_rollback ls out (seq only nil) = IsStatement.rollback

some_statement : Completes IsStatement []
some_statement = record { more = Word k.Start ∷ []; value = st.Start; whole = IsStatement.start }

word_at : (word : Keyword) → FitsAt (kind.Word word) (by_word word) IsStatement
word_at k.Start = more_at to_start (past_word k.Start (fits_pure st.Start))
word_at k.Commit = more_at to_commit (past_word k.Commit (fits_pure st.Commit))
word_at k.Rollback = more_at to_rollback (past_word k.Rollback (fits_pure st.Rollback))
word_at k.Select = select_at
word_at k.Insert = insert_at
word_at k.Update = update_at
word_at k.Delete = delete_at
word_at k.Create = create_at
word_at k.Drop = drop_at
word_at k.Set = set_at
word_at k.Alter = alter_at
word_at k.Restore = restore_at
word_at _ = anywhere (fits_refuse some_statement)

statement_at : (seen : Kind) → FitsAt seen (statement_by seen) IsStatement
statement_at (kind.Word word) = word_at word
statement_at _ = anywhere (fits_refuse some_statement)

pub fits_statement : Fits statement IsStatement
unfolding statement
fits_statement = fits_choice statement_at

to_spells : (ls : List Lexeme) (out : Statement)
    → Seq IsStatement (λ found. Seq (Maybe (Symbol s.Semicolon)) (λ _. Seq (Nil (tt {0})) (λ _. Nil found))) ls out → Spells ls out
to_spells ls out (seq found (seq there (seq nil nil))) = Spells.ended found
to_spells ls out (seq {us = us} found (seq left_out (seq nil nil))) = subst (λ ls. Spells ls out) (sym (append-nil us)) (Spells.bare found)

pub fits_whole : Fits whole Spells
unfolding whole
fits_whole =
    fits_more to_spells (fits_then fits_statement (λ found. fits_then (fits_eat_sign s.Semicolon) (λ _. fits_then fits_finish (λ _. fits_pure found))))
