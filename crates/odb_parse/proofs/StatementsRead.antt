-- Statements are read.
use Rattle.std.proofs.Common.{◌≡◌, ℕ, false, List, [], ◌∷◌, ◌++◌, Option, Ok, refl, subst, ◌∙◌, append_assoc}
use Rattle.odb_values.specs.declared.value.Value.{Value}
use Rattle.odb_model.specs.declared.keyword.Keyword.{Keyword}
use Rattle.odb_model.specs.declared.keyword.Keyword.TheVariants as k
use Rattle.odb_model.specs.declared.sign.Sign.TheVariants as s
use Rattle.odb_model.specs.declared.predicate.Predicate.{Predicate}
use Rattle.odb_model.specs.declared.statement.What.{What}
use Rattle.odb_model.specs.declared.statement.What.TheVariants as w
use Rattle.odb_model.specs.declared.statement.Assignment.{Assignment}
use Rattle.odb_model.specs.declared.statement.ColumnText.{ColumnText}
use Rattle.odb_model.specs.declared.statement.Statement.{Statement}
use Rattle.odb_model.specs.declared.statement.Statement.TheVariants as st
use Rattle.odb_model.specs.Lexeme.{Lexeme, Word, Name, Symbol}
use Rattle.odb_model.specs.Grammar.{IsListed, IsNamed, IsTuple, IsAssignment, IsColumn, IsFilter, IsWhat, IsStatement, Spells}
use Rattle.odb_model.specs.Grammar as g
use Rattle.odb_parse.specs.Codes.{Item, Stands}
use Rattle.odb_parse.specs.Reading.{Reader, ◌>>=◌, ◌>>◌, pure, skip, name, finish, same_word, same_sign, sees_word, sees_sign, eat_word, eat_sign, expect_word, expect_sign}
use Rattle.odb_parse.specs.Sums.{listed, tuple}
use Rattle.odb_parse.specs.Statements.{what, select, insert, assignment, update, delete, create, create_table, drop_object, set_object, set_shadow, set_backup, alter, restore, by_word, statement, whole}
use Rattle.odb_parse.proofs.Takes.{Takes, done, next, takes_split}
use Rattle.odb_parse.proofs.Following.{IsClear, clear_front, skip_step, word_step, sign_step, name_step, no_sign_at, stays}
use Rattle.odb_parse.proofs.TokensRead.{ReadsAll, name_read, listed_read}
use Rattle.odb_parse.proofs.SumsRead.{IsSumEnd, assignment_read, tuple_read}
use Rattle.odb_parse.proofs.PredicatesRead.{IsFilterEnd, filter_read}
use Rattle.odb_parse.proofs.ColumnsRead.{columns_read}

-- ---- what ends a statement

pub record IsEnd (items : List Item) : Type 0 where
  pub filter : IsFilterEnd items
  pub sum : IsSumEnd items
  pub no_comma : sees_sign s.Comma items ≡ false

pub at_nothing : IsEnd []
unfolding sees_sign sees_word
at_nothing = record {
  filter = record {
    predicate = record { both = record { clear = record { passes = refl }; no_and = refl }; no_or = refl };
    no_where = refl;
  };
  sum = record { clear = record { passes = refl }; none = refl };
  no_comma = refl;
}

pub at_semicolon : (at : ℕ) (items : List Item) → IsEnd (Stands (Symbol s.Semicolon) at ∷ items)
unfolding sees_sign sees_word same_sign
at_semicolon at items = record {
  filter = record {
    predicate = record { both = record { clear = record { passes = refl }; no_and = refl }; no_or = refl };
    no_where = refl;
  };
  sum = record { clear = record { passes = refl }; none = refl };
  no_comma = refl;
}

-- ---- lists

names_each : ReadsAll name IsNamed IsClear
names_each ls x items rest n takes clear = name_read n takes clear

names_read : {ls : List Lexeme} {ns : List (List ℕ)} (items rest : List Item) → IsListed IsNamed ls ns → Takes items ls rest → IsClear rest
    → sees_sign s.Comma rest ≡ false → listed name items ≡ Ok (ns, rest)
names_read items rest n takes clear none =
    listed_read name IsNamed IsClear names_each (λ items at. record { passes = refl }) n takes clear clear none

tuples_each : ReadsAll tuple IsTuple IsClear
tuples_each ls x items rest t takes clear = tuple_read t takes clear

tuples_read : {ls : List Lexeme} {ts : List (List Value)} (items rest : List Item) → IsListed IsTuple ls ts → Takes items ls rest → IsClear rest
    → sees_sign s.Comma rest ≡ false → listed tuple items ≡ Ok (ts, rest)
tuples_read items rest t takes clear none =
    listed_read tuple IsTuple IsClear tuples_each (λ items at. record { passes = refl }) t takes clear clear none

sets_each : ReadsAll assignment IsAssignment IsSumEnd
sets_each ls x items rest a takes end = assignment_read a takes end

sets_read : {ls : List Lexeme} {sets : List Assignment} (items rest : List Item) → IsListed IsAssignment ls sets → Takes items ls rest
    → IsSumEnd rest → sees_sign s.Comma rest ≡ false → listed assignment items ≡ Ok (sets, rest)
sets_read items rest a takes end none =
    listed_read assignment IsAssignment IsSumEnd sets_each (λ items at. record { clear = record { passes = refl }; none = refl }) a takes end.clear end none

-- ---- what is shown

columns_shown : {ls : List Lexeme} {ns : List (List ℕ)} (items : List Item) (o : List Item) → IsListed IsNamed ls ns → Takes items ls o
    → listed name items ≡ Ok (ns, o) → what items ≡ Ok (w.Columns ns, o)
unfolding what
columns_shown items o (g.last (g.name free)) (next takes) e = rw e refl
columns_shown items o (g.more (g.name free) others) (next takes) e = rw e refl

what_read : {ls : List Lexeme} {shown : What} (items rest : List Item) → IsWhat ls shown → Takes items ls rest → IsClear rest
    → sees_sign s.Comma rest ≡ false → what items ≡ Ok (shown, rest)
unfolding what skip expect_sign sees_sign same_sign name
what_read items rest g.all (next done) clear none = rw clear.passes refl
what_read items rest (g.columns ns) takes clear none = columns_shown items rest ns takes (names_read items rest ns takes clear none)
what_read items rest g.count (next (next (next (next done)))) clear none = rw clear.passes refl
what_read items rest (g.sum free) (next (next (next (next done)))) clear none = rw clear.passes refl

-- ---- statements on rows

select_read : {ws fs : List Lexeme} {n : List ℕ} {shown : What} {kept : Option Predicate} (items rest : List Item) → IsWhat ws shown
    → IsFilter fs kept → Takes items (Word k.Select ∷ ws ++ Word k.From ∷ Name n ∷ fs) rest → IsEnd rest
    → select items ≡ Ok (st.Select shown n kept, rest)
unfolding select same_sign
select_read {ws = ws} {fs = fs} {n = n} items rest shown kept takes end =
    let clear = end.sum.clear in
    let first = skip_step takes clear in
    let split = takes_split ws (Word k.From ∷ Name n ∷ fs) first.behind rest first.takes in
    let what = what_read first.behind split.mid shown split.front (clear_front split.back clear) (no_sign_at s.Comma split.back refl) in
    let from = word_step split.back clear in
    let table = name_step from.takes clear in
    rw (first.reads, what, from.reads, table.reads, filter_read table.behind rest kept table.takes end.filter) refl

insert_read : {ts : List Lexeme} {n : List ℕ} {tuples : List (List Value)} (items rest : List Item) → IsListed IsTuple ts tuples
    → Takes items (Word k.Insert ∷ Word k.Into ∷ Name n ∷ Word k.Values ∷ ts) rest → IsEnd rest → insert items ≡ Ok (st.Insert n tuples, rest)
unfolding insert
insert_read items rest tuples takes end =
    let clear = end.sum.clear in
    let first = skip_step takes clear in
    let into = word_step first.takes clear in
    let table = name_step into.takes clear in
    let values = word_step table.takes clear in
    rw (first.reads, into.reads, table.reads, values.reads, tuples_read values.behind rest tuples values.takes clear end.no_comma) refl

-- behind the assignments
record IsSetsEnd (items : List Item) : Type 0 where
  pub sum : IsSumEnd items
  pub no_comma : sees_sign s.Comma items ≡ false

sets_end : {fs : List Lexeme} {kept : Option Predicate} (items rest : List Item) → IsFilter fs kept → Takes items fs rest → IsEnd rest
    → IsSetsEnd items
unfolding sees_sign
sets_end items rest g.all done end = record { sum = end.sum; no_comma = end.no_comma }
sets_end items rest (g.where_ q) (next takes) end = record { sum = record { clear = record { passes = refl }; none = refl }; no_comma = refl }

update_read : {ts fs : List Lexeme} {n : List ℕ} {sets : List Assignment} {kept : Option Predicate} (items rest : List Item)
    → IsListed IsAssignment ts sets → IsFilter fs kept → Takes items (Word k.Update ∷ Name n ∷ Word k.Set ∷ ts ++ fs) rest → IsEnd rest
    → update items ≡ Ok (st.Update n sets kept, rest)
unfolding update
update_read {ts = ts} {fs = fs} items rest sets kept takes end =
    let clear = end.sum.clear in
    let first = skip_step takes clear in
    let table = name_step first.takes clear in
    let set = word_step table.takes clear in
    let split = takes_split ts fs set.behind rest set.takes in
    let behind = sets_end split.mid rest kept split.back end in
    let made = sets_read set.behind split.mid sets split.front behind.sum behind.no_comma in
    rw (first.reads, table.reads, set.reads, made, filter_read split.mid rest kept split.back end.filter) refl

delete_read : {fs : List Lexeme} {n : List ℕ} {kept : Option Predicate} (items rest : List Item) → IsFilter fs kept
    → Takes items (Word k.Delete ∷ Word k.From ∷ Name n ∷ fs) rest → IsEnd rest → delete items ≡ Ok (st.Delete n kept, rest)
unfolding delete
delete_read items rest kept takes end =
    let clear = end.sum.clear in
    let first = skip_step takes clear in
    let from = word_step first.takes clear in
    let table = name_step from.takes clear in
    rw (first.reads, from.reads, table.reads, filter_read table.behind rest kept table.takes end.filter) refl

-- ---- definitions

-- behind `, PRIMARY`
abbrev key_lexemes : List Lexeme → List ℕ → List Lexeme
key_lexemes ks bank =
    Word k.Key ∷ Symbol s.Open ∷ (ks ++ Symbol s.Close ∷ Symbol s.Close ∷ Word k.In ∷ Name bank ∷ [])

abbrev key_reader : List ℕ → List ColumnText → Reader Statement
key_reader table made = do
  expect_word k.Key
  expect_sign s.Open
  key ← listed name
  expect_sign s.Close
  expect_sign s.Close
  expect_word k.In
  bank ← name
  pure (st.CreateTable table made key bank)

key_read : {ks : List Lexeme} {bank : List ℕ} {key : List (List ℕ)} (n : List ℕ) (made : List ColumnText) (items rest : List Item)
    → IsListed IsNamed ks key → Takes items (key_lexemes ks bank) rest → IsClear rest
    → key_reader n made items ≡ Ok (st.CreateTable n made key bank, rest)
unfolding same_sign
key_read {ks = ks} {bank = bank} {key = key} n made items rest named takes clear =
    let behind_keys : List Lexeme = Symbol s.Close ∷ Symbol s.Close ∷ Word k.In ∷ Name bank ∷ [] in
    let word = word_step takes clear in
    let opened = sign_step word.takes clear in
    let split = takes_split ks behind_keys opened.behind rest opened.takes in
    let names = names_read opened.behind split.mid named split.front (clear_front split.back clear) (no_sign_at s.Comma split.back refl) in
    rw (word.reads, opened.reads, names) (bank_read split.mid split.back)
  where
    bank_read : (mid : List Item) → Takes mid (Symbol s.Close ∷ Symbol s.Close ∷ Word k.In ∷ Name bank ∷ []) rest
        → (expect_sign s.Close >> (expect_sign s.Close >> (expect_word k.In >> (name >>= (λ bank. pure (st.CreateTable n made key bank)))))) mid
        ≡ Ok (st.CreateTable n made key bank, rest)
    bank_read mid takes =
        let close = sign_step takes clear in
        let closed = sign_step close.takes clear in
        let within = word_step closed.takes clear in
        let bank = name_step within.takes clear in
        rw (close.reads, closed.reads, within.reads, bank.reads, stays {items = bank.behind} bank.takes) refl

table_read : {cs ks : List Lexeme} {n bank : List ℕ} {made : List ColumnText} {key : List (List ℕ)} (items rest : List Item)
    → IsListed IsColumn cs made → IsListed IsNamed ks key
    → Takes items
    (Word k.Table ∷ Name n ∷ Symbol s.Open ∷ cs ++ Symbol s.Comma ∷ Word k.Primary ∷ Word k.Key ∷ Symbol s.Open ∷ ks ++ Symbol s.Close
    ∷ Symbol s.Close ∷ Word k.In ∷ Name bank ∷ [])
    rest
    → IsClear rest → create_table items ≡ Ok (st.CreateTable n made key bank, rest)
unfolding create_table
table_read {cs = cs} {ks = ks} {n = n} {bank = bank} {made = made} items rest columns key takes clear =
    let table = word_step takes clear in
    let called = name_step table.takes clear in
    let opened = sign_step called.takes clear in
    let regrouped =
    subst (λ ls. Takes opened.behind ls rest)
    (append_assoc cs (Symbol s.Comma ∷ Word k.Primary ∷ Word k.Key ∷ Symbol s.Open ∷ ks)
    (Symbol s.Close ∷ Symbol s.Close ∷ Word k.In ∷ Name bank ∷ [])) opened.takes
    in
    let read = columns_read (key_lexemes ks bank) opened.behind rest columns regrouped clear in
    rw (table.reads, called.reads, opened.reads, read.reads) (key_read n made read.behind rest key read.takes clear)

create_table_read : {cs ks : List Lexeme} {n bank : List ℕ} {made : List ColumnText} {key : List (List ℕ)} (items rest : List Item)
    → IsListed IsColumn cs made → IsListed IsNamed ks key
    → Takes items
    (Word k.Create ∷ Word k.Table ∷ Name n ∷ Symbol s.Open ∷ cs ++ Symbol s.Comma ∷ Word k.Primary ∷ Word k.Key ∷ Symbol s.Open
    ∷ ks ++ Symbol s.Close ∷ Symbol s.Close ∷ Word k.In ∷ Name bank ∷ [])
    rest
    → IsClear rest → create items ≡ Ok (st.CreateTable n made key bank, rest)
unfolding create skip
create_table_read items rest made key (next (next {at = at} {items = behind} takes)) clear =
    table_read (Stands (Word k.Table) at ∷ behind) rest made key (next takes) clear

create_databank_read : {n : List ℕ} (items rest : List Item) → Takes items (Word k.Create ∷ Word k.Databank ∷ Name n ∷ []) rest → IsClear rest
    → create items ≡ Ok (st.CreateDatabank n, rest)
unfolding create skip name
create_databank_read items rest (next (next (next done))) clear = rw clear.passes refl

create_shadow_read : {n bank : List ℕ} (items rest : List Item) → Takes items (Word k.Create ∷ Word k.Shadow ∷ Name n ∷ Word k.For ∷ Name bank ∷ []) rest
    → IsClear rest → create items ≡ Ok (st.CreateShadow n bank, rest)
unfolding create skip name expect_word sees_word same_word
create_shadow_read items rest (next (next (next (next (next done))))) clear = rw clear.passes refl

create_backup_read : {n bank : List ℕ} (items rest : List Item) → Takes items (Word k.Create ∷ Word k.Backup ∷ Name n ∷ Word k.Of ∷ Name bank ∷ []) rest
    → IsClear rest → create items ≡ Ok (st.CreateBackup n bank, rest)
unfolding create skip name expect_word sees_word same_word
create_backup_read items rest (next (next (next (next (next done))))) clear = rw clear.passes refl

drop_table_read : {n : List ℕ} (items rest : List Item) → Takes items (Word k.Drop ∷ Word k.Table ∷ Name n ∷ []) rest → IsClear rest
    → drop_object items ≡ Ok (st.DropTable n, rest)
unfolding drop_object skip name
drop_table_read items rest (next (next (next done))) clear = rw clear.passes refl

drop_shadow_read : {n : List ℕ} (items rest : List Item) → Takes items (Word k.Drop ∷ Word k.Shadow ∷ Name n ∷ []) rest → IsClear rest
    → drop_object items ≡ Ok (st.DropShadow n, rest)
unfolding drop_object skip name
drop_shadow_read items rest (next (next (next done))) clear = rw clear.passes refl

drop_backup_read : {n : List ℕ} (items rest : List Item) → Takes items (Word k.Drop ∷ Word k.Backup ∷ Name n ∷ []) rest → IsClear rest
    → drop_object items ≡ Ok (st.DropBackup n, rest)
unfolding drop_object skip name expect_word sees_word same_word
drop_backup_read items rest (next (next (next done))) clear = rw clear.passes refl

shadow_online_read : {n : List ℕ} (items rest : List Item) → Takes items (Word k.Set ∷ Word k.Shadow ∷ Name n ∷ Word k.Online ∷ []) rest
    → IsClear rest → set_object items ≡ Ok (st.ShadowOnline n, rest)
unfolding set_object set_shadow skip name eat_word sees_word same_word
shadow_online_read items rest (next (next (next (next done)))) clear = rw clear.passes refl

shadow_offline_read : {n : List ℕ} (items rest : List Item) → Takes items (Word k.Set ∷ Word k.Shadow ∷ Name n ∷ Word k.Offline ∷ []) rest
    → IsClear rest → set_object items ≡ Ok (st.ShadowOffline n, rest)
unfolding set_object set_shadow skip name eat_word expect_word sees_word same_word
shadow_offline_read items rest (next (next (next (next done)))) clear = rw clear.passes refl

backup_ready_read : {n : List ℕ} (items rest : List Item) → Takes items (Word k.Set ∷ Word k.Backup ∷ Name n ∷ Word k.Ready ∷ []) rest
    → IsClear rest → set_object items ≡ Ok (st.BackupReady n, rest)
unfolding set_object set_backup skip name expect_word sees_word same_word
backup_ready_read items rest (next (next (next (next done)))) clear = rw clear.passes refl

shadow_master_read : {n : List ℕ} (items rest : List Item)
    → Takes items (Word k.Alter ∷ Word k.Shadow ∷ Name n ∷ Word k.To ∷ Word k.Master ∷ []) rest → IsClear rest
    → alter items ≡ Ok (st.ShadowMaster n, rest)
unfolding alter skip name expect_word sees_word same_word
shadow_master_read items rest (next (next (next (next (next done))))) clear = rw clear.passes refl

restore_read : {bank n : List ℕ} (items rest : List Item) → Takes items (Word k.Restore ∷ Name bank ∷ Word k.From ∷ Name n ∷ []) rest
    → IsClear rest → restore items ≡ Ok (st.Restore bank n, rest)
unfolding restore skip name expect_word sees_word same_word
restore_read items rest (next (next (next (next done)))) clear = rw clear.passes refl

-- ---- a statement

-- the first word tells which reader goes on
by_first : {word : Keyword} {ls : List Lexeme} (items rest : List Item) → Takes items (Word word ∷ ls) rest → statement items ≡ by_word word items
unfolding statement
by_first items rest (next takes) = refl

alone_read : (word : Keyword) (found : Statement) (items rest : List Item) → Takes items (Word word ∷ []) rest → IsClear rest
    → (skip >> pure found) items ≡ Ok (found, rest)
unfolding skip
alone_read word found items rest (next done) clear = rw clear.passes refl

pub statement_read : {ls : List Lexeme} {a : Statement} (items rest : List Item) → IsStatement ls a → Takes items ls rest → IsEnd rest
    → statement items ≡ Ok (a, rest)
statement_read items rest g.start takes end = by_first items rest takes ∙ alone_read k.Start st.Start items rest takes end.sum.clear
statement_read items rest g.commit takes end = by_first items rest takes ∙ alone_read k.Commit st.Commit items rest takes end.sum.clear
statement_read items rest g.rollback takes end = by_first items rest takes ∙ alone_read k.Rollback st.Rollback items rest takes end.sum.clear
statement_read items rest (g.select shown free kept) takes end = by_first items rest takes ∙ select_read items rest shown kept takes end
statement_read items rest (g.insert free tuples) takes end = by_first items rest takes ∙ insert_read items rest tuples takes end
statement_read items rest (g.update free sets kept) takes end = by_first items rest takes ∙ update_read items rest sets kept takes end
statement_read items rest (g.delete free kept) takes end = by_first items rest takes ∙ delete_read items rest kept takes end
statement_read items rest (g.create_databank free) takes end = by_first items rest takes ∙ create_databank_read items rest takes end.sum.clear
statement_read items rest (g.create_table free made key also) takes end =
    by_first items rest takes ∙ create_table_read items rest made key takes end.sum.clear
statement_read items rest (g.drop_table free) takes end = by_first items rest takes ∙ drop_table_read items rest takes end.sum.clear
statement_read items rest (g.create_shadow free also) takes end = by_first items rest takes ∙ create_shadow_read items rest takes end.sum.clear
statement_read items rest (g.shadow_online free) takes end = by_first items rest takes ∙ shadow_online_read items rest takes end.sum.clear
statement_read items rest (g.shadow_offline free) takes end = by_first items rest takes ∙ shadow_offline_read items rest takes end.sum.clear
statement_read items rest (g.shadow_master free) takes end = by_first items rest takes ∙ shadow_master_read items rest takes end.sum.clear
statement_read items rest (g.drop_shadow free) takes end = by_first items rest takes ∙ drop_shadow_read items rest takes end.sum.clear
statement_read items rest (g.create_backup free also) takes end = by_first items rest takes ∙ create_backup_read items rest takes end.sum.clear
statement_read items rest (g.backup_ready free) takes end = by_first items rest takes ∙ backup_ready_read items rest takes end.sum.clear
statement_read items rest (g.drop_backup free) takes end = by_first items rest takes ∙ drop_backup_read items rest takes end.sum.clear
statement_read items rest (g.restore free also) takes end = by_first items rest takes ∙ restore_read items rest takes end.sum.clear

-- ---- a text of one

whole_bare : (items : List Item) (a : Statement) → statement items ≡ Ok (a, []) → whole items ≡ Ok (a, [])
unfolding whole eat_sign sees_sign finish
whole_bare items a e = rw e refl

whole_ended : (items mid : List Item) (a : Statement) → statement items ≡ Ok (a, mid) → Takes mid (Symbol s.Semicolon ∷ []) []
    → whole items ≡ Ok (a, [])
unfolding whole eat_sign sees_sign same_sign skip finish
whole_ended items mid a e (next done) = rw e refl

end_at : (mid : List Item) → Takes mid (Symbol s.Semicolon ∷ []) [] → IsEnd mid
end_at mid (next {at = at} {items = items} takes) = at_semicolon at items

-- what spells a statement is read as that statement
pub reads_whole : {ls : List Lexeme} {a : Statement} (items : List Item) → Spells ls a → Takes items ls [] → whole items ≡ Ok (a, [])
reads_whole items (g.bare {statement = a} is) takes = whole_bare items a (statement_read items [] is takes at_nothing)
reads_whole items (g.ended {ts = ts} {statement = a} is) takes =
    let split = takes_split ts (Symbol s.Semicolon ∷ []) items [] takes in
    whole_ended items split.mid a (statement_read items split.mid is split.front (end_at split.mid split.back)) split.back

-- ---- lexemes as items, each at the place 0

unfoldable pub as_items : List Lexeme → List Item
as_items [] = []
as_items (l ∷ ls) = Stands l 0 ∷ as_items ls

pub takes_items : (ls : List Lexeme) → Takes (as_items ls) ls []
unfolding as_items
takes_items [] = done
takes_items (l ∷ ls) = next (takes_items ls)

pub reads_lexemes : (ls : List Lexeme) (a : Statement) → Spells ls a → whole (as_items ls) ≡ Ok (a, [])
reads_lexemes ls a is = reads_whole (as_items ls) is (takes_items ls)
