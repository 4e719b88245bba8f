-- What a definition comes to, by what refuses it.
use Rattle.std.proofs.Common.{◌≡◌, ℕ, Bool, true, false, ◌==◌, cond, List, [], ◌∷◌, refl, sym, ap, subst, ◌∙◌, Option, Some, None, option_map, codes}
use Rattle.std.specs.Option.{option_or, option_and_then}
use Rattle.std.specs.FinMap.{get}
use Rattle.odb_model.specs.declared.write.Write.{Write}
use Rattle.odb_model.specs.declared.reply.Reply.{Reply}
use Rattle.odb_model.specs.declared.reply.Reply.TheVariants.{NameTaken, NotEmpty, NoNumberLeft, Fixed, NoColumn, ColumnCount, TooLong}
use Rattle.odb_model.specs.declared.statement.ColumnText.{ColumnText}
use Rattle.odb_model.specs.State.{State}
use Rattle.odb_model.specs.Table.{Table, is_named, kv}
use Rattle.odb_model.specs.Dictionary.{table_of, table_in_row, in_dictionary, has_name_form}
use Rattle.odb_model.specs.Binding.{refuse_if}
use Rattle.odb_model.specs.Databanks.{Databank, next_number}
use Rattle.odb_catalog.specs.declared.error.CatalogError.{CatalogError}
use Rattle.odb_catalog.specs.Planning.{IsRefusal, refusal_by}
use Rattle.odb_model.proofs.Covering.{same_number}
use Rattle.odb_catalog.proofs.Names.{inside_some}
use Rattle.odb_model.specs.Definitions.{Refused, Plans, creation_refusal, plan_unless, creation_writes, created_in, drop_refusal, dropped, dictionary_write, has_row}

-- the refusals of a CREATE TABLE, by their tests
abbrev pub five : Bool → Bool → Bool → Bool → Bool → Option Reply
five a b c d e =
    option_or (refuse_if a NameTaken) (option_or (refuse_if b ColumnCount) (option_or (refuse_if c TooLong) (option_or (refuse_if d NoColumn) (refuse_if e NoNumberLeft))))

module _ (ws : List Write) where
  pub first : (a b c d e : Bool) → a ≡ true → plan_unless (five a b c d e) ws ≡ Refused NameTaken
  first true b c d e p = refl
  first false b c d e p = cc

  pub second : (a b c d e : Bool) → a ≡ false → b ≡ true → plan_unless (five a b c d e) ws ≡ Refused ColumnCount
  second false true c d e p q = refl
  second false false c d e p q = cc
  second true b c d e p q = cc

  pub third : (a b c d e : Bool) → a ≡ false → b ≡ false → c ≡ true → plan_unless (five a b c d e) ws ≡ Refused TooLong
  third false false true d e p q r = refl
  third false false false d e p q r = cc
  third false true c d e p q r = cc
  third true b c d e p q r = cc

  pub fourth : (a b c d e : Bool) → a ≡ false → b ≡ false → c ≡ false → d ≡ true → plan_unless (five a b c d e) ws ≡ Refused NoColumn
  fourth false false false true e p q r s = refl
  fourth false false false false e p q r s = cc
  fourth false false true d e p q r s = cc
  fourth false true c d e p q r s = cc
  fourth true b c d e p q r s = cc

  pub fifth : (a b c d e : Bool) → a ≡ false → b ≡ false → c ≡ false → d ≡ false → e ≡ true → plan_unless (five a b c d e) ws ≡ Refused NoNumberLeft
  fifth false false false false true p q r s t = refl
  fifth false false false false false p q r s t = cc
  fifth false false false true e p q r s t = cc
  fifth false false true d e p q r s t = cc
  fifth false true c d e p q r s t = cc
  fifth true b c d e p q r s t = cc

  pub none : (a b c d e : Bool) → a ≡ false → b ≡ false → c ≡ false → d ≡ false → e ≡ false → plan_unless (five a b c d e) ws ≡ Plans ws
  none false false false false false p q r s t = refl
  none false false false false true p q r s t = cc
  none false false false true e p q r s t = cc
  none false false true d e p q r s t = cc
  none false true c d e p q r s t = cc
  none true b c d e p q r s t = cc

-- where none comes, none of the tests holds
pub none_of : (a b c d e : Bool) → five a b c d e ≡ None → (a ≡ false) × (b ≡ false) × (c ≡ false) × (d ≡ false) × (e ≡ false)
none_of false false false false false p = (refl, refl, refl, refl, refl)
none_of false false false false true p = cc
none_of false false false true e p = cc
none_of false false true d e p = cc
none_of false true c d e p = cc
none_of true b c d e p = cc

-- a plan that is written was refused by nothing
pub planned_none : (o : Option Reply) (ws writes : List Write) → plan_unless o ws ≡ Plans writes → (o ≡ None) × (ws ≡ writes)
planned_none None ws writes e = (refl, (cc))
planned_none (Some r) ws writes e = cc

-- a CREATE TABLE that is planned has its databank
pub planned_in : (s : State) (o : Option Databank) (name : List ℕ) (columns : List ColumnText) (key : List (List ℕ)) (writes : List Write) → created_in s o name columns key ≡ Plans writes
    → (b : Databank) × (o ≡ Some b) × ((b.number == 2) ≡ false) × (creation_refusal s name columns key ≡ None) × (creation_writes (next_number s) b.number name columns key ≡ writes)
planned_in s None name columns key writes e = cc
planned_in s (Some b) name columns key writes e = by (b.number == 2) refl e
  where
    by : (t : Bool) → (b.number == 2) ≡ t
        → cond t (Refused Fixed) (plan_unless (creation_refusal s name columns key) (creation_writes (next_number s) b.number name columns key)) ≡ Plans writes
        → (d : Databank) × (Some b ≡ Some d) × ((d.number == 2) ≡ false) × (creation_refusal s name columns key ≡ None) × (creation_writes (next_number s) d.number name columns key ≡ writes)
    by true is f = cc
    by false is f = let parts = planned_none (creation_refusal s name columns key) (creation_writes (next_number s) b.number name columns key) writes f in (b, refl, is, parts.0, parts.1)

two_of : (a b : Bool) → option_or (refuse_if a Fixed) (refuse_if b NotEmpty) ≡ None → (a ≡ false) × (b ≡ false)
two_of false false e = (refl, refl)
two_of false true e = cc
two_of true b e = cc

-- a DROP TABLE that is planned has its table, which isn't KV
pub planned_drop : (s : State) (o : Option Table) (name : List ℕ) (writes : List Write) → dropped s o name ≡ Plans writes
    → (t : Table) × (o ≡ Some t) × (is_named name (codes "KV") ≡ false) × (dictionary_write 2 name None ∷ [] ≡ writes)
planned_drop s None name writes e = cc
planned_drop s (Some t) name writes e =
    let parts = planned_none (drop_refusal s name t) (dictionary_write 2 name None ∷ []) writes e in
    (t, refl, (two_of (is_named name (codes "KV")) (has_row s t) parts.0).0, parts.1)

-- the name of a table other than KV has its form
pub form_of : (s : State) (name : List ℕ) (t : Table) → table_of s name ≡ Some t → is_named name (codes "KV") ≡ false → has_name_form name ≡ true
form_of s name t found other = by (has_name_form name) (ap (λ b. cond b (Some kv) (cond (has_name_form name) (option_and_then table_in_row (get s (in_dictionary name))) None)) (sym other) ∙ found)
  where
    by : (b : Bool) → cond b (option_and_then table_in_row (get s (in_dictionary name))) None ≡ Some t → b ≡ true
    by true e = refl
    by false e = cc

-- a refusal by the text alone
pub by_text : (ws : List Write) (a b c d e : Bool) (error : CatalogError) → a ≡ false → refusal_by b c d ≡ Some error → IsRefusal (plan_unless (five a b c d e) ws) error
by_text ws false true c d e error p q = subst (IsRefusal (Refused ColumnCount)) (inside_some _ error q) refl
by_text ws false false true d e error p q = subst (IsRefusal (Refused TooLong)) (inside_some _ error q) refl
by_text ws false false false true e error p q = subst (IsRefusal (Refused NoColumn)) (inside_some _ error q) refl
by_text ws false false false false e error p q = cc
by_text ws true b c d e error p q = cc

pub none_by_text : (b c d : Bool) → refusal_by b c d ≡ None → (b ≡ false) × (c ≡ false) × (d ≡ false)
none_by_text false false false q = (refl, refl, refl)
none_by_text false false true q = cc
none_by_text false true d q = cc
none_by_text true c d q = cc

-- in a databank of this number, which isn't SYSDB
pub bank_there : (s : State) (o : Option Databank) (n : ℕ) (name : List ℕ) (columns : List ColumnText) (key : List (List ℕ)) → Some n ≡ option_map (λ b. b.number) o → (n == 2) ≡ false
    → created_in s o name columns key ≡ plan_unless (creation_refusal s name columns key) (creation_writes (next_number s) n name columns key)
bank_there s None n name columns key e other = cc
bank_there s (Some b) n name columns key e other =
    let same : n ≡ b.number = inside_some n b.number e in
    subst (λ m. created_in s (Some b) name columns key ≡ plan_unless (creation_refusal s name columns key) (creation_writes (next_number s) m name columns key)) (sym same)
    (ap (λ t. cond t (Refused Fixed) (plan_unless (creation_refusal s name columns key) (creation_writes (next_number s) b.number name columns key))) (ap (λ m. m == 2) (sym same) ∙ other))

pub test_false : (m n : ℕ) → (m ≡ n → ⊥) → (m == n) ≡ false
test_false m n differ = elim (m == n) as (λ b. (m == n) ≡ b → b ≡ false) [ true ↦ λ e. absurd (differ (same_number m n e)) | false ↦ λ e. refl ] refl
