-- The replies that refuse a definition.
use Rattle.std.proofs.Common.{◌≡◌, ℕ, Bool, true, false, ◌||◌, ◌==◌, nat_lt, not, cond, List, length, codes, refl, subst, Option, Some, None, is_some}
use Rattle.std.specs.Option.{option_or}
use Rattle.std.specs.List.{list_any, list_all}
use Rattle.odb_model.specs.declared.write.Write.{Write}
use Rattle.odb_model.specs.declared.reply.Reply.{Reply}
use Rattle.odb_model.specs.declared.reply.Reply.TheVariants.{NotYet, NoTable, NoBank, NameTaken, NotEmpty, NoNumberLeft, Fixed, NoColumn, ColumnCount, TooLong}
use Rattle.odb_model.specs.declared.statement.ColumnText.{ColumnText}
use Rattle.odb_model.specs.declared.statement.Statement.{Statement}
use Rattle.odb_model.specs.declared.statement.Statement.TheVariants.{CreateTable, DropTable}
use Rattle.odb_model.specs.State.{State}
use Rattle.odb_model.specs.Table.{Table, is_named}
use Rattle.odb_model.specs.Dictionary.{names_differ, table_of}
use Rattle.odb_model.specs.Binding.{refuse_if}
use Rattle.odb_model.specs.Databanks.{Databank, sysdb, databank_named, next_number}
use Rattle.odb_model.specs.Definitions.{Planned, Refused, Plans, numbers_end, text_names, is_among, is_out_of_range, creation_refusal, plan_unless, creation_writes, created_in, has_row, drop_refusal, dropped, planned}

unfoldable pub is_refusal : Reply → Bool
is_refusal NotYet = true
is_refusal NoTable = true
is_refusal NoBank = true
is_refusal NameTaken = true
is_refusal NotEmpty = true
is_refusal NoNumberLeft = true
is_refusal Fixed = true
is_refusal NoColumn = true
is_refusal ColumnCount = true
is_refusal TooLong = true
is_refusal reply = false

-- a refusal, where there is one
abbrev IsRefusal : Option Reply → Type 0
IsRefusal None = Unit {0}
IsRefusal (Some reply) = is_refusal reply ≡ true

abbrev pub RefusesSo : Planned → Type 0
RefusesSo (Refused reply) = is_refusal reply ≡ true
RefusesSo (Plans writes) = Unit {0}

or_so : (o p : Option Reply) → IsRefusal o → IsRefusal p → IsRefusal (option_or o p)
or_so None p a b = b
or_so (Some r) p a b = a

if_so : (b : Bool) (reply : Reply) → is_refusal reply ≡ true → IsRefusal (refuse_if b reply)
if_so true reply e = e
if_so false reply e = tt

unless_so : (o : Option Reply) (writes : List Write) → IsRefusal o → RefusesSo (plan_unless o writes)
unless_so None writes e = tt
unless_so (Some reply) writes e = e

creation_so : (s : State) (name : List ℕ) (columns : List ColumnText) (key : List (List ℕ)) → IsRefusal (creation_refusal s name columns key)
unfolding is_refusal
creation_so s name columns key =
    let taken = is_some (table_of s name) || not (names_differ (text_names columns)) in
    let many = nat_lt 15 (length columns) || not (names_differ key) in
    let long = list_any (λ (c : ColumnText). is_out_of_range c.length) columns in
    let unknown = not (list_all (is_among (text_names columns)) key) in
    let used = next_number s == numbers_end in
    or_so (refuse_if taken NameTaken) (option_or (refuse_if many ColumnCount) (option_or (refuse_if long TooLong) (option_or (refuse_if unknown NoColumn) (refuse_if used NoNumberLeft)))) (if_so taken NameTaken refl)
    (or_so (refuse_if many ColumnCount) (option_or (refuse_if long TooLong) (option_or (refuse_if unknown NoColumn) (refuse_if used NoNumberLeft))) (if_so many ColumnCount refl)
    (or_so (refuse_if long TooLong) (option_or (refuse_if unknown NoColumn) (refuse_if used NoNumberLeft)) (if_so long TooLong refl)
    (or_so (refuse_if unknown NoColumn) (refuse_if used NoNumberLeft) (if_so unknown NoColumn refl) (if_so used NoNumberLeft refl))))

created_so : (s : State) (o : Option Databank) (name : List ℕ) (columns : List ColumnText) (key : List (List ℕ)) → RefusesSo (created_in s o name columns key)
unfolding is_refusal
created_so s None name columns key = refl
created_so s (Some b) name columns key =
    let writes = creation_writes (next_number s) b.number name columns key in
    elim (b.number == sysdb.number) as (λ (c : Bool). RefusesSo (cond c (Refused Fixed) (plan_unless (creation_refusal s name columns key) writes))) [
      | true ↦ refl
      | false ↦ unless_so (creation_refusal s name columns key) writes (creation_so s name columns key)
    ]

dropped_so : (s : State) (o : Option Table) (name : List ℕ) → RefusesSo (dropped s o name)
unfolding is_refusal
dropped_so s None name = refl
dropped_so s (Some t) name =
    unless_so (drop_refusal s name t) _
    (or_so (refuse_if (is_named name (codes "KV")) Fixed) (refuse_if (has_row s t) NotEmpty) (if_so (is_named name (codes "KV")) Fixed refl) (if_so (has_row s t) NotEmpty refl))

pub planned_so : (st : Statement) (s : State) → RefusesSo (planned st s)
unfolding is_refusal
planned_so (CreateTable name columns key bank) s = created_so s (databank_named s bank) name columns key
planned_so (DropTable name) s = dropped_so s (table_of s name) name
planned_so other s = refl

-- no other reply refuses a definition
pub not_refused : (st : Statement) (s : State) (why : Reply) → is_refusal why ≡ false → planned st s ≡ Refused why → ⊥
not_refused st s why other same = let so : is_refusal why ≡ true = subst RefusesSo same (planned_so st s) in cc
