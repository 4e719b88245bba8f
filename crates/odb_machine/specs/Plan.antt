-- What a definition asks for: its writes into the dictionary, and its work on the copies; or what it is
-- refused for. Those of tables are `planned`; here are the others too. The rules and the order of the
-- refusals are this project's own.
use Rattle.std.specs.Prelude.{ℕ, pos, Bool, ◌==◌, ◌&&◌, List, [], ◌∷◌, map, find, is_some, Option, Some, None, if◌then◌else◌}
use Rattle.std.specs.Option.{option_or}
use Rattle.odb_values.specs.declared.value.Value.{Value}
use Rattle.odb_values.specs.declared.value.Value.TheVariants.{Int}
use Rattle.odb_model.specs.declared.write.Write.{Write}
use Rattle.odb_model.specs.declared.reply.Reply.{Reply}
use Rattle.odb_model.specs.declared.reply.Reply.TheVariants.{NoBank, NameTaken, NoCopyLeft, NoNumberLeft, NoShadow, NoBackup, Fixed}
use Rattle.odb_model.specs.declared.statement.Statement.{Statement}
use Rattle.odb_model.specs.declared.statement.Statement.TheVariants as statement
use Rattle.odb_model.specs.State.{State}
use Rattle.odb_model.specs.Table.{is_named}
use Rattle.odb_model.specs.Binding.{refuse_if}
use Rattle.odb_model.specs.Databanks.{Databank, databank_kind, sysdb, databanks, databank_named, next_number}
use Rattle.odb_model.specs.Definitions.{Planned, Refused, Plans, dictionary_write, number_write, numbers_end, planned}
use Rattle.odb_model.specs.Shadows.{Standing, New, Online, Offline, Ready, NamedCopy, number_of, shadow_kind, backup_kind, copies_of_kind, copy_named, is_full}

-- what a definition does to the copies, each by its file
pub data Work : Type 0 where
  Nothing : Work
  -- the file of a new databank is made
  Format : ℕ → Work
  -- there is a new copy in this file, of this databank
  Blank : ℕ → ℕ → Work
  GoesOnline : ℕ → Work
  GoesOffline : ℕ → Work
  GetsReady : ℕ → Work
  -- it is its databank's master from now on
  BecomesMaster : ℕ → Work
  Drop : ℕ → Work

pub data Plan : Type 0 where
  RefusedFor : Reply → Plan
  Lays : List Write → Work → Plan

-- refused, or planned so
abbrev pub lays_unless : Option Reply → List Write → Work → Plan
lays_unless None writes work = Lays writes work
lays_unless (Some reply) writes work = RefusedFor reply

-- a definition that works on no copy
abbrev pub without_work : Planned → Plan
without_work (Refused reply) = RefusedFor reply
without_work (Plans writes) = Lays writes Nothing

-- a row of numbers
abbrev pub number_row : List ℕ → List Value
number_row numbers = map (λ n. Int (pos n)) numbers

-- the option of a databank whose entries LOGDB gets
abbrev pub log_option : ℕ
log_option = 1

-- the row of a databank: its number, its option, and the file of its master
abbrev pub databank_write : List ℕ → ℕ → ℕ → Write
databank_write name number file =
    dictionary_write databank_kind name (Some (number_row (number ∷ log_option ∷ file ∷ [])))

-- the row of a shadow or a backup, by its kind: its file, its databank, and its standing
abbrev pub copy_write : ℕ → List ℕ → ℕ → ℕ → Standing → Write
copy_write kind name file bank standing =
    dictionary_write kind name (Some (number_row (file ∷ bank ∷ number_of standing ∷ [])))

-- What refuses a new object that is or has a copy, in this order: one has the name; there are sixteen
-- copies; no number is left
abbrev pub new_copy_refusal : State → Bool → Option Reply
new_copy_refusal s taken =
    option_or (refuse_if taken NameTaken)
    (option_or (refuse_if (is_full s) NoCopyLeft)
    (refuse_if (next_number s == numbers_end) NoNumberLeft))

-- CREATE DATABANK takes one number, for the databank and for its file
abbrev pub databank_plan : State → List ℕ → Plan
databank_plan s name =
    lays_unless (new_copy_refusal s (is_some (databank_named s name)))
    (databank_write name (next_number s) (next_number s) ∷ number_write (next_number s) ∷ [])
    (Format (next_number s))

-- on a databank that is there, and isn't SYSDB
abbrev pub on_databank_by : Option Databank → (Databank → Plan) → Plan
on_databank_by None go = RefusedFor NoBank
on_databank_by (Some b) go = if b.number == sysdb.number then RefusedFor Fixed else go b

abbrev pub on_databank : State → List ℕ → (Databank → Plan) → Plan
on_databank s name go = on_databank_by (databank_named s name) go

-- CREATE SHADOW and CREATE BACKUP, by the kind of the row, take one number, for the file
abbrev pub copy_plan : ℕ → State → List ℕ → Databank → Plan
copy_plan kind s name b =
    lays_unless (new_copy_refusal s (is_some (copy_named (copies_of_kind kind s) name)))
    (copy_write kind name (next_number s) b.number New ∷ number_write (next_number s) ∷ [])
    (Blank (next_number s) b.number)

-- there is no such shadow, or no such backup
abbrev pub no_such : ℕ → Reply
no_such kind = if kind == shadow_kind then NoShadow else NoBackup

abbrev pub on_named_by : ℕ → Option NamedCopy → (NamedCopy → Plan) → Plan
on_named_by kind None go = RefusedFor (no_such kind)
on_named_by kind (Some c) go = go c

-- on a shadow or a backup that is there
abbrev pub on_named : ℕ → State → List ℕ → (NamedCopy → Plan) → Plan
on_named kind s name go = on_named_by kind (copy_named (copies_of_kind kind s) name) go

-- SET SHADOW and SET BACKUP: the copy has this standing
abbrev pub standing_plan : ℕ → Standing → Work → NamedCopy → Plan
standing_plan kind standing work c =
    Lays (copy_write kind c.name c.file c.bank standing ∷ []) work

-- DROP SHADOW and DROP BACKUP: its row goes
abbrev pub drop_plan : ℕ → NamedCopy → Plan
drop_plan kind c = Lays (dictionary_write kind c.name None ∷ []) (Drop c.file)

-- ALTER SHADOW TO MASTER and RESTORE: the file is the databank's master, and the copy's row goes
abbrev pub master_plan : ℕ → NamedCopy → Databank → Plan
master_plan kind c b =
    Lays (databank_write b.name b.number c.file ∷ dictionary_write kind c.name None ∷ [])
    (BecomesMaster c.file)

-- a copy whose databank isn't there counts as absent, so this refusal never comes
abbrev pub master_plan_by : ℕ → NamedCopy → Option Databank → Plan
master_plan_by kind c None = RefusedFor NoBank
master_plan_by kind c (Some b) = master_plan kind c b

-- the databank of a copy, by its number
abbrev pub databank_of_copy : State → NamedCopy → Option Databank
databank_of_copy s c = find (λ b. b.number == c.bank) (databanks s)

-- the backup of this name, where it is one of this databank
abbrev pub backup_named : State → List ℕ → Databank → Option NamedCopy
backup_named s name b =
    find (λ c. is_named name c.name && (c.bank == b.number)) (copies_of_kind backup_kind s)

-- RESTORE of a databank from a backup of it
abbrev pub restore_plan : State → List ℕ → Databank → Plan
restore_plan s name b =
    on_named_by backup_kind (backup_named s name b) (λ c. master_plan backup_kind c b)

-- What a definition comes to on a state, by the dictionary alone. A statement that is no definition is
-- refused as `planned` has it
abbrev pub plan : Statement → State → Plan
plan (statement.CreateDatabank name) s = databank_plan s name
plan (statement.CreateShadow name bank) s = on_databank s bank (copy_plan shadow_kind s name)
plan (statement.ShadowOnline name) s =
    on_named shadow_kind s name (λ c. standing_plan shadow_kind Online (GoesOnline c.file) c)
plan (statement.ShadowOffline name) s =
    on_named shadow_kind s name (λ c. standing_plan shadow_kind Offline (GoesOffline c.file) c)
plan (statement.ShadowMaster name) s =
    on_named shadow_kind s name (λ c. master_plan_by shadow_kind c (databank_of_copy s c))
plan (statement.DropShadow name) s = on_named shadow_kind s name (drop_plan shadow_kind)
plan (statement.CreateBackup name bank) s = on_databank s bank (copy_plan backup_kind s name)
plan (statement.BackupReady name) s =
    on_named backup_kind s name (λ c. standing_plan backup_kind Ready (GetsReady c.file) c)
plan (statement.DropBackup name) s = on_named backup_kind s name (drop_plan backup_kind)
plan (statement.Restore bank name) s = on_databank s bank (restore_plan s name)
plan other s = without_work (planned other s)
