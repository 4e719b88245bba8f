-- A definition that works on copies: CREATE DATABANK, those of shadows and backups, and RESTORE. It is
-- one commit step. Those of tables, which work on none, are `DefinesIn`.
use Rattle.std.specs.Prelude.{◌≡◌, ◌⊎◌, ℕ, true, List, Option, Some, None}
use Rattle.odb_model.specs.declared.write.Write.{Write}
use Rattle.odb_model.specs.declared.entry.Entry.{Entry}
use Rattle.odb_model.specs.declared.statement.Statement.{Statement}
use Rattle.odb_model.specs.declared.reply.Reply.{Reply}
use Rattle.odb_model.specs.declared.reply.Reply.TheVariants.{Committed, InDoubt, InTransaction, Halted, Fault, Memory}
use Rattle.odb_model.specs.State.{replay}
use Rattle.odb_model.specs.Session.{Session, Idle, Working}
use Rattle.odb_machine.specs.Book.{Book, Seen, HasPlace, Seals}
use Rattle.odb_machine.specs.MachineState.{Machine, book_of, with_book}
use Rattle.odb_machine.specs.Plan.{Work, Format, Plan, RefusedFor, Lays, plan}
use Rattle.odb_machine.specs.Arranging.{work_refusal}
use Rattle.odb_machine.specs.Arranged.{worked}

-- the machine that may have the entry of a definition, which would leave the copies as `would` has them
abbrev pub doubted_with : Machine → Machine → Machine
doubted_with m would = record m { doubted = would.copies; honest = would.honest }

-- The machine behind the reply to a definition's commit, with this book: as the definition would leave
-- it; as it was, but that it may be so; or as it was
abbrev pub behind_definition : Machine → Machine → Reply → Book → Machine
behind_definition m would (Committed k) b = with_book would b
behind_definition m would (InDoubt k) b = with_book (doubted_with m would) b
behind_definition m would reply b = with_book m b

-- the file of a new databank is made before the commit, once there is a place for the entry
abbrev pub FaultsNewFile : Machine → Seen → ℕ → List Write → Work → Reply → Machine → Type 0
FaultsNewFile m seen s writes (Format file) (Fault f) after =
    HasPlace (book_of m) s writes × (f ≡ file) × (seen.rose f ≡ true) × (after ≡ m)
FaultsNewFile m seen s writes work reply after = ⊥

-- the entry of these writes is sealed, and the work is done; or the file of a new databank fails first
abbrev pub SealsWork : Machine → Seen → ℕ → List Write → Work → Reply → Machine → Type 0
SealsWork m seen s writes work reply after =
    FaultsNewFile m seen s writes work reply after
    ⊎ ((b : Book) × Seals (book_of m) seen s writes reply b
    × (after ≡ behind_definition m (worked m seen work) reply b))

abbrev pub SealsUnless :
    Option Reply → Machine → Seen → ℕ → List Write → Work → Reply → Machine → Type 0
SealsUnless (Some why) m seen s writes work reply after = (reply ≡ why) × (after ≡ m)
SealsUnless None m seen s writes work reply after = SealsWork m seen s writes work reply after

abbrev pub ArrangesAs : Machine → Seen → ℕ → Plan → Reply → Machine → Type 0
ArrangesAs m seen s (RefusedFor why) reply after = (reply ≡ why) × (after ≡ m)
ArrangesAs m seen s (Lays writes work) reply after =
    SealsUnless (work_refusal m work) m seen s writes work reply after

abbrev pub ArrangesBy : Option Entry → Machine → Seen → ℕ → Plan → Reply → Machine → Type 0
ArrangesBy (Some e) m seen s asked reply after = (reply ≡ Halted e.number) × (after ≡ m)
ArrangesBy None m seen s asked reply after = ArrangesAs m seen s asked reply after

-- A definition. Its refusals come in this order: a transaction is open; an entry is in doubt; the
-- dictionary's; a phase; what isn't held; the history's end; the room; the new file's fault; TRANSDB's
abbrev pub Arranges : Machine → ℕ → Seen → Statement → Session → Reply → Machine → Type 0
Arranges m s seen st session Memory after = after ≡ m
Arranges m s seen st (Working t) InTransaction after = after ≡ m
Arranges m s seen st (Working t) reply after = ⊥
Arranges m s seen st Idle reply after =
    ArrangesBy m.in_doubt m seen s (plan st (replay m.history)) reply after
