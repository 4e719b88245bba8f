-- What the system keeps of an open transaction, and what its statements do.
use Rattle.std.specs.Prelude.{◌≡◌, ℕ, ◌≤◌, List, Option, None, Some}
use Rattle.std.specs.List.{All}
use Rattle.odb_values.specs.Key.{IsKey}
use Rattle.odb_model.specs.declared.entry.Entry.{Entry}
use Rattle.odb_model.specs.declared.outcome.Outcome.{Outcome}
use Rattle.odb_model.specs.declared.statement.Statement.{Statement}
use Rattle.odb_model.specs.State.{State}
use Rattle.odb_model.specs.Meaning.{Meaning, meaning}
use Rattle.odb_model.specs.Reads.{reads}
use Rattle.odb_model.specs.Session.{Session, Idle, Working}
use Rattle.odb_model.specs.Storable.{HasKeys}
use Rattle.odb_rowsource.specs.Intentions.{laid_over}
use Rattle.odb_exec.specs.Written.{keys_written}
use Rattle.odb_txn.specs.Transaction.{Kept, kept_with, StandsFor as StandsForTransaction}

-- the rows that a transaction sees over these: each has a key
abbrev pub HasKeyedRows : State → Kept → Type 0
HasKeyedRows s t = HasKeys (laid_over s t.own)

-- what a statement of a transaction means where it sees these rows, in a database of this format
abbrev pub meaning_on : State → Statement → Kept → ℕ → Meaning
meaning_on s st t format = meaning st (laid_over s t.own) (keys_written t.own) format

-- what it does there
abbrev pub outcome_on : State → Statement → Kept → ℕ → Outcome
outcome_on s st t format = record {
  reply = (meaning_on s st t format).reply;
  writes = (meaning_on s st t format).writes;
  reads = reads st (laid_over s t.own);
}

-- the transaction after it, where the history has so many entries
abbrev pub grown_on : State → Statement → Kept → ℕ → ℕ → Kept
grown_on s st t number format = kept_with t st (outcome_on s st t format) number

-- the key of each row that a transaction has written is one
abbrev pub HasOwnKeys : Kept → Type 0
HasOwnKeys t = All (λ i. IsKey i.table_key.key) t.own

-- so where one is open
abbrev pub IsOpen : Option Kept → Type 0
IsOpen None = Unit {0}
IsOpen (Some t) = HasOwnKeys t

-- What is kept of a session stands for what the session is in: nothing where it is idle, else its
-- transaction, which has read nothing where the history had fewer than `since` entries
abbrev pub Shows : ℕ → List Entry → ℕ → ℕ → Option Kept → Session → Type 0
Shows since h format s None Idle = Unit {0}
Shows since h format s None (Working t) = ⊥
Shows since h format s (Some kept) Idle = ⊥
Shows since h format s (Some kept) (Working t) =
    (kept.session ≡ s) × StandsForTransaction kept h t format
    × All (λ r. since ≤ r.number) kept.reads
