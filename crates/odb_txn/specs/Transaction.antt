-- What is kept of an open transaction, and for which transaction it stands.
use Rattle.std.specs.Prelude.{◌≡◌, ℕ, ◌≤◌, Bool, true, false, List, [], length, map}
use Rattle.std.specs.List.{All}
use Rattle.odb_model.specs.declared.entry.Entry.{Entry}
use Rattle.odb_model.specs.declared.outcome.Outcome.{Outcome}
use Rattle.odb_model.specs.declared.outcome.Read.{Read}
use Rattle.odb_model.specs.declared.intention.Intention.{Intention}
use Rattle.odb_model.specs.declared.statement.Statement.{Statement}
use Rattle.odb_model.specs.declared.statement.Statement.TheVariants.{Insert}
use Rattle.odb_model.specs.declared.table_key.TableKey.{TableKey}
use Rattle.odb_model.specs.Meaning.{most_writes}
use Rattle.odb_model.specs.Reads.{reads}
use Rattle.odb_model.specs.Transaction.{Executed, open_state, open_meaning, write_set_of, reads_of, read_at}
use Rattle.odb_model.specs.Intentions.{intentions_of, intended_write}
use Rattle.odb_model.specs.Script.{IsSession}
use Rattle.odb_model.specs.Storable.{IsNarrow}
use Rattle.odb_rowsource.specs.Intentions.{AreIntentions, put_all}
use Rattle.odb_txn.specs.ReadSet.{AreOrdered, JudgeAlike, keep_all}

-- what is kept of an open transaction: whose it is, what it has read, and what it intends
pub record Kept : Type 0 where
  pub session : ℕ
  pub reads : List Read
  pub own : List Intention

-- of one that has done nothing yet
abbrev pub nothing_kept : ℕ → Kept
nothing_kept session = record { session = session; reads = []; own = [] }

-- the table keys that it has written
abbrev pub own_keys : Kept → List TableKey
own_keys kept = map (λ i. i.table_key) kept.own

-- Whether a statement writes rows that are there before it. An INSERT doesn't: it is refused where a
-- row is there. An UPDATE or a DELETE does: it writes the rows that it finds
abbrev pub writes_found_rows : Statement → Bool
writes_found_rows (Insert table tuples) = false
writes_found_rows other = true

-- the intentions with what a statement wrote
abbrev pub own_with : Kept → Statement → Outcome → List Intention
own_with kept st outcome = put_all kept.own outcome.writes (λ _. writes_found_rows st)

-- with a statement more, that ran where the history had so many entries
abbrev pub kept_with : Kept → Statement → Outcome → ℕ → Kept
kept_with kept st outcome number = record {
  session = kept.session;
  reads = keep_all kept.reads (read_at number outcome.reads);
  own = own_with kept st outcome;
}

-- what is asked of an outcome: each write has an image, and at most 4,096 rows are then written
pub record CanBeKept (kept : Kept) (st : Statement) (outcome : Outcome) : Type 0 where
  pub narrow : All IsNarrow outcome.writes
  pub few : length (own_with kept st outcome) ≤ most_writes

-- what is kept meets this always
pub record IsKept (kept : Kept) : Type 0 where
  pub session : IsSession kept.session
  pub ordered : AreOrdered kept.reads
  pub intentions : AreIntentions kept.own
  pub narrow : All (λ i. IsNarrow (intended_write i)) kept.own

-- the outcome of a transaction's next statement, on the first entries of the history and with the
-- transaction's own writes laid over them
pub record IsNextOutcome
    (h : List Entry) (t : List Executed) (a : Executed) (format : ℕ) (outcome : Outcome) :
    Type 0 where
  pub writes :
      outcome.writes
      ≡ (open_meaning a.statement a.snapshot (write_set_of h t format) h format).writes
  pub reads :
      outcome.reads ≡ reads a.statement (open_state a.snapshot (write_set_of h t format) h)

-- what is kept stands for an open transaction of a history: its reads judge a commit as all reads of
-- the transaction do, and its intentions are the transaction's
pub record StandsFor
    (kept : Kept) (h : List Entry) (t : List Executed) (format : ℕ) :
    Type 0 where
  pub reads : JudgeAlike kept.reads (reads_of h t format)
  pub own : kept.own ≡ intentions_of h t format
