-- What a statement does, as one fact on its outcome.
use Rattle.std.specs.Prelude.{◌≡◌, ℕ, List}
use Rattle.odb_values.specs.declared.range.Range.{Range}
use Rattle.odb_model.specs.declared.write.Write.{Write}
use Rattle.odb_model.specs.declared.entry.Entry.{Entry}
use Rattle.odb_model.specs.declared.outcome.Outcome.{Outcome}
use Rattle.odb_model.specs.declared.statement.Statement.{Statement}
use Rattle.odb_model.specs.declared.table_key.TableKey.{TableKey}
use Rattle.odb_model.specs.State.{State, replay, after_writes}
use Rattle.odb_model.specs.Meaning.{Meaning, meaning}
use Rattle.odb_model.specs.Reads.{reads}
use Rattle.odb_model.specs.Transaction.{meaning_over}

-- a reply and writes with the ranges that were read for them
abbrev pub with_reads : Meaning → List Range → Outcome
with_reads m ranges = record { reply = m.reply; writes = m.writes; reads = ranges }

-- the outcome is what the statement means, and reads, on a state, where its transaction has written
-- these keys
pub record IsOutcomeOn
    (st : Statement) (s : State) (written : List TableKey) (format : ℕ) (o : Outcome) :
    Type 0 where
  pub reply : o.reply ≡ (meaning st s written format).reply
  pub writes : o.writes ≡ (meaning st s written format).writes
  pub reads : o.reads ≡ reads st s

-- the outcome is what the statement means, and reads, on the history with the transaction's write set
-- laid over it
pub record IsOutcomeOf
    (st : Statement) (h : List Entry) (write_set : List Write) (format : ℕ) (o : Outcome) :
    Type 0 where
  pub reply : o.reply ≡ (meaning_over st (replay h) write_set format).reply
  pub writes : o.writes ≡ (meaning_over st (replay h) write_set format).writes
  pub reads : o.reads ≡ reads st (after_writes (replay h) write_set)
