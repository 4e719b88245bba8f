-- Transactions: what a transaction's statements answer where it is open, and where it runs alone;
-- and when it conflicts.
use Rattle.std.specs.Prelude.{ℕ, Bool, ◌||◌, ◌&&◌, List, [], ◌∷◌, ◌++◌, map, find, take, is_some, nat_lt, Option, option_map}
use Rattle.std.specs.List.{list_any}
use Rattle.std.specs.FinMap.{FinMap, empty, get, insert, retain_keys, values}
use Rattle.odb_values.specs.declared.range.Range.{Range}
use Rattle.odb_model.specs.declared.write.Write.{Write}
use Rattle.odb_model.specs.declared.entry.Entry.{Entry}
use Rattle.odb_model.specs.declared.outcome.Read.{Read}
use Rattle.odb_model.specs.declared.reply.Reply.{Reply}
use Rattle.odb_model.specs.declared.statement.Statement.{Statement}
use Rattle.odb_model.specs.declared.table_key.TableKey.{TableKey}
use Rattle.odb_model.specs.State.{State, table_key_cmp, table_key_of, after_writes, replay, writes_in}
use Rattle.odb_model.specs.Meaning.{Meaning, meaning}
use Rattle.odb_model.specs.Reads.{reads}

-- one statement of a transaction: its text, the reply that it got, and how many entries the history
-- had then
pub record Executed : Type 0 where
  pub statement : Statement
  pub reply : Reply
  pub snapshot : ℕ

abbrev pub statements_of : List Executed → List Statement
statements_of t = map (λ a. a.statement) t

abbrev pub replies_of : List Executed → List Reply
replies_of t = map (λ a. a.reply) t

abbrev pub table_keys : List Write → List TableKey
table_keys ws = map table_key_of ws

-- the meaning of a statement on a state over which the transaction has laid these writes, in a
-- database of this format
abbrev pub meaning_over : Statement → State → List Write → ℕ → Meaning
meaning_over st s write_set format =
    meaning st (after_writes s write_set) (table_keys write_set) format

-- the state on which a statement runs where the history has m entries: the first m entries, with the
-- transaction's own writes laid over them
abbrev pub open_state : ℕ → List Write → List Entry → State
open_state m write_set h = after_writes (replay (take m h)) write_set

-- the meaning of a statement there
abbrev pub open_meaning : Statement → ℕ → List Write → List Entry → ℕ → Meaning
open_meaning st m write_set h format = meaning_over st (replay (take m h)) write_set format

abbrev pub open_reply : Statement → ℕ → List Write → List Entry → ℕ → Reply
open_reply st m write_set h format = (open_meaning st m write_set h format).reply

-- the write set behind a statement, made where the history was its snapshot
abbrev pub write_set_with : List Entry → List Write → Executed → ℕ → List Write
write_set_with h write_set a format =
    write_set ++ (open_meaning a.statement a.snapshot write_set h format).writes

-- the writes after those of these statements
abbrev pub write_set_from : List Entry → List Write → List Executed → ℕ → List Write
write_set_from h write_set [] format = write_set
write_set_from h write_set (a ∷ t) format =
    write_set_from h (write_set_with h write_set a format) t format

-- the writes that a transaction has made, in the order in which it made them
abbrev pub write_set_of : List Entry → List Executed → ℕ → List Write
write_set_of h t format = write_set_from h [] t format

-- the statements run one after another on a state alone, over which these writes are laid
abbrev pub alone_replies : State → List Write → List Statement → ℕ → List Reply
alone_replies s write_set [] format = []
alone_replies s write_set (st ∷ sts) format =
    (meaning_over st s write_set format).reply
    ∷ alone_replies s (write_set ++ (meaning_over st s write_set format).writes) sts format

abbrev pub alone_writes : State → List Write → List Statement → ℕ → List Write
alone_writes s write_set [] format = write_set
alone_writes s write_set (st ∷ sts) format =
    alone_writes s (write_set ++ (meaning_over st s write_set format).writes) sts format

abbrev pub last_from : FinMap table_key_cmp Write → List Write → FinMap table_key_cmp Write
last_from m [] = m
last_from m (w ∷ ws) = last_from (insert m (table_key_of w) w) ws

-- the last write to each table key
abbrev pub last_writes : List Write → FinMap table_key_cmp Write
last_writes ws = last_from empty ws

-- whether a row is there before or after these writes
abbrev pub is_there : State → List Write → TableKey → Bool
is_there s ws at = is_some (get s at) || is_some (get (after_writes s ws) at)

-- what writes leave on a state: for each table key the last one, in ascending order, without those
-- where no row is before and after
abbrev pub net : State → List Write → List Write
net s ws = values (retain_keys (last_writes ws) (is_there s ws))

-- a transaction run alone: the replies to its statements, and its net writes
pub record SerialRun : Type 0 where
  pub replies : List Reply
  pub net : List Write

abbrev pub alone : List Statement → State → ℕ → SerialRun
alone sts s format = record {
  replies = alone_replies s [] sts format;
  net = net s (alone_writes s [] sts format);
}

-- these ranges, read where the history had so many entries
abbrev pub read_at : ℕ → List Range → List Read
read_at snapshot ranges = map (λ range. record { range = range; number = snapshot }) ranges

-- what these statements have read behind those that made these writes: the ranges of each on the
-- state on which it ran, with its snapshot
abbrev pub reads_from : List Entry → List Write → List Executed → ℕ → List Read
reads_from h write_set [] format = []
reads_from h write_set (a ∷ t) format =
    read_at a.snapshot (reads a.statement (open_state a.snapshot write_set h))
    ++ reads_from h (write_set_with h write_set a format) t format

-- the ranges that a transaction has read; refused statements have read too
abbrev pub reads_of : List Entry → List Executed → ℕ → List Read
reads_of h t format = reads_from h [] t format

-- whether an entry is later than a read and writes a key of its range
abbrev pub overwrites : List Read → Entry → Bool
overwrites rs e = list_any (λ r. nat_lt r.number e.number && writes_in r.range e.writes) rs

-- the number of the first entry that overwrites a read
abbrev pub first_conflict : List Read → List Entry → Option ℕ
first_conflict rs h = option_map (λ e. e.number) (find (overwrites rs) h)

-- the least entry after a read's snapshot that writes a key of that read's range
abbrev pub conflict : List Entry → List Executed → ℕ → Option ℕ
conflict h t format = first_conflict (reads_of h t format) h
