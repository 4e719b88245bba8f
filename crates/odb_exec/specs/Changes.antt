-- The writes of a statement while they are gathered.
use Rattle.std.specs.Prelude.{◌≡◌, ◌<◌, List, ◌++◌}
use Rattle.odb_model.specs.declared.write.Write.{Write}
use Rattle.odb_model.specs.declared.table_key.TableKey.{TableKey}
use Rattle.odb_model.specs.Meaning.{different, most_writes}
use Rattle.odb_model.specs.Transaction.{table_keys}
use Rattle.odb_exec.specs.declared.kept.Kept.{Kept}
use Rattle.odb_exec.specs.declared.changes.Changes.{Changes}
use Rattle.odb_exec.specs.declared.changes.Changes.TheVariants as changes

-- these writes are kept, and with them the transaction has written so many different keys
pub record IsKept (written : List TableKey) (made : List Write) (kept : Kept) : Type 0 where
  pub writes : kept.writes.items ≡ made
  pub keys : kept.keys ≡ different (written ++ table_keys made)

-- Writes of a transaction that has written these keys: they are kept, or dropped where it would have
-- written too many different keys with them
abbrev pub StandsFor : List TableKey → List Write → Changes → Type 0
StandsFor written writes (changes.Few kept) = IsKept written writes kept
StandsFor written writes changes.TooMany = most_writes < different (written ++ table_keys writes)
