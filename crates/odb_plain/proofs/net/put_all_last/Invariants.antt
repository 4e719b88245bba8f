use Rattle.std.proofs.Common.{◌≡◌, drop}
use Rattle.odb_plain.specs.Net.{by_table_key}
use Rattle.odb_model.specs.Transaction.{last_from}
use Rattle.odb_plain.proofs.net.put_all_last.Given as goal

-- the writes that are left make of the last ones so far what all make
abbrev pub invariant-loop-write : goal.invariant-loop-write
invariant-loop-write l = last_from (by_table_key l.last.entries) (drop l.write-index l.writes) ≡ last_from (by_table_key l.fn.last.entries) l.writes
