use Rattle.std.proofs.Common.{◌≡◌, ◌≤◌, length, reverse, vec_len, vec_capacity}
use Rattle.odb_model.specs.State.{after_writes}
use Rattle.odb_keytable.proofs.key_table.KeyTable.take_in.Given as goal

-- what is left makes of the table what all made of it, and has room for what comes back
abbrev pub invariant-loop-write : goal.invariant-loop-write
invariant-loop-write l = record {
  state : after_writes l.self (reverse l.writes.items) ≡ after_writes l.fn.self (reverse l.fn.writes.items);
  fewer : length l.writes.items ≤ length l.fn.writes.items;
  room : vec_len l.writes ≤ vec_capacity l.writes;
}

abbrev pub decreases-loop-write : goal.decreases-loop-write
decreases-loop-write l = vec_len l.writes
