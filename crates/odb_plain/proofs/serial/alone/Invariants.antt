use Rattle.std.proofs.Common.{◌≡◌, ◌++◌, [], drop}
use Rattle.odb_model.specs.State.{after_writes, replay}
use Rattle.odb_model.specs.Transaction.{alone_replies, alone_writes}
use Rattle.odb_plain.proofs.serial.alone.Given as goal

-- the rows with the writes so far, the replies and writes so far, and those of the statements that
-- are left
abbrev pub invariant-loop-statement : goal.invariant-loop-statement
invariant-loop-statement l = record {
  rows : l.rows ≡ after_writes (replay l.history) l.write_set.items;
  replies : l.replies.items ++ alone_replies (replay l.history) l.write_set.items (drop l.statement-index l.statements) l.format ≡ alone_replies (replay l.history) [] l.statements l.format;
  writes : alone_writes (replay l.history) l.write_set.items (drop l.statement-index l.statements) l.format ≡ alone_writes (replay l.history) [] l.statements l.format;
  none_spare : l.replies.spare ≡ 0;
}
