use Rattle.std.proofs.Common.{◌∙◌, codes, string_bytes}
use Rattle.odb_generate.proofs.Lines.{rows_more}
use Rattle.odb_generate.proofs.step.insert_line.Goals as goal

pub loop-key-preserved : goal.loop-key-preserved
loop-key-preserved c = c.in_ok-put_row.ensures ∙ rows_more (codes "1 INSERT INTO KV VALUES ") (string_bytes c.loop-key.line) c.loop-key.key c.loop-key.invariant
