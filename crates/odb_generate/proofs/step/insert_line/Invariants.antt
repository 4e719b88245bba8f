use Rattle.std.proofs.Common.{◌≡◌, ◌++◌, codes, flat_map, string_bytes}
use Rattle.std.specs.List.{range_with_len}
use Rattle.odb_generate.specs.Script.{first_row}
use Rattle.odb_generate.proofs.step.insert_line.Given as goal

-- the rows so far are written
abbrev pub invariant-loop-key : goal.invariant-loop-key
invariant-loop-key l = string_bytes l.line ≡ codes "1 INSERT INTO KV VALUES " ++ flat_map first_row (range_with_len 0 l.key)
