use Rattle.std.proofs.Common.{◌≡◌, ◌++◌, take, flat_map, string_bytes}
use Rattle.std.specs.List.{All}
use Rattle.odb_model.specs.Print.{row_line}
use Rattle.odb_reply.specs.Unbroken.{IsUnbrokenRow}
use Rattle.odb_reply.proofs.print.put_rows.Given as goal

-- the rows so far are written, none of them with an LF inside
abbrev pub invariant-loop-row : goal.invariant-loop-row
invariant-loop-row l = record {
  text : string_bytes l.out ≡ string_bytes l.fn.out ++ flat_map (row_line l.head) (take l.row-index l.rows);
  unbroken : All IsUnbrokenRow (take l.row-index l.rows);
}
