use Rattle.std.proofs.Common.{◌≡◌, ◌++◌, take, flat_map, string_bytes}
use Rattle.odb_print.proofs.put.put_all.Given as goal

-- the items so far are written
abbrev pub invariant-loop-item : goal.invariant-loop-item
invariant-loop-item g l = string_bytes l.out ≡ string_bytes l.fn.out ++ flat_map g.T.Put.text (take l.item-index l.items)
