use Rattle.std.proofs.Common.{◌≡◌, ◌++◌, take, string_bytes}
use Rattle.odb_model.specs.Canonical.{joined}
use Rattle.odb_print.proofs.put.put_joined.Given as goal

-- the items so far are written
abbrev pub invariant-loop-at : goal.invariant-loop-at
invariant-loop-at g l = string_bytes l.out ≡ string_bytes l.fn.out ++ joined g.T.Put.text (take l.at l.items)
