use Rattle.std.proofs.Common.{◌≡◌, ◌++◌, take, string_bytes}
use Rattle.std.specs.List.{All}
use Rattle.odb_model.specs.Print.{values_text}
use Rattle.odb_reply.specs.Unbroken.{IsUnbroken}
use Rattle.odb_reply.proofs.values.put_values.Given as goal

-- the values so far are written, none of them with an LF
abbrev pub invariant-loop-at : goal.invariant-loop-at
invariant-loop-at l = record {
  text : string_bytes l.out ≡ string_bytes l.fn.out ++ values_text (take l.at l.values);
  unbroken : All IsUnbroken (take l.at l.values);
}
