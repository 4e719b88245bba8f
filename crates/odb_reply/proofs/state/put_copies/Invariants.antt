use Rattle.std.proofs.Common.{◌≡◌, ◌++◌, take, flat_map, string_bytes}
use Rattle.odb_model.specs.Print.{line_of, copy_words}
use Rattle.odb_reply.proofs.state.put_copies.Given as goal

-- the lines so far are written
abbrev pub invariant-loop-copy : goal.invariant-loop-copy
invariant-loop-copy l = string_bytes l.out ≡ string_bytes l.fn.out ++ flat_map (λ c. line_of l.head (copy_words c)) (take l.copy-index l.copies)
