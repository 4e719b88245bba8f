use Rattle.std.proofs.Common.{◌≡◌, ◌++◌, flat_map, reverse, string_bytes, vec_len}
use Rattle.odb_print.proofs.predicates.put_behind.Given as goal

-- what is written and what is left make the same
abbrev pub invariant-loop-text : goal.invariant-loop-text
invariant-loop-text l = string_bytes l.out ++ flat_map (λ text. string_bytes text) (reverse l.behind.items) ≡ string_bytes l.fn.out ++ flat_map (λ text. string_bytes text) (reverse l.fn.behind.items)

abbrev pub decreases-loop-text : goal.decreases-loop-text
decreases-loop-text l = vec_len l.behind
