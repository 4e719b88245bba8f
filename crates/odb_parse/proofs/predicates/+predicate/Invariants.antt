use Rattle.std.proofs.Common.{◌≡◌, ℕ, ◌+◌, ◌*◌, ◌<◌, ◌≤◌, length}
use Rattle.odb_parse.specs.Predicates.{negation, conjunction, predicate, ands_from, ors_from}
use Rattle.odb_parse.proofs.predicates.+predicate.Given as goal

-- a parenthesis or a NOT takes room; the three call one another in this order at one room
abbrev pub decreases-predicate : goal.decreases-predicate
decreases-predicate l = 3 * l.room + 2

abbrev pub decreases-conjunction : goal.decreases-conjunction
decreases-conjunction l = 3 * l.room + 1

abbrev pub decreases-negation : goal.decreases-negation
decreases-negation l = 3 * l.room

abbrev pub invariant-predicate-ors : goal.invariant-predicate-ors
invariant-predicate-ors l =
    (turns : ℕ) × (length l.tokens < turns) × (length l.tokens ≤ length l.fn.tokens)
    × (predicate l.room l.fn.tokens ≡ ors_from (conjunction l.room) turns l.all l.tokens)

abbrev pub decreases-predicate-ors : goal.decreases-predicate-ors
decreases-predicate-ors l = length l.tokens

abbrev pub invariant-conjunction-ands : goal.invariant-conjunction-ands
invariant-conjunction-ands l =
    (turns : ℕ) × (length l.tokens < turns) × (length l.tokens ≤ length l.fn.tokens)
    × (conjunction l.room l.fn.tokens ≡ ands_from (negation l.room) turns l.all l.tokens)

abbrev pub decreases-conjunction-ands : goal.decreases-conjunction-ands
decreases-conjunction-ands l = length l.tokens
