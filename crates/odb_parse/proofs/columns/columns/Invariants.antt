use Rattle.std.proofs.Common.{◌≡◌, ℕ, ◌<◌, ◌≤◌, length}
use Rattle.odb_parse.specs.Statements.{columns, columns_from}
use Rattle.odb_parse.proofs.columns.columns.Given as goal

abbrev pub invariant-more : goal.invariant-more
invariant-more l =
    (left : ℕ) × (length l.tokens < left) × (length l.tokens ≤ length l.fn.tokens) × (columns l.fn.tokens ≡ columns_from left l.columns.items l.tokens)

abbrev pub decreases-more : goal.decreases-more
decreases-more l = length l.tokens
