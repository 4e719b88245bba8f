use Rattle.std.proofs.Common.{◌≡◌, ℕ, ◌<◌, ◌≤◌, length}
use Rattle.odb_parse.specs.Sums.{terms, terms_from}
use Rattle.odb_parse.proofs.sums.terms.Given as goal

abbrev pub invariant-more : goal.invariant-more
invariant-more l =
    (left : ℕ) × (length l.tokens < left) × (length l.tokens ≤ length l.fn.tokens) × (terms l.fn.tokens ≡ terms_from left l.terms.items l.tokens)

abbrev pub decreases-more : goal.decreases-more
decreases-more l = length l.tokens
