use Rattle.std.proofs.Common.{◌≡◌, ℕ, ◌<◌, ◌≤◌, length}
use Rattle.odb_parse.specs.Sums.{listed, listed_from}
use Rattle.odb_parse.proofs.lists.listed.Given as goal

abbrev pub invariant-more : goal.invariant-more
invariant-more g l =
    (left : ℕ) × (length l.tokens < left) × (length l.tokens ≤ length l.fn.tokens)
    × (listed g.T.ListItem.reader l.fn.tokens ≡ listed_from g.T.ListItem.reader left l.items.items l.tokens)

abbrev pub decreases-more : goal.decreases-more
decreases-more g l = length l.tokens
