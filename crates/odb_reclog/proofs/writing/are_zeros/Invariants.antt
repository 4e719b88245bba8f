use Rattle.std.proofs.Common.{◌≡◌, ℕ, ◌<◌, IsTrue, ◌↔◌, get_or}
use Rattle.odb_reclog.proofs.writing.are_zeros.Given as goal

abbrev pub invariant-loop-byte : goal.invariant-loop-byte
invariant-loop-byte l = IsTrue l.all ↔ ((k : ℕ) → k < l.byte-index → get_or l.bytes k 0 ≡ 0)
