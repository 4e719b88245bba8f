use Rattle.std.proofs.Common.{◌≡◌, length}
use Rattle.std.specs.Io.KnownBytes.{Keeps}
use Rattle.odb_folder.proofs.streams.read_input.Given as goal

-- a read that found nothing yet gave nothing
abbrev pub invariant-loop : goal.invariant-loop
invariant-loop g l = (length l.out ≡ length l.initial.out) × Keeps (g.R.Read.remaining l.initial.input) (g.R.Read.remaining l.input)
