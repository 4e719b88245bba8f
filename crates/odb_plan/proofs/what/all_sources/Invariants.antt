use Rattle.std.proofs.Common.{◌≡◌, map}
use Rattle.std.specs.List.{range_with_len}
use Rattle.odb_eval.specs.Bound.{place_source}
use Rattle.odb_plan.proofs.what.all_sources.Given as goal

-- the sources of the places so far
abbrev pub invariant-loop-place : goal.invariant-loop-place
invariant-loop-place l = l.sources.items ≡ map (place_source l.table) (range_with_len 0 l.place)
