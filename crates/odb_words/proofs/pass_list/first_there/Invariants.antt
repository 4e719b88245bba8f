use Rattle.std.proofs.Common.{◌≡◌, map, take}
use Rattle.std.specs.Prelude.{replicate, None}
use Rattle.odb_words.specs.Passes.{list_in}
use Rattle.odb_words.proofs.pass_list.first_there.Given as goal

abbrev pub invariant-loop-place : goal.invariant-loop-place
invariant-loop-place l = take l.place (map list_in l.passes) ≡ replicate l.place None
