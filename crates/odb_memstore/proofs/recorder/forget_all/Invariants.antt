use Rattle.std.proofs.Common.{◌≡◌, ◌++◌, take, drop, map}
use Rattle.odb_memstore.specs.Recording.{forgotten}
use Rattle.odb_memstore.proofs.recorder.forget_all.Given as goal

abbrev pub invariant-loop-recorded : goal.invariant-loop-recorded
invariant-loop-recorded l = l.calls ≡ map (forgotten l.file) (take l.recorded-index l.fn.calls) ++ drop l.recorded-index l.fn.calls
