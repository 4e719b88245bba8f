use Rattle.std.proofs.Common.{◌≡◌, ◌+◌, ◌++◌, length}
use Rattle.odb_rowsource.specs.Intentions.{put_all}
use Rattle.odb_rowsource.proofs.intentions.Intentions.put_all.Given as goal

abbrev pub invariant-loop-write : goal.invariant-loop-write
invariant-loop-write l =
    (l.self.items ≡ put_all l.initial.self.items l.yielded (λ _. l.fn.was_there))
    × (l.self.spare + length l.yielded ≡ l.initial.self.spare)
    × (l.yielded ++ l.write-iterator.rest.items ≡ l.fn.writes)
