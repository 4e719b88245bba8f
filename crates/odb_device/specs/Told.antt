-- What a file reads in a world, and that calls on it leave it as it was.
use Rattle.std.specs.Prelude.{◌≡◌, ℕ, List, IfSome}
use Rattle.odb_device.specs.World.{World, file_of}
use Rattle.odb_device.specs.Moments.{Runs}

-- P of the bytes that a read gives, where the file is told
abbrev pub IfTold : ℕ → World → (List ℕ → Type 0) → Type 0
IfTold file w P = IfSome (file_of file w) (λ f. P f.bytes)

-- from old to new the file is as it was at each moment, its images too
abbrev pub OnlyReads : ℕ → World → World → Type 0
OnlyReads file old new = Runs file (λ f. f ≡ file_of file old) old new
