-- Bytes that read as zeros.
use Rattle.std.specs.Prelude.{◌≡◌, ℕ, ◌+◌, ◌<◌, ◌≤◌, List, slice_index, Option, IfSome}
use Rattle.odb_device.specs.World.{File}

-- each byte from one to before another is zero
abbrev pub AreZero : ℕ → ℕ → List ℕ → Type 0
AreZero from to bytes = (i : ℕ) → from ≤ i → i < to → slice_index bytes i ≡ 0

-- a read of the file gives zeros from one byte to before another, where the file is told
abbrev pub ReadsZero : ℕ → ℕ → Option File → Type 0
ReadsZero from to file = IfSome file (λ f. AreZero from to f.bytes)

-- zeros that ended before the byte `at` go on for n bytes more
abbrev pub ZerosGoOn : ℕ → ℕ → Option File → Option File → Type 0
ZerosGoOn at n old new =
    (from : ℕ) → from ≤ at → ReadsZero from at old → ReadsZero from (at + n) new
