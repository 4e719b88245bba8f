-- What a script changes of the host: its console and one file.
use Rattle.std.specs.Prelude.{◌≡◌, ◌≢◌, ℕ, ◌+◌, ◌-◌, ◌^◌, ◌≤◌, min}
use Rattle.odb_device.specs.World.{Moment, World, file_of, faults_of}
use Rattle.odb_device.specs.Steps.{Steps, Files, IsAsIn}

-- some calls were made from one world to the other, or none
abbrev pub Passed : World → World → Type 0
Passed old new = Steps (λ _. Unit {0}) old new

-- each file is as it was in that world, and so is its count of faults
abbrev pub IsStill : World → Moment → Type 0
IsStill old m = Files (IsAsIn old) m × ((g : ℕ) → m.faults g ≡ faults_of g old)

-- from old to new each file is as it was, and no call on one failed, at every moment, in no call or
-- in several
abbrev pub LeavesFiles : World → World → Type 0
LeavesFiles old new = Steps (IsStill old) old new

-- each file but this one is as it was in that world
abbrev pub LeavesOthers : ℕ → World → Moment → Type 0
LeavesOthers file old = Files (λ g now. g ≢ file → now ≡ file_of g old)

-- from old to new only this file, the console and counts of faults change, in one call or in
-- several
abbrev pub TouchesOnly : ℕ → World → World → Type 0
TouchesOnly file old new = Steps (LeavesOthers file old) old new

-- a file's count rose by n at least, or stands at its type's end
abbrev pub RoseBy : World → World → ℕ → ℕ → Type 0
RoseBy old new file n = min (faults_of file old + n) (2 ^ 64 - 1) ≤ faults_of file new
