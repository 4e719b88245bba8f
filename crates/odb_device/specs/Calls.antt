-- What one call of a store does.
use Rattle.std.specs.Prelude.{◌≡◌, ◌≢◌, ◌⊎◌, ℕ, ◌-◌, ◌<◌, ◌≤◌, min, List, length, take, Option, Result, OnErr, option_map, is_some, IfSome}
use Rattle.odb_device.specs.World.{File, World, present, file_of, faults_of}
use Rattle.odb_device.specs.Images.{Torn, part, written, torn, kept, reading}
use Rattle.odb_device.specs.Counts.{Rose}

-- One call on a file: only this file and counts of faults may change, and each moment of the call
-- is the one before it or the one after it, whose counts have its faults. A crash in its midst is
-- no further case: a write cut off leaves an image of the file after it, and a sync cut off one
-- from before; and a crash leaves no count.
pub record CallsOn (file : ℕ) (old new : World) : Type 0 where
  pub later : old.time ≤ new.time
  pub past : (k : ℕ) → k ≤ old.time → new.moment k ≡ old.moment k
  pub during : (k : ℕ) → old.time < k → k ≤ new.time → new.moment k ≡ present new
  pub others : (g : ℕ) → g ≢ file → file_of g new ≡ file_of g old
  pub told : is_some (file_of file new) ≡ is_some (file_of file old)
  pub said : (present new).said ≡ (present old).said
  pub talk : new.talk ≡ old.talk
  pub faults : (g : ℕ) → faults_of g old ≤ faults_of g new

-- the file's count rose
abbrev pub FileCountRose : ℕ → World → World → Type 0
FileCountRose file old new = Rose (faults_of file old) (faults_of file new)

-- `Failed` comes only where the file's count rose
abbrev pub HasCause : {T E : Type 0} → ℕ → World → World → Result T E → Type 0
HasCause file old new result = OnErr result (FileCountRose file old new)

-- the file is as before, its images too
abbrev pub Stays : ℕ → World → World → Type 0
Stays file old new = file_of file new ≡ file_of file old

-- the bytes are written, and until a sync a crash may leave anything in their range
abbrev pub Writes : ℕ → ℕ → List ℕ → World → World → Type 0
Writes file at bytes old new = file_of file new ≡ option_map (written at bytes) (file_of file old)

-- Nothing happened, or the n bytes from `at` on and those past the old end may be any: a read gives
-- these of now, and a crash may leave others.
abbrev pub Tears : ℕ → ℕ → ℕ → World → World → Type 0
Tears file at n old new =
    Stays file old new
    ⊎ ((now : List ℕ)
    × (file_of file new ≡ option_map (torn at n now) (file_of file old))
    × IfSome (file_of file old) (λ f. Torn at n f.bytes now))

-- what a read gives is all that a crash leaves
abbrev pub Keeps : ℕ → World → World → Type 0
Keeps file old new = file_of file new ≡ option_map kept (file_of file old)

-- a crash leaves what it might have left before, and a read gives any of it
abbrev pub Unsettles : ℕ → World → World → Type 0
Unsettles file old new =
    (now : List ℕ) × (file_of file new ≡ option_map (reading now) (file_of file old))

-- the bytes are written and on the disk
abbrev pub Puts : ℕ → ℕ → List ℕ → World → World → Type 0
Puts file at bytes old new =
    file_of file new ≡ option_map (λ f. kept (written at bytes f)) (file_of file old)

-- Of the calls that failed or changed anything just one: a write of these bytes that failed, in which
-- the file's count rose. Where it changed nothing, it can't be told from another call that failed
pub record FailsToWrite (file at : ℕ) (bytes : List ℕ) (old new : World) : Type 0 where
  pub call : CallsOn file old new
  pub torn : Tears file at (length bytes) old new
  pub rose : FileCountRose file old new

-- of the calls that failed or changed anything just two: these bytes are written, and then the file
-- is synced, or that failed
pub record WritesThenSyncs (file at : ℕ) (bytes : List ℕ) (old new : World) : Type 0 where
  pub mid : World
  pub write : CallsOn file old mid
  pub written : Writes file at bytes old mid
  pub sync : CallsOn file mid new
  pub settled : Keeps file mid new ⊎ Unsettles file mid new

-- a write of these bytes and a sync behind it, and no other call that failed or changed anything
-- between or beside them, or behind a write that failed
abbrev pub IsOnePut : ℕ → ℕ → List ℕ → World → World → Type 0
IsOnePut file at bytes old new =
    FailsToWrite file at bytes old new ⊎ WritesThenSyncs file at bytes old new

-- the length of a told file
abbrev pub HasLength : Option File → ℕ → Type 0
HasLength file n = IfSome file (λ f. n ≡ length f.bytes)

-- n bytes from `at` on, to the end of the list or of `out`, stand at the front of out
abbrev pub HasCopied : List ℕ → ℕ → ℕ → List ℕ → Type 0
HasCopied bytes at n out =
    (n ≡ min (length out) (length bytes - at)) × (take n out ≡ part at n bytes)

-- the bytes of a told file from `at` on, to its end or that of `out`, stand at the front of out,
-- and n counts them
abbrev pub HasRead : Option File → ℕ → ℕ → List ℕ → Type 0
HasRead file at n out = IfSome file (λ f. HasCopied f.bytes at n out)
