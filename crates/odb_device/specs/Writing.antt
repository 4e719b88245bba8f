-- Between the first of several writes to a file and the sync behind them.
use Rattle.std.specs.Prelude.{ℕ, List, IfSome}
use Rattle.odb_device.specs.World.{World, file_of}
use Rattle.odb_device.specs.TornSets.{TornInFrom}
use Rattle.odb_device.specs.Moments.{Runs}

-- at each moment so far the images are those from before, but for the places in P; and what is read
-- has Q
pub record IsWriting (P : ℕ → Type 0) (end file : ℕ) (Q : List ℕ → Type 0)
    (first now : World) : Type 0 where
  pub run : Runs file (TornInFrom P end (file_of file first)) first now
  pub reads : IfSome (file_of file now) (λ f. Q f.bytes)
