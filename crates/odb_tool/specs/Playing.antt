-- What `play` does.
use Rattle.std.specs.Prelude.{◌≡◌, ℕ, IfSome}
use Rattle.odb_device.specs.World.{World, file_of}
use Rattle.odb_device.specs.Calls.{FileCountRose}
use Rattle.odb_model.specs.declared.status.Status.{Status}
use Rattle.odb_model.specs.declared.status.Status.TheVariants.{FileFault}
use Rattle.odb_transdb.specs.Opened.{opened}
use Rattle.odb_play.specs.Opening.{PlayOutcome, IsOpeningOf}

-- what `play` does in a call that ends with this status: what is played and said, and what a crash
-- leaves; what the bytes of TRANSDB are refused for; and a fault is TRANSDB's
pub record DoesPlay (status : Status) (old new : World) : Type 0 where
  pub played : PlayOutcome status old new
  pub opens : IfSome (file_of 0 old) (λ f. IsOpeningOf status (opened f.bytes))
  pub fault : (file : ℕ) → status ≡ FileFault file → (file ≡ 0) × FileCountRose 0 old new
