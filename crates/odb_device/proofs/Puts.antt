-- What `write_synced` does to a property of the images.
use Rattle.std.proofs.Common.{ℕ, List}
use Rattle.odb_device.specs.World.{World, file_of}
use Rattle.odb_device.specs.Images.{EachImage, ReadsImage, Torn, TornFrom, overwritten}
use Rattle.odb_device.specs.Calls.{Puts}
use Rattle.odb_device.specs.Moments.{Runs}
use Rattle.odb_device.proofs.Time.{weakens}
use Rattle.odb_device.proofs.Torn.{torn_each, puts_each}

-- at each moment of it the images have Q, if those before it have P and a torn write makes Q of P
pub torn_run : (P Q : List ℕ → Type 0) (file at n : ℕ) (old new : World) → ((before image : List ℕ) → P before → Torn at n before image → Q image)
    → EachImage P (file_of file old) → Runs file (TornFrom at n (file_of file old)) old new → Runs file (EachImage Q) old new
torn_run P Q file at n old new step each run = weakens file (TornFrom at n (file_of file old)) (EachImage Q) old new (λ o from. torn_each P Q at n (file_of file old) o step each from) run

-- and after it
pub put_done : (P Q : List ℕ → Type 0) (file at : ℕ) (bytes : List ℕ) (old new : World) → ((before : List ℕ) → P before → Q (overwritten at bytes before))
    → EachImage P (file_of file old) → ReadsImage (file_of file old) → Puts file at bytes old new → EachImage Q (file_of file new)
put_done P Q file at bytes old new step each reads puts = puts_each P Q at bytes (file_of file old) (file_of file new) step each reads puts
