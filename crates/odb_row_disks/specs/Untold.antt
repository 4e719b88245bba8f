-- What a store shows that counts its faults and tells no content.
use Rattle.std.specs.Prelude.{ℕ, false, None}
use Rattle.odb_device.specs.World.{World}
use Rattle.odb_device.specs.Untold as device

-- no file is told; the count of all files is the count of each
abbrev pub untold_world : ℕ → World
untold_world faults = device.untold_world faults (record {
  taken = None;
  has_ended = false;
  take_faults = 0;
  say_faults = 0;
})
