-- What a host shows that counts its faults and tells no content.
use Rattle.std.specs.Prelude.{None}
use Rattle.odb_device.specs.World.{World}
use Rattle.odb_device.specs.Untold as device
use Rattle.real_folder.specs.declared.stopping.Counts.{Counts}

-- no file and no byte is told; the count of files is the count of each
abbrev pub untold_world : Counts → World
untold_world counts = device.untold_world counts.file_faults (record {
  taken = None;
  has_ended = counts.has_ended;
  take_faults = 0;
  say_faults = counts.say_faults;
})
