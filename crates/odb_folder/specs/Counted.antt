-- What a host shows that counts its faults and tells no content.
use Rattle.std.specs.Prelude.{false, None}
use Rattle.odb_device.specs.World.{World}
use Rattle.odb_device.specs.Untold.{untold_world}
use Rattle.odb_folder.specs.declared.counts.Counts.{Counts}

-- nothing has failed, and the end of the input wasn't met
abbrev pub no_counts : Counts
no_counts = record { file_faults = 0; take_faults = 0; say_faults = 0; has_ended = false }

-- no file and no byte is told; the count of files is the count of each
abbrev pub counted_world : Counts → World
counted_world counts = untold_world counts.file_faults (record {
  taken = None;
  has_ended = counts.has_ended;
  take_faults = counts.take_faults;
  say_faults = counts.say_faults;
})
