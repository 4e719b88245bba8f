-- What the bytes of all files read as.
use Rattle.std.specs.Prelude.{ℕ, List, option_map}
use Rattle.odb_device.specs.World.{Moment}
use Rattle.odb_machine.specs.Readings.{Holds, TransdbReading, Readings}
use Rattle.odb_machine.specs.Opened.{FilesRead}
use Rattle.odb_machine.specs.First.{asked_of}
use Rattle.odb_open.specs.Files.{transdb_in, log_in, log_read, file_in}

-- the bytes of each file
abbrev pub Image : Type 0
Image = ℕ → List ℕ

-- what the image of all files reads as, where TRANSDB reads so: each databank file as one of a databank
-- of this database
abbrev pub files_in : Image → TransdbReading → FilesRead
files_in image t = record {
  transdb = Holds t;
  logdb = log_read (image 1);
  databank = λ bank file. file_in (asked_of t bank) (image file);
}

-- What is seen of the files at a moment: of each that the store tells, what its bytes read as then,
-- whatever a databank file is read for; of one that it doesn't tell, nothing
abbrev pub readings_at : Moment → Readings
readings_at moment = record {
  transdb = option_map (λ file. transdb_in file.bytes) (moment.files 0);
  logdb = option_map (λ file. log_in file.bytes) (moment.files 1);
  databank = λ number.
      option_map (λ file. λ asked. file_in asked file.bytes) (moment.files number);
}
