-- What an image of all files opens to.
use Rattle.std.specs.Prelude.{◌≡◌, List, Option, Some, None}
use Rattle.odb_machine.specs.Copies.{Choice}
use Rattle.odb_machine.specs.Readings.{Reading, Holds, TransdbReading}
use Rattle.odb_machine.specs.Opened.{Opened, opened}
use Rattle.odb_open.specs.Files.{transdb_in}
use Rattle.odb_open.specs.Images.{Image, files_in}

abbrev pub opened_by : Reading TransdbReading → Image → List Choice → Option Opened
opened_by (Holds t) image choices = opened (files_in image t) choices
opened_by other image choices = None

-- What the image opens to by these choices: a number and a state. Nothing, where TRANSDB isn't in order
abbrev pub opened_in : Image → List Choice → Option Opened
opened_in image choices = opened_by (transdb_in (image 0)) image choices

abbrev pub OpensTo : Image → List Choice → Opened → Type 0
OpensTo image choices it = opened_in image choices ≡ Some it
