-- What a window shows of a file.
use Rattle.std.specs.Prelude.{◌≡◌, ◌≤◌, take, IfSome, Option}
use Rattle.odb_device.specs.World.{File}
use Rattle.odb_device.specs.Images.{part}
use Rattle.odb_reclog.specs.declared.window.Window.{Window}

-- the bytes that it holds are those of the file as it reads, where it is told, from the window's
-- place on
pub record Shows (window : Window) (file : Option File) : Type 0 where
  pub within : window.held ≤ 65536
  pub bytes : IfSome file
      (λ f. take window.held window.bytes ≡ part window.from window.held f.bytes)
