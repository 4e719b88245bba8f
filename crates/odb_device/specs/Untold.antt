-- What a host shows that tells no content, and has one count of faults for all of its files.
use Rattle.std.specs.Prelude.{ℕ, None}
use Rattle.odb_device.specs.World.{Moment, Talk, World}

-- its moment at this count: no file and no byte is told, and each file has the count of all
abbrev pub untold_moment : ℕ → Moment
untold_moment count = record { files = λ _. None; said = None; faults = λ _. count }

-- each fault of a file is a moment
abbrev pub untold_world : ℕ → Talk → World
untold_world count talk = record { time = count; moment = untold_moment; talk = talk }
