-- What a step sees of the files, by the bytes that they have as it begins. No function names these
-- yet: what ties a step to the world is to ask them once a line is built that reads a file.
use Rattle.std.specs.Prelude.{◌≡◌, ℕ, is_some}
use Rattle.odb_device.specs.World.{World, present, file_of}
use Rattle.odb_model.specs.declared.reply.Reply.{Reply}
use Rattle.odb_model.specs.declared.reply.Reply.TheVariants.{Opened}
use Rattle.odb_machine.specs.Book.{Seen, is_told}
use Rattle.odb_machine.specs.Play.{Answer}
use Rattle.odb_open.specs.Images.{readings_at}

-- a step has seen just the files that the store tells
abbrev pub SeesTold : Seen → World → Type 0
SeesTold seen before = (file : ℕ) → is_told seen file ≡ is_some (file_of file before)

-- and REOPEN, which alone is answered OPENED, what they read as
abbrev pub SeesBy : Reply → Seen → World → Type 0
SeesBy (Opened number) seen before = seen.reads ≡ readings_at (present before)
SeesBy reply seen before = SeesTold seen before

abbrev pub SeesWorld : Answer → World → Type 0
SeesWorld answer before = SeesBy answer.reply answer.seen before
