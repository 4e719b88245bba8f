-- What is read is one of the images, for what a host in memory records.
use Rattle.std.specs.Prelude.{ℕ, Bool, true, false, if◌then◌else◌, ◌==◌, ◌&&◌, not, List, [], ◌∷◌, take}
use Rattle.odb_device.specs.World.{File, file_of}
use Rattle.odb_device.specs.Images.{IsImage, ReadsImage, part, written, torn, kept}
use Rattle.odb_device.proofs.Torn.{image_written, image_kept_bytes, image_now_torn}
use Rattle.odb_memstore.specs.declared.recorder.Call.{Call}
use Rattle.odb_memstore.specs.declared.recorder.Call.TheVariants.{Look, Write, Sync, Take, Say}
use Rattle.odb_memstore.specs.declared.recorder.Recorded.{Recorded}
use Rattle.odb_memstore.specs.Numbered.{bytes_of}
use Rattle.odb_memstore.specs.Replay.{settled, after_call, after_calls}
use Rattle.odb_memstore.specs.Tape.{Tape, time_of, world_of}

-- the bytes of a file are one of its images
abbrev ReadsOne : File → Type 0
ReadsOne f = IsImage f f.bytes

one_choice : (b : Bool) (f g : File) → ReadsOne f → ReadsOne g → ReadsOne (if b then f else g)
one_choice true f g here other = here
one_choice false f g other here = here

-- each call keeps it so
one_call : (pieces : List ℕ) (file : ℕ) (c : Call) (failed : Bool) (f : File) → ReadsOne f
    → ReadsOne (after_call pieces file c failed f)
one_call pieces file (Look of) failed f one = one
one_call pieces file (Write of at from len) failed f one =
    let piece = part from len pieces in
    let tears = image_now_torn f at len one in
    let writes = image_written f at piece one in
    one_choice (of == file) (if failed then torn at len f.bytes f else written at piece f) f
    (one_choice failed (torn at len f.bytes f) (written at piece f) tears writes) one
one_call pieces file (Sync of) failed f one =
    one_choice (of == file && not failed) (kept f) f (image_kept_bytes f) one
one_call pieces file Take failed f one = one
one_call pieces file (Say len) failed f one = one

one_calls : (pieces : List ℕ) (file : ℕ) (calls : List Recorded) (f : File) → ReadsOne f
    → ReadsOne (after_calls pieces file calls f)
one_calls pieces file [] f one = one
one_calls pieces file (c ∷ calls) f one =
    one_calls pieces file calls (after_call pieces file c.call c.failed f)
    (one_call pieces file c.call c.failed f one)

pub tape_reads_image : (tape : Tape) (file : ℕ) → ReadsImage (file_of file (world_of tape))
tape_reads_image tape file =
    let calls = take (time_of tape) tape.recording.calls in
    let first = settled (bytes_of tape.start file) in
    one_calls tape.pieces file calls first (image_kept_bytes first)
