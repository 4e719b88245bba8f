-- What the parts of the calls of TRANSDB do.
use Rattle.std.specs.Prelude.{◌≡◌, ◌⊎◌, ℕ, ◌≤◌, List, length, Ok, Option, Some, None, IfSome}
use Rattle.odb_device.specs.World.{File}
use Rattle.odb_device.specs.Images.{IsImage, EachImage}
use Rattle.odb_reclog.specs.Records.{payload_at}
use Rattle.odb_device.specs.Zeros.{AreZero}
use Rattle.odb_codec.specs.Reading.{read_entry}
use Rattle.odb_pair.specs.Places.{opened as pair_opened}
use Rattle.odb_model.specs.declared.entry.Entry.{Entry}
use Rattle.odb_transdb.specs.declared.header.Header.{Header}
use Rattle.odb_transdb.specs.Header.{file_size}
use Rattle.odb_transdb.specs.Standing.{Db}

-- behind the closed gate of the next record the file reads the image of this entry, where it is
-- told
abbrev pub IsWritten : Db → Entry → Option File → Type 0
IsWritten db e file = IfSome file
    (λ f. read_entry db.active.next (payload_at db.active.place f.bytes) ≡ Ok e)

-- the bytes go on to a place at least, and those from another to before it are zeros
pub record IsBlankFrom (start end : ℕ) (bytes : List ℕ) : Type 0 where
  pub long : end ≤ length bytes
  pub zero : AreZero start end bytes

abbrev pub IsBlank : ℕ → List ℕ → Type 0
IsBlank end bytes = IsBlankFrom 1024 end bytes

-- the pair is that of the bytes from before, where these were as long as a pair
abbrev pub KeepsPair : List ℕ → List ℕ → Type 0
KeepsPair before image = 1024 ≤ length before → pair_opened image ≡ pair_opened before

-- While a database is made: each image has the pair that one from before had, or its sides are
-- those of this header, all zeros, already
abbrev pub PairComesLast : Header → Option File → Option File → Type 0
PairComesLast h None new = new ≡ None
PairComesLast h (Some old) new = EachImage (λ image.
    ((before : List ℕ) × IsImage old before × KeepsPair before image)
    ⊎ IsBlank (file_size h) image) new
