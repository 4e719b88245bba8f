-- What a creation leaves of a database that is there.
use Rattle.std.proofs.Common.{◌≡◌, ◌≢◌, subst, Option, Some, None, Result, Err}
use Rattle.std.specs.Prelude.{IfSome}
use Rattle.odb_device.specs.World.{File, World, file_of}
use Rattle.odb_device.specs.Moments.{WritesWithin}
use Rattle.odb_pair.specs.Answers.{IsOpened}
use Rattle.odb_pair.specs.Places.{no_open_place, opened}
use Rattle.odb_pair.specs.Standing.{PairState}
use Rattle.odb_pair.specs.declared.error.PairError.{PairError}
use Rattle.odb_pair.specs.declared.error.PairError.TheVariants.{NoOpenPlace}
use Rattle.odb_tool.specs.Created.{LeavesDatabase}

-- what holds anyway holds where the pair has an open place
anyway : (T : Type 0) (o : Option File) → T → IfSome o (λ f. opened f.bytes ≢ no_open_place → T)
anyway T None t = tt
anyway T (Some f) t = λ there. t

-- so does anything where it has none
never : (T : Type 0) (o : Option File) → IfSome o (λ f. opened f.bytes ≡ no_open_place) → IfSome o (λ f. opened f.bytes ≢ no_open_place → T)
never T None none = tt
never T (Some f) none = λ there. absurd (there none)

pub leaves_unwritten : (old new : World) → WritesWithin 0 0 0 old new → LeavesDatabase old new
leaves_unwritten old new within = anyway (WritesWithin 0 0 0 old new) (file_of 0 old) within

pub leaves_none : (old new : World) → IfSome (file_of 0 old) (λ f. opened f.bytes ≡ no_open_place) → LeavesDatabase old new
leaves_none old new none = never (WritesWithin 0 0 0 old new) (file_of 0 old) none

-- the pair had no open place
pub none_by : (old : World) (r : Result PairState PairError) → r ≡ Err NoOpenPlace → IfSome (file_of 0 old) (λ f. IsOpened r f.bytes) → IfSome (file_of 0 old) (λ f. opened f.bytes ≡ no_open_place)
none_by old r is answer = subst (λ (s : Result PairState PairError). IfSome (file_of 0 old) (λ f. IsOpened s f.bytes)) is answer
