-- What the calls answer.
use Rattle.std.specs.Prelude.{◌≡◌, Result, Ok, Err}
use Rattle.odb_pair.specs.declared.error.PairError.{PairError}
use Rattle.odb_pair.specs.declared.error.PairError.TheVariants.{Fault as PairFault, NoOpenPlace as NoPlace, Malformed as MalformedPair}
use Rattle.odb_extent.specs.Opened.{Opened, no_open_place, malformed, holding}
use Rattle.odb_extent.specs.Standing.{ExtentState, limit_of, fields_of}
use Rattle.odb_extent.specs.declared.error.ExtentError.{ExtentError}
use Rattle.odb_extent.specs.declared.error.ExtentError.TheVariants.{Fault, Limit, NoOpenPlace, Malformed}

-- the limit and the fields where the bytes hold them, else the refusal; a fault may come of any
-- bytes
abbrev pub IsAnswer : Result ExtentState ExtentError → Opened → Type 0
IsAnswer (Ok e) what = what ≡ holding (limit_of e) (fields_of e)
IsAnswer (Err NoOpenPlace) what = what ≡ no_open_place
IsAnswer (Err Malformed) what = what ≡ malformed
IsAnswer (Err Fault) what = Unit {0}
IsAnswer (Err Limit) what = ⊥

-- what a refusal of the pair is here
abbrev pub refusal_of : PairError → ExtentError
refusal_of PairFault = Fault
refusal_of NoPlace = NoOpenPlace
refusal_of MalformedPair = Malformed

-- the refusals of `grow`
abbrev pub IsGrowRefusal : {T : Type 0} → Result T ExtentError → Type 0
IsGrowRefusal (Ok done) = Unit {0}
IsGrowRefusal (Err Fault) = Unit {0}
IsGrowRefusal (Err Limit) = Unit {0}
IsGrowRefusal (Err NoOpenPlace) = ⊥
IsGrowRefusal (Err Malformed) = ⊥
