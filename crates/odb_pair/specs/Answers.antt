-- What `open` and `value_of` answer.
use Rattle.std.specs.Prelude.{◌≡◌, ℕ, List, Result, Ok, Err}
use Rattle.odb_pair.specs.Places.{Opened, no_open_place, malformed, holding, opened}
use Rattle.odb_pair.specs.Standing.{PairState}
use Rattle.odb_pair.specs.declared.error.PairError.{PairError}
use Rattle.odb_pair.specs.declared.error.PairError.TheVariants.{Fault, NoOpenPlace, Malformed}

-- the value where the bytes hold one, else the refusal; a fault may come of any bytes
abbrev pub IsAnswer : Result (List ℕ) PairError → Opened → Type 0
IsAnswer (Ok value) what = what ≡ holding value
IsAnswer (Err NoOpenPlace) what = what ≡ no_open_place
IsAnswer (Err Malformed) what = what ≡ malformed
IsAnswer (Err Fault) what = Unit {0}

-- the answer with `f` of what is Ok
abbrev pub result_map : {T U E : Type 0} → (T → U) → Result T E → Result U E
result_map f (Ok x) = Ok (f x)
result_map f (Err e) = Err e

-- the value of the pair found is the one that the bytes hold, else the refusal is theirs
abbrev pub IsOpened : Result PairState PairError → List ℕ → Type 0
IsOpened result bytes = IsAnswer (result_map (λ pair. pair.value) result) (opened bytes)
