-- What a reader of the code answers: what reading gives, unless memory runs out.
use Rattle.std.specs.Prelude.{◌≡◌, ℕ, MatchResult, Result, Ok, Err}
use Rattle.odb_codec.specs.declared.error.CodecError.{CodecError}
use Rattle.odb_codec.specs.declared.error.CodecError.TheVariants.{NoMemory}
use Rattle.odb_codec.specs.declared.fault.ReadError.{ReadError}
use Rattle.odb_codec.specs.declared.error.CodecError.{CodecError}
use Rattle.odb_codec.specs.declared.error.CodecError.TheVariants.{NoMemory}
use Rattle.odb_codec.specs.declared.fault.ReadError.TheVariants.{Memory, Fault}

abbrev pub Fails : {Y : Type 0} → ReadError → Result Y ℕ → Type 0
Fails Memory read = Unit {0}
Fails (Fault left) read = read ≡ Err left

-- a reader of the crate's user gives this value, unless memory runs out
abbrev pub GivesOrNoMemory : {A : Type 0} → Result A CodecError → A → Type 0
GivesOrNoMemory result value = MatchResult result (λ found. found ≡ value) (λ e. e ≡ NoMemory)

-- what a function returned, seen by view
abbrev pub Gives : {X Y : Type 0} → (X → Y) → Result X ReadError → Result Y ℕ → Type 0
Gives view (Ok x) read = read ≡ Ok (view x)
Gives view (Err e) read = Fails e read
