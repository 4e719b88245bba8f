-- What a function that puts bytes behind others ensures.
use Rattle.std.specs.Prelude.{◌≡◌, List, ℕ, ◌++◌, Result, OnOk}
use Rattle.std.specs.declared.alloc.AllocError.{AllocError}

-- where it ends well, these bytes stand behind the old ones
abbrev pub Puts : Result (Unit {0}) AllocError → List ℕ → List ℕ → List ℕ → Type 0
Puts result old new bytes = OnOk result (new ≡ old ++ bytes)
