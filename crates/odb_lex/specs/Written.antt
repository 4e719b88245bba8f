-- What a function that writes into a string ensures.
use Rattle.std.specs.Prelude.{◌≡◌, List, ℕ, ◌++◌, Result, OnOk, String, string_bytes}
use Rattle.std.specs.declared.alloc.AllocError.{AllocError}

-- where it ends well, these bytes stand behind what was written before
abbrev pub Appends : {A : Type 0} → Result (Unit {0}) AllocError → String A → String A → List ℕ
    → Type 0
Appends result old new bytes = OnOk result (string_bytes new ≡ string_bytes old ++ bytes)
