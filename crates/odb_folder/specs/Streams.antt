-- What several calls of a reader or a writer did to the bytes that it tells, where it tells them.
use Rattle.std.specs.Prelude.{ℕ, ◌<◌, List, length, take, Option, Result, IfOk}
use Rattle.std.specs.Io.KnownBytes.{Appends, Consumes, IsAtEnd}

-- At Ok the reader gave the n bytes at the front of out; it gave fewer than there is room for
-- only at its end.
abbrev pub Fills : {E : Type 0}
    → Option (List ℕ) → Option (List ℕ) → Result ℕ E → List ℕ → Type 0
Fills old new result out =
    IfOk result (λ n. Consumes old new (take n out) × (n < length out → IsAtEnd new))

-- At Ok the writer took the n bytes at the front.
abbrev pub TakesFront : {E : Type 0}
    → Option (List ℕ) → Option (List ℕ) → Result ℕ E → List ℕ → Type 0
TakesFront old new result bytes = IfOk result (λ n. Appends old new (take n bytes))
