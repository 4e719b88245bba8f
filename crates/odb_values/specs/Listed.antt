-- What contracts see of a list that is being built.
use Rattle.std.specs.Prelude.{ℕ, ◌+◌, ◌-◌, List, [], ◌∷◌, ◌++◌, take, refl}
use Rattle.std.specs.Coded.{Coded, code_by, coded×, coded_ℕ, coded_list}

-- the items of a list, and how many places are reserved behind them
pub record Listed (T : Type 0) : Type 0 where
  pub items : List T
  pub spare : ℕ

-- how the prover tells two such lists apart: by their items and their reserved places
abbrev pub listed_code : {T : Type 0} → Coded T → Coded (Listed T)
listed_code {T} c =
    code_by (List T × ℕ) (coded× (coded_list c) coded_ℕ) (λ l. (l.items, l.spare))
    (λ p. record { items = p.0; spare = p.1 }) (λ _. refl)

-- one more place
abbrev pub reserve : {T : Type 0} → Listed T → Listed T
reserve list = record { items = list.items; spare = list.spare + 1 }

-- an item behind the last one, in a reserved place
abbrev pub push : {T : Type 0} → Listed T → T → Listed T
push list item = record { items = list.items ++ item ∷ []; spare = list.spare - 1 }

-- items behind the last one
abbrev pub append : {T : Type 0} → Listed T → List T → Listed T
append list items = record { items = list.items ++ items; spare = list.spare }

-- the first items, at most this many
abbrev pub truncate : {T : Type 0} → Listed T → ℕ → Listed T
truncate list len = record { items = take len list.items; spare = list.spare }
