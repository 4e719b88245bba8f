-- Records in the order of their keys.
use Rattle.std.specs.Prelude.{◌≡◌, false, List, [], ◌∷◌, ◌++◌}
use Rattle.std.specs.Ordering.{is_gt}
use Rattle.odb_model.specs.State.{table_key_cmp}
use Rattle.odb_bank.specs.declared.kept.Kept.{Kept}
use Rattle.odb_bank.specs.History.{Key}

-- the one key isn't behind the other
abbrev pub IsUpTo : Key → Key → Type 0
IsUpTo a c = is_gt (table_key_cmp a c) ≡ false

-- each record is so
abbrev pub Each : (Kept → Type 0) → List Kept → Type 0
Each P [] = Unit {0}
Each P (x ∷ xs) = P x × Each P xs

-- no record's key is behind that of a later one
abbrev pub IsInOrder : List Kept → Type 0
IsInOrder [] = Unit {0}
IsInOrder (x ∷ xs) = Each (λ y. IsUpTo x.at y.at) xs × IsInOrder xs

-- the second list goes on from the first
pub record CanJoin (front back : List Kept) : Type 0 where
  pub order : IsInOrder (front ++ back)

-- the records whose keys aren't behind this one, and those that it isn't behind
pub record IsCut (at : Key) (all front back : List Kept) : Type 0 where
  pub was : all ≡ front ++ back
  pub low : Each (λ x. IsUpTo x.at at) front
  pub high : Each (λ x. IsUpTo at x.at) back

-- a record is put between those
pub record IsPut (it : Kept) (old new : List Kept) : Type 0 where
  pub front : List Kept
  pub back : List Kept
  pub cut : IsCut it.at old front back
  pub now : new ≡ front ++ it ∷ back
