-- The least slots that aren't used.
use Rattle.std.specs.Prelude.{◌≡◌, ◌⊎◌, ℕ, ◌<◌, true, List, length}
use Rattle.std.specs.BTreeSet.{BTreeSet, contains}
use Rattle.std.specs.Ordering.{nat_cmp}
use Rattle.std.specs.List.{All, AllPairs}
use Rattle.odb_slots.specs.Sets.{IsOneOf}

-- so many slots, ascending; each one below them is used or one of them
pub record AreFree (used : List ℕ) (count : ℕ) (free : List ℕ) : Type 0 where
  pub as_many : length free ≡ count
  pub ascending : AllPairs (λ a c. a < c) free
  pub unused : (n : ℕ) → IsOneOf free n → IsOneOf used n → ⊥
  pub least : (n below : ℕ) → IsOneOf free n → below < n
      → IsOneOf used below ⊎ IsOneOf free below
  pub small : All (λ n. n < 4194304) free

-- a set has just the slots in use
pub record HasUsed (used : List ℕ) (set : BTreeSet ℕ) : Type 0 where
  pub used_only : (n : ℕ) → contains nat_cmp set n ≡ true → IsOneOf used n
  pub all : (n : ℕ) → IsOneOf used n → contains nat_cmp set n ≡ true
