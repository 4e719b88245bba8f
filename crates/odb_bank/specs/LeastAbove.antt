-- The write of the least key behind another one, in entries.
use Rattle.std.specs.Prelude.{◌≡◌, ℕ, ◌<◌, Bool, false, not, List, slice_get, Option, Some, None}
use Rattle.std.specs.Ordering.{is_gt, is_lt}
use Rattle.std.specs.declared.cmp.Ordering.TheVariants.{Less}
use Rattle.odb_model.specs.declared.entry.Entry.{Entry}
use Rattle.odb_model.specs.declared.write.Write.{Write}
use Rattle.odb_model.specs.State.{table_key_cmp, table_key_of}
use Rattle.odb_bank.specs.History.{Key}

abbrev pub IsBehind : Option Key → Key → Type 0
IsBehind None key = Unit {0}
IsBehind (Some before) key = table_key_cmp before key ≡ Less

-- a write in the databank, of a key behind the one before
abbrev pub IsAbove : ℕ → Option Key → Write → Type 0
IsAbove bank above w = (w.bank ≡ bank) × IsBehind above (table_key_of w)

-- whether a write has a key that isn't behind this one
abbrev pub is_passed : Key → Write → Bool
is_passed before w = not (is_lt (table_key_cmp before (table_key_of w)))

-- none of the first so many writes has a key behind the one before
abbrev pub ArePassed : Option Key → List Write → ℕ → Type 0
ArePassed above writes n = (k : ℕ) (w : Write) → k < n → slice_get writes k ≡ Some w
    → IsBehind above (table_key_of w) → ⊥

-- the first of the writes that is so; or none is
abbrev pub IsFirstAbove : ℕ → Option Key → List Write → ℕ → Option ℕ → Type 0
IsFirstAbove bank above writes n None =
    (k : ℕ) (w : Write) → k < n → slice_get writes k ≡ Some w → IsAbove bank above w → ⊥
IsFirstAbove bank above writes n (Some place) = (w : Write) × (slice_get writes place ≡ Some w)
    × IsAbove bank above w
    × ((k : ℕ) (x : Write) → k < place → slice_get writes k ≡ Some x → IsAbove bank above x → ⊥)

-- Of the first n entries, one has at this place a write that is so, of the least key; and none
-- behind it has a write of that key.
pub record IsLeastAt (bank : ℕ) (above : Option Key) (entries : List Entry) (n : ℕ)
    (places : ℕ × ℕ) (e : Entry) (w : Write) : Type 0 where
  pub below : places.0 < n
  pub is_entry : slice_get entries places.0 ≡ Some e
  pub is_write : slice_get e.writes places.1 ≡ Some w
  pub is_above : IsAbove bank above w
  pub least : (k m : ℕ) (f : Entry) (x : Write) → k < n → slice_get entries k ≡ Some f
      → slice_get f.writes m ≡ Some x → IsAbove bank above x
      → is_gt (table_key_cmp (table_key_of w) (table_key_of x)) ≡ false
  pub last : (k m : ℕ) (f : Entry) (x : Write) → places.0 < k → k < n
      → slice_get entries k ≡ Some f → slice_get f.writes m ≡ Some x
      → IsAbove bank above x → table_key_of x ≡ table_key_of w → ⊥

-- such a write; or none is so
abbrev pub IsLeast : ℕ → Option Key → List Entry → ℕ → Option (ℕ × ℕ) → Type 0
IsLeast bank above entries n None = (k m : ℕ) (f : Entry) (x : Write) → k < n
    → slice_get entries k ≡ Some f → slice_get f.writes m ≡ Some x → IsAbove bank above x → ⊥
IsLeast bank above entries n (Some places) =
    (e : Entry) × (w : Write) × IsLeastAt bank above entries n places e w
