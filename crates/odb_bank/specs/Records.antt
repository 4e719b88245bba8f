-- The open records of a file, by their slots, and the rows that they make.
use Rattle.std.specs.Prelude.{◌≡◌, ℕ, zero, suc, ◌<◌, ◌≤◌, ◌&&◌, nat_lt, if◌then◌else◌, Option, Some, None}
use Rattle.odb_bank.specs.History.{Key, Row, is_key}

-- a record: a row of the key, or a deletion mark, by the entry of this number
pub record Record : Type 0 where
  pub key : Key
  pub row : Option Row
  pub stamp : ℕ

-- what stands in each slot under an open gate; None under a closed one, and past the limit
abbrev pub View : Type 0
View = ℕ → Option Record

-- slots from the limit on hold none
abbrev pub IsWithin : ℕ → View → Type 0
IsWithin limit view = (n : ℕ) → limit ≤ n → view n ≡ None

-- the record of the key so far, or a later one where its stamp is greater
abbrev pub better : Key → Option Record → Option Record → Option Record
better key so_far None = so_far
better key None (Some r) = if is_key r.key key then Some r else None
better key (Some w) (Some r) =
    if is_key r.key key && nat_lt w.stamp r.stamp then Some r else Some w

-- the record of a key: the one of greatest stamp, among equal stamps the one in the least slot
abbrev pub record_of : ℕ → View → Key → Option Record
record_of zero view key = None
record_of (suc n) view key = better key (record_of n view key) (view n)

abbrev pub row_of : Option Record → Option Row
row_of None = None
row_of (Some r) = r.row

-- the key's row; a deletion mark means that it has none
abbrev pub bank_map : ℕ → View → Key → Option Row
bank_map limit view key = row_of (record_of limit view key)

-- it stands in an open slot, and no record of the key has a greater stamp, or the same and a lower
-- slot
pub record IsRecordOf (limit : ℕ) (view : View) (key : Key) (r : Record) : Type 0 where
  pub slot : ℕ
  pub below : slot < limit
  pub is_open : view slot ≡ Some r
  pub of_key : r.key ≡ key
  pub none_above : (n : ℕ) (other : Record) → n < limit → view n ≡ Some other
      → other.key ≡ key → other.stamp ≤ r.stamp
  pub least : (n : ℕ) (other : Record) → n < limit → view n ≡ Some other
      → other.key ≡ key → other.stamp ≡ r.stamp → slot ≤ n

-- the record of the key; or there is none
abbrev pub IsRecord : ℕ → View → Key → Option Record → Type 0
IsRecord limit view key None =
    (n : ℕ) (r : Record) → n < limit → view n ≡ Some r → r.key ≡ key → ⊥
IsRecord limit view key (Some r) = IsRecordOf limit view key r
