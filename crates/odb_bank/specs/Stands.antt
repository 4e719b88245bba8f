-- When the open records of a file stand for a history.
use Rattle.std.specs.Prelude.{◌≡◌, ◌⊎◌, ℕ, ◌<◌, ◌≤◌, Some, None}
use Rattle.odb_bank.specs.History.{Key, History, IsLast}
use Rattle.odb_bank.specs.Records.{Record, View}

-- the entry of its stamp makes this write
pub record IsWriteOf (h : History) (r : Record) : Type 0 where
  pub from : 1 ≤ r.stamp
  pub to : r.stamp ≤ h.count
  pub writes : h.write r.stamp r.key ≡ Some r.row

abbrev pub IsTruthful : History → View → Type 0
IsTruthful h view = (n : ℕ) (r : Record) → view n ≡ Some r → IsWriteOf h r

-- an open record of the key, with a stamp of at least j
pub record Reaches (view : View) (key : Key) (j : ℕ) : Type 0 where
  pub slot : ℕ
  pub there : Record
  pub is_open : view slot ≡ Some there
  pub of_key : there.key ≡ key
  pub late : j ≤ there.stamp

-- each open record of the key has a stamp of at least j; there may be none
abbrev pub HasNoOlder : View → Key → ℕ → Type 0
HasNoOlder view key j =
    (n : ℕ) (r : Record) → view n ≡ Some r → r.key ≡ key → j ≤ r.stamp

-- Each key that one of the first a entries writes, last in entry j, has an open record of that stamp
-- or a later one; or that entry deletes it, and it has no older one.
abbrev pub IsCompleteTo : History → ℕ → View → Type 0
IsCompleteTo h a view = (key : Key) (j : ℕ) → IsLast h a key j
    → Reaches view key j ⊎ ((h.write j key ≡ Some None) × HasNoOlder view key j)

-- Truthful: each open record is a write of the entry of its stamp. Complete: the last write of each
-- key among the first a entries is there, or a later one

pub record Stands (h : History) (a : ℕ) (view : View) : Type 0 where
  pub truthful : IsTruthful h view
  pub complete : IsCompleteTo h a view

-- The same in the words of the greatest stamp.
-- An open record of the key has this stamp, and none a greater one.
pub record IsGreatest (view : View) (key : Key) (stamp : ℕ) : Type 0 where
  pub slot : ℕ
  pub there : Record
  pub is_open : view slot ≡ Some there
  pub of_key : there.key ≡ key
  pub stamped : there.stamp ≡ stamp
  pub none_above : (n : ℕ) (r : Record) → view n ≡ Some r → r.key ≡ key → r.stamp ≤ stamp

abbrev pub HasNone : View → Key → Type 0
HasNone view key = (n : ℕ) (r : Record) → view n ≡ Some r → r.key ≡ key → ⊥

-- the greatest open stamp of the key is j or above a; or entry j deletes the key and no record of it is open
abbrev pub HasGreatest : History → ℕ → View → Key → ℕ → Type 0
HasGreatest h a view key j =
    ((stamp : ℕ) × IsGreatest view key stamp × ((stamp ≡ j) ⊎ (a < stamp)))
    ⊎ ((h.write j key ≡ Some None) × HasNone view key)
