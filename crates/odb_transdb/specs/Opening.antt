-- What the parts of an opening find.
use Rattle.std.specs.Prelude.{◌≡◌, ◌≢◌, ℕ, ◌+◌, ◌-◌, ◌<◌, ◌≤◌, List, length, slice_index, EachIndex, Option, Some, None, Result, Ok, Err}
use Rattle.odb_device.specs.World.{File}
use Rattle.odb_pair.specs.Places.{Opened as PairOpened, no_open_place, malformed, holding as holding_value}
use Rattle.odb_pair.specs.Standing.{PairState}
use Rattle.odb_reclog.specs.Records.{end_of_list}
use Rattle.odb_reclog.specs.Moments.{KeepsLists}
use Rattle.odb_reclog.specs.Standing.{Log}
use Rattle.odb_model.specs.declared.side.OtherSide.TheVariants.{Live, Clean}
use Rattle.odb_transdb.specs.declared.header.Header.{Header}
use Rattle.odb_transdb.specs.declared.error.TransdbError.{TransdbError}
use Rattle.odb_transdb.specs.declared.error.TransdbError.TheVariants.{NoDatabase, Damaged, Full, FaultBefore, InDoubt, NotClean, Held, Fault, NoMemory}
use Rattle.odb_transdb.specs.Header.{side_start, side_end, file_size, first_on, active_first, other_of}
use Rattle.odb_transdb.specs.Opened.{Opened, damaged, side_list, first_other}
use Rattle.odb_transdb.specs.Standing.{IsLiveBy}

-- the pair that the bytes hold
abbrev pub IsPairFound : Result PairState TransdbError → PairOpened → Type 0
IsPairFound (Ok pair) what = what ≡ holding_value pair.value
IsPairFound (Err NoDatabase) what = what ≡ no_open_place
IsPairFound (Err (Damaged at)) what = (at ≡ 0) × (what ≡ malformed)
IsPairFound (Err Fault) what = Unit {0}
IsPairFound (Err NoMemory) what = ⊥
IsPairFound (Err (Full need room)) what = ⊥
IsPairFound (Err NotClean) what = ⊥
IsPairFound (Err (Held mark last)) what = ⊥
IsPairFound (Err FaultBefore) what = ⊥
IsPairFound (Err (InDoubt number)) what = ⊥

-- P, or damage as these bytes show it
abbrev pub IsUnless : {T : Type 0} → Opened → (T → Type 0) → Result T TransdbError → Type 0
IsUnless what P (Ok x) = P x
IsUnless what P (Err (Damaged at)) = what ≡ damaged at
IsUnless what P (Err Fault) = Unit {0}
IsUnless what P (Err NoMemory) = ⊥
IsUnless what P (Err NoDatabase) = ⊥
IsUnless what P (Err (Full need room)) = ⊥
IsUnless what P (Err NotClean) = ⊥
IsUnless what P (Err (Held mark last)) = ⊥
IsUnless what P (Err FaultBefore) = ⊥
IsUnless what P (Err (InDoubt number)) = ⊥

-- the bytes are as long as the sides, and a Clean side is zeros
pub record IsChecked (h : Header) (bytes : List ℕ) : Type 0 where
  pub long : file_size h ≤ length bytes
  pub clean : h.other ≡ Clean → first_other h (other_of h) bytes ≡ None

-- a Live side ends right before the active one begins
abbrev pub EndsRight : Header → List ℕ → Type 0
EndsRight h bytes =
    let other = other_of h in
    h.other ≡ Live → first_on h other + length (side_list h other bytes) ≡ active_first h

-- each image is one from before but for this side's bytes, and has its list
abbrev pub KeepsSide : Header → ℕ → Option File → Option File → Type 0
KeepsSide h side =
    let start = side_start h side in
    let end = side_end h side in
    KeepsLists start end (first_on h side) start (end - start)

-- the log of the other side, where that is Live
abbrev pub IsLiveLog : Header → Option Log → Type 0
IsLiveLog h live = (active : Log) → active.first ≡ active_first h → IsLiveBy h h.other live active

-- the index of the first byte that isn't zero
abbrev pub IsFirstOther : List ℕ → Option ℕ → Type 0
IsFirstOther bytes None = EachIndex bytes (λ k. slice_index bytes k ≡ 0)
IsFirstOther bytes (Some n) =
    (n < length bytes) × (slice_index bytes n ≢ 0)
    × ((k : ℕ) → k < n → slice_index bytes k ≡ 0)

-- the log goes on where the list of this side ends
pub record GoesOn (h : Header) (side : ℕ) (bytes : List ℕ) (log : Log) : Type 0 where
  pub place : end_of_list (side_start h side) (side_list h side bytes) ≡ log.place
  pub number : first_on h side + length (side_list h side bytes) ≡ log.next

-- the payloads that were read of a side end where its log goes on, of whatever file
pub record IsCounted (h : Header) (side : ℕ) (log : Log) (payloads : List (List ℕ)) : Type 0 where
  pub number : first_on h side + length payloads ≡ log.next
  pub place : end_of_list (side_start h side) payloads ≡ log.place
