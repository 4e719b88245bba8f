-- What writes beside a region leave of its list: laws for other parts of the same file.
use Rattle.std.proofs.Common.{◌≡◌, ◌⊎◌, inl, inr, ℕ, suc, ◌+◌, ◌-◌, ◌≤◌, List, length, arith}
use Rattle.odb_device.specs.Images.{Torn}
use Rattle.odb_reclog.specs.Records.{log_of}
use Rattle.odb_reclog.specs.Standing.{Log, StandsFor}
use Rattle.odb_reclog.proofs.Records.{torn_outside, records_same}
use Rattle.odb_reclog.proofs.Standing.{stands_same}

other_side : (start end at n : ℕ) → (at + n ≤ start) ⊎ (end ≤ at) → (end ≤ at) ⊎ (at + n ≤ start)
other_side start end at n (inl before) = inr before
other_side start end at n (inr behind) = inl behind

-- they leave the list
pub lists_beside : (start end first at n : ℕ) (before image : List ℕ) → end ≤ length before → Torn at n before image → (at + n ≤ start) ⊎ (end ≤ at) → log_of start end first image ≡ log_of start end first before
lists_beside start end first at n before image long torn beside =
    records_same start end before image (torn_outside start end at n before image long torn (other_side start end at n beside)) (suc (end - start)) first start (omega arith)

-- and all that the bytes stand for
pub stands_beside : (log : Log) (records : List (List ℕ)) (tail : List ℕ) (at n : ℕ) (before image : List ℕ) → StandsFor log records tail before → Torn at n before image → (at + n ≤ log.start) ⊎ (log.end ≤ at)
    → StandsFor log records tail image
stands_beside log records tail at n before image stands torn beside =
    stands_same log records tail before image stands (torn_outside log.start log.end at n before image stands.long torn (other_side log.start log.end at n beside))
