-- A file that is made: one extent of zeros, and then the pair.
use Rattle.std.proofs.Common.{ℕ, ◌≤◌, List, Option, Some, None, subst, arith}
use Rattle.odb_device.specs.World.{File, World, file_of}
use Rattle.odb_device.specs.Images.{IsImage, EachImage, Torn, TornFrom}
use Rattle.odb_device.specs.Moments.{WritesWithin}
use Rattle.odb_device.specs.TornSets.{InRange, TornIn, TornInFrom}
use Rattle.odb_device.proofs.Time.{joins, weakens, run_end}
use Rattle.odb_device.proofs.Torn.{each_weakens}
use Rattle.odb_device.proofs.TornSets.{range_torn, from_in_widens, from_in_then}
use Rattle.odb_device.proofs.Writing.{torn_in_done, run_inside}
use Rattle.odb_pair.specs.Places.{Holds as PairHolds}
use Rattle.odb_extent.specs.Opened.{content_end, limit_in, Holds, AddsZeros}
use Rattle.odb_extent.specs.Standing.{IsNew, IsBehindContent, WritesIn}
use Rattle.odb_extent.proofs.Values.{opens_to}
use Rattle.odb_extent.proofs.Putting.{IsValueOf, adds_front}

-- the bytes of the pair and of one extent
abbrev Whole : ℕ → Type 0
Whole = InRange 0 1049600

to_range : (o p : Option File) → TornInFrom Whole 1049600 o p → TornFrom 0 1049600 o p
to_range None p from = from
to_range (Some f) p from =
    each_weakens (λ image. (before : List ℕ) × IsImage f before × TornIn Whole 1049600 before image) (λ image. (before : List ℕ) × IsImage f before × Torn 0 1049600 before image) p
    (λ image b. (b.0, b.1, range_torn 0 1049600 b.0 image b.2)) from

as_range : (file : ℕ) (old new : World) → WritesIn Whole 1049600 file old new → WritesWithin file 0 1049600 old new
as_range file old new run = weakens file (TornInFrom Whole 1049600 (file_of file old)) (TornFrom 0 1049600 (file_of file old)) old new (λ o from. to_range (file_of file old) o from) run

blank_in : (file : ℕ) (old new : World) → WritesIn (IsBehindContent 0) (content_end 1) file old new → WritesIn Whole 1049600 file old new
blank_in file old new run =
    weakens file (TornInFrom (IsBehindContent 0) (content_end 1) (file_of file old)) (TornInFrom Whole 1049600 (file_of file old)) old new
    (λ o from. from_in_widens (IsBehindContent 0) Whole (content_end 1) 1049600 (file_of file old) o (λ i here. (omega arith, omega (arith, here.1))) (omega arith) from) run

-- while the extent is zeroed
pub blank_run : (file : ℕ) (old new : World) → WritesIn (IsBehindContent 0) (content_end 1) file old new → WritesWithin file 0 1049600 old new
blank_run file old new run = as_range file old new (blank_in file old new run)

-- and then the pair is made
pub made_run : (file : ℕ) (old mid new : World) → WritesIn (IsBehindContent 0) (content_end 1) file old mid → WritesWithin file 0 1024 mid new → WritesWithin file 0 1049600 old new
made_run file old mid new blank pair =
    let P = TornInFrom Whole 1049600 (file_of file old) in
    let first = blank_in file old mid blank in
    let here = run_end file P old mid first in
    let second = run_inside Whole 1049600 file 0 1024 mid new (λ i here. (here.0, omega (arith, here.1))) (omega arith) pair in
    as_range file old new (joins file P old mid new first (weakens file (TornInFrom Whole 1049600 (file_of file mid)) P mid new (λ o from. from_in_then Whole 1049600 (file_of file old) (file_of file mid) o here from) second))

pub holds_value : (most limit : ℕ) (fields value bytes : List ℕ) → IsValueOf limit fields value → 1 ≤ limit → limit ≤ most → PairHolds value bytes → Holds most limit fields bytes
holds_value most limit fields value bytes is low high pair =
    let here = opens_to most value bytes pair (omega (arith, is.limit_is)) (omega (arith, is.limit_is)) in
    subst (λ (n : ℕ). Holds most n fields bytes) is.limit_is (subst (λ (f : List ℕ). Holds most (limit_in value) f bytes) is.fields_are here)

pub made_new : (file most : ℕ) (fields value : List ℕ) (mid new : World) → IsValueOf 1 fields value → 1 ≤ most → EachImage (AddsZeros 0 1) (file_of file mid) → WritesWithin file 0 1024 mid new
    → EachImage (PairHolds value) (file_of file new) → EachImage (IsNew most fields) (file_of file new)
made_new file most fields value mid new is low blank pair holds =
    torn_in_done (InRange 0 1024) 1024 (AddsZeros 0 1) (PairHolds value) (IsNew most fields) file mid new
    (λ before image h t d.
    let zeros = adds_front 0 1 before image t h in
    record { holds = holds_value most 1 fields value image is (omega arith) low d; long = zeros.long (omega arith); zero = zeros.zero })
    blank (run_inside (InRange 0 1024) 1024 file 0 1024 mid new (λ i here. here) (omega arith) pair) holds
