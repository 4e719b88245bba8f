-- What is written behind the first 1,024 bytes of a file doesn't touch its pair.
use Rattle.std.proofs.Common.{◌≡◌, inl, ℕ, ◌+◌, ◌-◌, ◌*◌, ◌≤◌, List, length, ap, arith}
use Rattle.std.specs.Int.{w64, from_be_bytes}
use Rattle.std.proofs.lemmas.Bool.Decides.{nat_tests}
use Rattle.odb_device.specs.Images.{Torn}
use Rattle.odb_device.specs.TornSets.{InRange}
use Rattle.odb_device.specs.Frames.{AgreeIn, LooksAt, AsksOf}
use Rattle.odb_device.proofs.Frames.{agree_less, looks_byte, looks_part}
use Rattle.odb_pair.specs.Places.{gate, sequence, payload, opened}
use Rattle.odb_pair.specs.Standing.{PairState, StandsFor}
use Rattle.odb_pair.specs.Same.{SamePlace, stands_same, opened_same, place_stays}

pub stands_beside : (pair : PairState) (at n : ℕ) (before image : List ℕ) → StandsFor pair before
    → Torn at n before image → 1024 ≤ at → StandsFor pair image
stands_beside pair at n before image h t far =
    let long : 1024 ≤ length before = h.long in
    let place : pair.place ≤ 1 = h.place in
    stands_same pair before image h (omega (arith, t.no_shorter))
    (place_stays pair.place at n before image t (omega arith) (inl (omega arith)))
    (place_stays (1 - pair.place) at n before image t (omega arith) (inl (omega arith)))

pub opens_beside : (at n : ℕ) (before image : List ℕ) → 1024 ≤ length before
    → Torn at n before image → 1024 ≤ at → opened image ≡ opened before
opens_beside at n before image long t far =
    let short : length before ≤ length image = t.no_shorter in
    opened_same before image (grind (arith, nat_tests))
    (place_stays 0 at n before image t (omega arith) (inl (omega arith)))
    (place_stays 1 at n before image t (omega arith) (inl (omega arith)))

-- a place is looked at in its first 49 bytes alone
same_place : (p : ℕ) (a b : List ℕ) → p ≤ 1 → AgreeIn (InRange 0 1024) 1024 a b → SamePlace p a b
unfolding gate sequence payload
same_place p a b small agree = record {
  is_open = looks_byte (512 * p) a b (inside (512 * p) 1 (omega arith));
  number = ap (from_be_bytes w64) (looks_part (512 * p + 1) 8 a b (inside (512 * p + 1) 8 (omega arith)));
  value = looks_part (512 * p + 9) 40 a b (inside (512 * p + 9) 40 (omega arith));
}
  where
    inside : (at n : ℕ) → at + n ≤ 1024 → AgreeIn (InRange at n) (at + n) a b
    inside at n within =
        agree_less (InRange 0 1024) (InRange at n) 1024 (at + n) a b
        (λ i here. (omega arith, omega (arith, here.1))) within agree

-- whether bytes are those of a pair, and what they open to, asks of the first 1,024 alone
pub pair_asks : (pair : PairState) → AsksOf (InRange 0 1024) 1024 (StandsFor pair)
pair_asks pair a b agree stands =
    let small : pair.place ≤ 1 = stands.place in
    stands_same pair a b stands agree.as_long (same_place pair.place a b small agree)
    (same_place (1 - pair.place) a b (omega arith) agree)

pub opened_looks : LooksAt (InRange 0 1024) 1024 opened
opened_looks a b agree =
    let long : 1024 ≤ length a = agree.long in
    let as_long : 1024 ≤ length b = agree.as_long in
    opened_same a b (grind (arith, nat_tests)) (same_place 0 a b (omega arith) agree)
    (same_place 1 a b (omega arith) agree)
