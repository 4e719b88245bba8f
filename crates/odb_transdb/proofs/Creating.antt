-- Sides that are zeros, and the database that they are.
use Rattle.std.proofs.Common.{◌≡◌, ◌⊎◌, inl, inr, ℕ, suc, ◌+◌, ◌-◌, ◌<◌, ◌≤◌, max, Bool, false, List, [], ◌∷◌, length, Option, Some, None, Result, refl, sym, ◌∙◌, ap, subst, arith}
use Rattle.std.specs.Prelude.{IsTrue, not, ◌==◌, nat_lt, slice_index, option_map, position, if◌then◌else◌, IfSome, OnOk, OnErr}
use Rattle.std.specs.List.{position_or_len}
use Rattle.std.proofs.lemmas.Bool.Decides.{nat_tests}
use Rattle.std.proofs.lemmas.List.Sums.{position_or_len_is}
use Rattle.odb_device.specs.World.{File, World, file_of}
use Rattle.odb_device.specs.Images.{IsImage, EachImage, ReadsImage, Torn, TornFrom, part, kept}
use Rattle.odb_device.specs.Calls.{CallsOn, Keeps, Unsettles}
use Rattle.odb_device.specs.Moments.{Runs}
use Rattle.odb_device.proofs.Bytes.{part_at, length-part, image_kept}
use Rattle.odb_device.proofs.OneCall.{sync_from}
use Rattle.odb_device.proofs.Time.{begins, goes_on, weakens, joins, run_end}
use Rattle.odb_device.proofs.Torn.{torn_each, each_weakens, stays_from}
use Rattle.odb_pair.specs.Places.{Holds as PairHolds}
use Rattle.odb_pair.specs.Same.{opened_same, place_stays}
use Rattle.odb_reclog.specs.Records.{records_from, payload_at, end_at}
use Rattle.odb_device.specs.Zeros.{ReadsZero, ZerosGoOn}
use Rattle.odb_reclog.specs.Told.{TearsOnly}
use Rattle.odb_reclog.proofs.Pieces.{from_widens, from_then}
use Rattle.odb_reclog.proofs.Records.{no_gate}
use Rattle.odb_reclog.proofs.Standing.{zero_gate}
use Rattle.odb_transdb.specs.Header.{header_image, is_header, side_start, side_end, side_size, file_size, new_header}
use Rattle.odb_transdb.specs.Opened.{entries_from, Holds}
use Rattle.odb_transdb.specs.Steps.{IsBlankFrom, IsBlank, KeepsPair, PairComesLast}
use Rattle.odb_transdb.proofs.Headers.{header_again}
use Rattle.odb_transdb.proofs.Opened.{Has, has_holds}

-- a side of zeros has no record
pub zero_list : (most end number place : ℕ) (bytes : List ℕ) → slice_index bytes place ≡ 0 → records_from (suc most) end number place bytes ≡ []
zero_list most end number place bytes is_zero =
    ap (λ (b : Bool). if b then payload_at place bytes ∷ records_from most end (number + 1) (end_at place bytes) bytes else []) (no_gate end number place bytes (zero_gate place bytes is_zero))

-- and no other byte
pub zero_part : (at n : ℕ) (bytes : List ℕ) → at + n ≤ length bytes → ((i : ℕ) → at ≤ i → i < at + n → slice_index bytes i ≡ 0) → position (λ b. not (b == 0)) (part at n bytes) ≡ None
zero_part at n bytes within zeros =
    let test : ℕ → Bool = λ (b : ℕ). not (b == 0) in
    let bytes_in = part at n bytes in
    let long : length bytes_in ≡ n = length-part at n bytes within in
    let none : (k : ℕ) → k < length bytes_in → test (slice_index bytes_in k) ≡ false =
    λ k low. ap test (part_at at n bytes k (omega arith) ∙ zeros (at + k) (omega arith) (omega arith)) in
    let all : position_or_len test bytes_in ≡ length bytes_in = position_or_len_is test bytes_in (length bytes_in) 0 (omega arith) none (λ more. absurd (omega arith)) in
    ap (λ (k : ℕ). if nat_lt k (length bytes_in) then Some k else None) all ∙ not_below (length bytes_in)
  where
    not_below : (k : ℕ) → (if nat_lt k k then Some k else None) ≡ None
    not_below k = grind (arith, nat_tests)

lawful_new : (kib : ℕ) → 64 ≤ kib → kib ≤ 16384 → IsTrue (is_header (new_header kib))
lawful_new kib low high = grind (arith, nat_tests)

pub blank_has : (kib : ℕ) (bytes : List ℕ) → 64 ≤ kib → kib ≤ 16384 → IsBlank (file_size (new_header kib)) bytes → PairHolds (header_image (new_header kib)) bytes → Has (new_header kib) [] bytes
blank_has kib bytes low high blank pair =
    let h = new_header kib in
    record {
      order = record {
        has = record { value = header_image h; pair = pair; header = header_again h (lawful_new kib low high); long = blank.long };
        sound = zero_part (side_start h 1) (side_size h) bytes (omega (arith, blank.long)) (λ i from to. blank.zero i (omega arith) (omega arith));
      };
      read = ap (entries_from 1 (side_start h 0)) (zero_list (side_end h 0 - side_start h 0) (side_end h 0) 1 (side_start h 0) bytes (blank.zero (side_start h 0) (omega arith) (omega arith)));
    }

-- so far zeros are written
pub record IsZeroed (w now : World) (start end at : ℕ) : Type 0 where
  pub run : TearsOnly 0 start (end - start) w now
  pub low : start ≤ at
  pub high : at ≤ end
  pub zero : ReadsZero start at (file_of 0 now)
  pub long : IfSome (file_of 0 now) (λ f. at ≤ max start (length f.bytes))

pub zeroed_none : (w : World) (start end : ℕ) → start ≤ end → IsZeroed w w start end start
zeroed_none w start end more = record {
  run = begins 0 (TornFrom start (end - start) (file_of 0 w)) w (stays_from start (end - start) (file_of 0 w) (file_of 0 w) refl);
  low = omega arith;
  high = more;
  zero = nothing (file_of 0 w);
  long = short (file_of 0 w);
}
  where
    nothing : (o : Option File) → ReadsZero start start o
    nothing None = tt
    nothing (Some f) = λ i low high. absurd (omega arith)

    short : (o : Option File) → IfSome o (λ f. start ≤ max start (length f.bytes))
    short None = tt
    short (Some f) = omega arith

module _ (w mid now : World) (start end at n : ℕ) (so_far : IsZeroed w mid start end at) (within : at + n ≤ end) (call : CallsOn 0 mid now) (torn : TornFrom at n (file_of 0 mid) (file_of 0 now)) where
  -- whatever a write answered
  pub zeroed_run : TearsOnly 0 start (end - start) w now
  zeroed_run =
      let P = TornFrom start (end - start) (file_of 0 w) in
      let low = so_far.low in
      goes_on 0 P w mid now so_far.run call
      (from_then start (end - start) (file_of 0 w) (file_of 0 mid) (file_of 0 now) (run_end 0 P w mid so_far.run)
      (from_widens at n start (end - start) (file_of 0 mid) (file_of 0 now) (omega arith) (omega arith) torn))

  pub zeroed_more : ZerosGoOn at n (file_of 0 mid) (file_of 0 now) → IfSome (file_of 0 now) (λ f. at + n ≤ length f.bytes) → IsZeroed w now start end (at + n)
  zeroed_more zero long = record {
    run = zeroed_run;
    low = omega (arith, so_far.low);
    high = within;
    zero = zero start so_far.low so_far.zero;
    long = longer (file_of 0 now) long;
  }
    where
      longer : (o : Option File) → IfSome o (λ f. at + n ≤ length f.bytes) → IfSome o (λ f. at + n ≤ max start (length f.bytes))
      longer None is = tt
      longer (Some f) is = omega arith

-- whatever the sync behind them answered
pub zeroed_sync : {E : Type 0} (w mid now : World) (start end at : ℕ) (result : Result (Unit {0}) E) → IsZeroed w mid start end at → CallsOn 0 mid now → ReadsImage (file_of 0 mid) → OnOk result (Keeps 0 mid now) → OnErr result (Unsettles 0 mid now)
    → TearsOnly 0 start (end - start) w now
zeroed_sync w mid now start end at result so_far call reads kept unsettled =
    let P = TornFrom start (end - start) (file_of 0 w) in
    goes_on 0 P w mid now so_far.run call (sync_from 0 mid now result start (end - start) w (run_end 0 P w mid so_far.run) reads kept unsettled)

-- and synced
pub zeroed_kept : (w mid now : World) (start end : ℕ) → start < end → IsZeroed w mid start end end → Keeps 0 mid now → EachImage (IsBlankFrom start end) (file_of 0 now)
zeroed_kept w mid now start end more so_far keeps = subst (EachImage (IsBlankFrom start end)) (sym keeps) (of_mid (file_of 0 mid) so_far.zero so_far.long)
  where
    of_mid : (o : Option File) → ReadsZero start end o → IfSome o (λ f. end ≤ max start (length f.bytes)) → EachImage (IsBlankFrom start end) (option_map kept o)
    of_mid None zero long = tt
    of_mid (Some f) zero long = λ image is.
        let same = image_kept (kept f) image (refl, refl) is in
        let blank : IsBlankFrom start end f.bytes = record { long = omega arith; zero = zero } in
        subst (IsBlankFrom start end) (sym same) blank

-- the pair is made in front of them
pub blank_beside : (end at n : ℕ) (before image : List ℕ) → at + n ≤ 1024 → IsBlank end before → Torn at n before image → IsBlank end image
blank_beside end at n before image far blank torn = record {
  long = omega (arith, blank.long, torn.no_shorter);
  zero = λ i low high. torn.outside i (omega (arith, blank.long)) (inr (omega arith)) ∙ blank.zero i low high;
}

pub made_holds : (kib : ℕ) (mid now : World) → 64 ≤ kib → kib ≤ 16384 → EachImage (IsBlank (file_size (new_header kib))) (file_of 0 mid) → Runs 0 (TornFrom 0 1024 (file_of 0 mid)) mid now
    → EachImage (PairHolds (header_image (new_header kib))) (file_of 0 now) → EachImage (Holds (new_header kib) []) (file_of 0 now)
made_holds kib mid now low high blank run pair =
    let end = file_size (new_header kib) in
    let torn = run_end 0 (TornFrom 0 1024 (file_of 0 mid)) mid now run in
    let after = torn_each (IsBlank end) (IsBlank end) 0 1024 (file_of 0 mid) (file_of 0 now) (λ before image one t. blank_beside end 0 1024 before image (omega arith) one t) blank torn in
    both (file_of 0 now) after pair
  where
    both : (o : Option File) → EachImage (IsBlank (file_size (new_header kib))) o → EachImage (PairHolds (header_image (new_header kib))) o → EachImage (Holds (new_header kib) []) o
    both None blank pair = tt
    both (Some f) blank pair = λ image is. has_holds (new_header kib) [] image (blank_has kib image low high (blank image is) (pair image is))

-- a write behind the pair leaves it
pair_stays : (n : ℕ) (before image : List ℕ) → Torn 1024 n before image → KeepsPair before image
pair_stays n before image torn = λ long.
    let same : nat_lt (length image) 1024 ≡ nat_lt (length before) 1024 = grind (arith, nat_tests, torn.no_shorter, long) in
    opened_same before image same (place_stays 0 1024 n before image torn (omega arith) (inl (omega arith))) (place_stays 1 1024 n before image torn (omega arith) (inl (omega arith)))

module _ (kib : ℕ) where
  abbrev Last : Option File → Option File → Type 0
  Last = PairComesLast (new_header kib)

  abbrev end : ℕ
  end = file_size (new_header kib)

  torn_last : (o p : Option File) → TornFrom 1024 (end - 1024) o p → Last o p
  torn_last None p torn = torn
  torn_last (Some f) p torn =
      each_weakens (λ image. (before : List ℕ) × IsImage f before × Torn 1024 (end - 1024) before image)
      (λ image. ((before : List ℕ) × IsImage f before × KeepsPair before image) ⊎ IsBlank end image) p
      (λ image b. inl (b.0, b.1, pair_stays (end - 1024) b.0 image b.2)) torn

  blank_last : (o mid p : Option File) → TornFrom 1024 (end - 1024) o mid → EachImage (IsBlank end) mid → TornFrom 0 1024 mid p → Last o p
  blank_last None mid p first blank torn = subst (λ (m : Option File). TornFrom 0 1024 m p) first torn
  blank_last (Some f) mid p first blank torn =
      each_weakens (IsBlank end) (λ image. ((before : List ℕ) × IsImage f before × KeepsPair before image) ⊎ IsBlank end image) p (λ image b. inr b)
      (torn_each (IsBlank end) (IsBlank end) 0 1024 mid p (λ before image one t. blank_beside end 0 1024 before image (omega arith) one t) blank torn)

  -- the sides are zeroed
  pub sides_moments : (w mid : World) → TearsOnly 0 1024 (end - 1024) w mid → Runs 0 (Last (file_of 0 w)) w mid
  sides_moments w mid run = weakens 0 (TornFrom 1024 (end - 1024) (file_of 0 w)) (Last (file_of 0 w)) w mid (λ o torn. torn_last (file_of 0 w) o torn) run

  -- and then the pair is made
  pub made_moments : (w mid now : World) → TearsOnly 0 1024 (end - 1024) w mid → EachImage (IsBlank end) (file_of 0 mid) → TearsOnly 0 0 1024 mid now → Runs 0 (Last (file_of 0 w)) w now
  made_moments w mid now first blank second =
      let P = Last (file_of 0 w) in
      let here = run_end 0 (TornFrom 1024 (end - 1024) (file_of 0 w)) w mid first in
      joins 0 P w mid now (sides_moments w mid first) (weakens 0 (TornFrom 0 1024 (file_of 0 mid)) P mid now (λ o torn. blank_last (file_of 0 w) (file_of 0 mid) o here blank torn) second)

pub any_run : (P : Option File → Type 0) (w now : World) → Runs 0 P w now → Runs 0 (λ _. Unit {0}) w now
any_run P w now run = weakens 0 P (λ _. Unit {0}) w now (λ o is. tt) run
