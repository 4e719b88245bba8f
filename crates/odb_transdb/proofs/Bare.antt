-- A side that is looked through for a byte that isn't zero.
use Rattle.std.proofs.Common.{◌≡◌, ◌≢◌, inl, inr, ℕ, ◌+◌, ◌-◌, ◌^◌, ◌<◌, ◌≤◌, min, Bool, true, List, length, Option, Some, None, refl, sym, ◌∙◌, ap, subst, arith}
use Rattle.std.specs.Prelude.{not, ◌==◌, nat_lt, slice_index, option_map, position, if◌then◌else◌, IfSome}
use Rattle.std.specs.List.{position_or_len}
use Rattle.std.proofs.lemmas.Bool.{cases_lt}
use Rattle.std.proofs.lemmas.Bool.Decides.{nat_tests}
use Rattle.std.proofs.lemmas.List.Sums.{position_or_len_is}
use Rattle.odb_device.specs.World.{File, World, file_of}
use Rattle.odb_device.specs.Images.{part}
use Rattle.odb_device.specs.Calls.{HasRead}
use Rattle.odb_device.specs.Moments.{Runs}
use Rattle.odb_device.proofs.Bytes.{part_at, length-part}
use Rattle.odb_device.proofs.Time.{begins, joins, weakens, run_end}
use Rattle.odb_device.specs.Zeros.{AreZero}
use Rattle.odb_transdb.specs.declared.header.Header.{Header}
use Rattle.odb_transdb.specs.Header.{side_start, side_end, side_size, file_size, other_of}
use Rattle.odb_transdb.specs.Opened.{first_other}
use Rattle.odb_transdb.specs.Opening.{IsFirstOther}
use Rattle.odb_transdb.proofs.Sides.{inside_file}
use Rattle.odb_transdb.proofs.Creating.{zero_part}

not_zero : (b : ℕ) → b ≢ 0 → not (b == 0) ≡ true
not_zero b other = grind (arith, nat_tests)

-- the first byte of a part that isn't zero
position_found : (bytes : List ℕ) (n : ℕ) → n < length bytes → slice_index bytes n ≢ 0 → ((k : ℕ) → k < n → slice_index bytes k ≡ 0) → position (λ b. not (b == 0)) bytes ≡ Some n
position_found bytes n inside other before =
    let test : ℕ → Bool = λ (b : ℕ). not (b == 0) in
    let place : position_or_len test bytes ≡ n = position_or_len_is test bytes n 0 (omega arith) (λ k low. ap test (before k low)) (λ in_range. not_zero (slice_index bytes n) other) in
    ap (λ (k : ℕ). if nat_lt k (length bytes) then Some k else None) place ∙ below n (length bytes) inside
  where
    below : (n m : ℕ) → n < m → (if nat_lt n m then Some n else None) ≡ Some n
    below n m low = grind (arith, nat_tests)

-- so far the other side is zeros
pub record IsBare (w now : World) (start end at : ℕ) : Type 0 where
  pub run : Runs 0 (λ f. f ≡ file_of 0 w) w now
  pub low : start ≤ at
  pub high : at ≤ end
  pub zero : IfSome (file_of 0 w) (λ f. AreZero start at f.bytes)

pub bare_none : (w : World) (start end : ℕ) → start ≤ end → IsBare w w start end start
bare_none w start end some = record { run = begins 0 (λ f. f ≡ file_of 0 w) w refl; low = omega arith; high = some; zero = of_file (file_of 0 w) }
  where
    of_file : (o : Option File) → IfSome o (λ f. AreZero start start f.bytes)
    of_file None = tt
    of_file (Some f) = λ i low high. absurd (omega arith)

module _ (w mid now : World) (start end at n : ℕ) (so_far : IsBare w mid start end at) (within : at + n ≤ end) (long : IfSome (file_of 0 w) (λ f. end ≤ length f.bytes)) (run : Runs 0 (λ f. f ≡ file_of 0 mid) mid now) where
  same_file : file_of 0 mid ≡ file_of 0 w
  same_file = run_end 0 (λ f. f ≡ file_of 0 w) w mid so_far.run

  pub bare_run : Runs 0 (λ f. f ≡ file_of 0 w) w now
  bare_run = joins 0 (λ f. f ≡ file_of 0 w) w mid now so_far.run (weakens 0 (λ f. f ≡ file_of 0 mid) (λ f. f ≡ file_of 0 w) mid now (λ o is. is ∙ same_file) run)

  abbrev pub Looked : Option ℕ → Option File → Type 0
  Looked found o = IfSome o (λ f. at + n ≤ length f.bytes → IsFirstOther (part at n f.bytes) found)

  -- a piece of zeros more
  pub bare_more : Looked None (file_of 0 mid) → IsBare w now start end (at + n)
  bare_more looked = record {
    run = bare_run;
    low = omega (arith, so_far.low);
    high = within;
    zero = of_file (file_of 0 w) long so_far.zero (subst (Looked None) same_file looked);
  }
    where
      of_file : (o : Option File) → IfSome o (λ f. end ≤ length f.bytes) → IfSome o (λ f. AreZero start at f.bytes) → Looked None o → IfSome o (λ f. AreZero start (at + n) f.bytes)
      of_file None long zero looked = tt
      of_file (Some f) long zero looked = λ i low high. elim (cases_lt i at) [
        | inl before ↦ zero i low before
        | inr inside ↦
            let k = i - at in
            let there : at + k ≡ i = omega arith in
            let few : k < n = omega arith in
            let size = length-part at n f.bytes (omega arith) in
            ap (slice_index f.bytes) (sym there) ∙ sym (part_at at n f.bytes k few) ∙ looked (omega arith) k (omega arith)
      ]

  -- or another byte
  pub bare_found : (h : Header) → start ≡ side_start h (other_of h) → end ≡ side_end h (other_of h) → end < 2 ^ 64 → (k place : ℕ) → place ≡ min (at + k) (2 ^ 64 - 1) → Looked (Some k) (file_of 0 mid)
      → IfSome (file_of 0 w) (λ f. Some place ≡ option_map (λ n. side_start h (other_of h) + n) (first_other h (other_of h) f.bytes))
  bare_found h starts ends small k place is_place looked = of_file (file_of 0 w) long so_far.zero (subst (Looked (Some k)) same_file looked)
    where
      of_file : (o : Option File) → IfSome o (λ f. end ≤ length f.bytes) → IfSome o (λ f. AreZero start at f.bytes) → Looked (Some k) o
          → IfSome o (λ f. Some place ≡ option_map (λ n. side_start h (other_of h) + n) (first_other h (other_of h) f.bytes))
      of_file None long zero looked = tt
      of_file (Some f) long zero looked =
          let side = part (side_start h (other_of h)) (side_size h) f.bytes in
          let one = looked (omega arith) in
          let size = length-part at n f.bytes (omega arith) in
          let few : k < n = omega (arith, one.0) in
          let all = length-part (side_start h (other_of h)) (side_size h) f.bytes (omega (arith, starts, ends)) in
          let m = at - start + k in
          let there : side_start h (other_of h) + m ≡ at + k = omega (arith, so_far.low, starts) in
          let at_place : slice_index side m ≡ slice_index (part at n f.bytes) k =
          part_at (side_start h (other_of h)) (side_size h) f.bytes m (omega (arith, starts, ends, so_far.low)) ∙ ap (slice_index f.bytes) there ∙ sym (part_at at n f.bytes k few) in
          let before : (i : ℕ) → i < m → slice_index side i ≡ 0 = λ i low. part_at (side_start h (other_of h)) (side_size h) f.bytes i (omega (arith, starts, ends, so_far.low)) ∙ elim (cases_lt (side_start h (other_of h) + i) at) [
            | inl front ↦ zero (side_start h (other_of h) + i) (omega (arith, starts)) front
            | inr inside ↦
                let j = side_start h (other_of h) + i - at in
                let back : side_start h (other_of h) + i ≡ at + j = omega arith in
                ap (slice_index f.bytes) back ∙ sym (part_at at n f.bytes j (omega (arith, so_far.low, starts))) ∙ one.2 j (omega (arith, so_far.low, starts))
          ] in
          let found : first_other h (other_of h) f.bytes ≡ Some m = position_found side m (omega (arith, all, starts, ends, so_far.low)) (λ is_zero. one.1 (sym at_place ∙ is_zero)) before in
          let result : side_start h (other_of h) + m ≡ place = omega (arith, there, is_place, few, within, small) in
          sym (ap (option_map (λ (n : ℕ). side_start h (other_of h) + n)) found ∙ ap (λ (p : ℕ). Some p) result)

-- all of it is zeros
pub bare_all : (w now : World) (start end at : ℕ) → IsBare w now start end at → end ≤ at → (h : Header) → start ≡ side_start h (other_of h) → end ≡ side_end h (other_of h) → IfSome (file_of 0 w) (λ f. end ≤ length f.bytes)
    → IfSome (file_of 0 w) (λ f. None ≡ option_map (λ n. side_start h (other_of h) + n) (first_other h (other_of h) f.bytes))
bare_all w now start end at so_far over h starts ends long = of_file (file_of 0 w) long so_far.zero
  where
    of_file : (o : Option File) → IfSome o (λ f. end ≤ length f.bytes) → IfSome o (λ f. AreZero start at f.bytes) → IfSome o (λ f. None ≡ option_map (λ n. side_start h (other_of h) + n) (first_other h (other_of h) f.bytes))
    of_file None long zero = tt
    of_file (Some f) long zero =
        let none : first_other h (other_of h) f.bytes ≡ None =
        zero_part (side_start h (other_of h)) (side_size h) f.bytes (omega (arith, ends)) (λ i low high. zero i (omega (arith, starts)) (omega (arith, ends))) in
        sym (ap (option_map (λ (n : ℕ). side_start h (other_of h) + n)) none)

-- where the other side lies
pub other_start : (h : Header) (side start : ℕ) → side ≡ other_of h → start ≡ side_start h side → start ≡ side_start h (other_of h)
other_start h side start is_other is = is ∙ ap (side_start h) is_other

-- and how long the file is
pub side_long : (h : Header) (side : ℕ) (o : Option File) → side ≤ 1 → IfSome o (λ f. file_size h ≤ length f.bytes) → IfSome o (λ f. side_end h side ≤ length f.bytes)
side_long h side None low long = tt
side_long h side (Some f) low long = omega (arith, inside_file h side low)

-- no side ends beyond a word's numbers
pub side_small : (h : Header) (side : ℕ) → side ≤ 1 → h.side_kib ≤ 16384 → side_end h side < 2 ^ 40
side_small h side low small = omega (arith, inside_file h side low)

-- where a whole piece was read, none of its bytes is missing
pub none_missing : (Q : Type 0) (o : Option File) (at n m : ℕ) (out : List ℕ) → HasRead o at n out → length out ≡ m → m ≤ n → IfSome o (λ f. (k : ℕ) → k < m → length f.bytes ≤ at + k → Q)
none_missing Q None at n m out read size whole = tt
none_missing Q (Some f) at n m out read size whole = λ k low missing. absurd (omega (arith, read.0))
