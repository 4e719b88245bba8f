-- Zeros that are written.
use Rattle.std.proofs.Common.{◌≡◌, inl, inr, ℕ, ◌+◌, ◌-◌, ◌<◌, ◌≤◌, List, length, length-take, take, replicate, Option, Some, None, sym, ◌∙◌, ap, subst, arith}
use Rattle.std.specs.Prelude.{slice_index, option_map, IfSome, EachIndex}
use Rattle.std.proofs.lemmas.Bool.{cases_lt}
use Rattle.std.proofs.lemmas.List.{get_or-take, get_or-replicate, length-replicate}
use Rattle.odb_device.specs.World.{File, World, file_of}
use Rattle.odb_device.specs.Images.{overwritten, written}
use Rattle.odb_device.specs.Calls.{Writes}
use Rattle.odb_device.specs.Zeros.{ReadsZero}
use Rattle.odb_device.proofs.Bytes.{overwritten-front, overwritten-inside, length-overwritten}

-- zeros that are written behind zeros
pub written_zero : (from at : ℕ) (zeros : List ℕ) (file now : Option File) → EachIndex zeros (λ i. slice_index zeros i ≡ 0) → now ≡ option_map (written at zeros) file → ReadsZero from at file → ReadsZero from (at + length zeros) now
written_zero from at zeros None now all is before = subst (ReadsZero from (at + length zeros)) (sym is) tt
written_zero from at zeros (Some f) now all is before = subst (ReadsZero from (at + length zeros)) (sym is)
    (λ i low high. elim (cases_lt i at) [
      | inl front ↦ overwritten-front at zeros f.bytes i front ∙ before i low front
      | inr inside ↦
          let k = i - at in
          let there : at + k ≡ i = omega arith in
          let few : k < length zeros = omega arith in
          ap (slice_index (overwritten at zeros f.bytes)) (sym there) ∙ overwritten-inside at zeros f.bytes k few ∙ all k few
    ])

-- a front of a list of zeros
abbrev pub zeros_of : ℕ → ℕ → List ℕ
zeros_of n m = take n (replicate m 0)

pub length_zeros : (n m : ℕ) → n ≤ m → length (zeros_of n m) ≡ n
length_zeros n m few = let all : List ℕ = replicate m 0 in omega (arith, length-take n all, length-replicate {A = ℕ} m 0)

pub are_zeros : (n m : ℕ) → n ≤ m → EachIndex (zeros_of n m) (λ i. slice_index (zeros_of n m) i ≡ 0)
are_zeros n m few = λ i low.
    let all : List ℕ = replicate m 0 in
    let long = length_zeros n m few in
    get_or-take n all i 0 (omega arith) ∙ get_or-replicate m i 0 0 (omega arith)

-- a write is as long as its bytes reach
pub written_long : (file at : ℕ) (bytes : List ℕ) (w now : World) → Writes file at bytes w now → IfSome (file_of file now) (λ f. at + length bytes ≤ length f.bytes)
written_long file at bytes w now is = subst (λ (o : Option File). IfSome o (λ f. at + length bytes ≤ length f.bytes)) (sym is) (of_old (file_of file w))
  where
    of_old : (o : Option File) → IfSome (option_map (written at bytes) o) (λ f. at + length bytes ≤ length f.bytes)
    of_old None = tt
    of_old (Some f) = omega (arith, length-overwritten at bytes f.bytes)
