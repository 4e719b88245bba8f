-- The first 1,024 bytes of a file say what the file is.
use Rattle.std.proofs.Common.{◌≡◌, ℕ, ◌+◌, ◌-◌, ◌*◌, ◌≤◌, min, Option, Some, None, Result, List, length, take, drop, refl, sym, ◌∙◌, ap, subst, arith, inl, inr, length-take}
use Rattle.std.specs.Prelude.{nat_lt, option_map, IfSome}
use Rattle.std.specs.Int.{w64, from_be_bytes}
use Rattle.std.proofs.lemmas.Bool.{cases_lt}
use Rattle.std.proofs.lemmas.Bool.Decides.{nat_tests}
use Rattle.std.proofs.lemmas.List.{get_or-take, drop-take, take-take, take_min}
use Rattle.odb_device.specs.World.{File}
use Rattle.odb_device.specs.Images.{part, kept, EachImage}
use Rattle.odb_device.specs.Calls.{HasRead}
use Rattle.odb_device.proofs.Bytes.{image_kept}
use Rattle.odb_pair.specs.Places.{gate, sequence, payload, opened}
use Rattle.odb_pair.specs.Standing.{PairState, StandsFor}
use Rattle.odb_pair.specs.Answers.{IsAnswer}
use Rattle.odb_pair.specs.declared.error.PairError.{PairError}
use Rattle.odb_pair.specs.Same.{SamePlace, stands_same, opened_same}

part_front : (at n : ℕ) (b : List ℕ) → at + n ≤ 1024 → part at n (take 1024 b) ≡ part at n b
part_front at n b within =
    let m = 1024 - at in
    let all : 1024 ≡ at + m = omega arith in
    ap (λ (k : ℕ). take n (drop at (take k b))) all ∙ ap (take n) (drop-take at m b) ∙ take-take n m (drop at b) (omega arith)

same_front : (p : ℕ) (b : List ℕ) → p ≤ 1 → SamePlace p (take 1024 b) b
unfolding gate sequence payload
same_front p b small = record {
  is_open = sym (get_or-take 1024 b (512 * p) 0 (omega arith));
  number = ap (from_be_bytes w64) (sym (part_front (512 * p + 1) 8 b (omega arith)));
  value = sym (part_front (512 * p + 9) 40 b (omega arith));
}

long_front : (b : List ℕ) → nat_lt (length b) 1024 ≡ nat_lt (length (take 1024 b)) 1024
long_front b = let long = length-take 1024 b in elim (cases_lt (length b) 1024) [ inl short ↦ grind (arith, nat_tests) | inr enough ↦ grind (arith, nat_tests) ]

opened_front : (b : List ℕ) → opened b ≡ opened (take 1024 b)
opened_front b = opened_same (take 1024 b) b (long_front b) (same_front 0 b (omega arith)) (same_front 1 b (omega arith))

stands_front : (pair : PairState) (b : List ℕ) → StandsFor pair (take 1024 b) → StandsFor pair b
stands_front pair b h = stands_same pair (take 1024 b) b h (omega (arith, h.long, length-take 1024 b)) (same_front pair.place b h.place) (same_front (1 - pair.place) b (omega arith))

-- what a read of a synced file gives is the front of its bytes
pub fronts : (o o1 : Option File) (n : ℕ) (out : List ℕ) → o1 ≡ option_map kept o → HasRead o1 0 n out → length out ≡ 1024 → IfSome o (λ f. take n out ≡ take 1024 f.bytes)
fronts None o1 n out is read size = tt
fronts (Some f) o1 n out is read size =
    let r : HasRead (Some (kept f)) 0 n out = subst (λ (o : Option File). HasRead o 0 n out) is read in
    let short : n ≡ min 1024 (length f.bytes) = omega (arith, r.0) in
    r.1 ∙ ap (λ (k : ℕ). take k f.bytes) short ∙ take_min 1024 f.bytes

-- what holds of the bytes of a synced file holds of each image
pub each_kept : (P : List ℕ → Type 0) (o o1 : Option File) → o1 ≡ option_map kept o → IfSome o (λ f. P f.bytes) → EachImage P o1
each_kept P None o1 is h = subst (EachImage P) (sym is) tt
each_kept P (Some f) o1 is h = subst (EachImage P) (sym is) (λ image im. subst P (sym (image_kept (kept f) image (refl, refl) im)) h)

-- what the front answers, the file answers
pub answer_front : (r : Result (List ℕ) PairError) (n : ℕ) (out : List ℕ) (o : Option File) → IfSome o (λ f. take n out ≡ take 1024 f.bytes) → IsAnswer r (opened (take n out)) → IfSome o (λ f. IsAnswer r (opened f.bytes))
answer_front r n out None front answer = tt
answer_front r n out (Some f) front answer = subst (IsAnswer r) (ap opened front ∙ sym (opened_front f.bytes)) answer

pub stands_read : (pair : PairState) (n : ℕ) (out : List ℕ) (o : Option File) → IfSome o (λ f. take n out ≡ take 1024 f.bytes) → StandsFor pair (take n out) → IfSome o (λ f. StandsFor pair f.bytes)
stands_read pair n out None front h = tt
stands_read pair n out (Some f) front h = stands_front pair f.bytes (subst (StandsFor pair) front h)
