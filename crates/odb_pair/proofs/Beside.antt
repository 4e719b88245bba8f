-- Changes of one range, one behind another.
use Rattle.std.proofs.Common.{◌≡◌, inl, inr, ℕ, ◌+◌, ◌<◌, ◌≤◌, List, length, Option, Some, None, sym, ◌∙◌, subst, arith}
use Rattle.odb_device.specs.World.{File, World, file_of}
use Rattle.odb_device.specs.Images.{Torn, TornFrom}
use Rattle.odb_device.specs.Calls.{Puts}
use Rattle.odb_device.specs.Moments.{Runs}
use Rattle.odb_device.proofs.Time.{joins, weakens, run_end}

pub torn_then : (at n : ℕ) (a b c : List ℕ) → Torn at n a b → Torn at n b c → Torn at n a c
torn_then at n a b c first second = record {
  no_shorter = omega (arith, first.no_shorter, second.no_shorter);
  no_longer = omega (arith, first.no_longer, second.no_longer);
  outside = λ i within out. let still : i < length b = omega (arith, first.no_shorter) in second.outside i still out ∙ first.outside i within out;
}

-- of a range inside it
pub torn_wider : (x m at n : ℕ) (a b : List ℕ) → at ≤ x → x + m ≤ at + n → Torn x m a b → Torn at n a b
torn_wider x m at n a b low high t = record {
  no_shorter = t.no_shorter;
  no_longer = omega (arith, t.no_longer);
  outside = λ i within out. elim out [
    | inl before ↦ t.outside i within (inl (omega arith))
    | inr behind ↦ t.outside i within (inr (omega arith))
  ];
}

pub from_then : (at n : ℕ) (old mid new : Option File) → TornFrom at n old mid → TornFrom at n mid new → TornFrom at n old new
from_then at n None None new first second = second
from_then at n None (Some mid) new first second = absurd (none first)
  where
    none : Some mid ≡ None → ⊥
    none e = cc
from_then at n (Some old) None new first second = subst (TornFrom at n (Some old)) (sym second) tt
from_then at n (Some old) (Some mid) None first second = tt
from_then at n (Some old) (Some mid) (Some new) first second = λ image is.
    let b = second image is in
    let a = first b.0 b.1 in
    (a.0, a.1, torn_then at n a.0 b.0 image a.2 b.2)

pub from_wider : (x m at n : ℕ) (old new : Option File) → at ≤ x → x + m ≤ at + n → TornFrom x m old new → TornFrom at n old new
from_wider x m at n None new low high from = from
from_wider x m at n (Some old) None low high from = tt
from_wider x m at n (Some old) (Some new) low high from = λ image is. let b = from image is in (b.0, b.1, torn_wider x m at n b.0 image low high b.2)

-- the same over the moments of calls
pub run_wider : (file x m at n : ℕ) (old new : World) → at ≤ x → x + m ≤ at + n → Runs file (TornFrom x m (file_of file old)) old new → Runs file (TornFrom at n (file_of file old)) old new
run_wider file x m at n old new low high run = weakens file (TornFrom x m (file_of file old)) (TornFrom at n (file_of file old)) old new (λ o from. from_wider x m at n (file_of file old) o low high from) run

pub run_then : (file at n : ℕ) (old mid new : World) → Runs file (TornFrom at n (file_of file old)) old mid → Runs file (TornFrom at n (file_of file mid)) mid new → Runs file (TornFrom at n (file_of file old)) old new
run_then file at n old mid new first second =
    let P = TornFrom at n (file_of file old) in
    let middle = run_end file P old mid first in
    joins file P old mid new first (weakens file (TornFrom at n (file_of file mid)) P mid new (λ o from. from_then at n (file_of file old) (file_of file mid) o middle from) second)

-- a file and a place by other names
pub run_at : (f file x at n : ℕ) (old new : World) → f ≡ file → x ≡ at → Runs f (TornFrom x n (file_of f old)) old new → Runs file (TornFrom at n (file_of file old)) old new
run_at f file x at n old new same there run =
    subst (λ (k : ℕ). Runs k (TornFrom at n (file_of k old)) old new) same (subst (λ (k : ℕ). Runs f (TornFrom k n (file_of f old)) old new) there run)

pub puts_at : (f file x at : ℕ) (bytes : List ℕ) (old new : World) → f ≡ file → x ≡ at → Puts f x bytes old new → Puts file at bytes old new
puts_at f file x at bytes old new same there puts =
    subst (λ (k : ℕ). Puts k at bytes old new) same (subst (λ (k : ℕ). Puts f k bytes old new) there puts)
