-- Writes one behind another leave what one write of their whole range might leave.
use Rattle.std.proofs.Common.{◌≡◌, inl, inr, ℕ, ◌+◌, ◌≤◌, List, Option, Some, None, Result, Ok, Err, sym, ◌∙◌, ap, subst, arith}
use Rattle.std.specs.Prelude.{option_map, OnOk}
use Rattle.odb_device.specs.World.{File}
use Rattle.odb_device.specs.Images.{IsImage, Torn, TornFrom, written, kept}
use Rattle.odb_device.proofs.Torn.{each_weakens}

pub torn_widens : (at n from m : ℕ) (old new : List ℕ) → from ≤ at → at + n ≤ from + m → Torn at n old new → Torn from m old new
torn_widens at n from m old new low high torn = record {
  no_shorter = torn.no_shorter;
  no_longer = omega (arith, torn.no_longer);
  outside = λ i within out. torn.outside i within (elim out [
    | inl before ↦ inl (omega arith)
    | inr behind ↦ inr (omega arith)
  ]);
}

pub torn_then : (at n : ℕ) (old mid new : List ℕ) → Torn at n old mid → Torn at n mid new → Torn at n old new
torn_then at n old mid new a b = record {
  no_shorter = omega (arith, a.no_shorter, b.no_shorter);
  no_longer = omega (arith, a.no_longer, b.no_longer);
  outside = λ i within out. b.outside i (omega (arith, a.no_shorter)) out ∙ a.outside i within out;
}

pub from_widens : (at n from m : ℕ) (old new : Option File) → from ≤ at → at + n ≤ from + m → TornFrom at n old new → TornFrom from m old new
from_widens at n from m None new low high torn = torn
from_widens at n from m (Some old) new low high torn =
    each_weakens (λ image. (before : List ℕ) × IsImage old before × Torn at n before image) (λ image. (before : List ℕ) × IsImage old before × Torn from m before image) new
    (λ image b. (b.0, b.1, torn_widens at n from m b.0 image low high b.2)) torn

pub from_then : (at n : ℕ) (old mid new : Option File) → TornFrom at n old mid → TornFrom at n mid new → TornFrom at n old new
from_then at n None mid new a b = subst (λ (o : Option File). TornFrom at n o new) a b
from_then at n (Some old) None new a b = subst (TornFrom at n (Some old)) (sym b) tt
from_then at n (Some old) (Some mid) new a b =
    each_weakens (λ image. (before : List ℕ) × IsImage mid before × Torn at n before image) (λ image. (before : List ℕ) × IsImage old before × Torn at n before image) new
    (λ image m. let first = a m.0 m.1 in (first.0, first.1, torn_then at n first.0 m.0 image first.2 m.2)) b

-- a write, and another that is put on the disk
pub writes_then : (at from : ℕ) (first second : List ℕ) (old mid new : Option File) → mid ≡ option_map (written at first) old → new ≡ option_map (λ f. kept (written from second f)) mid
    → new ≡ option_map (λ f. kept (written from second (written at first f))) old
writes_then at from first second None mid new a b = b ∙ ap (option_map (λ f. kept (written from second f))) a
writes_then at from first second (Some f) mid new a b = b ∙ ap (option_map (λ f. kept (written from second f))) a

pub on_ok : {T E : Type 0} (P Q : Type 0) (result : Result T E) → (P → Q) → OnOk result P → OnOk result Q
on_ok P Q (Ok done) gives here = gives here
on_ok P Q (Err e) gives here = tt
