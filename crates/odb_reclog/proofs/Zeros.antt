-- Bytes that were read as zeros.
use Rattle.std.proofs.Common.{◌≡◌, ℕ, ◌+◌, ◌-◌, ◌<◌, ◌≤◌, List, length, Option, Some, None, sym, ◌∙◌, ap, arith}
use Rattle.std.specs.Prelude.{slice_index, EachIndex}
use Rattle.std.proofs.lemmas.List.{get_or-take}
use Rattle.odb_device.specs.World.{File}
use Rattle.odb_device.specs.Calls.{HasRead}
use Rattle.odb_device.specs.Zeros.{ReadsZero}
use Rattle.odb_device.proofs.Bytes.{part_at}

-- a whole piece that is read as zeros
pub read_zero : (file : Option File) (at n : ℕ) (out : List ℕ) → HasRead file at n out → length out ≤ n → EachIndex out (λ i. slice_index out i ≡ 0) → ReadsZero at (at + length out) file
read_zero None at n out read whole zeros = tt
read_zero (Some f) at n out read whole zeros = λ i from to.
    let k = i - at in
    let there : at + k ≡ i = omega arith in
    let few : k < length out = omega arith in
    ap (slice_index f.bytes) (sym there) ∙ sym (part_at at n f.bytes k (omega arith)) ∙ ap (λ (l : List ℕ). slice_index l k) (sym read.1) ∙ get_or-take n out k 0 (omega arith) ∙ zeros k few
