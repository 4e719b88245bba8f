-- What is received, from one call of a link to the next.
use Rattle.std.proofs.Common.{◌≡◌, ℕ, ◌+◌, ◌<◌, ◌≤◌, zero, suc, Bool, List, ◌++◌, length, take, drop, sym, ◌∙◌, subst, ap, arith, le_refl, drop_at, length-append, length-take-le}
use Rattle.std.specs.Prelude.{◌||◌}
use Rattle.std.proofs.Math.Dec.{eqb-suc-zero}
use Rattle.std.proofs.Math.Seq.{take-add}
use Rattle.std.proofs.lemmas.List.{take-append-le}
use Rattle.std.proofs.lemmas.Slice.{take-put_mid_below}
use Rattle.odb_device.specs.Counts.{Ends}
use Rattle.odb_device.specs.Connections.{Wire, Receives, SendsNothing}
use Rattle.odb_device.proofs.Talking.{adds_then}
use borrow.Rule.Slice.PartMut.{put_mid, post_of}

-- so far the first n bytes of the buffer are received, and the record of the input's end stays
pub record IsReceiving (out : List ℕ) (start now : Wire) (n : ℕ) : Type 0 where
  pub within : n ≤ length out
  pub output : SendsNothing start now
  pub received : Receives (take n out) start now
  pub ended : now.has_ended ≡ start.has_ended
  pub count : start.faults ≤ now.faults

-- behind the first n bytes, the part that is received there begins with what was received
put_behind : (n room m : ℕ) (out piece : List ℕ) → n ≤ length out → m ≤ length piece → take (n + m) (put_mid n room out piece) ≡ take n out ++ take m piece
put_behind n room m out piece within fits =
    let behind = drop_at (take n out) (piece ++ post_of n room out) n (length-take-le n out within) in
    take-add n m (put_mid n room out piece)
    ∙ ap (λ l. l ++ take m (drop n (put_mid n room out piece))) (take-put_mid_below n room out piece n (le_refl n) within)
    ∙ ap (λ l. take n out ++ take m l) behind
    ∙ ap (λ l. take n out ++ l) (take-append-le m piece (post_of n room out) fits)

-- where some bytes are received, the input hasn't ended yet
pub ends_later : (m : ℕ) (before now : Bool) → 0 < m → Ends m before now → now ≡ before
ends_later zero before now some ends = absurd (omega arith)
ends_later (suc m) before now some ends = ends ∙ ap (λ (t : Bool). t || before) (eqb-suc-zero m)

-- a call more that receives the first m bytes of the rest
pub receiving_call : (out piece : List ℕ) (room : ℕ) (start now new : Wire) (n m : ℕ) → IsReceiving out start now n → m ≤ length piece → SendsNothing now new
    → Receives (take m piece) now new → new.has_ended ≡ now.has_ended → now.faults ≤ new.faults → IsReceiving (put_mid n room out piece) start new (n + m)
receiving_call out piece room start now new n m receiving fits silent received ended count =
    let front : length (take n out) ≡ n = length-take-le n out receiving.within in
    record {
      within = omega (arith, fits, front, length-append (take n out) (piece ++ post_of n room out), length-append piece (post_of n room out));
      output = silent ∙ receiving.output;
      received = subst (λ (l : List ℕ). Receives l start new) (sym (put_behind n room m out piece receiving.within fits)) (adds_then (take n out) (take m piece) start.received now.received new.received receiving.received received);
      ended = ended ∙ receiving.ended;
      count = omega (arith, receiving.count, count);
    }
