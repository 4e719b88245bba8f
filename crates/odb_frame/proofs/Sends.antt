-- What is sent, from one call of a link to the next.
use Rattle.std.proofs.Common.{◌≡◌, ℕ, ◌+◌, ◌-◌, ◌≤◌, List, ◌++◌, length, take, drop, sym, ◌∙◌, subst, ap, arith, length-append, length-drop}
use Rattle.std.proofs.lemmas.List.{take-append-le, take_all}
use Rattle.std.proofs.Math.Seq.{take-add, take-append-add}
use Rattle.odb_device.specs.Images.{part}
use Rattle.odb_device.specs.Connections.{Wire, ReceivesNothing, Sends}
use Rattle.odb_device.proofs.Talking.{adds_then}
use Rattle.odb_frame.specs.Transfers.{BreaksOff}

-- so far the first n of these bytes are sent
pub record IsSending (bytes : List ℕ) (start now : Wire) (n : ℕ) : Type 0 where
  pub within : n ≤ length bytes
  pub input : ReceivesNothing start now
  pub sent : Sends (take n bytes) start now
  pub count : start.faults ≤ now.faults

-- a call more that sends the first m bytes of the rest
pub sending_call : (bytes : List ℕ) (start now new : Wire) (n m : ℕ) → IsSending bytes start now n → m ≤ length (part n (length bytes - n) bytes) → ReceivesNothing now new
    → Sends (take m (part n (length bytes - n) bytes)) now new → now.faults ≤ new.faults → IsSending bytes start new (n + m)
sending_call bytes start now new n m sending within input sent count =
    let rest : part n (length bytes - n) bytes ≡ drop n bytes = take_all (length bytes - n) (drop n bytes) (omega (arith, length-drop n bytes)) in
    let one : Sends (take m (drop n bytes)) now new = subst (λ (l : List ℕ). Sends (take m l) now new) rest sent in
    record {
      within = omega (arith, sending.within, within, ap length rest, length-drop n bytes);
      input = (input.0 ∙ sending.input.0, input.1 ∙ sending.input.1);
      sent = subst (λ (l : List ℕ). Sends l start new) (sym (take-add n m bytes)) (adds_then (take n bytes) (take m (drop n bytes)) start.sent now.sent new.sent sending.sent one);
      count = omega (arith, sending.count, count);
    }

-- one list behind another
pub sends_both : (a b : List ℕ) (old mid new : Wire) → Sends a old mid → Sends b mid new → Sends (a ++ b) old new
sends_both a b old mid new first second = adds_then a b old.sent mid.sent new.sent first second

-- the first of two lists breaks off, or the second does
pub breaks_first : (a b : List ℕ) (old new : Wire) → BreaksOff a old new → BreaksOff (a ++ b) old new
breaks_first a b old new off = (off.0, omega (arith, off.1, length-append a b), subst (λ (l : List ℕ). Sends l old new) (sym (take-append-le off.0 a b (omega (arith, off.1)))) off.2)

pub breaks_second : (a b : List ℕ) (old mid new : Wire) → Sends a old mid → BreaksOff b mid new → BreaksOff (a ++ b) old new
breaks_second a b old mid new all off =
    (length a + off.0, omega (arith, off.1, length-append a b), subst (λ (l : List ℕ). Sends l old new) (sym (take-append-add a b off.0)) (sends_both a (take off.0 b) old mid new all off.2))
