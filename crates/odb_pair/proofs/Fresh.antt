-- What the three writes of `format` make of any bytes.
use Rattle.std.proofs.Common.{◌≡◌, ◌≢◌, inr, ℕ, ◌≤◌, Option, Some, None, List, [], ◌∷◌, length, sym, ◌∙◌, arith}
use Rattle.std.specs.Prelude.{slice_index}
use Rattle.std.specs.Int.{w64, to_be_bytes}
use Rattle.std.proofs.lemmas.Bool.{false≢true}
use Rattle.odb_device.specs.World.{File}
use Rattle.odb_device.specs.Images.{EachImage, part, overwritten}
use Rattle.odb_device.proofs.Bytes.{length-overwritten, overwritten-inside}
use Rattle.odb_device.proofs.Torn.{torn_overwritten}
use Rattle.odb_pair.specs.Places.{OPEN, gate, sequence, payload}
use Rattle.odb_pair.specs.Standing.{StandsFor, formatted}
use Rattle.odb_pair.specs.Same.{place_stays, sequence_stays, payload_stays}
use Rattle.odb_pair.proofs.Places.{gate_put, number_put, value_put, zero_is_closed}

pub each_any : (o : Option File) → EachImage (λ image. Unit {0}) o
each_any None = tt
each_any (Some f) = λ image is. tt

-- long enough, and place 1 is closed
pub record IsBlank (bytes : List ℕ) : Type 0 where
  pub long : 1024 ≤ length bytes
  pub shut : gate 1 bytes ≢ OPEN

-- and place 0 has the value under the number 1
pub record IsBegun (value bytes : List ℕ) : Type 0 where
  pub blank : IsBlank bytes
  pub number : sequence 0 bytes ≡ 1
  pub body : payload 0 bytes ≡ value

pub blank_done : (zeros d : List ℕ) → length zeros ≡ 1024 → slice_index zeros 512 ≡ 0 → IsBlank (overwritten 0 zeros d)
unfolding gate
blank_done zeros d size zero = record {
  long = omega (arith, length-overwritten 0 zeros d);
  shut = λ is_open. zero_is_closed (sym zero ∙ sym (overwritten-inside 0 zeros d 512 (omega arith)) ∙ is_open);
}

pub begun_done : (value body d : List ℕ) → IsBlank d → length body ≡ 63 → part 0 8 body ≡ to_be_bytes w64 1 → part 8 40 body ≡ value → IsBegun value (overwritten 1 body d)
begun_done value body d h size number_is value_is =
    let c = overwritten 1 body d in
    let t = torn_overwritten 1 body d in
    let there = place_stays 1 1 (length body) d c t (omega (arith, h.long)) (inr (omega arith)) in
    record {
      blank = record { long = omega (arith, h.long, t.no_shorter); shut = λ is_open. h.shut (sym there.is_open ∙ is_open) };
      number = number_put 0 1 body d size (omega arith) number_is;
      body = value_put 0 value body d size value_is;
    }

pub fresh_done : (file : ℕ) (value d : List ℕ) → IsBegun value d → StandsFor (formatted file value) (overwritten 0 (OPEN ∷ []) d)
fresh_done file value d h =
    let c = overwritten 0 (OPEN ∷ []) d in
    let t = torn_overwritten 0 (OPEN ∷ []) d in
    let long : 1024 ≤ length d = h.blank.long in
    let there = place_stays 1 0 1 d c t (omega arith) (inr (omega arith)) in
    record {
      place = omega arith;
      long = omega (arith, t.no_shorter);
      is_open = gate_put 0 OPEN d;
      number = sequence_stays 0 0 1 d c t (omega arith) (inr (omega arith)) ∙ h.number;
      value = payload_stays 0 0 1 d c t (omega arith) (inr (omega arith)) ∙ h.body;
      closed = λ e is_open. h.blank.shut (sym there.is_open ∙ is_open);
      other = λ e. absurd (false≢true (sym e));
    }
