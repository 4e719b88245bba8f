-- What is answered of the bytes received so far.
use Rattle.std.proofs.Common.{◌≡◌, inr, ℕ, ◌^◌, ◌<◌, ◌≤◌, List, ◌++◌, length, take, Some, Ok, Err, refl, sym, ◌∙◌, ap, subst, arith, get_or, length-take-le}
use Rattle.std.proofs.lemmas.List.{take_all}
use Rattle.std.proofs.lemmas.Nat.{be_bytes_4}
use Rattle.byteorder.specs.Endian.{big_bytes, big_number}
use Rattle.odb_device.specs.Connections.{Wire, Receives}
use Rattle.odb_device.proofs.Talking.{adds_then}
use Rattle.odb_frame.specs.declared.error.FrameError.TheVariants.{TooLong, Cut, LinkFault, NoMemory}
use Rattle.odb_frame.specs.Frames.{most_body, first_of}
use Rattle.odb_frame.specs.Frames.First.{Part}
use Rattle.odb_frame.specs.Transfers.{Answers, ReceivesFewer}
use Rattle.odb_frame.proofs.Firsts.{first_short, first_head, body_part}

-- each of them is a byte
abbrev pub AreBytes : List ℕ → Type 0
AreBytes bytes = (i : ℕ) → get_or bytes i 0 < 256

-- a length was received, and this is its number
pub record HasHead (size : ℕ) (old now : Wire) : Type 0 where
  pub received : Receives (big_bytes 4 size) old now
  pub fits : size < 2 ^ 32

pub head_is : (head : List ℕ) → length head ≡ 4 → AreBytes head → big_bytes 4 (big_number 4 head) ≡ head
head_is head long small = be_bytes_4 head (big_number 4 head) long small (omega arith)

pub has_head : (head : List ℕ) (n size : ℕ) (old now : Wire) → head ≡ big_bytes 4 size → size < 2 ^ 32 → length head ≡ 4 → 4 ≤ n → Receives (take n head) old now → HasHead size old now
has_head head n size old now is fits long all received = record {
  received = subst (λ (l : List ℕ). Receives l old now) (take_all n head (omega arith) ∙ is) received;
  fits = fits;
}

pub cut_head : (head : List ℕ) (n : ℕ) (old now : Wire) → n ≤ length head → 0 < n → n < 4 → Receives (take n head) old now → Answers (Err Cut) old now
cut_head head n old now within some short received =
    let long : length (take n head) ≡ n = length-take-le n head within in
    (take n head, received, first_short (take n head) (omega arith) (omega arith))

pub long_is : (size : ℕ) (old now : Wire) → HasHead size old now → most_body < size → Answers (Err (TooLong size)) old now
long_is size old now head long = (big_bytes 4 size, head.received, (refl, long, head.fits))

pub no_memory : (size : ℕ) (old now : Wire) → HasHead size old now → size ≤ most_body → Answers (Err NoMemory) old now
no_memory size old now head short = (big_bytes 4 size, head.received, record { size = size; is = refl; short = short })

-- a length, and a part of the body
part_of : (size : ℕ) (piece : List ℕ) → size ≤ most_body → length piece < size → first_of (big_bytes 4 size ++ piece) ≡ Part
part_of size piece short less = first_head size piece (omega arith) ∙ body_part size piece short less

both : (size : ℕ) (piece : List ℕ) (old mid now : Wire) → HasHead size old mid → Receives piece mid now → Receives (big_bytes 4 size ++ piece) old now
both size piece old mid now head received = adds_then (big_bytes 4 size) piece old.received mid.received now.received head.received received

pub fault_in_body : (size : ℕ) (old mid now : Wire) → HasHead size old mid → size ≤ most_body → ReceivesFewer size mid now → Answers (Err LinkFault) old now
fault_in_body size old mid now head short fewer =
    (big_bytes 4 size ++ fewer.0, both size fewer.0 old mid now head fewer.2, inr (part_of size fewer.0 short fewer.1))

pub cut_body : (size n : ℕ) (body : List ℕ) (old mid now : Wire) → HasHead size old mid → size ≤ most_body → length body ≡ size → n < size → Receives (take n body) mid now → Answers (Err Cut) old now
cut_body size n body old mid now head short long less received =
    let taken : length (take n body) ≡ n = length-take-le n body (omega arith) in
    (big_bytes 4 size ++ take n body, both size (take n body) old mid now head received, part_of size (take n body) short (omega arith))

pub whole_is : (size n : ℕ) (body : List ℕ) (old mid now : Wire) → HasHead size old mid → size ≤ most_body → length body ≡ size → size ≤ n → Receives (take n body) mid now → Answers (Ok (Some body)) old now
whole_is size n body old mid now head short long all received =
    let there : Receives body mid now = subst (λ (l : List ℕ). Receives l mid now) (take_all n body (omega arith)) received in
    (big_bytes 4 size ++ body, both size body old mid now head there, (ap (λ (k : ℕ). big_bytes 4 k ++ body) (sym long), omega arith))
