-- Lists that agree on a place.
use Rattle.std.proofs.Common.{◌≡◌, ◌⊎◌, inl, inr, ℕ, ◌+◌, ◌-◌, ◌*◌, ◌<◌, ◌≤◌, List, length, sym, ◌∙◌, ap, arith}
use Rattle.std.specs.Prelude.{nat_lt}
use Rattle.std.specs.Int.{w64, from_be_bytes}
use Rattle.odb_device.specs.Images.{Torn}
use Rattle.odb_device.proofs.Torn.{torn_part}
use Rattle.odb_pair.specs.Places.{gate, sequence, payload, next, opened}
use Rattle.odb_pair.specs.Standing.{PairState, StandsFor}

pub record SamePlace (p : ℕ) (d c : List ℕ) : Type 0 where
  pub is_open : gate p c ≡ gate p d
  pub number : sequence p c ≡ sequence p d
  pub value : payload p c ≡ payload p d

-- bytes that stand for a pair also do where both places are the same
pub stands_same : (pair : PairState) (d c : List ℕ) → StandsFor pair d → 1024 ≤ length c
    → SamePlace pair.place d c → SamePlace (1 - pair.place) d c → StandsFor pair c
stands_same pair d c h long here there = record {
  place = h.place;
  long = long;
  is_open = here.is_open ∙ h.is_open;
  number = here.number ∙ h.number;
  value = here.value ∙ h.value;
  closed = λ e is_open. h.closed e (sym there.is_open ∙ is_open);
  other = λ e. elim (h.other e) [
    | inl tried ↦ inl (there.number ∙ tried.0, there.value ∙ tried.1)
    | inr older ↦ inr (ap next there.number ∙ older)
  ];
}

-- and open to the same
pub opened_same : (d c : List ℕ) → nat_lt (length c) 1024 ≡ nat_lt (length d) 1024
    → SamePlace 0 d c → SamePlace 1 d c → opened c ≡ opened d
opened_same d c long one two =
    simp (one.is_open, two.is_open, one.number, two.number, one.value, two.value, long)

-- a write outside of a place leaves its gate, its number and its value
pub gate_stays : (p at n : ℕ) (d c : List ℕ) → Torn at n d c → 512 * p < length d
    → (512 * p < at) ⊎ (at + n ≤ 512 * p) → gate p c ≡ gate p d
unfolding gate
gate_stays p at n d c t within out = t.outside (512 * p) within out

pub sequence_stays : (p at n : ℕ) (d c : List ℕ) → Torn at n d c → 512 * p + 1 + 8 ≤ length d
    → (512 * p + 1 + 8 ≤ at) ⊎ (at + n ≤ 512 * p + 1) → sequence p c ≡ sequence p d
unfolding sequence
sequence_stays p at n d c t within out =
    ap (from_be_bytes w64) (torn_part at n d c (512 * p + 1) 8 t within out)

pub payload_stays : (p at n : ℕ) (d c : List ℕ) → Torn at n d c → 512 * p + 9 + 40 ≤ length d
    → (512 * p + 9 + 40 ≤ at) ⊎ (at + n ≤ 512 * p + 9) → payload p c ≡ payload p d
unfolding payload
payload_stays p at n d c t within out = torn_part at n d c (512 * p + 9) 40 t within out

pub place_stays : (p at n : ℕ) (d c : List ℕ) → Torn at n d c → 512 * p + 64 ≤ length d
    → (512 * p + 64 ≤ at) ⊎ (at + n ≤ 512 * p) → SamePlace p d c
place_stays p at n d c t within (inl above) = record {
  is_open = gate_stays p at n d c t (omega arith) (inl (omega arith));
  number = sequence_stays p at n d c t (omega arith) (inl (omega arith));
  value = payload_stays p at n d c t (omega arith) (inl (omega arith));
}
place_stays p at n d c t within (inr below) = record {
  is_open = gate_stays p at n d c t (omega arith) (inr (omega arith));
  number = sequence_stays p at n d c t (omega arith) (inr (omega arith));
  value = payload_stays p at n d c t (omega arith) (inr (omega arith));
}
