-- What torn and finished writes make of the two places.
use Rattle.std.proofs.Common.{◌≡◌, inl, inr, ℕ, ◌+◌, ◌-◌, ◌*◌, ◌^◌, ◌<◌, ◌≤◌, true, false, List, [], ◌∷◌, length, sym, ◌∙◌, ap, subst, arith}
use Rattle.std.specs.Prelude.{slice_index}
use Rattle.std.specs.Int.{w64, from_be_bytes, to_be_bytes}
use Rattle.std.proofs.lemmas.Bool.{cases_eq, false≢true}
use Rattle.std.proofs.lemmas.Nat.{from_be_bytes-to_be_bytes_8}
use Rattle.odb_device.specs.Images.{Torn, part, overwritten}
use Rattle.odb_device.proofs.Bytes.{overwritten-inside, part_inside}
use Rattle.odb_device.proofs.Torn.{torn_overwritten}
use Rattle.odb_pair.specs.Places.{OPEN, gate, sequence, payload, next}
use Rattle.odb_pair.specs.Standing.{PairState, StandsFor, IsFilled}
use Rattle.odb_pair.specs.Same.{SamePlace, gate_stays, sequence_stays, payload_stays, place_stays}

next_small : (n : ℕ) → next n < 2 ^ 64
unfolding next
next_small n = omega arith

-- a write of n bytes from byte x of the other place on leaves this one
other_place : (p x n : ℕ) (d c : List ℕ) → p ≤ 1 → 1024 ≤ length d → x + n ≤ 64 → Torn (512 * (1 - p) + x) n d c → SamePlace p d c
other_place p x n d c small long fits t = elim (cases_eq p 1) [
  | inl one ↦ place_stays p (512 * (1 - p) + x) n d c t (omega arith) (inr (omega arith))
  | inr none ↦ place_stays p (512 * (1 - p) + x) n d c t (omega arith) (inl (omega arith))
]

-- a write of a gate leaves its place's number and value
record SameBody (p : ℕ) (d c : List ℕ) : Type 0 where
  pub number : sequence p c ≡ sequence p d
  pub value : payload p c ≡ payload p d

same_body : (p : ℕ) (d c : List ℕ) → p ≤ 1 → 1024 ≤ length d → Torn (512 * p) 1 d c → SameBody p d c
same_body p d c small long t = record {
  number = sequence_stays p (512 * p) 1 d c t (omega arith) (inr (omega arith));
  value = payload_stays p (512 * p) 1 d c t (omega arith) (inr (omega arith));
}

pub gate_put : (p b : ℕ) (d : List ℕ) → gate p (overwritten (512 * p) (b ∷ []) d) ≡ b
unfolding gate
gate_put p b d = let there : 512 * p ≡ 512 * p + 0 = omega arith in ap (slice_index (overwritten (512 * p) (b ∷ []) d)) there ∙ overwritten-inside (512 * p) (b ∷ []) d 0 (omega arith)

pub number_put : (p n : ℕ) (body d : List ℕ) → length body ≡ 63 → n < 2 ^ 64 → part 0 8 body ≡ to_be_bytes w64 n → sequence p (overwritten (512 * p + 1) body d) ≡ n
unfolding sequence
number_put p n body d size small is =
    let there : 512 * p + 1 ≡ 512 * p + 1 + 0 = omega arith in
    ap (λ (k : ℕ). from_be_bytes w64 (part k 8 (overwritten (512 * p + 1) body d))) there
    ∙ ap (from_be_bytes w64) (part_inside (512 * p + 1) 0 8 body d (omega arith) ∙ is) ∙ from_be_bytes-to_be_bytes_8 n small

pub value_put : (p : ℕ) (value body d : List ℕ) → length body ≡ 63 → part 8 40 body ≡ value → payload p (overwritten (512 * p + 1) body d) ≡ value
unfolding payload
value_put p value body d size is =
    let there : 512 * p + 9 ≡ 512 * p + 1 + 8 = omega arith in
    ap (λ (k : ℕ). part k 40 (overwritten (512 * p + 1) body d)) there ∙ part_inside (512 * p + 1) 8 40 body d (omega arith) ∙ is

-- the other place's gate, while its number and value stand
module _ (pair : PairState) (d c : List ℕ) (long : 1024 ≤ length d) (place : pair.place ≤ 1) (t : Torn (512 * (1 - pair.place)) 1 d c) where
  this_place : SamePlace pair.place d c
  this_place = other_place pair.place 0 1 d c place long (omega arith) (subst (λ k. Torn k 1 d c) (omega arith) t)

  that_body : SameBody (1 - pair.place) d c
  that_body = same_body (1 - pair.place) d c (omega arith) long t

-- a write of the other place's number and value
filled_place : (pair : PairState) (d c : List ℕ) → 1024 ≤ length d → pair.place ≤ 1 → Torn (512 * (1 - pair.place) + 1) 63 d c → SamePlace pair.place d c
filled_place pair d c long place t = other_place pair.place 1 63 d c place long (omega arith) t

pub zero_is_closed : (◌≡◌ {A = ℕ} 0 OPEN) → ⊥
zero_is_closed e = cc

module _ (pair : PairState) (d : List ℕ) (h : StandsFor pair d) where
  pub close_torn : (c : List ℕ) → pair.closed ≡ false → Torn (512 * (1 - pair.place)) 1 d c → StandsFor pair c
  close_torn c not_closed t =
      let here = this_place pair d c h.long h.place t in
      let there = that_body pair d c h.long h.place t in
      record {
        place = h.place;
        long = omega (arith, h.long, t.no_shorter);
        is_open = here.is_open ∙ h.is_open;
        number = here.number ∙ h.number;
        value = here.value ∙ h.value;
        closed = λ e. absurd (false≢true (sym not_closed ∙ e));
        other = λ e. elim (h.other e) [
          | inl tried ↦ inl (there.number ∙ tried.0, there.value ∙ tried.1)
          | inr older ↦ inr (ap next there.number ∙ older)
        ];
      }

  pub close_done : StandsFor (record pair { closed = true }) (overwritten (512 * (1 - pair.place)) (0 ∷ []) d)
  close_done =
      let c = overwritten (512 * (1 - pair.place)) (0 ∷ []) d in
      let t = torn_overwritten (512 * (1 - pair.place)) (0 ∷ []) d in
      let here = this_place pair d c h.long h.place t in
      record {
        place = h.place;
        long = omega (arith, h.long, t.no_shorter);
        is_open = here.is_open ∙ h.is_open;
        number = here.number ∙ h.number;
        value = here.value ∙ h.value;
        closed = λ e is_open. zero_is_closed (sym (gate_put (1 - pair.place) 0 d) ∙ is_open);
        other = λ e. absurd (false≢true (sym e));
      }

  pub fill_torn : (c : List ℕ) → pair.closed ≡ true → Torn (512 * (1 - pair.place) + 1) 63 d c → StandsFor pair c
  fill_torn c closed t =
      let here = filled_place pair d c h.long h.place t in
      let shut : gate (1 - pair.place) c ≡ gate (1 - pair.place) d = gate_stays (1 - pair.place) (512 * (1 - pair.place) + 1) 63 d c t (omega (arith, h.long, h.place)) (inl (omega arith)) in
      record {
        place = h.place;
        long = omega (arith, h.long, t.no_shorter);
        is_open = here.is_open ∙ h.is_open;
        number = here.number ∙ h.number;
        value = here.value ∙ h.value;
        closed = λ e is_open. h.closed e (sym shut ∙ is_open);
        other = λ e. absurd (false≢true (sym e ∙ closed));
      }

  pub fill_done : (value body : List ℕ) → pair.closed ≡ true → length body ≡ 63 → part 0 8 body ≡ to_be_bytes w64 (next pair.sequence) → part 8 40 body ≡ value → IsFilled pair value (overwritten (512 * (1 - pair.place) + 1) body d)
  fill_done value body closed size number_is value_is =
      let c = overwritten (512 * (1 - pair.place) + 1) body d in
      record {
        stands = fill_torn c closed (subst (λ n. Torn (512 * (1 - pair.place) + 1) n d c) size (torn_overwritten (512 * (1 - pair.place) + 1) body d));
        number = number_put (1 - pair.place) (next pair.sequence) body d size (next_small pair.sequence) number_is;
        body = value_put (1 - pair.place) value body d size value_is;
      }

module _ (pair : PairState) (value d : List ℕ) (h : IsFilled pair value d) where
  pub open_torn : (c : List ℕ) → Torn (512 * (1 - pair.place)) 1 d c → StandsFor (record pair { tried = value; closed = false }) c
  open_torn c t =
      let here = this_place pair d c h.stands.long h.stands.place t in
      let there = that_body pair d c h.stands.long h.stands.place t in
      record {
        place = h.stands.place;
        long = omega (arith, h.stands.long, t.no_shorter);
        is_open = here.is_open ∙ h.stands.is_open;
        number = here.number ∙ h.stands.number;
        value = here.value ∙ h.stands.value;
        closed = λ e. absurd (false≢true e);
        other = λ e. inl (there.number ∙ h.number, there.value ∙ h.body);
      }

  pub open_done : (new : PairState) → new.place ≡ 1 - pair.place → new.sequence ≡ next pair.sequence → new.value ≡ value → new.closed ≡ false → StandsFor new (overwritten (512 * (1 - pair.place)) (OPEN ∷ []) d)
  open_done new place_is number_is value_is open_is =
      let c = overwritten (512 * (1 - pair.place)) (OPEN ∷ []) d in
      let t = torn_overwritten (512 * (1 - pair.place)) (OPEN ∷ []) d in
      let here = this_place pair d c h.stands.long h.stands.place t in
      let there = that_body pair d c h.stands.long h.stands.place t in
      let back : 1 - new.place ≡ pair.place = omega (arith, h.stands.place) in
      record {
        place = omega arith;
        long = omega (arith, h.stands.long, t.no_shorter);
        is_open = ap (λ (p : ℕ). gate p c) place_is ∙ gate_put (1 - pair.place) OPEN d;
        number = ap (λ (p : ℕ). sequence p c) place_is ∙ there.number ∙ h.number ∙ sym number_is;
        value = ap (λ (p : ℕ). payload p c) place_is ∙ there.value ∙ h.body ∙ sym value_is;
        closed = λ e. absurd (false≢true (sym open_is ∙ e));
        other = λ e. inr (ap (λ (p : ℕ). next (sequence p c)) back ∙ ap next (here.number ∙ h.stands.number) ∙ sym number_is);
      }
