-- Records one behind another, and what a change of bytes leaves of their list.
use Rattle.std.proofs.Common.{◌≡◌, ◌≢◌, ◌⊎◌, inl, inr, ℕ, zero, suc, ◌+◌, ◌*◌, ◌<◌, ◌≤◌, Bool, true, false, List, [], ◌∷◌, ◌++◌, length, refl, sym, ◌∙◌, ap, subst, arith}
use Rattle.std.specs.Prelude.{slice_index, if◌then◌else◌}
use Rattle.std.specs.Int.{w32, w64, from_be_bytes}
use Rattle.std.proofs.lemmas.Bool.{cases_lt, cases_Bool}
use Rattle.std.proofs.lemmas.Bool.Decides.{nat_tests}
use Rattle.odb_device.specs.Images.{Torn, part}
use Rattle.odb_device.proofs.Bytes.{part_same, length-part}
use Rattle.odb_reclog.specs.Records.{OPEN, HEAD, gate_at, size_at, number_at, payload_at, end_at, is_record, records_from, end_of_list}

-- `new` is as `old` from one byte to before another
pub record SameOn (from to : ℕ) (old new : List ℕ) : Type 0 where
  pub long : to ≤ length old
  pub longer : to ≤ length new
  pub bytes : (i : ℕ) → from ≤ i → i < to → slice_index new i ≡ slice_index old i

-- what lies outside the torn range stays
pub torn_outside : (from to at n : ℕ) (old new : List ℕ) → to ≤ length old → Torn at n old new → (to ≤ at) ⊎ (at + n ≤ from) → SameOn from to old new
torn_outside from to at n old new long torn out = record {
  long = long;
  longer = omega (arith, torn.no_shorter);
  bytes = λ i low high. elim out [
    | inl before ↦ torn.outside i (omega arith) (inl (omega arith))
    | inr behind ↦ torn.outside i (omega arith) (inr (omega arith))
  ];
}

pub same_within : (from to low high : ℕ) (old new : List ℕ) → SameOn from to old new → from ≤ low → high ≤ to → SameOn low high old new
same_within from to low high old new same above below = record {
  long = omega (arith, same.long);
  longer = omega (arith, same.longer);
  bytes = λ i l h. same.bytes i (omega arith) (omega arith);
}

pub gate_same : (from to : ℕ) (old new : List ℕ) → SameOn from to old new → (place : ℕ) → from ≤ place → place < to → gate_at place new ≡ gate_at place old
unfolding gate_at
gate_same from to old new same place low high = same.bytes place low high

-- what stands behind a gate
module _ (from to : ℕ) (old new : List ℕ) (same : SameOn from to old new) (place : ℕ) (low : from ≤ place + 1) where
  part_kept : (at n : ℕ) → from ≤ at → at + n ≤ to → part at n new ≡ part at n old
  part_kept at n above below = part_same at n new old (omega (arith, same.longer)) (omega (arith, same.long)) (λ i few. same.bytes (at + i) (omega arith) (omega arith))

  pub size_same : place + 5 ≤ to → size_at place new ≡ size_at place old
  unfolding size_at
  size_same high = ap (from_be_bytes w32) (part_kept (place + 1) 4 (omega arith) (omega arith))

  pub number_same : place + 13 ≤ to → number_at place new ≡ number_at place old
  unfolding number_at
  number_same high = ap (from_be_bytes w64) (part_kept (place + 5) 8 (omega arith) (omega arith))

  pub payload_same : place + 13 + size_at place old ≤ to → payload_at place new ≡ payload_at place old
  unfolding payload_at
  payload_same high = ap (λ (n : ℕ). part (place + 13) n new) (size_same (omega arith)) ∙ part_kept (place + 13) (size_at place old) (omega arith) (omega arith)

-- where there is no room for a head there is no record
pub no_room : (end number place : ℕ) (bytes : List ℕ) → end < place + 13 → is_record end number place bytes ≡ false
no_room end number place bytes less = grind (arith, nat_tests)

pub no_gate : (end number place : ℕ) (bytes : List ℕ) → gate_at place bytes ≢ OPEN → is_record end number place bytes ≡ false
no_gate end number place bytes shut = grind (arith, nat_tests)

is_record_same : (from end : ℕ) (old new : List ℕ) → SameOn from end old new → (number place : ℕ) → from ≤ place → is_record end number place new ≡ is_record end number place old
is_record_same from end old new same number place low = elim (cases_lt end (place + 13)) [
  | inl less ↦ no_room end number place new less ∙ sym (no_room end number place old less)
  | inr room ↦
      let gate = gate_same from end old new same place low (omega arith) in
      let size = size_same from end old new same place (omega arith) (omega arith) in
      let its_number = number_same from end old new same place (omega arith) room in
      cc
]

-- the list of a region is that of its bytes
pub records_same : (from end : ℕ) (old new : List ℕ) → SameOn from end old new → (most number place : ℕ) → from ≤ place → records_from most end number place new ≡ records_from most end number place old
records_same from end old new same zero number place low = refl
records_same from end old new same (suc most) number place low = elim (cases_Bool (is_record end number place old)) [
  | inr none ↦
      let also = is_record_same from end old new same number place low ∙ none in
      ap (λ (b : Bool). if b then payload_at place new ∷ records_from most end (number + 1) (end_at place new) new else []) also
      ∙ sym (ap (λ (b : Bool). if b then payload_at place old ∷ records_from most end (number + 1) (end_at place old) old else []) none)
  | inl one ↦
      let also = is_record_same from end old new same number place low ∙ one in
      let within : place + 13 + size_at place old ≤ end = grind (arith, nat_tests) in
      let size : size_at place new ≡ size_at place old = size_same from end old new same place (omega arith) (omega arith) in
      let payload : payload_at place new ≡ payload_at place old = payload_same from end old new same place (omega arith) within in
      let rest : records_from most end (number + 1) (place + 13 + size_at place new) new ≡ records_from most end (number + 1) (place + 13 + size_at place old) old =
      ap (λ (n : ℕ). records_from most end (number + 1) (place + 13 + n) new) size ∙ records_same from end old new same most (number + 1) (place + 13 + size_at place old) (omega arith) in
      ap (λ (b : Bool). if b then payload_at place new ∷ records_from most end (number + 1) (end_at place new) new else []) also
      ∙ ap (λ (p : List ℕ). p ∷ records_from most end (number + 1) (end_at place new) new) payload ∙ ap (λ (l : List (List ℕ)). payload_at place old ∷ l) rest
      ∙ sym (ap (λ (b : Bool). if b then payload_at place old ∷ records_from most end (number + 1) (end_at place old) old else []) one)
]

-- an open record of this number and payload stands at a place, and ends inside the region
pub record RecordAt (end place number : ℕ) (payload bytes : List ℕ) : Type 0 where
  pub gate : gate_at place bytes ≡ OPEN
  pub number_is : number_at place bytes ≡ number
  pub size : size_at place bytes ≡ length payload
  pub payload_is : payload_at place bytes ≡ payload
  pub within : place + HEAD + length payload ≤ end

-- these records stand one behind another from a place on, the first under this number
abbrev pub Leads : ℕ → ℕ → ℕ → List (List ℕ) → List ℕ → Type 0
Leads end place number [] bytes = Unit {0}
Leads end place number (payload ∷ rest) bytes = RecordAt end place number payload bytes × Leads end (place + HEAD + length payload) (number + 1) rest bytes

length_payload : (place end : ℕ) (bytes : List ℕ) → end ≤ length bytes → end_at place bytes ≤ end → length (payload_at place bytes) ≡ size_at place bytes
unfolding payload_at
length_payload place end bytes long within = length-part (place + 13) (size_at place bytes) bytes (omega arith)

-- a list leads to its end
pub list_leads : (most end number place : ℕ) (bytes : List ℕ) → end ≤ length bytes → Leads end place number (records_from most end number place bytes) bytes
list_leads zero end number place bytes long = tt
list_leads (suc most) end number place bytes long = elim (cases_Bool (is_record end number place bytes)) [
  | inr none ↦ subst (λ (b : Bool). Leads end place number (if b then payload_at place bytes ∷ records_from most end (number + 1) (end_at place bytes) bytes else []) bytes) (sym none) tt
  | inl one ↦
      let within : end_at place bytes ≤ end = grind (arith, nat_tests) in
      let size = length_payload place end bytes long within in
      let rest : Leads end (place + 13 + length (payload_at place bytes)) (number + 1) (records_from most end (number + 1) (end_at place bytes) bytes) bytes =
      subst (λ (n : ℕ). Leads end (place + 13 + n) (number + 1) (records_from most end (number + 1) (end_at place bytes) bytes) bytes) (sym size) (list_leads most end (number + 1) (end_at place bytes) bytes long) in
      let here : RecordAt end place number (payload_at place bytes) bytes = record {
        gate = grind (arith, nat_tests);
        number_is = grind (arith, nat_tests);
        size = sym size;
        payload_is = refl;
        within = omega (arith, size);
      } in
      subst (λ (b : Bool). Leads end place number (if b then payload_at place bytes ∷ records_from most end (number + 1) (end_at place bytes) bytes else []) bytes) (sym one) (here, rest)
]

-- and what leads to a place that is no record is the list
pub leads_list : (most end number place : ℕ) (records : List (List ℕ)) (bytes : List ℕ) → length records < most → Leads end place number records bytes
    → is_record end (number + length records) (end_of_list place records) bytes ≡ false → records_from most end number place bytes ≡ records
leads_list zero end number place records bytes few leads none = absurd (omega arith)
leads_list (suc most) end number place [] bytes few leads none =
    let count : number + length {A = List ℕ} [] ≡ number = omega arith in
    let here : is_record end number place bytes ≡ false = subst (λ (n : ℕ). is_record end n place bytes ≡ false) count none in
    ap (λ (b : Bool). if b then payload_at place bytes ∷ records_from most end (number + 1) (end_at place bytes) bytes else []) here
leads_list (suc most) end number place (payload ∷ rest) bytes few (here, leads) none =
    let is_one : is_record end number place bytes ≡ true = grind (arith, nat_tests, here.gate, here.number_is, here.size, here.within) in
    let count : number + length (payload ∷ rest) ≡ number + 1 + length rest = omega arith in
    let behind : is_record end (number + 1 + length rest) (end_of_list (place + 13 + length payload) rest) bytes ≡ false =
    subst (λ (n : ℕ). is_record end n (end_of_list (place + 13 + length payload) rest) bytes ≡ false) count none in
    ap (λ (b : Bool). if b then payload_at place bytes ∷ records_from most end (number + 1) (end_at place bytes) bytes else []) is_one
    ∙ ap (λ (p : List ℕ). p ∷ records_from most end (number + 1) (end_at place bytes) bytes) here.payload_is
    ∙ ap (λ (n : ℕ). payload ∷ records_from most end (number + 1) (place + 13 + n) bytes) here.size
    ∙ ap (λ (l : List (List ℕ)). payload ∷ l) (leads_list most end (number + 1) (place + 13 + length payload) rest bytes (omega arith) leads behind)

-- a record takes 13 bytes at least
pub leads_few : (end place number : ℕ) (records : List (List ℕ)) (bytes : List ℕ) → Leads end place number records bytes → place + length records * 13 ≤ end_of_list place records
leads_few end place number [] bytes leads = omega arith
leads_few end place number (payload ∷ rest) bytes (here, leads) = omega (arith, leads_few end (place + 13 + length payload) (number + 1) rest bytes leads)

pub leads_within : (end place number : ℕ) (records : List (List ℕ)) (bytes : List ℕ) → place ≤ end → Leads end place number records bytes → end_of_list place records ≤ end
leads_within end place number [] bytes low leads = low
leads_within end place number (payload ∷ rest) bytes low (here, leads) = leads_within end (place + 13 + length payload) (number + 1) rest bytes here.within leads

-- the same bytes up to the end have the same records
pub leads_same : (from to end place number : ℕ) (records : List (List ℕ)) (old new : List ℕ) → SameOn from to old new → from ≤ place → end_of_list place records ≤ to
    → Leads end place number records old → Leads end place number records new
leads_same from to end place number [] old new same low high leads = tt
leads_same from to end place number (payload ∷ rest) old new same low high (here, leads) =
    let few = leads_few end (place + 13 + length payload) (number + 1) rest old leads in
    let size = size_same from to old new same place (omega arith) (omega arith) in (
      record {
        gate = gate_same from to old new same place low (omega arith) ∙ here.gate;
        number_is = number_same from to old new same place (omega arith) (omega arith) ∙ here.number_is;
        size = size ∙ here.size;
        payload_is = payload_same from to old new same place (omega arith) (omega (arith, here.size)) ∙ here.payload_is;
        within = here.within;
      },
      leads_same from to end (place + 13 + length payload) (number + 1) rest old new same (omega arith) high leads,
    )

-- one record more
pub end_more : (place : ℕ) (records : List (List ℕ)) (payload : List ℕ) → end_of_list place (records ++ payload ∷ []) ≡ end_of_list place records + HEAD + length payload
end_more place [] payload = refl
end_more place (first ∷ rest) payload = end_more (place + 13 + length first) rest payload

pub leads_more : (end place number : ℕ) (records : List (List ℕ)) (payload bytes : List ℕ) → Leads end place number records bytes
    → RecordAt end (end_of_list place records) (number + length records) payload bytes → Leads end place number (records ++ payload ∷ []) bytes
leads_more end place number [] payload bytes leads one =
    let count : number + length {A = List ℕ} [] ≡ number = omega arith in
    (subst (λ (n : ℕ). RecordAt end place n payload bytes) count one, tt)
leads_more end place number (first ∷ rest) payload bytes (here, leads) one =
    let count : number + length (first ∷ rest) ≡ number + 1 + length rest = omega arith in
    (here, leads_more end (place + 13 + length first) (number + 1) rest payload bytes leads (subst (λ (n : ℕ). RecordAt end (end_of_list (place + 13 + length first) rest) n payload bytes) count one))
