-- How the list of a region goes on from a place, and where it ends.
use Rattle.std.proofs.Common.{◌≡◌, inl, inr, ℕ, zero, suc, ◌+◌, ◌-◌, ◌<◌, ◌≤◌, Bool, true, false, List, [], ◌∷◌, length, refl, sym, ◌∙◌, ap, arith}
use Rattle.std.specs.Prelude.{◌==◌, if◌then◌else◌, Some, None}
use Rattle.std.proofs.lemmas.Bool.{cases_Bool}
use Rattle.std.proofs.lemmas.Bool.Decides.{nat_tests}
use Rattle.odb_device.proofs.Bytes.{length-part}
use Rattle.odb_reclog.specs.Reading.{next_at}
use Rattle.odb_reclog.specs.Records.{OPEN, HEAD, gate_at, size_at, number_at, payload_at, end_at, is_record, records_from, log_of, end_of_list, record_in}

-- what the test says
pub record_ends : (end number place : ℕ) (bytes : List ℕ) → is_record end number place bytes ≡ true → end_at place bytes ≤ end
record_ends end number place bytes is = grind (arith, nat_tests)

pub record_opens : (end number place : ℕ) (bytes : List ℕ) → is_record end number place bytes ≡ true → gate_at place bytes ≡ OPEN
record_opens end number place bytes is = grind (arith, nat_tests)

pub record_numbered : (end number place : ℕ) (bytes : List ℕ) → is_record end number place bytes ≡ true → number_at place bytes ≡ number
record_numbered end number place bytes is = grind (arith, nat_tests)

-- one more turn
pub records_more : (most end number place : ℕ) (bytes : List ℕ) → is_record end number place bytes ≡ true
    → records_from (suc most) end number place bytes ≡ payload_at place bytes ∷ records_from most end (number + 1) (end_at place bytes)
    bytes
records_more most end number place bytes is =
    ap (λ (b : Bool). if b then payload_at place bytes ∷ records_from most end (number + 1) (end_at place bytes) bytes else []) is

pub records_none : (most end number place : ℕ) (bytes : List ℕ) → is_record end number place bytes ≡ false
    → records_from most end number place bytes ≡ []
records_none zero end number place bytes is = refl
records_none (suc most) end number place bytes is =
    ap (λ (b : Bool). if b then payload_at place bytes ∷ records_from most end (number + 1) (end_at place bytes) bytes else []) is

-- there are fewer records than bytes, so that the count doesn't matter
pub records_enough : (most more end number place : ℕ) (bytes : List ℕ) → end - place < most → end - place < more
    → records_from most end number place bytes ≡ records_from more end number place bytes
records_enough zero more end number place bytes few enough = absurd (omega arith)
records_enough (suc most) zero end number place bytes few enough = absurd (omega arith)
records_enough (suc most) (suc more) end number place bytes few enough = elim (cases_Bool (is_record end number place bytes)) [
  | inl is ↦
      let ends = record_ends end number place bytes is in
      records_more most end number place bytes is
      ∙ ap (λ (l : List (List ℕ)). payload_at place bytes ∷ l)
      (records_enough most more end (number + 1) (end_at place bytes) bytes (omega arith) (omega arith))
      ∙ sym (records_more more end number place bytes is)
  | inr none ↦ records_none (suc most) end number place bytes none ∙ sym (records_none (suc more) end number place bytes none)
]

-- the list from a place on is its record and the list behind it
pub log_more : (place end number : ℕ) (bytes : List ℕ) → is_record end number place bytes ≡ true
    → log_of place end number bytes ≡ payload_at place bytes ∷ log_of (end_at place bytes) end (number + 1) bytes
log_more place end number bytes is =
    let ends = record_ends end number place bytes is in
    records_more (end - place) end number place bytes is
    ∙ ap (λ (l : List (List ℕ)). payload_at place bytes ∷ l)
    (records_enough (end - place) (suc (end - end_at place bytes)) end (number + 1) (end_at place bytes) bytes (omega arith) (omega arith))

pub log_none : (place end number : ℕ) (bytes : List ℕ) → is_record end number place bytes ≡ false → log_of place end number bytes ≡ []
log_none place end number bytes none = records_none (suc (end - place)) end number place bytes none

-- what the step of a walk found
pub next_some : (end number place next : ℕ) (bytes : List ℕ) → Some next ≡ next_at end number place bytes
    → (is_record end number place bytes ≡ true) × (next ≡ end_at place bytes)
next_some end number place next bytes is = elim (cases_Bool (is_record end number place bytes)) [
  | inl is_one ↦
      let there : next_at end number place bytes ≡ Some (end_at place bytes) =
      ap (λ (b : Bool). if b then Some (end_at place bytes) else None) is_one in
      (is_one, cc (is ∙ there))
  | inr none ↦
      let there : next_at end number place bytes ≡ None = ap (λ (b : Bool). if b then Some (end_at place bytes) else None) none in
      absurd (cc (is ∙ there))
]

pub next_none : (end number place : ℕ) (bytes : List ℕ) → None ≡ next_at end number place bytes → is_record end number place bytes ≡ false
next_none end number place bytes is = elim (cases_Bool (is_record end number place bytes)) [
  | inl is_one ↦
      let there : next_at end number place bytes ≡ Some (end_at place bytes) =
      ap (λ (b : Bool). if b then Some (end_at place bytes) else None) is_one in
      absurd (cc (is ∙ there))
  | inr none ↦ none
]

-- where the list of some records ends is no earlier than its first place
pub end_later : (place : ℕ) (records : List (List ℕ)) → place ≤ end_of_list place records
end_later place [] = omega arith
end_later place (payload ∷ rest) = omega (arith, end_later (place + HEAD + length payload) rest)

-- at that end there is no record
pub record_in_end : (place number : ℕ) (records : List (List ℕ)) (at : ℕ) → end_of_list place records ≤ at
    → record_in place number records at ≡ None
record_in_end place number [] at past = refl
record_in_end place number (payload ∷ rest) at past =
    let low = end_later (place + HEAD + length payload) rest in
    let other : (at == place) ≡ false = grind (arith, nat_tests) in
    ap (λ (b : Bool). if b then Some (record { number = number; payload = payload; next = place + HEAD + length payload }) else record_in
    (place + HEAD + length payload) (number + 1) rest at) other
    ∙ record_in_end (place + HEAD + length payload) (number + 1) rest at past

module _ (end : ℕ) (bytes : List ℕ) (long : end ≤ length bytes) where
  -- a record of the region has as many bytes as its length says
  pub payload_end : (number place : ℕ) → is_record end number place bytes ≡ true
      → place + HEAD + length (payload_at place bytes) ≡ end_at place bytes
  unfolding payload_at
  payload_end number place is =
      let ends = record_ends end number place bytes is in
      omega (arith, length-part (place + HEAD) (size_at place bytes) bytes (omega arith))

  -- the list behind a record ends where that from the record on does
  pub end_more : (number place : ℕ) → is_record end number place bytes ≡ true
      → end_of_list place (log_of place end number bytes) ≡ end_of_list (end_at place bytes)
      (log_of (end_at place bytes) end (number + 1) bytes)
  end_more number place is =
      ap (end_of_list place) (log_more place end number bytes is)
      ∙ ap (λ (p : ℕ). end_of_list p (log_of (end_at place bytes) end (number + 1) bytes)) (payload_end number place is)

  pub count_more : (number place : ℕ) → is_record end number place bytes ≡ true
      → number + length (log_of place end number bytes) ≡ number + 1 + length (log_of (end_at place bytes) end (number + 1) bytes)
  count_more number place is = omega (arith, ap (length {A = List ℕ}) (log_more place end number bytes is))

  -- the list stops at a place that isn't a record of the next number
  stops_by : (most number place : ℕ) → end - place < most
      → is_record end (number + length (log_of place end number bytes)) (end_of_list place (log_of place end number bytes)) bytes ≡ false
  stops_by zero number place few = absurd (omega arith)
  stops_by (suc most) number place few = elim (cases_Bool (is_record end number place bytes)) [
    | inl is ↦
        let ends = record_ends end number place bytes is in
        let rest = log_of (end_at place bytes) end (number + 1) bytes in
        ap (λ (p : ℕ). is_record end (number + length (log_of place end number bytes)) p bytes) (end_more number place is)
        ∙ ap (λ (n : ℕ). is_record end n (end_of_list (end_at place bytes) rest) bytes) (count_more number place is)
        ∙ stops_by most (number + 1) (end_at place bytes) (omega arith)
    | inr none ↦
        let same : number + 0 ≡ number = omega arith in
        ap (λ (l : List (List ℕ)). is_record end (number + length l) (end_of_list place l) bytes) (log_none place end number bytes none)
        ∙ ap (λ (n : ℕ). is_record end n place bytes) same ∙ none
  ]

  pub stops : (number place : ℕ)
      → is_record end (number + length (log_of place end number bytes)) (end_of_list place (log_of place end number bytes)) bytes ≡ false
  stops number place = stops_by (suc (end - place)) number place (omega arith)
