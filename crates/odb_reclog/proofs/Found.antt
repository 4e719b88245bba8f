-- What is read at the place of a record of a list.
use Rattle.std.proofs.Common.{◌≡◌, inl, inr, ℕ, ◌+◌, ◌<◌, ◌≤◌, Bool, true, false, List, [], ◌∷◌, length, refl, sym, ◌∙◌, ap, subst, arith}
use Rattle.std.specs.Prelude.{◌==◌, if◌then◌else◌, Some}
use Rattle.std.proofs.lemmas.Bool.Decides.{nat_tests}
use Rattle.odb_reclog.specs.Records.{OPEN, HEAD, gate_at, number_at, payload_at, end_at, end_of_list, IsPlaceIn, record_in}
use Rattle.odb_reclog.proofs.Leading.{end_later}
use Rattle.odb_reclog.proofs.Records.{RecordAt, Leads}

-- a head in order, and a record of the list
pub record ReadsRecord (place number at : ℕ) (records : List (List ℕ)) (bytes : List ℕ) : Type 0 where
  pub is_open : gate_at at bytes ≡ OPEN
  pub high : number ≤ number_at at bytes
  pub low : number_at at bytes < number + length records
  pub within : end_at at bytes ≤ end_of_list place records
  pub found : record_in place number records at ≡ Some
      (record { number = number_at at bytes; payload = payload_at at bytes; next = end_at at bytes })
  pub next : IsPlaceIn place records (end_at at bytes)

place_first : (place : ℕ) (records : List (List ℕ)) → IsPlaceIn place records place
place_first place [] = refl
place_first place (payload ∷ rest) = inl refl

-- a place of the list is none before its first
place_later : (place : ℕ) (records : List (List ℕ)) (at : ℕ) → IsPlaceIn place records at → place ≤ at
place_later place [] at is = omega arith
place_later place (payload ∷ rest) at (inl here) = omega arith
place_later place (payload ∷ rest) at (inr behind) = omega (arith, place_later (place + HEAD + length payload) rest at behind)

-- the first record, and a later one
reads_first : (end place number : ℕ) (payload : List ℕ) (rest : List (List ℕ)) (bytes : List ℕ) → RecordAt end place number payload bytes
    → ReadsRecord place number place (payload ∷ rest) bytes
reads_first end place number payload rest bytes one =
    let behind : place + HEAD + length payload ≡ end_at place bytes = omega (arith, one.size) in
    let low = end_later (place + HEAD + length payload) rest in
    let here : (place == place) ≡ true = grind (arith, nat_tests) in
    record {
      is_open = one.gate;
      high = omega (arith, one.number_is);
      low = omega (arith, one.number_is);
      within = omega arith;
      found = ap (λ (b : Bool). if b then Some (record { number = number; payload = payload; next = place + HEAD + length payload }) else
          record_in (place + HEAD + length payload) (number + 1) rest place) here
          ∙ cc (one.number_is, one.payload_is);
      next = inr (subst (IsPlaceIn (place + HEAD + length payload) rest) behind (place_first (place + HEAD + length payload) rest));
    }

reads_later : (place number at : ℕ) (payload : List ℕ) (rest : List (List ℕ)) (bytes : List ℕ) → place < at
    → ReadsRecord (place + HEAD + length payload) (number + 1) at rest bytes → ReadsRecord place number at (payload ∷ rest) bytes
reads_later place number at payload rest bytes past r =
    let other : (at == place) ≡ false = grind (arith, nat_tests) in
    record {
      is_open = r.is_open;
      high = omega (arith, r.high);
      low = omega (arith, r.low);
      within = r.within;
      found = ap (λ (b : Bool). if b then Some (record { number = number; payload = payload; next = place + HEAD + length payload }) else
          record_in (place + HEAD + length payload) (number + 1) rest at) other ∙ r.found;
      next = inr r.next;
    }

-- before the end of the list
pub reads_record : (end place number at : ℕ) (records : List (List ℕ)) (bytes : List ℕ) → Leads end place number records bytes
    → IsPlaceIn place records at → at < end_of_list place records
    → ReadsRecord place number at records bytes
reads_record end place number at [] bytes leads is_place low = absurd (omega arith)
reads_record end place number at (payload ∷ rest) bytes (here, leads) (inl first) low =
    subst (λ (p : ℕ). ReadsRecord place number p (payload ∷ rest) bytes) (sym first) (reads_first end place number payload rest bytes here)
reads_record end place number at (payload ∷ rest) bytes (here, leads) (inr behind) low =
    let past = place_later (place + HEAD + length payload) rest at behind in
    reads_later place number at payload rest bytes (omega arith)
    (reads_record end (place + HEAD + length payload) (number + 1) at rest bytes leads behind low)
