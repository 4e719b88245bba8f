-- Closing the gate at the end of a list leaves the list as it is.
use Rattle.std.proofs.Common.{◌≡◌, inl, inr, ℕ, suc, ◌+◌, ◌-◌, ◌<◌, ◌≤◌, false, List, length, sym, ◌∙◌, ap, arith}
use Rattle.std.proofs.lemmas.Bool.{cases_eq, cases_lt}
use Rattle.odb_device.specs.Images.{Torn}
use Rattle.odb_reclog.specs.Records.{OPEN, gate_at, size_at, number_at, is_record, log_of, end_of_list}
use Rattle.odb_reclog.proofs.Records.{torn_outside, size_same, number_same, no_room, no_gate, list_leads, leads_list, leads_few, leads_same}
use Rattle.odb_reclog.proofs.Leading.{stops}

record_same : (end number place : ℕ) (d c : List ℕ) → gate_at place c ≡ gate_at place d → size_at place c ≡ size_at place d
    → number_at place c ≡ number_at place d
    → is_record end number place c ≡ is_record end number place d
record_same end number place d c gate size is_number = cc

-- a byte at the place at which the list ends, where a gate was open
pub closing_keeps : (start end first place : ℕ) (d c : List ℕ) → place < end → end ≤ length d
    → end_of_list start (log_of start end first d) ≡ place → gate_at place d ≡ OPEN → Torn place 1 d c
    → log_of start end first c ≡ log_of start end first d
closing_keeps start end first place d c inside long ends is_open t =
    let list = log_of start end first d in
    let leads = list_leads (suc (end - start)) end first start d long in
    let few = leads_few end start first list d leads in
    let same = torn_outside start place place 1 d c (omega arith) t (inl (omega arith)) in
    leads_list (suc (end - start)) end first start list c (omega arith)
    (leads_same start place end start first list d c same (omega arith) (omega arith) leads)
    (ap (λ (p : ℕ). is_record end number p c) ends ∙ shut)
  where
    number : ℕ
    number = first + length (log_of start end first d)

    none : is_record end number place d ≡ false
    none = ap (λ (p : ℕ). is_record end number p d) (sym ends) ∙ stops end d long first start

    shut : is_record end number place c ≡ false
    shut = elim (cases_lt (place + 12) end) [
      | inl room ↦ elim (cases_eq (gate_at place c) OPEN) [
        | inl still_open ↦
            let behind = torn_outside (place + 1) end place 1 d c long t (inr (omega arith)) in
            record_same end number place d c (still_open ∙ sym is_open)
            (size_same (place + 1) end d c behind place (omega arith) (omega arith))
            (number_same (place + 1) end d c behind place (omega arith) (omega arith)) ∙ none
        | inr closed ↦ no_gate end number place c closed
      ]
      | inr short ↦ no_room end number place c (omega arith)
    ]
