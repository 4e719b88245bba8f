-- Collecting the payloads of a list.
use Rattle.std.proofs.Common.{◌≡◌, ℕ, ◌+◌, ◌-◌, ◌≤◌, List, [], ◌∷◌, ◌++◌, Some, sym, ◌∙◌, ap, append_assoc, arith}
use Rattle.odb_device.specs.Images.{part}
use Rattle.odb_reclog.specs.Records.{HEAD, size_at, payload_at, end_at, log_of}
use Rattle.odb_reclog.specs.Reading.{next_at}
use Rattle.odb_reclog.proofs.Leading.{next_some, log_more}

-- these payloads, and then the list from a place on
pub record Collected (start end first : ℕ) (bytes : List ℕ) (payloads : List (List ℕ)) (place number : ℕ) : Type 0 where
  pub list : log_of start end first bytes ≡ payloads ++ log_of place end number bytes
  pub to : place ≤ end
  pub count : number + start ≤ first + place
  pub from : start ≤ place

payload_is : (place next : ℕ) (bytes : List ℕ) → next ≡ end_at place bytes
    → part (place + HEAD) (next - (place + HEAD)) bytes ≡ payload_at place bytes
unfolding payload_at
payload_is place next bytes is = let size : next - (place + HEAD) ≡ size_at place bytes =
    omega arith in ap (λ (n : ℕ). part (place + HEAD) n bytes) size

pub collected_more : (start end first : ℕ) (bytes : List ℕ) (payloads : List (List ℕ)) (payload : List ℕ) (place number next : ℕ)
    → Collected start end first bytes payloads place number
    → Some next ≡ next_at end number place bytes → place + HEAD ≤ next → next ≤ end
    → payload ≡ part (place + HEAD) (next - (place + HEAD)) bytes
    → Collected start end first bytes (payloads ++ payload ∷ []) next (number + 1)
collected_more start end first bytes payloads payload place number next c is ahead within part_is =
    let s = next_some end number place next bytes is in
    let same : payload ≡ payload_at place bytes = part_is ∙ payload_is place next bytes s.1 in
    let rest : log_of place end number bytes ≡ payload ∷ log_of next end (number + 1) bytes =
    log_more place end number bytes s.0 ∙ ap (λ (p : List ℕ). p ∷ log_of (end_at place bytes) end (number + 1) bytes) (sym same)
    ∙ ap (λ (k : ℕ). payload ∷ log_of k end (number + 1) bytes) (sym s.1) in
    record {
      list = c.list ∙ ap (λ (l : List (List ℕ)). payloads ++ l) rest
          ∙ sym (append_assoc payloads (payload ∷ []) (log_of next end (number + 1) bytes));
      to = within;
      count = omega (arith, c.count);
      from = omega (arith, c.from);
    }
