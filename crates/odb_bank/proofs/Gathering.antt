-- What the records of a run are.
use Rattle.std.proofs.Common.{◌≡◌, inl, inr, ℕ, zero, suc, ◌+◌, ◌<◌, ◌≤◌, Option, Some, None, ◌∙◌, ap, subst, refl, arith}
use Rattle.std.proofs.lemmas.Bool.{cases_lt}
use Rattle.odb_bank.specs.History.{Key, Row, History, IsLast}
use Rattle.odb_bank.specs.Records.{Record}
use Rattle.odb_bank.specs.Run.{newer, run_record, IsRunRecord}
use Rattle.odb_bank.proofs.Steps.{not_before}

step : (h : History) (a b : ℕ) (key : Key) (written : Option (Option Row)) (before : Option Record) → a ≤ b → h.write (suc b) key ≡ written → IsRunRecord h a b key before → IsRunRecord h a (suc b) key (newer written (suc b) key before)
step h a b key None None low is none = λ k above to. elim (cases_lt b k) [
  | inl last ↦ let same : k ≡ suc b = omega arith in ap (λ (n : ℕ). h.write n key) same ∙ is
  | inr before ↦ none k above before
]
step h a b key None (Some r) low is one =
    let run = one.1 in
    let last = run.last in
    let longer : IsLast h (suc b) r.key r.stamp = record {
      from = last.from;
      to = omega (arith, last.to);
      writes = last.writes;
      none_after = λ k after to. elim (cases_lt b k) [
        | inl top ↦ let same : k ≡ suc b = omega arith in ap (λ (n : ℕ). h.write n r.key) same ∙ ap (h.write (suc b)) one.0 ∙ is
        | inr before ↦ last.none_after k after before
      ];
    } in
    (one.0, record { above = run.above; last = longer; writes = run.writes })
step h a b key (Some row) before low is known =
    let last : IsLast h (suc b) key (suc b) = record { from = omega arith; to = omega arith; writes = (row, is); none_after = λ k after to. absurd (omega arith) } in
    (refl, record { above = omega arith; last = last; writes = is })

-- the record of a key in a run
pub run_record_is : (h : History) (a more : ℕ) (key : Key) → IsRunRecord h a (a + more) key (run_record h a more key)
run_record_is h a zero key = λ k above to. absurd (omega arith)
run_record_is h a (suc more) key =
    let same : suc (a + more) ≡ a + suc more = omega arith in
    subst (λ (b : ℕ). IsRunRecord h a b key (run_record h a (suc more) key)) same
    (step h a (a + more) key (h.write (suc (a + more)) key) (run_record h a more key) (omega arith) refl (run_record_is h a more key))

-- each key that the run writes has one, with the stamp of its last write
pub run_record_all : (h : History) (a more : ℕ) (key : Key) (j : ℕ) → IsLast h (a + more) key j → a < j → (r : Record) × (run_record h a more key ≡ Some r) × (r.key ≡ key) × (r.stamp ≡ j)
run_record_all h a more key j last above = go (run_record h a more key) refl (run_record_is h a more key)
  where
    go : (found : Option Record) → run_record h a more key ≡ found → IsRunRecord h a (a + more) key found → (r : Record) × (run_record h a more key ≡ Some r) × (r.key ≡ key) × (r.stamp ≡ j)
    go None e none = let nothing = none j above last.to in let something = last.writes.1 in absurd (cc (nothing, something))
    go (Some r) e one =
        let its : IsLast h (a + more) key r.stamp = subst (λ (k : Key). IsLast h (a + more) k r.stamp) one.0 one.1.last in
        let low = not_before h (a + more) key r.stamp j last.writes.0 its last.to last.writes.1 in
        let high = not_before h (a + more) key j r.stamp its.writes.0 last its.to its.writes.1 in
        (r, e, one.0, omega arith)
