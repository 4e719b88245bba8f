-- A file that stands, changed by the entries above its mark, has the state of the whole history.
use Rattle.std.proofs.Common.{◌≡◌, ◌⊎◌, inl, inr, ℕ, zero, suc, ◌+◌, ◌-◌, ◌<◌, ◌≤◌, Option, Some, None, sym, ◌∙◌, ap, refl, arith}
use Rattle.std.proofs.lemmas.Bool.{cases_lt}
use Rattle.odb_bank.specs.History.{Key, Row, History, IsLast}
use Rattle.odb_bank.specs.Records.{View, IsWithin, bank_map}
use Rattle.odb_bank.specs.Stands.{Stands}
use Rattle.odb_bank.specs.Replayed.{after_write, state, changed_by}
use Rattle.odb_bank.proofs.Reading.{row_at_mark, row_not_by}

-- none of the first k entries writes the key, or one is the last to do so, and the state is what it says
abbrev IsKnown : History → Key → ℕ → Type 0
IsKnown h key k = (((i : ℕ) → 1 ≤ i → i ≤ k → h.write i key ≡ None) × (state h k key ≡ None)) ⊎ ((j : ℕ) × IsLast h k key j × (h.write j key ≡ Some (state h k key)))

last_or_before : (k i : ℕ) → i ≤ suc k → (i ≡ suc k) ⊎ (i ≤ k)
last_or_before k i to = elim (cases_lt k i) [ inl last ↦ inl (omega arith) | inr before ↦ inr before ]

known_step : (h : History) (key : Key) (k : ℕ) (written : Option (Option Row)) → h.write (suc k) key ≡ written → IsKnown h key k → IsKnown h key (suc k)
known_step h key k None is (inl never) = inl (
  (λ i from to. elim (last_or_before k i to) [ inl last ↦ ap (λ (n : ℕ). h.write n key) last ∙ is | inr before ↦ never.0 i from before ]),
  ap (λ (o : Option (Option Row)). after_write o (state h k key)) is ∙ never.1,
)
known_step h key k None is (inr known) =
    let last = known.1 in
    let stays : state h (suc k) key ≡ state h k key = ap (λ (o : Option (Option Row)). after_write o (state h k key)) is in
    let longer : IsLast h (suc k) key known.0 = record {
      from = last.from;
      to = omega (arith, last.to);
      writes = last.writes;
      none_after = λ i after to. elim (last_or_before k i to) [ inl top ↦ ap (λ (n : ℕ). h.write n key) top ∙ is | inr before ↦ last.none_after i after before ];
    } in
    inr (known.0, longer, known.2 ∙ ap Some (sym stays))
known_step h key k (Some row) is so_far =
    let new : state h (suc k) key ≡ row = ap (λ (o : Option (Option Row)). after_write o (state h k key)) is in
    let last : IsLast h (suc k) key (suc k) = record { from = omega arith; to = omega arith; writes = (row, is); none_after = λ i after to. absurd (omega arith) } in
    inr (suc k, last, is ∙ ap Some (sym new))

known : (h : History) (key : Key) (k : ℕ) → IsKnown h key k
known h key zero = inl ((λ i from to. absurd (omega arith)), refl)
known h key (suc k) = known_step h key k (h.write (suc k) key) refl (known h key k)

-- changed by entries that go on from the state, it goes on
changed_goes_on : (h : History) (a more : ℕ) (key : Key) → changed_by h a more key (state h a key) ≡ state h (a + more) key
changed_goes_on h a zero key = let same : a ≡ a + 0 = omega arith in ap (λ (k : ℕ). state h k key) same
changed_goes_on h a (suc more) key =
    let same : suc (a + more) ≡ a + suc more = omega arith in
    ap (after_write (h.write (suc (a + more)) key)) (changed_goes_on h a more key) ∙ ap (λ (k : ℕ). state h k key) same

-- what an entry above a wrote covers what was there
changed_covers : (h : History) (a more : ℕ) (key : Key) (base other : Option Row) → (j : ℕ) → a < j → j ≤ a + more → (row : Option Row) → h.write j key ≡ Some row → changed_by h a more key base ≡ changed_by h a more key other
changed_covers h a zero key base other j above to row writes = absurd (omega arith)
changed_covers h a (suc more) key base other j above to row writes = elim (cases_lt (a + more) j) [
  | inl last ↦
      let same : suc (a + more) ≡ j = omega arith in
      let here : h.write (suc (a + more)) key ≡ Some row = ap (λ (k : ℕ). h.write k key) same ∙ writes in
      ap (λ (o : Option (Option Row)). after_write o (changed_by h a more key base)) here ∙ sym (ap (λ (o : Option (Option Row)). after_write o (changed_by h a more key other)) here)
  | inr before ↦ ap (after_write (h.write (suc (a + more)) key)) (changed_covers h a more key base other j above before row writes)
]

-- no entry above a up to k writes the key, or one does
wrote_above : (h : History) (a : ℕ) (key : Key) (more : ℕ) → ((k : ℕ) → a < k → k ≤ a + more → h.write k key ≡ None) ⊎ ((j : ℕ) × (row : Option Row) × (a < j) × (j ≤ a + more) × (h.write j key ≡ Some row))
wrote_above h a key zero = inl (λ k above to. absurd (omega arith))
wrote_above h a key (suc more) = go (h.write (suc (a + more)) key) refl (wrote_above h a key more)
  where
    go : (written : Option (Option Row)) → h.write (suc (a + more)) key ≡ written
        → ((k : ℕ) → a < k → k ≤ a + more → h.write k key ≡ None) ⊎ ((j : ℕ) × (row : Option Row) × (a < j) × (j ≤ a + more) × (h.write j key ≡ Some row))
        → ((k : ℕ) → a < k → k ≤ a + suc more → h.write k key ≡ None) ⊎ ((j : ℕ) × (row : Option Row) × (a < j) × (j ≤ a + suc more) × (h.write j key ≡ Some row))
    go (Some row) is rest = inr (suc (a + more), row, omega arith, omega arith, is)
    go None is (inr one) = inr (one.0, one.1, one.2, omega (arith, one.3), one.4)
    go None is (inl none) = inl (λ k above to. elim (cases_lt (a + more) k) [
      | inl last ↦ let same : k ≡ suc (a + more) = omega arith in ap (λ (n : ℕ). h.write n key) same ∙ is
      | inr before ↦ none k above before
    ])

-- what a file opens to
pub opens_to : (h : History) (a limit : ℕ) (view : View) (key : Key) → IsWithin limit view → a ≤ h.count → Stands h a view → changed_by h a (h.count - a) key (bank_map limit view key) ≡ state h h.count key
opens_to h a limit view key within small stands =
    let all : a + (h.count - a) ≡ h.count = omega arith in
    elim (wrote_above h a key (h.count - a)) [
      | inr one ↦ changed_covers h a (h.count - a) key (bank_map limit view key) (state h a key) one.0 one.2 one.3 one.1 one.4 ∙ changed_goes_on h a (h.count - a) key ∙ ap (λ (k : ℕ). state h k key) all
      | inl none ↦
          let here : bank_map limit view key ≡ state h a key = at_mark (known h key a) (λ k above to. none k above (omega arith)) in
          ap (changed_by h a (h.count - a) key) here ∙ changed_goes_on h a (h.count - a) key ∙ ap (λ (k : ℕ). state h k key) all
    ]
  where
    at_mark : IsKnown h key a → ((k : ℕ) → a < k → k ≤ h.count → h.write k key ≡ None) → bank_map limit view key ≡ state h a key
    at_mark (inl never) none = row_not_by h a limit view within stands key (λ k from to. elim (cases_lt a k) [ inl above ↦ none k above to | inr low ↦ never.0 k from low ]) ∙ sym never.1
    at_mark (inr one) none = row_at_mark h a limit view within stands key one.0 (state h a key) small one.1 none one.2
