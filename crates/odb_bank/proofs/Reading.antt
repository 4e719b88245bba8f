-- What the record of a key is, and what it says of a file that stands.
use Rattle.std.proofs.Common.{◌≡◌, ◌⊎◌, inl, inr, ℕ, zero, suc, ◌<◌, ◌≤◌, Option, Some, None, sym, ◌∙◌, ap, subst, refl, arith}
use Rattle.std.specs.Prelude.{◌&&◌, nat_lt}
use Rattle.std.proofs.lemmas.Bool.{cases_lt, cond_both, ltb-true, lt-ltb, and_parts, and_from}
use Rattle.odb_bank.specs.History.{Key, Row, History, is_key, IsLast}
use Rattle.odb_bank.specs.Records.{Record, View, IsWithin, better, record_of, row_of, bank_map, IsRecordOf, IsRecord}
use Rattle.odb_bank.specs.Stands.{IsCompleteTo, Stands, IsGreatest, HasGreatest}
use Rattle.odb_bank.proofs.Keys.{key_true, key_false, key_same}
use Rattle.odb_bank.proofs.Steps.{not_before}

-- the last slot is the one given, or it comes before
last_or_before : (n m : ℕ) → m < suc n → (m ≡ n) ⊎ (m < n)
last_or_before n m low = elim (cases_lt m n) [ inl below ↦ inr below | inr from ↦ inl (omega arith) ]

module _ (view : View) (key : Key) (n : ℕ) where
  -- where slot n adds nothing
  keeps : (so_far : Option Record) → ((r : Record) → view n ≡ Some r → r.key ≡ key → ⊥) → IsRecord n view key so_far → IsRecord (suc n) view key so_far
  keeps None none is = λ m r low here of_key. elim (last_or_before n m low) [
    | inl e ↦ none r (ap view (sym e) ∙ here) of_key
    | inr below ↦ is m r below here of_key
  ]
  keeps (Some w) none is = record {
    slot = is.slot;
    below = omega (arith, is.below);
    is_open = is.is_open;
    of_key = is.of_key;
    none_above = λ m r low here of_key. elim (last_or_before n m low) [
      | inl e ↦ absurd (none r (ap view (sym e) ∙ here) of_key)
      | inr below ↦ is.none_above m r below here of_key
    ];
    least = λ m r low here of_key same. elim (last_or_before n m low) [
      | inl e ↦ omega (arith, is.below)
      | inr below ↦ is.least m r below here of_key same
    ];
  }

  -- where it has a record of the key that wins over those below
  takes : (r : Record) → view n ≡ Some r → r.key ≡ key → ((m : ℕ) (other : Record) → m < n → view m ≡ Some other → other.key ≡ key → other.stamp < r.stamp) → IsRecordOf (suc n) view key r
  takes r here of_key wins = record {
    slot = n;
    below = omega arith;
    is_open = here;
    of_key = of_key;
    none_above = λ m other low is its_key. elim (last_or_before n m low) [
      | inl e ↦ let same : other ≡ r = cc (ap view e, here, is) in omega (arith, ap (λ (o : Record). o.stamp) same)
      | inr below ↦ omega (arith, wins m other below is its_key)
    ];
    least = λ m other low is its_key same. elim (last_or_before n m low) [
      | inl e ↦ omega arith
      | inr below ↦ absurd (omega (arith, wins m other below is its_key))
    ];
  }

  -- where it has one that doesn't
  passes : (w r : Record) → view n ≡ Some r → (r.key ≡ key → r.stamp ≤ w.stamp) → IsRecordOf n view key w → IsRecordOf (suc n) view key w
  passes w r here low is = record {
    slot = is.slot;
    below = omega (arith, is.below);
    is_open = is.is_open;
    of_key = is.of_key;
    none_above = λ m other small at its_key. elim (last_or_before n m small) [
      | inl e ↦ let same : other ≡ r = cc (ap view e, here, at) in omega (arith, ap (λ (o : Record). o.stamp) same, low (ap (λ (o : Record). o.key) (sym same) ∙ its_key))
      | inr below ↦ is.none_above m other below at its_key
    ];
    least = λ m other small at its_key same. elim (last_or_before n m small) [
      | inl e ↦ omega (arith, is.below)
      | inr below ↦ is.least m other below at its_key same
    ];
  }

  step : (so_far now : Option Record) → IsRecord n view key so_far → view n ≡ now → IsRecord (suc n) view key (better key so_far now)
  step so_far None is here = keeps so_far (λ r there of_key. absurd (cc (here, there))) is
  step None (Some r) is here = cond_both (is_key r.key key) (Some r) None (IsRecord (suc n) view key)
      (λ yes. takes r here (key_true r.key key yes) (λ m other low there its_key. absurd (is m other low there its_key)))
      (λ no_key. keeps None (λ other there its_key. let same : other ≡ r = cc (here, there) in key_false r.key key no_key (ap (λ (o : Record). o.key) (sym same) ∙ its_key)) is)
  step (Some w) (Some r) is here = cond_both (is_key r.key key && nat_lt w.stamp r.stamp) (Some r) (Some w) (IsRecord (suc n) view key)
      (λ both. let parts = and_parts (is_key r.key key) (nat_lt w.stamp r.stamp) both in
      takes r here (key_true r.key key parts.0) (λ m other low there its_key. omega (arith, is.none_above m other low there its_key, ltb-true w.stamp r.stamp parts.1)))
      (λ fails. passes w r here (λ its_key. elim (cases_lt w.stamp r.stamp) [
        | inl above ↦ absurd (cc (fails, and_from (is_key r.key key) (nat_lt w.stamp r.stamp) (key_same r.key key its_key) (lt-ltb w.stamp r.stamp above)))
        | inr fine ↦ fine
      ]) is)

-- the record of a key
pub record_is : (limit : ℕ) (view : View) (key : Key) → IsRecord limit view key (record_of limit view key)
record_is zero view key = λ n r low here of_key. absurd (omega arith)
record_is (suc n) view key = step view key n (record_of n view key) (view n) (record_is n view key) refl

module _ (h : History) (a limit : ℕ) (view : View) (within : IsWithin limit view) (stands : Stands h a view) where
  below_limit : (n : ℕ) (r : Record) → view n ≡ Some r → n < limit
  below_limit n r here = elim (cases_lt n limit) [
    | inl low ↦ low
    | inr high ↦ let none = within n high in absurd (cc (none, here))
  ]

  -- what the record of a key says is in the history
  writes_of : (key : Key) (w : Record) → IsRecordOf limit view key w → h.write w.stamp key ≡ Some w.row
  writes_of key w is = let real = stands.truthful is.slot w is.is_open in subst (λ (k : Key). h.write w.stamp k ≡ Some w.row) is.of_key real.writes

  -- the record of a key is no older than the last write of it up to a
  record_late : (key : Key) (j : ℕ) (w : Record) → IsLast h a key j → IsRecordOf limit view key w → j ≤ w.stamp
  record_late key j w last is = elim (stands.complete key j last) [
    | inl r ↦ omega (arith, r.late, is.none_above r.slot r.there (below_limit r.slot r.there r.is_open) r.is_open r.of_key)
    | inr gone ↦ gone.1 is.slot w is.is_open is.of_key
  ]

  -- and where there is none, that write deletes it
  none_deleted : (key : Key) (j : ℕ) → IsLast h a key j → IsRecord limit view key None → h.write j key ≡ Some None
  none_deleted key j last none = elim (stands.complete key j last) [
    | inl r ↦ absurd (none r.slot r.there (below_limit r.slot r.there r.is_open) r.is_open r.of_key)
    | inr gone ↦ gone.0
  ]

  greatest_of : (key : Key) (j : ℕ) (found : Option Record) → IsLast h a key j → IsRecord limit view key found → HasGreatest h a view key j
  greatest_of key j None last none = inr (none_deleted key j last none, λ n r here of_key. none n r (below_limit n r here) here of_key)
  greatest_of key j (Some w) last is =
      let greatest : IsGreatest view key w.stamp = record {
        slot = is.slot;
        there = w;
        is_open = is.is_open;
        of_key = is.of_key;
        stamped = refl;
        none_above = λ n r here of_key. is.none_above n r (below_limit n r here) here of_key;
      } in
      inl (
        w.stamp,
        greatest,
        elim (cases_lt a w.stamp) [
          | inl above ↦ inr above
          | inr small ↦ inl (omega (arith, record_late key j w last is, not_before h a key j w.stamp w.row last small (writes_of key w is)))
        ],
      )

  -- complete, in the words of the greatest stamp
  pub complete_greatest : (key : Key) (j : ℕ) → IsLast h a key j → HasGreatest h a view key j
  complete_greatest key j last = greatest_of key j (record_of limit view key) last (record_is limit view key)

  up_to : (key : Key) (j : ℕ) → a ≤ h.count → IsLast h h.count key j → j ≤ a → IsLast h a key j
  up_to key j within_h last low = record { from = last.from; to = low; writes = last.writes; none_after = λ k after to. last.none_after k after (omega arith) }

  row_is : (key : Key) (j : ℕ) (row : Option Row) (found : Option Record) → a ≤ h.count → IsLast h h.count key j → j ≤ a → h.write j key ≡ Some row → IsRecord limit view key found → row_of found ≡ row
  row_is key j row None within_h last low writes none = let deleted = none_deleted key j (up_to key j within_h last low) none in cc (deleted, writes)
  row_is key j row (Some w) within_h last low writes is =
      let real = stands.truthful is.slot w is.is_open in
      let late = record_late key j w (up_to key j within_h last low) is in
      let early = not_before h h.count key j w.stamp w.row last real.to (writes_of key w is) in
      let same : w.stamp ≡ j = omega arith in
      let its = writes_of key w is in
      cc (ap (λ (k : ℕ). h.write k key) same, its, writes)

  -- what it opens to: where no entry above a writes the key, its row is that of the last entry that does
  pub row_at : (key : Key) (j : ℕ) (row : Option Row) → a ≤ h.count → IsLast h h.count key j → j ≤ a → h.write j key ≡ Some row → bank_map limit view key ≡ row
  row_at key j row within_h last low writes = row_is key j row (record_of limit view key) within_h last low writes (record_is limit view key)

  -- the same, by the last entry up to a
  pub row_at_mark : (key : Key) (j : ℕ) (row : Option Row) → a ≤ h.count → IsLast h a key j → ((k : ℕ) → a < k → k ≤ h.count → h.write k key ≡ None) → h.write j key ≡ Some row → bank_map limit view key ≡ row
  row_at_mark key j row within_h last none writes = row_at key j row within_h whole last.to writes
    where
      whole : IsLast h h.count key j
      whole = record {
        from = last.from;
        to = omega (arith, last.to);
        writes = last.writes;
        none_after = λ k after to. elim (cases_lt a k) [ inl above ↦ none k above to | inr low ↦ last.none_after k after low ];
      }

  no_row : (key : Key) (found : Option Record) → ((k : ℕ) → 1 ≤ k → k ≤ h.count → h.write k key ≡ None) → IsRecord limit view key found → row_of found ≡ None
  no_row key None none is = refl
  no_row key (Some w) none is =
      let real = stands.truthful is.slot w is.is_open in
      let never = none w.stamp real.from real.to in
      let its = writes_of key w is in
      absurd (cc (never, its))

  -- and where no entry at all writes it, it has none
  pub row_not_by : (key : Key) → ((k : ℕ) → 1 ≤ k → k ≤ h.count → h.write k key ≡ None) → bank_map limit view key ≡ None
  row_not_by key none = no_row key (record_of limit view key) none (record_is limit view key)

-- and back
pub greatest_complete : (h : History) (a : ℕ) (view : View) → ((key : Key) (j : ℕ) → IsLast h a key j → HasGreatest h a view key j) → IsCompleteTo h a view
greatest_complete h a view each key j last = elim (each key j last) [
  | inl g ↦ let is = g.1 in inl (record { slot = is.slot; there = is.there; is_open = is.is_open; of_key = is.of_key; late = elim g.2 [ inl same ↦ omega (arith, is.stamped) | inr above ↦ omega (arith, is.stamped, last.to) ] })
  | inr gone ↦ inr (gone.0, λ n r here of_key. absurd (gone.1 n r here of_key))
]
