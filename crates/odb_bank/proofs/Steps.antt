-- What each step of a turn leaves of `Stands`, in each image.
use Rattle.std.proofs.Common.{◌≡◌, ◌⊎◌, inl, inr, ℕ, zero, suc, ◌+◌, ◌<◌, ◌≤◌, Option, Some, None, sym, ◌∙◌, ap, subst, arith}
use Rattle.std.proofs.lemmas.Bool.{cases_lt}
use Rattle.odb_bank.specs.History.{Key, Row, History, IsLast, GoesOn}
use Rattle.odb_bank.specs.Records.{Record, View}
use Rattle.odb_bank.specs.Stands.{IsWriteOf, IsTruthful, Reaches, HasNoOlder, IsCompleteTo, Stands}
use Rattle.odb_slots.specs.Between.{Between}
use Rattle.odb_bank.specs.Changes.{IsOfRun, AddsRun, IsDoneMark, IsStale, ClosesStale}

-- of two writes of a key, the last isn't the earlier
pub not_before : (h : History) (a : ℕ) (key : Key) (j k : ℕ) (row : Option Row) → IsLast h a key j → k ≤ a → h.write k key ≡ Some row → k ≤ j
not_before h a key j k row last to writes = elim (cases_lt j k) [
  | inl after ↦ let none = last.none_after k after to in absurd (cc (none, writes))
  | inr fine ↦ fine
]

-- writing bodies behind closed gates: the open records are the same
pub stands_same : (h : History) (a : ℕ) (old new : View) → ((n : ℕ) → new n ≡ old n) → Stands h a old → Stands h a new
stands_same h a old new same stands = record {
  truthful = λ n r here. stands.truthful n r (sym (same n) ∙ here);
  complete = λ key j last. elim (stands.complete key j last) [
    | inl r ↦ inl (record { slot = r.slot; there = r.there; is_open = same r.slot ∙ r.is_open; of_key = r.of_key; late = r.late })
    | inr gone ↦ inr (gone.0, λ n r here of_key. gone.1 n r (sym (same n) ∙ here) of_key)
  ];
}

module _ (h : History) (a reached : ℕ) (less more : View) (adds : AddsRun h a reached less more) where
  -- a slot of the larger view is one of the smaller, or of the run
  more_cases : (n : ℕ) (r : Record) → more n ≡ Some r → (less n ≡ Some r) ⊎ IsOfRun h a reached r
  more_cases n r here = elim (adds.each n) [
    | inl same ↦ inl (sym same ∙ here)
    | inr new ↦ let is : new.added ≡ r = cc (new.now, here) in inr (subst (IsOfRun h a reached) is new.of_run)
  ]

  less_stays : (n : ℕ) (r : Record) → less n ≡ Some r → more n ≡ Some r
  less_stays n r here = elim (adds.each n) [
    | inl same ↦ same ∙ here
    | inr new ↦ let closed = new.was_closed in absurd (cc (closed, here))
  ]

  run_writes : (r : Record) → IsOfRun h a reached r → IsWriteOf h r
  run_writes r run = record { from = run.last.from; to = omega (arith, run.last.to, adds.within); writes = run.writes }

  -- a record of the run is no older than the last write up to a mark that isn't above it
  run_late : (mark : ℕ) (key : Key) (j : ℕ) (r : Record) → mark ≤ reached → IsLast h mark key j → IsOfRun h a reached r → r.key ≡ key → j ≤ r.stamp
  run_late mark key j r low last run of_key =
      not_before h reached key r.stamp j last.writes.0 (subst (λ (k : Key). IsLast h reached k r.stamp) of_key run.last) (omega (arith, last.to)) last.writes.1

  -- opening any of the run's gates keeps it complete to every mark up to the number reached
  pub stands_opening : (mark : ℕ) (view : View) → mark ≤ reached → Between less more view → Stands h mark less → Stands h mark view
  stands_opening mark view low between stands = record { truthful = truthful; complete = complete }
    where
      in_more : (n : ℕ) (r : Record) → view n ≡ Some r → more n ≡ Some r
      in_more n r here = elim (between n) [
        | inl is ↦ less_stays n r (sym is ∙ here)
        | inr is ↦ sym is ∙ here
      ]

      stays : (n : ℕ) (r : Record) → less n ≡ Some r → view n ≡ Some r
      stays n r here = elim (between n) [
        | inl is ↦ is ∙ here
        | inr is ↦ is ∙ less_stays n r here
      ]

      truthful : IsTruthful h view
      truthful n r here = elim (more_cases n r (in_more n r here)) [
        | inl was ↦ stands.truthful n r was
        | inr run ↦ run_writes r run
      ]

      complete : IsCompleteTo h mark view
      complete key j last = elim (stands.complete key j last) [
        | inl r ↦ inl (record { slot = r.slot; there = r.there; is_open = stays r.slot r.there r.is_open; of_key = r.of_key; late = r.late })
        | inr gone ↦ inr (
          gone.0,
          λ n r here of_key. elim (more_cases n r (in_more n r here)) [
            | inl was ↦ gone.1 n r was of_key
            | inr run ↦ run_late mark key j r low last run of_key
          ],
        )
      ]

  -- with all gates open it is complete to the number reached
  pub stands_opened : a ≤ reached → Stands h a less → Stands h reached more
  stands_opened low stands = record { truthful = truthful; complete = complete }
    where
      truthful : IsTruthful h more
      truthful n r here = elim (more_cases n r here) [
        | inl was ↦ stands.truthful n r was
        | inr run ↦ run_writes r run
      ]

      older : (key : Key) (j : ℕ) → IsLast h reached key j → j ≤ a → IsLast h a key j
      older key j last to = record { from = last.from; to = to; writes = last.writes; none_after = λ k after small. last.none_after k after (omega arith) }

      complete : IsCompleteTo h reached more
      complete key j last = elim (cases_lt a j) [
        | inl above ↦ let r = adds.all key j last above in inl (record { slot = r.0; there = r.1; is_open = r.2; of_key = r.3; late = omega (arith, r.4) })
        | inr below ↦ elim (stands.complete key j (older key j last below)) [
          | inl r ↦ inl (record { slot = r.slot; there = r.there; is_open = less_stays r.slot r.there r.is_open; of_key = r.of_key; late = r.late })
          | inr gone ↦ inr (
            gone.0,
            λ n r here of_key. elim (more_cases n r here) [
              | inl was ↦ gone.1 n r was of_key
              | inr run ↦ run_late reached key j r (omega arith) last run of_key
            ],
          )
        ]
      ]

-- closing any of the stale slots keeps it complete to the mark. `more` has every record that is open, or may still be after a
-- closing that failed.
module _ (h : History) (mark : ℕ) (limit : ℕ) (less more view : View) (within : (n : ℕ) → limit ≤ n → more n ≡ None) (closes : ClosesStale mark more less) (between : Between less more view) (stands : Stands h mark more) where
  in_more : (n : ℕ) (r : Record) → view n ≡ Some r → more n ≡ Some r
  in_more n r here = elim (between n) [
    | inl is ↦ elim (closes n) [
      | inl same ↦ sym same ∙ sym is ∙ here
      | inr closed ↦ let none = closed.0 in absurd (cc (none, is, here))
    ]
    | inr is ↦ sym is ∙ here
  ]

  stays_or_stale : (n : ℕ) (r : Record) → more n ≡ Some r → (view n ≡ Some r) ⊎ IsStale mark more n r
  stays_or_stale n r here = elim (between n) [
    | inl is ↦ elim (closes n) [
      | inl same ↦ inl (is ∙ same ∙ here)
      | inr closed ↦ inr (closed.1 r here)
    ]
    | inr is ↦ inl (is ∙ here)
  ]

  below_limit : (n : ℕ) (r : Record) → more n ≡ Some r → n < limit
  below_limit n r here = elim (cases_lt n limit) [
    | inl low ↦ low
    | inr high ↦ let none = within n high in absurd (cc (none, here))
  ]

  abbrev Found : Key → ℕ → Type 0
  Found key j = Reaches view key j ⊎ ((h.write j key ≡ Some None) × HasNoOlder view key j)

  -- a deletion mark that is done is the last write, and nothing older is open
  mark_found : (key : Key) (j n : ℕ) (r : Record) → IsLast h mark key j → more n ≡ Some r → r.key ≡ key → j ≤ r.stamp → IsDoneMark mark more r → Found key j
  mark_found key j n r last here of_key late done =
      let writes : h.write r.stamp key ≡ Some None = subst (λ (k : Key). h.write r.stamp k ≡ Some None) of_key ((stands.truthful n r here).writes ∙ ap Some done.no_row) in
      let early : r.stamp ≤ j = not_before h mark key j r.stamp None last done.marked writes in
      let same : r.stamp ≡ j = omega arith in
      inr (
        subst (λ (k : ℕ). h.write k key ≡ Some None) same writes,
        λ m other is its_key. omega (arith, same, done.no_older m other (in_more m other is) (its_key ∙ sym of_key)),
      )

  -- From a record on, over those of its stamp that supersede one another: the slot falls.
  climb_slots : (slots : ℕ) (key : Key) (j n : ℕ) (r : Record) → ((m : ℕ) (other : Record) → r.stamp < other.stamp → more m ≡ Some other → other.key ≡ key → Found key j)
      → IsLast h mark key j → n < slots → more n ≡ Some r → r.key ≡ key → j ≤ r.stamp → Found key j
  climb_slots zero key j n r above last low here of_key late = absurd (omega arith)
  climb_slots (suc slots) key j n r above last low here of_key late = elim (stays_or_stale n r here) [
    | inl is ↦ inl (record { slot = n; there = r; is_open = is; of_key = of_key; late = late })
    | inr (inl s) ↦ elim s.wins [
      | inl greater ↦ above s.slot s.by greater s.is_open (s.of_key ∙ of_key)
      | inr equal ↦ climb_slots slots key j s.slot s.by (λ m other higher. above m other (omega (arith, equal.0, higher))) last (omega (arith, equal.1, low)) s.is_open (s.of_key ∙ of_key) (omega (arith, equal.0, late))
    ]
    | inr (inr done) ↦ mark_found key j n r last here of_key late done
  ]

  -- And over all: the stamp rises.
  climb : (stamps : ℕ) (key : Key) (j n : ℕ) (r : Record) → IsLast h mark key j → h.count < r.stamp + stamps → more n ≡ Some r → r.key ≡ key → j ≤ r.stamp → Found key j
  climb zero key j n r last few here of_key late = let real = (stands.truthful n r here).to in absurd (omega (arith, real, few))
  climb (suc stamps) key j n r last few here of_key late = climb_slots limit key j n r
      (λ m other higher is its_key. climb stamps key j m other last (omega (arith, higher, few)) is its_key (omega (arith, higher, late)))
      last (below_limit n r here) here of_key late

  pub stands_closing : Stands h mark view
  stands_closing = record {
    truthful = λ n r here. stands.truthful n r (in_more n r here);
    complete = λ key j last. elim (stands.complete key j last) [
      | inl r ↦ climb (suc h.count) key j r.slot r.there last (omega arith) r.is_open r.of_key r.late
      | inr gone ↦ inr (gone.0, λ n r here of_key. gone.1 n r (in_more n r here) of_key)
    ];
  }

-- a longer history
pub stands_longer : (h longer : History) (a : ℕ) (view : View) → GoesOn h longer → a ≤ h.count → Stands h a view → Stands longer a view
stands_longer h longer a view on low stands = record {
  truthful = λ n r here. let w = stands.truthful n r here in record { from = w.from; to = omega (arith, w.to, on.count); writes = on.same r.stamp r.key w.to ∙ w.writes };
  complete = λ key j last. let small : j ≤ h.count = omega (arith, last.to) in elim (stands.complete key j (shorter key j last)) [
    | inl r ↦ inl r
    | inr gone ↦ inr (on.same j key small ∙ gone.0, gone.1)
  ];
}
  where
    shorter : (key : Key) (j : ℕ) → IsLast longer a key j → IsLast h a key j
    shorter key j last = record {
      from = last.from;
      to = last.to;
      writes = (last.writes.0, sym (on.same j key (omega (arith, last.to))) ∙ last.writes.1);
      none_after = λ k after to. sym (on.same k key (omega arith)) ∙ last.none_after k after to;
    }
