-- Stale slots: what supersedes them is on the disk, and closing any of them leaves the rows of the
-- file.
use Rattle.std.proofs.Common.{◌≡◌, ◌⊎◌, inl, inr, ℕ, zero, suc, ◌+◌, ◌<◌, ◌≤◌, Option, Some, None, sym, ◌∙◌, ap, subst, refl, arith}
use Rattle.std.proofs.lemmas.Bool.{cases_lt}
use Rattle.odb_slots.specs.Between.{Between}
use Rattle.odb_bank.specs.History.{Key, History}
use Rattle.odb_bank.specs.Records.{Record, View, IsWithin, record_of, row_of, bank_map, IsRecordOf, IsRecord}
use Rattle.odb_bank.specs.Stands.{IsTruthful}
use Rattle.odb_bank.specs.Changes.{IsSuperseded, IsDoneMark, IsStale}
use Rattle.odb_bank.specs.Known.{Known, free, filled, held, either, sure, perhaps, sure_of, perhaps_of, behind_gate, Become}
use Rattle.odb_bank.specs.Turns.{DoubtsStale, IsStaleSlot}
use Rattle.odb_bank.proofs.Reading.{record_is}

-- what is open for sure may be open
pub sure_perhaps : (k : Known) (r : Record) → sure k ≡ Some r → perhaps k ≡ Some r
sure_perhaps free r is = is
sure_perhaps (filled s) r is = is
sure_perhaps (held s) r is = is
sure_perhaps (either s) r is = absurd (cc is)

module _ (h : History) (mark limit : ℕ) (known : ℕ → Known) (within : IsWithin limit (perhaps_of known)) (doubts : DoubtsStale mark known) (truthful : IsTruthful h (perhaps_of known)) where
  below_limit : (n : ℕ) (r : Record) → perhaps (known n) ≡ Some r → n < limit
  below_limit n r here = elim (cases_lt n limit) [
    | inl low ↦ low
    | inr high ↦ let none = within n high in absurd (cc (none, here))
  ]

  -- two that may be open, of one key and stamp, have one row
  same_row : (n m : ℕ) (r s : Record) → perhaps (known n) ≡ Some r → perhaps (known m) ≡ Some s → s.key ≡ r.key → s.stamp ≡ r.stamp → s.row ≡ r.row
  same_row n m r s here there of_key same =
      let one : h.write r.stamp r.key ≡ Some r.row = (truthful n r here).writes in
      let other : h.write s.stamp s.key ≡ Some s.row = (truthful m s there).writes in
      cc (one, other, of_key, same)

  abbrev Wins : ℕ → Record → ℕ → Record → Type 0
  Wins n r m s = (r.stamp < s.stamp) ⊎ ((s.stamp ≡ r.stamp) × (m < n))

  abbrev Ends : ℕ → Record → Type 0
  Ends n r = IsSuperseded (sure_of known) n r ⊎ IsDoneMark mark (perhaps_of known) r

  -- what is superseded by a deletion mark that is done is one itself
  done_too : (n m : ℕ) (r s : Record) → perhaps (known n) ≡ Some r → perhaps (known m) ≡ Some s → s.key ≡ r.key → Wins n r m s → IsDoneMark mark (perhaps_of known) s → IsDoneMark mark (perhaps_of known) r
  done_too n m r s here there of_key (inl greater) done = absurd (omega (arith, greater, done.no_older n r here (sym of_key)))
  done_too n m r s here there of_key (inr equal) done = record {
    no_row = sym (same_row n m r s here there of_key equal.0) ∙ done.no_row;
    marked = omega (arith, equal.0, done.marked);
    no_older = λ p other is its_key. omega (arith, equal.0, done.no_older p other is (its_key ∙ sym of_key));
  }

  climb_slots : (slots n m : ℕ) (r s : Record) → ((p : ℕ) (o : Record) → s.stamp < o.stamp → perhaps (known p) ≡ Some o → o.key ≡ r.key → Ends n r)
      → perhaps (known n) ≡ Some r → perhaps (known m) ≡ Some s → s.key ≡ r.key → Wins n r m s → m < slots → Ends n r
  climb_slots zero n m r s above here there of_key wins low = absurd (omega arith)
  climb_slots (suc slots) n m r s above here there of_key wins low = go (λ p o. climb_slots slots n p r o) (known m) refl
    where
      further : (o : Record) (p : ℕ) → (o.stamp ≡ s.stamp) → p < m → Wins n r m s → Wins n r p o
      further o p same lower (inl greater) = inl (omega arith)
      further o p same lower (inr equal) = inr (omega (arith, equal.0), omega (arith, equal.1))

      go : ((p : ℕ) (o : Record) → ((q : ℕ) (t : Record) → o.stamp < t.stamp → perhaps (known q) ≡ Some t → t.key ≡ r.key → Ends n r)
          → perhaps (known n) ≡ Some r → perhaps (known p) ≡ Some o → o.key ≡ r.key → Wins n r p o → p < slots → Ends n r) → (k : Known) → known m ≡ k → Ends n r
      go next free e = absurd (cc (ap perhaps e, there))
      go next (filled x) e = absurd (cc (ap perhaps e, there))
      go next (held x) e = inl (record { slot = m; by = s; is_open = ap sure e ∙ sym (ap perhaps e) ∙ there; of_key = of_key; wins = wins })
      go next (either x) e =
          let same : x ≡ s = cc (ap perhaps e, there) in
          elim (subst (IsStale mark (perhaps_of known) m) same (doubts m x e)) [
            | inr done ↦ inr (done_too n m r s here there of_key wins done)
            | inl up ↦ elim up.wins [
              | inl greater ↦ above up.slot up.by greater up.is_open (up.of_key ∙ of_key)
              | inr equal ↦
                  next up.slot up.by (λ q t higher. above q t (omega (arith, equal.0, higher))) here up.is_open (up.of_key ∙ of_key) (further up.by up.slot equal.0 equal.1 wins)
                  (omega (arith, equal.1, low))
            ]
          ]

  climb : (stamps n m : ℕ) (r s : Record) → h.count < s.stamp + stamps → perhaps (known n) ≡ Some r → perhaps (known m) ≡ Some s → s.key ≡ r.key → Wins n r m s → Ends n r
  climb zero n m r s few here there of_key wins = let real = (truthful m s there).to in absurd (omega (arith, real, few))
  climb (suc stamps) n m r s few here there of_key wins = climb_slots limit n m r s
      (λ p o higher is its_key. climb stamps n p r o (omega (arith, higher, few)) here is its_key (inl (over wins higher)))
      here there of_key wins (below_limit m s there)
    where
      over : {o : ℕ} → Wins n r m s → s.stamp < o → r.stamp < o
      over (inl greater) higher = omega arith
      over (inr equal) higher = omega (arith, equal.0)

  -- a slot is stale by what is on the disk where it is by what may be open
  pub stale_durably : (n : ℕ) (r : Record) → perhaps (known n) ≡ Some r → IsStale mark (perhaps_of known) n r → IsStaleSlot mark known n
  stale_durably n r here (inr done) = record { it = r; may_be_open = here; stale = inr done }
  stale_durably n r here (inl up) = record {
    it = r;
    may_be_open = here;
    stale = climb (suc h.count) n up.slot r up.by (omega arith) here up.is_open up.of_key up.wins;
  }

  module _ (view : View) (between : Between (sure_of known) (perhaps_of known) view) where
    in_perhaps : (n : ℕ) (r : Record) → view n ≡ Some r → perhaps (known n) ≡ Some r
    in_perhaps n r here = elim (between n) [
      | inl is ↦ sure_perhaps (known n) r (sym is ∙ here)
      | inr is ↦ sym is ∙ here
    ]

    stays_or_stale : (n : ℕ) (r : Record) → perhaps (known n) ≡ Some r → (view n ≡ Some r) ⊎ IsStale mark (perhaps_of known) n r
    stays_or_stale n r here = go (known n) refl
      where
        kept : sure (known n) ≡ perhaps (known n) → (view n ≡ Some r) ⊎ IsStale mark (perhaps_of known) n r
        kept same = inl (elim (between n) [ inl is ↦ is ∙ same ∙ here | inr is ↦ is ∙ here ])

        go : (k : Known) → known n ≡ k → (view n ≡ Some r) ⊎ IsStale mark (perhaps_of known) n r
        go free e = kept (ap sure e ∙ sym (ap perhaps e))
        go (filled s) e = kept (ap sure e ∙ sym (ap perhaps e))
        go (held s) e = kept (ap sure e ∙ sym (ap perhaps e))
        go (either s) e = let same : s ≡ r = cc (ap perhaps e, here) in inr (subst (IsStale mark (perhaps_of known) n) same (doubts n s e))

    -- the record of a key is superseded by none
    not_superseded : (key : Key) (w : Record) (is : IsRecordOf limit (perhaps_of known) key w) → IsSuperseded (perhaps_of known) is.slot w → ⊥
    not_superseded key w is up =
        let low = below_limit up.slot up.by up.is_open in
        let its : up.by.key ≡ key = up.of_key ∙ is.of_key in
        let most = is.none_above up.slot up.by low up.is_open its in
        elim up.wins [
          | inl greater ↦ omega (arith, greater, most)
          | inr equal ↦ omega (arith, equal.1, is.least up.slot up.by low up.is_open its equal.0)
        ]

    rows_same : (key : Key) (a b : Option Record) → IsRecord limit view key a → IsRecord limit (perhaps_of known) key b → row_of a ≡ row_of b
    rows_same key None None here there = refl
    rows_same key (Some v) None here there = absurd (there here.slot v here.below (in_perhaps here.slot v here.is_open) here.of_key)
    rows_same key None (Some w) here there = elim (stays_or_stale there.slot w there.is_open) [
      | inl is ↦ absurd (here there.slot w there.below is there.of_key)
      | inr (inl up) ↦ absurd (not_superseded key w there up)
      | inr (inr done) ↦ sym done.no_row
    ]
    rows_same key (Some v) (Some w) here there =
        let its : perhaps (known here.slot) ≡ Some v = in_perhaps here.slot v here.is_open in
        let most : v.stamp ≤ w.stamp = there.none_above here.slot v here.below its here.of_key in
        let keys : v.key ≡ w.key = here.of_key ∙ sym there.of_key in
        elim (stays_or_stale there.slot w there.is_open) [
          | inl is ↦ same_row there.slot here.slot w v there.is_open its keys (omega (arith, here.none_above there.slot w there.below is there.of_key))
          | inr (inl up) ↦ absurd (not_superseded key w there up)
          | inr (inr done) ↦ same_row there.slot here.slot w v there.is_open its keys (omega (arith, done.no_older here.slot v its keys))
        ]

    -- whichever of the slots in doubt are open, the file has the same rows
    pub map_same : (key : Key) → bank_map limit view key ≡ bank_map limit (perhaps_of known) key
    map_same key = rows_same key (record_of limit view key) (record_of limit (perhaps_of known) key) (record_is limit view key) (record_is limit (perhaps_of known) key)

  pub map_sure : (view : View) → Between (sure_of known) (perhaps_of known) view → (key : Key) → bank_map limit view key ≡ bank_map limit (sure_of known) key
  map_sure view between key = map_same view between key ∙ sym (map_same (sure_of known) (λ n. inl refl) key)

-- what superseded by a sure one is superseded by one that may be open
slot_stale : (mark : ℕ) (known : ℕ → Known) (n : ℕ) (r : Record) → IsSuperseded (sure_of known) n r ⊎ IsDoneMark mark (perhaps_of known) r → IsStale mark (perhaps_of known) n r
slot_stale mark known n r (inl up) = inl (record { slot = up.slot; by = up.by; is_open = sure_perhaps (known up.slot) up.by up.is_open; of_key = up.of_key; wins = up.wins })
slot_stale mark known n r (inr done) = inr done

open_behind : (k : Known) (r s : Record) → behind_gate k ≡ Some r → perhaps k ≡ Some s → Some r ≡ perhaps k
open_behind free r s a b = absurd (cc b)
open_behind (filled x) r s a b = absurd (cc b)
open_behind (held x) r s a b = sym a
open_behind (either x) r s a b = sym a

-- a closing of stale slots that isn't known to be on the disk leaves just stale slots in doubt
module _ (mark : ℕ) (S : ℕ → Type 0) (known later : ℕ → Known) (doubts : DoubtsStale mark known) (stale : (n : ℕ) → S n → IsStaleSlot mark known n) (become : Become S either known later) where
  -- the same may be open
  pub closing_same : (n : ℕ) → perhaps (later n) ≡ perhaps (known n)
  closing_same n = elim (become n) [
    | inl other ↦ ap perhaps other.1
    | inr one ↦ let its = one.1 in let s = stale n one.0 in ap perhaps its.2 ∙ open_behind (known n) its.0 s.it its.1 s.may_be_open
  ]

  moved : (n : ℕ) (r : Record) → IsStale mark (perhaps_of known) n r → IsStale mark (perhaps_of later) n r
  moved n r (inl up) = inl (record { slot = up.slot; by = up.by; is_open = closing_same up.slot ∙ up.is_open; of_key = up.of_key; wins = up.wins })
  moved n r (inr done) = inr (record {
    no_row = done.no_row;
    marked = done.marked;
    no_older = λ m other is of_key. done.no_older m other (sym (closing_same m) ∙ is) of_key;
  })

  pub doubts_stay : DoubtsStale mark later
  doubts_stay n r is = elim (become n) [
    | inl other ↦ moved n r (doubts n r (sym other.1 ∙ is))
    | inr one ↦
        let s = stale n one.0 in
        let same : s.it ≡ r = cc (s.may_be_open, closing_same n, ap perhaps is) in
        moved n r (subst (IsStale mark (perhaps_of known) n) same (slot_stale mark known n s.it s.stale))
  ]
