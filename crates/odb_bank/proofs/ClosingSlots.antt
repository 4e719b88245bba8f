-- The slots that a turn closes are the stale ones.
use Rattle.std.proofs.Common.{◌≡◌, ◌≢◌, ◌⊎◌, inl, inr, ℕ, ◌<◌, Bool, true, false, List, Option, Some, None, sym, ◌∙◌, ap, subst, refl, arith}
use Rattle.std.specs.Prelude.{slice_get, is_some, not, nat_lt, nat_le, ◌==◌, ◌&&◌, ◌||◌}
use Rattle.std.specs.List.{All, list_any}
use Rattle.std.proofs.lemmas.Bool.{cases_lt, ltb-true, lt-ltb, le-ltb, leb-true, le-leb, eqb-true, eq-eqb, and_parts, and_from}
use Rattle.std.proofs.lemmas.Option.{slice_get_within, get_or_from_slice_get}
use Rattle.odb_bank.specs.declared.kept.Gate.{Gate}
use Rattle.odb_bank.specs.declared.kept.Gate.TheVariants.{Shut, Open, Doubtful}
use Rattle.odb_bank.specs.declared.kept.Kept.{Kept}
use Rattle.odb_bank.specs.History.{Row, is_key}
use Rattle.odb_bank.specs.Records.{Record}
use Rattle.odb_bank.specs.Changes.{IsSuperseded, IsDoneMark}
use Rattle.odb_bank.specs.Known.{Known, sure, perhaps, sure_of, perhaps_of}
use Rattle.odb_bank.specs.Turns.{IsStaleSlot}
use Rattle.odb_bank.specs.Bank.{record_by, known_by, IsKnownBy, AreKnownBy}
use Rattle.odb_bank.specs.Closing.{supersedes, is_older, is_open, is_stale}
use Rattle.odb_bank.proofs.Keys.{key_true, key_same}
use Rattle.odb_bank.proofs.AnyOf.{any_at, any_found, any_none, none_of}
use Rattle.odb_bank.proofs.Choice.{IsThere, IsNone, find_slot, kept_at}

open_is : (g : Gate) → is_open g ≡ true → g ≡ Open
open_is Open is = refl
open_is Shut is = absurd (cc is)
open_is Doubtful is = absurd (cc is)

-- of one key, by stamps and slots
abbrev pub Wins : Kept → Kept → Type 0
Wins by it = (it.stamp < by.stamp) ⊎ ((by.stamp ≡ it.stamp) × (by.slot < it.slot))

wins_true : (by it : Kept) → (nat_lt it.stamp by.stamp || (by.stamp == it.stamp && nat_lt by.slot it.slot)) ≡ true → Wins by it
wins_true by it is = elim (cases_lt it.stamp by.stamp) [
  | inl less ↦ inl less
  | inr more ↦
      let left : nat_lt it.stamp by.stamp ≡ false = le-ltb it.stamp by.stamp more in
      let right : (by.stamp == it.stamp && nat_lt by.slot it.slot) ≡ true = sym (ap (λ (t : Bool). t || (by.stamp == it.stamp && nat_lt by.slot it.slot)) left) ∙ is in
      let parts = and_parts (by.stamp == it.stamp) (nat_lt by.slot it.slot) right in
      inr (eqb-true by.stamp it.stamp parts.0, ltb-true by.slot it.slot parts.1)
]

or_right : (a b : Bool) → b ≡ true → (a || b) ≡ true
or_right true b is = refl
or_right false b is = is

true_wins : (by it : Kept) → Wins by it → (nat_lt it.stamp by.stamp || (by.stamp == it.stamp && nat_lt by.slot it.slot)) ≡ true
true_wins by it (inl less) = ap (λ (t : Bool). t || (by.stamp == it.stamp && nat_lt by.slot it.slot)) (lt-ltb it.stamp by.stamp less)
true_wins by it (inr equal) = or_right (nat_lt it.stamp by.stamp) (by.stamp == it.stamp && nat_lt by.slot it.slot)
    (and_from (by.stamp == it.stamp) (nat_lt by.slot it.slot) (eq-eqb by.stamp it.stamp equal.0) (lt-ltb by.slot it.slot equal.1))

perhaps_by : (gate : Gate) (r w : Record) (k : Known) → k ≡ known_by gate r → perhaps k ≡ Some w → (gate ≢ Shut) × (w ≡ r)
perhaps_by Shut r w k is some = absurd (cc (ap perhaps is, some))
perhaps_by Open r w k is some = ((λ e. cc e), cc (ap perhaps is, some))
perhaps_by Doubtful r w k is some = ((λ e. cc e), cc (ap perhaps is, some))

shows_by : (gate : Gate) (r : Record) (k : Known) → gate ≢ Shut → k ≡ known_by gate r → perhaps k ≡ Some r
shows_by Shut r k other is = absurd (other refl)
shows_by Open r k other is = ap perhaps is
shows_by Doubtful r k other is = ap perhaps is

-- a record that may be open, and what is kept of it
pub record MayBeKept (slots : List Kept) (n : ℕ) (w : Record) : Type 0 where
  pub place : ℕ
  pub it : Kept
  pub is_it : slice_get slots place ≡ Some it
  pub slot : it.slot ≡ n
  pub not_shut : it.gate ≢ Shut
  pub row : Option Row
  pub has_row : is_some row ≡ it.has_row
  pub is : w ≡ record_by it row

module _ (slots : List Kept) (known : ℕ → Known) (are : AreKnownBy slots known) (limit : ℕ) (inside : All (λ it. it.slot < limit) slots) (mark : ℕ) where
  may_by : (n : ℕ) (w : Record) → perhaps (known n) ≡ Some w → IsThere slots n ⊎ IsNone slots n → MayBeKept slots n w
  may_by n w some (inr none) = let is_free = are.others n none in absurd (cc (ap perhaps is_free, some))
  may_by n w some (inl there) =
      let it = there.1 in
      let by : IsKnownBy it (known n) = subst (λ (m : ℕ). IsKnownBy it (known m)) there.3 (are.each there.0 it there.2) in
      let both = perhaps_by it.gate (record_by it by.row) w (known n) by.is some in
      record { place = there.0; it = it; is_it = there.2; slot = there.3; not_shut = both.0; row = by.row; has_row = by.has_row; is = both.1 }

  pub may_at : (n : ℕ) (w : Record) → perhaps (known n) ≡ Some w → MayBeKept slots n w
  may_at n w some = may_by n w some (find_slot slots n)

  no_row_of : (row : Option Row) → is_some row ≡ false → row ≡ None
  no_row_of None is = refl
  no_row_of (Some row) is = absurd (cc is)

  not_true : (b : Bool) → not b ≡ true → b ≡ false
  not_true true is = absurd (cc is)
  not_true false is = refl

  module _ (k : ℕ) (it : Kept) (here : slice_get slots k ≡ Some it) where
    by : IsKnownBy it (known it.slot)
    by = are.each k it here

    its : Record
    its = record_by it (are.each k it here).row

    -- another one that is open supersedes it
    superseded_true : list_any (λ o. is_open o.gate && supersedes o it) slots ≡ true → IsSuperseded (sure_of known) it.slot (record_by it (are.each k it here).row)
    superseded_true is =
        let found = any_found (λ (o : Kept). is_open o.gate && supersedes o it) slots is in
        let o = found.1 in
        let parts = and_parts (is_open o.gate) (supersedes o it) found.3 in
        let same = and_parts (is_key o.at it.at) (nat_lt it.stamp o.stamp || (o.stamp == it.stamp && nat_lt o.slot it.slot)) parts.1 in
        let its_row = are.each found.0 o found.2 in
        let open_gate = open_is o.gate parts.0 in
        record {
          slot = o.slot;
          by = record_by o its_row.row;
          is_open = ap sure (its_row.is ∙ ap (λ (g : Gate). known_by g (record_by o its_row.row)) open_gate);
          of_key = key_true o.at it.at same.0;
          wins = wins_true o it same.1;
        }

    true_superseded : IsSuperseded (sure_of known) it.slot (record_by it (are.each k it here).row) → list_any (λ o. is_open o.gate && supersedes o it) slots ≡ true
    true_superseded is =
        let kept = kept_at slots known are limit inside is.slot is.by is.is_open in
        let o = kept.it in
        let at : o.at ≡ it.at = sym (ap (λ (r : Record). r.key) kept.is) ∙ is.of_key in
        let stamp : is.by.stamp ≡ o.stamp = ap (λ (r : Record). r.stamp) kept.is in
        let wins : Wins o it = elim is.wins [ inl less ↦ inl (omega (arith, less, stamp)) | inr equal ↦ inr (omega (arith, equal.0, stamp), omega (arith, equal.1, kept.slot)) ] in
        any_at (λ (x : Kept). is_open x.gate && supersedes x it) slots kept.place o kept.is_it
        (and_from (is_open o.gate) (supersedes o it) (ap is_open kept.is_open) (and_from (is_key o.at it.at) (nat_lt it.stamp o.stamp || (o.stamp == it.stamp && nat_lt o.slot it.slot)) (key_same o.at it.at at) (true_wins o it wins)))

    -- it is a deletion mark that is done
    done_true : (not it.has_row && nat_le it.stamp mark && not (list_any (λ other. is_older other it) slots)) ≡ true → IsDoneMark mark (perhaps_of known) (record_by it (are.each k it here).row)
    done_true is =
        let outer = and_parts (not it.has_row && nat_le it.stamp mark) (not (list_any (λ other. is_older other it) slots)) is in
        let parts = and_parts (not it.has_row) (nat_le it.stamp mark) outer.0 in
        let none = not_true (list_any (λ other. is_older other it) slots) outer.1 in
        record {
          no_row = no_row_of (are.each k it here).row ((are.each k it here).has_row ∙ not_true it.has_row parts.0);
          marked = leb-true it.stamp mark parts.1;
          no_older = λ n other open_there of_key.
              let kept = may_at n other open_there in
              let at : kept.it.at ≡ it.at = sym (ap (λ (r : Record). r.key) kept.is) ∙ of_key in
              let stamp : other.stamp ≡ kept.it.stamp = ap (λ (r : Record). r.stamp) kept.is in
              elim (cases_lt kept.it.stamp it.stamp) [
                | inr fine ↦ omega (arith, fine, stamp)
                | inl older ↦
                    let no = none_of (λ (x : Kept). is_older x it) slots none kept.place kept.it kept.is_it in
                    let yes = and_from (is_key kept.it.at it.at) (nat_lt kept.it.stamp it.stamp) (key_same kept.it.at it.at at) (lt-ltb kept.it.stamp it.stamp older) in
                    absurd (cc (no, yes))
              ];
        }

    true_done : All (λ x. x.gate ≢ Shut) slots → IsDoneMark mark (perhaps_of known) (record_by it (are.each k it here).row) → (not it.has_row && nat_le it.stamp mark && not (list_any (λ other. is_older other it) slots)) ≡ true
    true_done open_all is =
        let none : list_any (λ other. is_older other it) slots ≡ false = any_none (λ (x : Kept). is_older x it) slots (λ j x there. older_false j x there (is_older x it) refl) in
        and_from (not it.has_row && nat_le it.stamp mark) (not (list_any (λ other. is_older other it) slots))
        (and_from (not it.has_row) (nat_le it.stamp mark) (ap not (sym (are.each k it here).has_row ∙ ap is_some is.no_row)) (le-leb it.stamp mark is.marked)) (ap not none)
      where
        older_false : (j : ℕ) (x : Kept) → slice_get slots j ≡ Some x → (c : Bool) → is_older x it ≡ c → is_older x it ≡ false
        older_false j x there false e = e
        older_false j x there true e =
            let parts = and_parts (is_key x.at it.at) (nat_lt x.stamp it.stamp) e in
            let xs = are.each j x there in
            let low = slice_get_within slots j x there in
            let same = get_or_from_slice_get slots j x x there in
            let not_shut : x.gate ≢ Shut = subst (λ (y : Kept). y.gate ≢ Shut) same (open_all j x low) in
            let late = is.no_older x.slot (record_by x xs.row) (shows_by x.gate (record_by x xs.row) (known x.slot) not_shut xs.is) (key_true x.at it.at parts.0) in
            absurd (omega (arith, late, ltb-true x.stamp it.stamp parts.1))

    pub stale_true : it.gate ≢ Shut → is_stale mark slots it ≡ true → IsStaleSlot mark known it.slot
    stale_true not_shut is = record {
      it = record_by it (are.each k it here).row;
      may_be_open = shows_by it.gate (record_by it (are.each k it here).row) (known it.slot) not_shut (are.each k it here).is;
      stale = go (list_any (λ o. is_open o.gate && supersedes o it) slots) refl;
    }
      where
        go : (c : Bool) → list_any (λ o. is_open o.gate && supersedes o it) slots ≡ c
            → IsSuperseded (sure_of known) it.slot (record_by it (are.each k it here).row) ⊎ IsDoneMark mark (perhaps_of known) (record_by it (are.each k it here).row)
        go true e = inl (superseded_true e)
        go false e = inr (done_true (sym (ap (λ (c : Bool). c || (not it.has_row && nat_le it.stamp mark && not (list_any (λ other. is_older other it) slots))) e) ∙ is))

    -- and the other way
    pub stale_back : All (λ x. x.gate ≢ Shut) slots → IsStaleSlot mark known it.slot → is_stale mark slots it ≡ true
    stale_back open_all is = go is.stale
      where
        not_shut : it.gate ≢ Shut
        not_shut = let low = slice_get_within slots k it here in let same = get_or_from_slice_get slots k it it here in subst (λ (y : Kept). y.gate ≢ Shut) same (open_all k it low)

        same_it : is.it ≡ record_by it (are.each k it here).row
        same_it = let shown = shows_by it.gate (record_by it (are.each k it here).row) (known it.slot) not_shut (are.each k it here).is in let may = is.may_be_open in cc (shown, may)

        go : IsSuperseded (sure_of known) it.slot is.it ⊎ IsDoneMark mark (perhaps_of known) is.it → is_stale mark slots it ≡ true
        go (inl by_other) = ap (λ (c : Bool). c || (not it.has_row && nat_le it.stamp mark && not (list_any (λ other. is_older other it) slots))) (true_superseded (subst (IsSuperseded (sure_of known) it.slot) same_it by_other))
        go (inr done) = or_right (list_any (λ o. is_open o.gate && supersedes o it) slots) (not it.has_row && nat_le it.stamp mark && not (list_any (λ other. is_older other it) slots)) (true_done open_all (subst (IsDoneMark mark (perhaps_of known)) same_it done))
