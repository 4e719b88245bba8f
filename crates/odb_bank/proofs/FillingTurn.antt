-- What filling free slots with the records of a run leaves of what is known.
use Rattle.std.proofs.Common.{◌≡◌, ◌≢◌, ◌⊎◌, inl, inr, ℕ, zero, suc, ◌+◌, ◌-◌, ◌<◌, ◌≤◌, Bool, List, [], ◌∷◌, ◌++◌, length, get_or, Some, None, sym, ◌∙◌, ap, subst, refl, arith}
use Rattle.std.specs.Prelude.{slice_get, map, ◌==◌, if◌then◌else◌}
use Rattle.std.specs.List.{AllPairs}
use Rattle.std.proofs.lemmas.Bool.{cases_lt, cases_eq, eq-eqb, ne_eqb}
use Rattle.std.proofs.lemmas.Option.{slice_get_within, get_or_from_slice_get, slice_get-get_or}
use Rattle.odb_slots.specs.Bodies.{slot_image}
use Rattle.odb_slots.specs.Sets.{IsOneOf}
use Rattle.odb_slots.specs.declared.item.SlotItem.{SlotItem}
use Rattle.odb_model.specs.declared.entry.Entry.{Entry}
use Rattle.odb_model.specs.State.{IsNumberedFrom}
use Rattle.odb_bank.specs.declared.kept.Kept.{Kept}
use Rattle.odb_bank.specs.History.{Key, History, IsLast}
use Rattle.odb_bank.specs.Records.{Record}
use Rattle.odb_bank.specs.Changes.{IsOfRun}
use Rattle.odb_bank.specs.Known.{Known, free, filled, sure, perhaps, AreFilled}
use Rattle.odb_bank.specs.Turns.{HoldsRun}
use Rattle.odb_bank.specs.Spelled.{record_of_slot, item_for}
use Rattle.odb_bank.specs.Bank.{record_by, known_by, IsKnownBy, AreKnownBy}
use Rattle.odb_bank.specs.Latest.{IsLatest, AreLatest}
use Rattle.odb_bank.specs.Filling.{kept_for, AreItemsFor, AreKeptFor, AreAssigned, IsEntryOf, AreOf}
use Rattle.odb_bank.specs.Room.{AreFree}
use Rattle.odb_bank.proofs.Behind.{append_cases, append_left, append_right, item_there}
use Rattle.odb_bank.proofs.GateTurn.{at_map}
use Rattle.odb_bank.proofs.Numbers.{numbered_at}
use Rattle.odb_bank.proofs.Spelling.{spelled_again}

-- the last writes of the entries are the run
module _ (h : History) (bank mark : ℕ) (entries : List Entry) (numbers : IsNumberedFrom (mark + 1) entries) (are : AreOf h bank entries) (within : mark + length entries ≤ h.count) where
  its : (i : ℕ) (e : Entry) → slice_get entries i ≡ Some e → IsEntryOf h bank e
  its i e is = let low = slice_get_within entries i e is in subst (IsEntryOf h bank) (get_or_from_slice_get entries i e e is) (are i e low)

  at_number : (k : ℕ) → mark < k → k ≤ mark + length entries → (i : ℕ) × (e : Entry) × (slice_get entries i ≡ Some e) × (e.number ≡ k) × (i + mark + 1 ≡ k)
  at_number k above to =
      let there = item_there entries (k - (mark + 1)) (omega arith) in
      (k - (mark + 1), there.0, there.1, omega (arith, numbered_at (mark + 1) entries (k - (mark + 1)) there.0 numbers there.1), omega arith)

  pub of_run : (r : Record) → IsLatest bank entries r → IsOfRun h mark (mark + length entries) r
  of_run r is =
      let low = slice_get_within entries is.place is.entry is.is_entry in
      let number = numbered_at (mark + 1) entries is.place is.entry numbers is.is_entry in
      let of_h = its is.place is.entry is.is_entry in
      let writes : h.write r.stamp r.key ≡ Some r.row = ap (λ (n : ℕ). h.write n r.key) (sym is.stamped) ∙ sym (of_h.writes r.key) ∙ is.writes in
      record {
        above = omega (arith, is.stamped, number);
        last = record {
          from = omega (arith, is.stamped, number);
          to = omega (arith, is.stamped, number, low);
          writes = (r.row, writes);
          none_after = λ k after to.
              let there = at_number k (omega (arith, is.stamped, number)) to in
              let later = its there.0 there.1 there.2 in
              ap (λ (n : ℕ). h.write n r.key) (sym there.3) ∙ sym (later.writes r.key) ∙ is.none_after there.0 there.1 (omega (arith, is.stamped, number, there.4)) there.2;
        };
        writes = writes;
      }

  pub run_has : (records : List Record) → AreLatest bank entries records → (key : Key) (j : ℕ) → IsLast h (mark + length entries) key j → mark < j → (k : ℕ) × (r : Record) × (slice_get records k ≡ Some r) × (r.key ≡ key) × (r.stamp ≡ j)
  run_has records latest key j last above = elim (latest.all key) [
    | inl unwritten ↦
        let there = at_number j above last.to in
        let of_h = its there.0 there.1 there.2 in
        let none : h.write j key ≡ None = ap (λ (n : ℕ). h.write n key) (sym there.3) ∙ sym (of_h.writes key) ∙ unwritten there.0 there.1 there.2 in
        let writes = last.writes.1 in
        absurd (cc (none, writes))
    | inr has ↦
        let r = has.1 in
        let run = of_run r (latest.each has.0 r has.2) in
        (has.0, r, has.2, has.3, same_stamp r has.3 run (cases_eq r.stamp j))
  ]
    where
      same_stamp : (r : Record) → r.key ≡ key → IsOfRun h mark (mark + length entries) r → (r.stamp ≡ j) ⊎ (r.stamp ≢ j) → r.stamp ≡ j
      same_stamp r of_key run (inl same) = same
      same_stamp r of_key run (inr other) = elim (cases_lt r.stamp j) [
        | inl before ↦
            let none = run.last.none_after j before last.to in
            let writes = ap (λ (q : Key). h.write j q) of_key ∙ last.writes.1 in
            absurd (cc (none, writes))
        | inr from ↦
            let none = last.none_after r.stamp (omega arith) run.last.to in
            let writes = sym (ap (λ (q : Key). h.write r.stamp q) of_key) ∙ run.writes in
            absurd (cc (none, writes))
      ]

-- what is known of each slot then
abbrev pub filled_by : List ℕ → List Record → (ℕ → Known) → ℕ → Known
filled_by [] records known n = known n
filled_by (f ∷ run) [] known n = known n
filled_by (f ∷ run) (r ∷ records) known n = if f == n then filled r else filled_by run records known n

-- of a slot that gets a record, or of another one
pub record GetsRecord (run : List ℕ) (records : List Record) (known : ℕ → Known) (n : ℕ) : Type 0 where
  pub place : ℕ
  pub gets : Record
  pub is_slot : slice_get run place ≡ Some n
  pub is_record : slice_get records place ≡ Some gets
  pub now : filled_by run records known n ≡ filled gets

-- no record is for the slot
abbrev GetsNone : List ℕ → List Record → ℕ → Type 0
GetsNone run records n = (k : ℕ) (r : Record) → slice_get run k ≡ Some n → slice_get records k ≡ Some r → ⊥

none_more : (f : ℕ) (run : List ℕ) (r : Record) (records : List Record) (n : ℕ) → f ≢ n → GetsNone run records n → GetsNone (f ∷ run) (r ∷ records) n
none_more f run r records n other none zero x slot its = let same : f ≡ n = cc slot in other same
none_more f run r records n other none (suc k) x slot its = none k x slot its

pub filled_cases : (run : List ℕ) (records : List Record) (known : ℕ → Known) (n : ℕ) → (GetsNone run records n × (filled_by run records known n ≡ known n)) ⊎ GetsRecord run records known n
filled_cases [] records known n = inl ((λ k r slot its. cc slot), refl)
filled_cases (f ∷ run) [] known n = inl ((λ k r slot its. cc its), refl)
filled_cases (f ∷ run) (r ∷ records) known n = elim (cases_eq f n) [
  | inl same ↦ inr (record {
    place = zero;
    gets = r;
    is_slot = ap Some same;
    is_record = refl;
    now = ap (λ (b : Bool). if b then filled r else filled_by run records known n) (eq-eqb f n same);
  })
  | inr other ↦
      let skips = ap (λ (b : Bool). if b then filled r else filled_by run records known n) (ne_eqb f n other) in
      elim (filled_cases run records known n) [
        | inl none ↦ inl (none_more f run r records n other none.0, skips ∙ none.1)
        | inr gets ↦ inr (record { place = suc gets.place; gets = gets.gets; is_slot = gets.is_slot; is_record = gets.is_record; now = skips ∙ gets.now })
      ]
]

abbrev pub AreDistinct : List ℕ → Type 0
AreDistinct run = (i j f : ℕ) → slice_get run i ≡ Some f → slice_get run j ≡ Some f → i ≡ j

pub filled_at : (run : List ℕ) (records : List Record) (known : ℕ → Known) → AreDistinct run → (k f : ℕ) (r : Record) → slice_get run k ≡ Some f → slice_get records k ≡ Some r → filled_by run records known f ≡ filled r
filled_at run records known distinct k f r slot its = elim (filled_cases run records known f) [
  | inr gets ↦
      let same : gets.place ≡ k = distinct gets.place k f gets.is_slot slot in
      let one : gets.gets ≡ r = cc (ap (slice_get records) same, gets.is_record, its) in
      gets.now ∙ ap filled one
  | inl none ↦ absurd (none.0 k r slot its)
]

module _ (free_slots : List ℕ) (records : List Record) (items : List SlotItem) (kept : List Kept) (assigned : AreAssigned free_slots records items kept) (distinct : AreDistinct free_slots)
    (slots : List Kept) (known : ℕ → Known) (are : AreKnownBy slots known) (unused : (k : ℕ) (it : Kept) → slice_get slots k ≡ Some it → (j : ℕ) → slice_get free_slots j ≡ Some it.slot → ⊥)
    (empty : (j f : ℕ) → slice_get free_slots j ≡ Some f → known f ≡ free) where
  -- memory keeps the records
  pub kept_filled : AreKnownBy (slots ++ kept) (filled_by free_slots records known)
  kept_filled = record { each = each; others = others }
    where
      in_kept : (j : ℕ) (it : Kept) → slice_get kept j ≡ Some it → (r : Record) × (slice_get records j ≡ Some r) × (slice_get free_slots j ≡ Some it.slot) × (it ≡ kept_for it.slot r)
      in_kept j it is =
          let there = item_there records j (omega (arith, slice_get_within kept j it is, assigned.keeps)) in
          let given = assigned.each j there.0 there.1 in
          let same : it ≡ kept_for given.slot there.0 = let keeps = given.keeps in cc (is, keeps) in
          let slot : it.slot ≡ given.slot = ap (λ (x : Kept). x.slot) same in
          (there.0, there.1, given.is_slot ∙ ap Some (sym slot), same ∙ ap (λ (n : ℕ). kept_for n there.0) (sym slot))

      each : (k : ℕ) (it : Kept) → slice_get (slots ++ kept) k ≡ Some it → IsKnownBy it (filled_by free_slots records known it.slot)
      each k it is = elim (append_cases slots kept k it is) [
        | inl old ↦ elim (filled_cases free_slots records known it.slot) [
          | inl none ↦ let by = are.each k it old in record { row = by.row; has_row = by.has_row; is = none.1 ∙ by.is }
          | inr gets ↦ absurd (unused k it old gets.place gets.is_slot)
        ]
        | inr new ↦
            let there = in_kept new.0 it new.1 in
            record {
              row = there.0.row;
              has_row = sym (ap (λ (x : Kept). x.has_row) there.3);
              is = filled_at free_slots records known distinct new.0 it.slot there.0 there.2 there.1 ∙ sym (ap (λ (x : Kept). known_by x.gate (record_by x there.0.row)) there.3);
            }
      ]

      others : (n : ℕ) → ((k : ℕ) (it : Kept) → slice_get (slots ++ kept) k ≡ Some it → it.slot ≢ n) → filled_by free_slots records known n ≡ free
      others n none = elim (filled_cases free_slots records known n) [
        | inl still ↦ still.1 ∙ are.others n (λ k it is. none k it (append_left slots kept k it is))
        | inr gets ↦
            let given = assigned.each gets.place gets.gets gets.is_record in
            let same : given.slot ≡ n = let one = given.is_slot in let other = gets.is_slot in cc (one, other) in
            absurd (none (length slots + gets.place) (kept_for given.slot gets.gets) (append_right slots kept gets.place (kept_for given.slot gets.gets) given.keeps) same)
      ]

  -- the bodies spell them
  pub are_filled : AreFilled record_of_slot items known (filled_by free_slots records known)
  are_filled n = elim (filled_cases free_slots records known n) [
    | inl none ↦ inl none.1
    | inr gets ↦
        let given = assigned.each gets.place gets.gets gets.is_record in
        let same : given.slot ≡ n = let one = given.is_slot in let other = gets.is_slot in cc (one, other) in
        inr (record {
          place = gets.place;
          item = item_for given.slot gets.gets;
          fills = gets.gets;
          is_item = given.item;
          slot = same;
          was_free = empty gets.place n gets.is_slot;
          spells = ap (λ (m : ℕ). record_of_slot m (slot_image (item_for given.slot gets.gets)) (λ p. [])) (sym same) ∙ spelled_again given.slot gets.gets (λ p. []) given.fits;
          now = gets.now;
        })
  ]

  pub sure_filled : (n : ℕ) → sure (filled_by free_slots records known n) ≡ sure (known n)
  sure_filled n = elim (filled_cases free_slots records known n) [
    | inl none ↦ ap sure none.1
    | inr gets ↦ ap sure gets.now ∙ sym (ap sure (empty gets.place n gets.is_slot))
  ]

  pub perhaps_filled : (n : ℕ) → perhaps (filled_by free_slots records known n) ≡ perhaps (known n)
  perhaps_filled n = elim (filled_cases free_slots records known n) [
    | inl none ↦ ap perhaps none.1
    | inr gets ↦ ap perhaps gets.now ∙ sym (ap perhaps (empty gets.place n gets.is_slot))
  ]

  -- and they are the run of the entries
  module _ (h : History) (bank mark : ℕ) (entries : List Entry) (numbers : IsNumberedFrom (mark + 1) entries) (of_h : AreOf h bank entries) (within : mark + length entries ≤ h.count) (latest : AreLatest bank entries records) where
    slot_given : (k : ℕ) (n : ℕ) → slice_get free_slots k ≡ Some n → IsOneOf free_slots n
    slot_given k n is = (k, slice_get_within free_slots k n is, get_or_from_slice_get free_slots k n 0 is)

    given_slot : (n : ℕ) (one : IsOneOf free_slots n) → slice_get free_slots one.0 ≡ Some n
    given_slot n one = slice_get-get_or free_slots one.0 0 one.1 ∙ ap Some one.2

    pub holds_run : HoldsRun h mark (mark + length entries) (IsOneOf free_slots) (filled_by free_slots records known)
    holds_run = record {
      within = within;
      each = λ n one.
          let there = item_there records one.0 (omega (arith, one.1, assigned.slots)) in
          (there.0, inl (filled_at free_slots records known distinct one.0 n there.0 (given_slot n one) there.1), of_run h bank mark entries numbers of_h within there.0 (latest.each one.0 there.0 there.1));
      all = λ key j last above.
          let has = run_has h bank mark entries numbers of_h within records latest key j last above in
          let given = assigned.each has.0 has.1 has.2 in
          (given.slot, has.1, slot_given has.0 given.slot given.is_slot, inl (filled_at free_slots records known distinct has.0 given.slot has.1 given.is_slot has.2), has.3, has.4);
    }

pub distinct_ascending : (slots_of : List ℕ) → AllPairs (λ a c. a < c) slots_of → AreDistinct slots_of
distinct_ascending slots_of ascending i j f one other = elim (cases_lt i j) [
  | inl before ↦ absurd (less i j before one other)
  | inr from ↦ elim (cases_eq i j) [ inl same ↦ same | inr after ↦ absurd (less j i (omega arith) other one) ]
]
  where
    less : (p q : ℕ) → p < q → slice_get slots_of p ≡ Some f → slice_get slots_of q ≡ Some f → ⊥
    less p q low at_p at_q =
        let pair = ascending p q 0 low (slice_get_within slots_of q f at_q) in
        omega (arith, pair, get_or_from_slice_get slots_of p f 0 at_p, get_or_from_slice_get slots_of q f 0 at_q)

-- the plan's lists, and the slots that it leaves alone
pub assigned_by : (slots_of : List ℕ) (records : List Record) (items : List SlotItem) (kept : List Kept) (n : ℕ) → length slots_of ≡ n → length records ≡ n → AreItemsFor slots_of records items n → AreKeptFor slots_of records kept n
    → AreAssigned slots_of records items kept
assigned_by slots_of records items kept n slots many its keeps = record {
  slots = omega (arith, slots, many);
  as_many = omega (arith, its.as_many, many);
  keeps = omega (arith, keeps.as_many, many);
  each = λ k r is.
      let low : k < n = omega (arith, slice_get_within records k r is, many) in
      let slot : slice_get slots_of k ≡ Some (get_or slots_of k 0) = slice_get-get_or slots_of k 0 (omega (arith, low, slots)) in
      let item = its.each k (get_or slots_of k 0) r low slot is in
      record { slot = get_or slots_of k 0; is_slot = slot; item = item.0; keeps = keeps.each k (get_or slots_of k 0) r low slot is; fits = item.1 };
}

one_at : (xs : List ℕ) (k n : ℕ) → slice_get xs k ≡ Some n → IsOneOf xs n
one_at xs k n is = (k, slice_get_within xs k n is, get_or_from_slice_get xs k n 0 is)

pub unused_by : (slots : List Kept) (count : ℕ) (run : List ℕ) → AreFree (map (λ it. it.slot) slots) count run → (k : ℕ) (it : Kept) → slice_get slots k ≡ Some it → (j : ℕ) → slice_get run j ≡ Some it.slot → ⊥
unused_by slots count run slots_of k it is j at =
    slots_of.unused it.slot (one_at run j it.slot at) (one_at (map (λ (x : Kept). x.slot) slots) k it.slot (at_map (λ (x : Kept). x.slot) slots k it is))
