-- The gates of a run: noted in memory, and written.
use Rattle.std.proofs.Common.{◌≡◌, ◌≢◌, ◌⊎◌, inl, inr, ℕ, zero, suc, ◌<◌, Bool, true, false, List, [], ◌∷◌, length, Some, sym, ◌∙◌, ap, subst, refl, arith}
use Rattle.std.specs.Prelude.{◌==◌, ◌||◌, if◌then◌else◌, map, slice_get, slice_index}
use Rattle.std.proofs.lemmas.Bool.{cases_eq, eq-eqb, ne_eqb, or_parts}
use Rattle.odb_device.specs.TornSets.{TornIn}
use Rattle.odb_device.proofs.TornSets.{torn_in_widens}
use Rattle.odb_extent.specs.Standing.{limit_of, IsContent}
use Rattle.odb_extent.specs.Laws.{stands_content}
use Rattle.odb_slots.specs.Slots.{OPEN}
use Rattle.odb_slots.specs.Sets.{GatesOf, IsOneOf, HaveGates}
use Rattle.odb_bank.specs.declared.kept.Gate.{Gate}
use Rattle.odb_bank.specs.declared.kept.Gate.TheVariants.{Shut, Open, Doubtful}
use Rattle.odb_bank.specs.declared.kept.Kept.{Kept}
use Rattle.odb_bank.specs.Records.{Record}
use Rattle.odb_bank.specs.Known.{Known, free, filled, held, either, behind_gate, Become}
use Rattle.odb_bank.specs.Spelled.{record_of_slot}
use Rattle.odb_bank.specs.Bank.{BankState, slot_limit, record_by, known_by, IsKnownBy, AreKnownBy, IsBankFile, IsUsed}
use Rattle.odb_bank.specs.Gates.{is_in, with_gate}
use Rattle.odb_bank.proofs.KnownSlots.{known_gates, known_opened, known_closed}
use Rattle.odb_bank.proofs.Framing.{gates_lie}

own : (n : ℕ) (body : List ℕ) (one other : ℕ → List ℕ) → record_of_slot n body other ≡ record_of_slot n body one
own n body one other = refl

-- whether a slot is one of the run
any_later : (x : ℕ) (run : List ℕ) (n : ℕ) → x ≢ n → is_in (x ∷ run) n ≡ is_in run n
any_later x run n other = ap (λ (b : Bool). b || is_in run n) (ne_eqb x n other)

pub in_one : (run : List ℕ) (n : ℕ) → is_in run n ≡ true → IsOneOf run n
in_one [] n is = absurd (cc is)
in_one (x ∷ run) n is = elim (cases_eq x n) [
  | inl same ↦ (zero, omega arith, same)
  | inr other ↦ let rest = in_one run n (sym (any_later x run n other) ∙ is) in (suc rest.0, omega (arith, rest.1), rest.2)
]

out_at : (run : List ℕ) (n k : ℕ) → is_in run n ≡ false → k < length run → slice_index run k ≡ n → ⊥
out_at [] n k is low same = omega arith
out_at (x ∷ run) n zero is low same = let parts = or_parts (x == n) (is_in run n) is in let no = parts.0 in let yes = eq-eqb x n same in cc (no, yes)
out_at (x ∷ run) n (suc k) is low same = let parts = or_parts (x == n) (is_in run n) is in out_at run n k parts.1 (omega arith) same

pub out_one : (run : List ℕ) (n : ℕ) → is_in run n ≡ false → IsOneOf run n → ⊥
out_one run n is one = out_at run n one.0 is one.1 one.2

-- what is known of the slots of a run, when this is noted of their gates
abbrev pub turned : (Record → Known) → Known → Known
turned to free = free
turned to (filled r) = to r
turned to (held r) = to r
turned to (either r) = to r

abbrev pub noted : List ℕ → (Record → Known) → (ℕ → Known) → ℕ → Known
noted run to known n = if is_in run n then turned to (known n) else known n

turned_by : (to : Record → Known) (k : Known) (r : Record) → behind_gate k ≡ Some r → turned to k ≡ to r
turned_by to free r is = absurd (cc is)
turned_by to (filled s) r is = let same : s ≡ r = cc is in ap to same
turned_by to (held s) r is = let same : s ≡ r = cc is in ap to same
turned_by to (either s) r is = let same : s ≡ r = cc is in ap to same

pub noted_in : (run : List ℕ) (to : Record → Known) (known : ℕ → Known) (n : ℕ) → is_in run n ≡ true → noted run to known n ≡ turned to (known n)
noted_in run to known n is = ap (λ (b : Bool). if b then turned to (known n) else known n) is

pub noted_out : (run : List ℕ) (to : Record → Known) (known : ℕ → Known) (n : ℕ) → is_in run n ≡ false → noted run to known n ≡ known n
noted_out run to known n is = ap (λ (b : Bool). if b then turned to (known n) else known n) is

-- each slot of the run has a record behind its gate
abbrev pub HaveRecords : List ℕ → (ℕ → Known) → Type 0
HaveRecords run known = (n : ℕ) → IsOneOf run n → (r : Record) × (behind_gate (known n) ≡ Some r)

pub become_noted : (run : List ℕ) (to : Record → Known) (known : ℕ → Known) → HaveRecords run known → Become (IsOneOf run) to known (noted run to known)
become_noted run to known there n = go (is_in run n) refl
  where
    go : (b : Bool) → is_in run n ≡ b → ((IsOneOf run n → ⊥) × (noted run to known n ≡ known n)) ⊎ (IsOneOf run n × ((r : Record) × (behind_gate (known n) ≡ Some r) × (noted run to known n ≡ to r)))
    go true is =
        let one = in_one run n is in
        let r = there n one in
        inr (one, (r.0, r.1, noted_in run to known n is ∙ turned_by to (known n) r.0 r.1))
    go false is = inl (out_one run n is, noted_out run to known n is)

-- a second note over the first one
abbrev Shows : (Record → Known) → Type 0
Shows to = (r : Record) → behind_gate (to r) ≡ Some r

turned_shows : (to : Record → Known) → Shows to → (k : Known) (r : Record) → behind_gate k ≡ Some r → behind_gate (turned to k) ≡ Some r
turned_shows to shows k r is = ap behind_gate (turned_by to k r is) ∙ shows r

pub become_again : (run : List ℕ) (first second : Record → Known) (known : ℕ → Known) → Shows first → HaveRecords run known → Become (IsOneOf run) second (noted run first known) (noted run second known)
become_again run first second known shows there n = go (is_in run n) refl
  where
    go : (b : Bool) → is_in run n ≡ b → ((IsOneOf run n → ⊥) × (noted run second known n ≡ noted run first known n)) ⊎ (IsOneOf run n × ((r : Record) × (behind_gate (noted run first known n) ≡ Some r) × (noted run second known n ≡ second r)))
    go true is =
        let one = in_one run n is in
        let r = there n one in
        inr (one, (r.0, ap behind_gate (noted_in run first known n is) ∙ turned_shows first shows (known n) r.0 r.1, noted_in run second known n is ∙ turned_by second (known n) r.0 r.1))
    go false is = inl (out_one run n is, noted_out run second known n is ∙ sym (noted_out run first known n is))

-- what memory keeps then
pub map_at : {T U : Type 0} → (f : T → U) (xs : List T) (k : ℕ) (y : U) → slice_get (map f xs) k ≡ Some y → (x : T) × (slice_get xs k ≡ Some x) × (y ≡ f x)
map_at f [] k y is = absurd (cc is)
map_at f (x ∷ xs) zero y is = (x, refl, sym (cc is))
map_at f (x ∷ xs) (suc k) y is = map_at f xs k y is

pub at_map : {T U : Type 0} → (f : T → U) (xs : List T) (k : ℕ) (x : T) → slice_get xs k ≡ Some x → slice_get (map f xs) k ≡ Some (f x)
at_map f [] k x is = absurd (cc is)
at_map f (y ∷ xs) zero x is = let same : y ≡ x = cc is in ap Some (ap f same)
at_map f (y ∷ xs) (suc k) x is = at_map f xs k x is

pub slot_with : (run : List ℕ) (gate : Gate) (it : Kept) → (with_gate run gate it).slot ≡ it.slot
slot_with run gate it = go (is_in run it.slot)
  where
    go : (b : Bool) → (if b then record it { gate = gate } else it).slot ≡ it.slot
    go true = refl
    go false = refl

behind_by : (gate : Gate) (r : Record) → behind_gate (known_by gate r) ≡ Some r
behind_by Shut r = refl
behind_by Open r = refl
behind_by Doubtful r = refl

pub run_records : (run : List ℕ) (slots : List Kept) (known : ℕ → Known) → AreKnownBy slots known → ((n : ℕ) → IsOneOf run n → IsUsed slots n) → HaveRecords run known
run_records run slots known are used n one =
    let there = used n one in
    let by = are.each there.0 there.1 there.2 in
    (record_by there.1 by.row, ap (λ (m : ℕ). behind_gate (known m)) (sym there.3) ∙ ap behind_gate by.is ∙ behind_by there.1.gate (record_by there.1 by.row))

-- of one slot
module _ (run : List ℕ) (gate : Gate) (known : ℕ → Known) (x : Kept) (by : IsKnownBy x (known x.slot)) where
  kept_one : (b : Bool) → is_in run x.slot ≡ b → IsKnownBy (if b then record x { gate = gate } else x) (noted run (known_by gate) known x.slot)
  kept_one true is = record {
    row = by.row;
    has_row = by.has_row;
    is = noted_in run (known_by gate) known x.slot is ∙ turned_by (known_by gate) (known x.slot) (record_by x by.row) (ap behind_gate by.is ∙ behind_by x.gate (record_by x by.row));
  }
  kept_one false is = record { row = by.row; has_row = by.has_row; is = noted_out run (known_by gate) known x.slot is ∙ by.is }

  kept_with_gate : IsKnownBy (with_gate run gate x) (noted run (known_by gate) known x.slot)
  kept_with_gate = kept_one (is_in run x.slot) refl

pub kept_noted : (run : List ℕ) (gate : Gate) (slots : List Kept) (known : ℕ → Known) → AreKnownBy slots known → AreKnownBy (map (with_gate run gate) slots) (noted run (known_by gate) known)
kept_noted run gate slots known are = record { each = each; others = others }
  where
    each : (k : ℕ) (it : Kept) → slice_get (map (with_gate run gate) slots) k ≡ Some it → IsKnownBy it (noted run (known_by gate) known it.slot)
    each k it is =
        let there = map_at (with_gate run gate) slots k it is in
        let x = there.0 in
        let at = kept_with_gate run gate known x (are.each k x there.1) in
        let slot : x.slot ≡ (with_gate run gate x).slot = sym (slot_with run gate x) in
        let moved : IsKnownBy (with_gate run gate x) (noted run (known_by gate) known (with_gate run gate x).slot) = subst (λ (n : ℕ). IsKnownBy (with_gate run gate x) (noted run (known_by gate) known n)) slot at in
        subst (λ (y : Kept). IsKnownBy y (noted run (known_by gate) known y.slot)) (sym there.2) moved

    still : (n : ℕ) → known n ≡ free → (b : Bool) → is_in run n ≡ b → noted run (known_by gate) known n ≡ free
    still n none true is = noted_in run (known_by gate) known n is ∙ ap (turned (known_by gate)) none
    still n none false is = noted_out run (known_by gate) known n is ∙ none

    others : (n : ℕ) → ((k : ℕ) (it : Kept) → slice_get (map (with_gate run gate) slots) k ≡ Some it → it.slot ≢ n) → noted run (known_by gate) known n ≡ free
    others n none = still n (are.others n (λ k x is e. none k (with_gate run gate x) (at_map (with_gate run gate) slots k x is) (slot_with run gate x ∙ e))) (is_in run n) refl

-- an image with torn gates
pub image_noted : (b : BankState) (run : List ℕ) (known : ℕ → Known) (end : ℕ) (before image : List ℕ) → HaveRecords run known → ((n : ℕ) → IsOneOf run n → n < slot_limit b) → IsBankFile b known before
    → TornIn (GatesOf (IsOneOf run)) end before image → IsBankFile b (noted run either known) image
image_noted b run known end before image there inside is torn = record {
  extents = stands_content b.extents end before image is.extents
      (torn_in_widens (GatesOf (IsOneOf run)) (IsContent (limit_of b.extents)) end end before image (gates_lie (limit_of b.extents) (IsOneOf run) inside) (omega arith) torn);
  slots = known_gates record_of_slot own (IsOneOf run) (slot_limit b) end known (noted run either known) before image (become_noted run either known there) is.slots torn;
}

-- and with the gates on the disk, open or closed
pub image_opened : (b : BankState) (run : List ℕ) (known : ℕ → Known) (image : List ℕ) → HaveRecords run known → IsBankFile b (noted run either known) image → HaveGates OPEN run (length run) image
    → IsBankFile b (noted run held known) image
image_opened b run known image there is gates = record {
  extents = is.extents;
  slots = known_opened record_of_slot own run (slot_limit b) (noted run either known) (noted run held known) image (become_again run either held known (λ r. refl) there) gates is.slots;
}

pub image_closed : (b : BankState) (run : List ℕ) (known : ℕ → Known) (image : List ℕ) → HaveRecords run known → IsBankFile b (noted run either known) image → HaveGates 0 run (length run) image
    → IsBankFile b (noted run (λ r. free) known) image
image_closed b run known image there is gates = record {
  extents = is.extents;
  slots = known_closed record_of_slot own run (slot_limit b) (noted run either known) (noted run (λ r. free) known) image (become_again run either (λ r. free) known (λ r. refl) there) gates is.slots;
}
