-- The writes of an entry that a search for the next key passes.
use Rattle.std.proofs.Common.{◌≡◌, inl, inr, ℕ, ◌<◌, ◌≤◌, Bool, true, false, not, List, length, get_or, Option, Some, None, sym, ◌∙◌, ap, refl, arith}
use Rattle.std.specs.List.Sorted.{IsStrictlySortedBy, IsPartitionPoint}
use Rattle.std.specs.Ordering.{is_gt, is_lt, ordering_reverse}
use Rattle.std.specs.declared.cmp.Ordering.{Ordering}
use Rattle.std.specs.declared.cmp.Ordering.TheVariants.{Less, Equal, Greater}
use Rattle.std.proofs.lemmas.Bool.{cases_lt}
use Rattle.std.proofs.lemmas.Option.{get_or_from_slice_get, slice_get-get_or}
use Rattle.odb_model.specs.declared.write.Write.{Write}
use Rattle.odb_model.specs.State.{table_key_cmp, table_key_of}
use Rattle.odb_model.specs.Transaction.{table_keys}
use Rattle.odb_model.proofs.Replay.{table_key_cmp_total}
use Rattle.odb_bank.specs.History.{Key}
use Rattle.odb_bank.specs.LeastAbove.{is_passed, ArePassed, IsFirstAbove}
use Rattle.odb_bank.proofs.InOrder.{up_trans, before_up, not_before_up}
use Rattle.odb_bank.proofs.LastWrites.{sorted_pairs}

back_less : (o : Ordering) → is_lt o ≡ true → is_gt (ordering_reverse o) ≡ true
back_less Less is = refl
back_less Equal is = absurd (cc is)
back_less Greater is = absurd (cc is)

passes_less : (before a c : Key) → table_key_cmp a c ≡ Less → not (is_lt (table_key_cmp before c)) ≡ true → (b : Bool) → is_lt (table_key_cmp before a) ≡ b → not (is_lt (table_key_cmp before a)) ≡ true
passes_less before a c less passed false is = ap not is
passes_less before a c less passed true is =
    absurd (reached (is_lt (table_key_cmp before c)) refl)
  where
    reached : (b : Bool) → is_lt (table_key_cmp before c) ≡ b → ⊥
    reached true over = let no : false ≡ true = sym (ap not over) ∙ passed in cc no
    reached false under =
        let upto_before = up_trans a c before (before_up a c (ap is_lt less)) (not_before_up before c under) in
        let after : is_gt (table_key_cmp a before) ≡ true = ap is_gt (table_key_cmp_total.antisymm a before) ∙ back_less (table_key_cmp before a) is in
        cc (upto_before, after)

pub parted : (before : Key) (ws : List Write) → IsStrictlySortedBy table_key_cmp (table_keys ws) → (i j : ℕ) (d : Write) → i ≤ j → j < length ws
    → is_passed before (get_or ws j d) ≡ true → is_passed before (get_or ws i d) ≡ true
parted before ws up i j d upto low passed = elim (cases_lt i j) [
  | inl below ↦
      let a = get_or ws i d in
      let c = get_or ws j d in
      let less = sorted_pairs ws up i j a c below (slice_get-get_or ws i d (omega arith)) (slice_get-get_or ws j d low) in
      passes_less before (table_key_of a) (table_key_of c) less passed (is_lt (table_key_cmp before (table_key_of a))) refl
  | inr from ↦
      let same : i ≡ j = omega arith in
      ap (λ (k : ℕ). is_passed before (get_or ws k d)) same ∙ passed
]

pub passed_before : (before : Key) (ws : List Write) (n : ℕ) → n ≤ length ws
    → IsPartitionPoint (λ (w : Write). is_passed before w ≡ true) (λ (w : Write). is_passed before w ≡ false) ws n → ArePassed (Some before) ws n
passed_before before ws n within splits = λ k w low is over.
    let here : is_passed before (get_or ws k w) ≡ true = splits.0 k w (omega arith) low in
    let its : is_passed before w ≡ true = ap (is_passed before) (sym (get_or_from_slice_get ws k w w is)) ∙ here in
    let no : is_passed before w ≡ false = ap (λ (o : Ordering). not (is_lt o)) over in
    cc (its, no)

pub none_passed : (ws : List Write) → ArePassed None ws 0
none_passed ws = λ k w low is over. absurd (omega arith)

pub first_from : (bank : ℕ) (above : Option Key) (ws : List Write) (n : ℕ) → ArePassed above ws n → IsFirstAbove bank above ws n None
first_from bank above ws n passed = λ k w low is over. passed k w low is over.1
