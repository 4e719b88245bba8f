-- The record of a key and the next key of a range, by what memory keeps.
use Rattle.std.proofs.Common.{◌≡◌, ◌≢◌, ℕ, zero, suc, ◌+◌, ◌<◌, Bool, true, false, cond, List, [], ◌∷◌, length, Option, Some, None, sym, ◌∙◌, ap, subst, refl, arith}
use Rattle.std.specs.Prelude.{slice_get, find, is_some, IsTrue, IsSome, ◌&&◌, ◌==◌}
use Rattle.std.specs.List.{All}
use Rattle.std.specs.declared.cmp.Ordering.{Ordering}
use Rattle.std.specs.declared.cmp.Ordering.TheVariants.{Less, Equal, Greater}
use Rattle.std.specs.Ordering.{is_gt, is_lt, is_eq, ordering_then}
use Rattle.std.proofs.lemmas.Bool.{eqb-true, and_parts, and_from}
use Rattle.std.proofs.lemmas.Cmp.{tied_itself, nat_cmp_total}
use Rattle.odb_values.specs.declared.range.Range.{Range}
use Rattle.odb_values.specs.declared.value.Value.{Value}
use Rattle.odb_values.specs.Range.{in_range, is_inside}
use Rattle.odb_values.specs.Value.{values_cmp}
use Rattle.odb_model.specs.State.{table_key_cmp}
use Rattle.odb_rowsource.specs.Stand.{stand, is_behind}
use Rattle.odb_rowsource.proofs.Stands.{stand-inside}
use Rattle.odb_model.proofs.Replay.{table_key_cmp_total}
use Rattle.odb_bank.specs.declared.kept.Gate.{Gate}
use Rattle.odb_bank.specs.declared.kept.Gate.TheVariants.{Shut, Open, Doubtful}
use Rattle.odb_bank.specs.declared.kept.Kept.{Kept}
use Rattle.odb_bank.specs.Best.{is_for, better_of, best_in, has_row_of, has_row_in, is_reached}
use Rattle.odb_bank.specs.Choosing.{IsFor, IsBestAt, IsBest, is_better}
use Rattle.odb_bank.specs.Closing.{is_open}
use Rattle.odb_bank.specs.History.{Key, is_key}
use Rattle.odb_bank.specs.Order.{IsUpTo, IsInOrder}
use Rattle.odb_bank.specs.Records.{Record, record_of, row_of, bank_map, IsRecord}
use Rattle.odb_bank.specs.Known.{Known, sure_of}
use Rattle.odb_bank.specs.Bank.{IsKnownBy, AreKnownBy}
use Rattle.odb_bank.specs.Reading.{IsAfter, IsFurther, IsNextKey}
use Rattle.odb_bank.proofs.Choice.{best_stays, best_first, best_takes, best_keeps, best_begins, none_row, best_row, kept_at}
use Rattle.odb_bank.proofs.InOrder.{each_at}
use Rattle.odb_bank.proofs.Keys.{key_true, key_same}
use Rattle.odb_bank.proofs.Reading.{record_is}

-- the best one of the first n
abbrev pub IsSoFar : Key → List Kept → ℕ → Option Kept → Type 0
IsSoFar key slots n None = IsBest key slots n None
IsSoFar key slots n (Some it) = (place : ℕ) × IsBestAt key slots n place it

open_gate : (g : Gate) → is_open g ≡ true → g ≡ Open
open_gate Open e = refl
open_gate Shut e = absurd (cc e)
open_gate Doubtful e = absurd (cc e)

for_true : (key : Key) (it : Kept) → is_for key it ≡ true → IsFor key it
for_true key it e = let parts = and_parts (is_open it.gate) (is_key it.at key) e in (open_gate it.gate parts.0, key_true it.at key parts.1)

for_false : (key : Key) (it : Kept) → is_for key it ≡ false → IsFor key it → ⊥
for_false key it e its =
    let yes = and_from (is_open it.gate) (is_key it.at key) (ap is_open its.0) (key_same it.at key its.1) in
    cc (yes, e)

-- the place of what is so far
at_place : (key : Key) (slots : List Kept) (n place : ℕ) (w : Kept) → slice_get slots place ≡ Some w → IsBest key slots n (Some place) → IsSoFar key slots n (Some w)
at_place key slots n place w there best =
    let was = best.1 in
    let same : best.0 ≡ w = cc (was.is_it, there) in
    (place, subst (IsBestAt key slots n place) same best.1)

module _ (key : Key) (slots : List Kept) where
  step : (n : ℕ) (x : Kept) → slice_get slots n ≡ Some x → (so_far : Option Kept) → IsSoFar key slots n so_far → IsSoFar key slots (n + 1) (better_of key so_far x)
  step n x here None none = by (is_for key x) refl
    where
      by : (b : Bool) → is_for key x ≡ b → IsSoFar key slots (n + 1) (cond b (Some x) None)
      by true e = at_place key slots (n + 1) n x here (best_first key slots n x here (for_true key x e) none)
      by false e = best_stays key slots n x here None (for_false key x e) none
  step n x here (Some w) so_far = by (is_for key x) (is_better w x) refl refl
    where
      there : slice_get slots so_far.0 ≡ Some w
      there = let best = so_far.1 in best.is_it

      was : IsBest key slots n (Some so_far.0)
      was = (w, so_far.1)

      by : (b d : Bool) → is_for key x ≡ b → is_better w x ≡ d → IsSoFar key slots (n + 1) (cond (b && d) (Some x) (Some w))
      by true true e f = at_place key slots (n + 1) n x here (best_takes key slots n x here so_far.0 w there was (for_true key x e) f)
      by true false e f = at_place key slots (n + 1) so_far.0 w there (best_keeps key slots n x here so_far.0 w there was f)
      by false d e f = at_place key slots (n + 1) so_far.0 w there (best_stays key slots n x here (Some so_far.0) (for_false key x e) was)

  all_steps : (n : ℕ) (rest : List Kept) (so_far : Option Kept) → n + length rest ≡ length slots → ((k : ℕ) → slice_get slots (n + k) ≡ slice_get rest k) → IsSoFar key slots n so_far → IsSoFar key slots (length slots) (best_in key so_far rest)
  all_steps n [] so_far count at so = let same : n ≡ length slots = omega (arith, count) in subst (λ (m : ℕ). IsSoFar key slots m so_far) same so
  all_steps n (x ∷ rest) so_far count at so =
      let first : n + 0 ≡ n = omega arith in
      let here : slice_get slots n ≡ Some x = sym (ap (slice_get slots) first) ∙ at 0 in
      all_steps (n + 1) rest (better_of key so_far x) (omega (arith, count))
      (λ k. let next : (n + 1) + k ≡ n + suc k = omega arith in ap (slice_get slots) next ∙ at (suc k))
      (step n x here so_far so)

  pub best_is : IsSoFar key slots (length slots) (best_in key None slots)
  best_is = all_steps 0 slots None (omega arith) (λ k. let same : 0 + k ≡ k = omega arith in ap (slice_get slots) same) (best_begins key slots)

-- what `find` finds
pub find_passes : (p : Kept → Bool) (xs : List Kept) (it : Kept) → find p xs ≡ Some it → p it ≡ true
find_passes p [] it is = absurd (cc is)
find_passes p (x ∷ xs) it is = by (p x) refl (λ rest. find_passes p xs it rest)
  where
    by : (b : Bool) → p x ≡ b → (find p xs ≡ Some it → p it ≡ true) → p it ≡ true
    by true e later = let same : x ≡ it = cc (sym (ap (λ (b : Bool). cond b (Some x) (find p xs)) e) ∙ is) in ap p (sym same) ∙ e
    by false e later = later (sym (ap (λ (b : Bool). cond b (Some x) (find p xs)) e) ∙ is)

pub find_misses : (p : Kept → Bool) (xs : List Kept) → find p xs ≡ None → (k : ℕ) (x : Kept) → slice_get xs k ≡ Some x → p x ≡ false
find_misses p [] none k x is = absurd (cc is)
find_misses p (y ∷ xs) none k x is = by (p y) refl k is (λ rest j at. find_misses p xs rest j x at)
  where
    by : (b : Bool) → p y ≡ b → (k : ℕ) → slice_get (y ∷ xs) k ≡ Some x → (find p xs ≡ None → (j : ℕ) → slice_get xs j ≡ Some x → p x ≡ false) → p x ≡ false
    by true e k is later = absurd (cc (sym (ap (λ (b : Bool). cond b (Some y) (find p xs)) e) ∙ none))
    by false e zero is later = let same : y ≡ x = cc is in ap p (sym same) ∙ e
    by false e (suc k) is later = later (sym (ap (λ (b : Bool). cond b (Some y) (find p xs)) e) ∙ none) k is

key_up_itself : (a : Key) → IsUpTo a a
key_up_itself a = ap is_gt (tied_itself table_key_cmp_total a)

pub find_least : (p : Kept → Bool) (xs : List Kept) → IsInOrder xs → (it : Kept) → find p xs ≡ Some it → (k : ℕ) (x : Kept) → slice_get xs k ≡ Some x → p x ≡ true → IsUpTo it.at x.at
find_least p [] order it is k x at passes = absurd (cc is)
find_least p (y ∷ xs) order it is k x at passes = by (p y) refl k at (λ rest j there. find_least p xs order.1 it rest j x there passes)
  where
    by : (b : Bool) → p y ≡ b → (k : ℕ) → slice_get (y ∷ xs) k ≡ Some x → (find p xs ≡ Some it → (j : ℕ) → slice_get xs j ≡ Some x → IsUpTo it.at x.at) → IsUpTo it.at x.at
    by true e zero at later =
        let first : y ≡ it = cc (sym (ap (λ (b : Bool). cond b (Some y) (find p xs)) e) ∙ is) in
        let same : y ≡ x = cc at in
        let both : it ≡ x = sym first ∙ same in
        subst (λ (z : Kept). IsUpTo it.at z.at) both (key_up_itself it.at)
    by true e (suc k) at later =
        let first : y ≡ it = cc (sym (ap (λ (b : Bool). cond b (Some y) (find p xs)) e) ∙ is) in
        subst (λ (z : Kept). IsUpTo z.at x.at) first (each_at (λ z. IsUpTo y.at z.at) xs k x order.0 at)
    by false e zero at later = let same : y ≡ x = cc at in let fails = ap p (sym same) ∙ e in absurd (cc (fails, passes))
    by false e (suc k) at later = later (sym (ap (λ (b : Bool). cond b (Some y) (find p xs)) e) ∙ is) k at

-- keys of one table
true_of : (b : Bool) → IsTrue b → b ≡ true
true_of b is = is

some_of : {T : Type 0} → (o : Option T) → is_some o ≡ true → IsSome o
some_of o is = is

of_some : {T : Type 0} → (o : Option T) → IsSome o → is_some o ≡ true
of_some o is = is

lt_is : (o : Ordering) → is_lt o ≡ true → o ≡ Less
lt_is Less e = refl
lt_is Equal e = cc
lt_is Greater e = cc

not_greater : (o : Ordering) → is_gt o ≡ false → o ≢ Greater
not_greater Less e f = cc f
not_greater Equal e f = cc f
not_greater Greater e f = cc e

same_table : (t : ℕ) (a c : List Value) → table_key_cmp (record { table = t; key = a }) (record { table = t; key = c }) ≡ values_cmp a c
same_table t a c = ap (λ (o : Ordering). ordering_then o (values_cmp a c)) (tied_itself nat_cmp_total t)

after_behind : (t : ℕ) (after : Option (List Value)) (key : List Value) → IsAfter after key → is_behind t after (record { table = t; key = key }) ≡ true
after_behind t None key is = refl
after_behind t (Some last) key is = ap is_lt (same_table t last key ∙ is)

behind_after : (t : ℕ) (after : Option (List Value)) (key : List Value) → is_behind t after (record { table = t; key = key }) ≡ true → IsAfter after key
behind_after t None key is = tt
behind_after t (Some last) key is = sym (same_table t last key) ∙ lt_is (table_key_cmp (record { table = t; key = last }) (record { table = t; key = key })) is

of_table : (range : Range) (table : ℕ) (key : List Value) → in_range range table key ≡ true → table ≡ range.table
of_table range table key is =
    let parts = and_parts (range.table == table) (is_inside range.prefix range.low range.high key) is in
    sym (eqb-true range.table table parts.0)

module _ (slots : List Kept) (known : ℕ → Known) (are : AreKnownBy slots known) (limit : ℕ) (inside : All (λ it. it.slot < limit) slots) where
  told : (key : Key) (found : Option Kept) → IsSoFar key slots (length slots) found → is_some (bank_map limit (sure_of known) key) ≡ has_row_of found
  told key None none = ap is_some (none_row slots known are limit inside key none)
  told key (Some it) found =
      let best = found.1 in
      let by : IsKnownBy it (known it.slot) = are.each found.0 it best.is_it in
      ap is_some (best_row slots known are limit inside key found.0 it found.1 by) ∙ by.has_row

  tells : (key : Key) → is_some (bank_map limit (sure_of known) key) ≡ has_row_in slots key
  tells key = told key (best_in key None slots) (best_is key slots)

  kept_by_record : (key : Key) (found : Option Record) → IsRecord limit (sure_of known) key found → is_some (row_of found) ≡ true → (k : ℕ) × (it : Kept) × (slice_get slots k ≡ Some it) × (it.at ≡ key)
  kept_by_record key None is some = absurd (cc some)
  kept_by_record key (Some w) is some =
      let kept = kept_at slots known are limit inside is.slot w is.is_open in
      (kept.place, kept.it, kept.is_it, sym (ap (λ (r : Record). r.key) kept.is) ∙ is.of_key)

  kept_of_key : (key : Key) → is_some (bank_map limit (sure_of known) key) ≡ true → (k : ℕ) × (it : Kept) × (slice_get slots k ≡ Some it) × (it.at ≡ key)
  kept_of_key key some = kept_by_record key (record_of limit (sure_of known) key) (record_is limit (sure_of known) key) some

  module _ (range : Range) (after : Option (List Value)) where
    -- one that is reached has a further key
    reached_in : (it : Kept) → is_reached slots range after it ≡ true → in_range range it.at.table it.at.key ≡ true
    reached_in it e =
        let outer = and_parts (is_eq (stand range it.at) && is_behind range.table after it.at) (has_row_in slots it.at) e in
        let parts = and_parts (is_eq (stand range it.at)) (is_behind range.table after it.at) outer.0 in
        stand-inside range it.at ∙ parts.0

    is_further : (it : Kept) → is_reached slots range after it ≡ true → IsFurther (bank_map limit (sure_of known)) range after it.at.key
    is_further it e =
        let outer = and_parts (is_eq (stand range it.at) && is_behind range.table after it.at) (has_row_in slots it.at) e in
        let parts = and_parts (is_eq (stand range it.at)) (is_behind range.table after it.at) outer.0 in
        let inside_it = reached_in it e in
        let table : it.at.table ≡ range.table = of_table range it.at.table it.at.key inside_it in
        let same : it.at ≡ record { table = range.table; key = it.at.key } = ap (λ (t : ℕ). record { table = t; key = it.at.key }) table in
        record {
          inside = ap (λ (t : ℕ). in_range range t it.at.key) (sym table) ∙ inside_it;
          behind = behind_after range.table after it.at.key (ap (is_behind range.table after) (sym same) ∙ parts.1);
          has_row = some_of (bank_map limit (sure_of known) (record { table = range.table; key = it.at.key }))
              (ap (λ (k : Key). is_some (bank_map limit (sure_of known) k)) (sym same) ∙ tells it.at ∙ outer.1);
        }

    -- and a further key is that of one that is reached
    further_reached : (key : List Value) → IsFurther (bank_map limit (sure_of known)) range after key → (it : Kept) → it.at ≡ record { table = range.table; key = key } → is_reached slots range after it ≡ true
    further_reached key further it at =
        ap (λ (k : Key). is_eq (stand range k) && is_behind range.table after k && has_row_in slots k) at
        ∙ and_from (is_eq (stand range (record { table = range.table; key = key })) && is_behind range.table after (record { table = range.table; key = key })) (has_row_in slots (record { table = range.table; key = key }))
        (and_from (is_eq (stand range (record { table = range.table; key = key }))) (is_behind range.table after (record { table = range.table; key = key }))
        (sym (stand-inside range (record { table = range.table; key = key })) ∙ true_of (in_range range range.table key) further.inside) (after_behind range.table after key further.behind))
        (sym (tells (record { table = range.table; key = key })) ∙ of_some (bank_map limit (sure_of known) (record { table = range.table; key = key })) further.has_row)

    further_kept : (key : List Value) → IsFurther (bank_map limit (sure_of known)) range after key → (k : ℕ) × (it : Kept) × (slice_get slots k ≡ Some it) × (it.at ≡ record { table = range.table; key = key })
    further_kept key further = kept_of_key (record { table = range.table; key = key }) (of_some (bank_map limit (sure_of known) (record { table = range.table; key = key })) further.has_row)

    pub next_none : find (is_reached slots range after) slots ≡ None → IsNextKey (bank_map limit (sure_of known)) range after None
    next_none none key further =
        let kept = further_kept key further in
        let yes = further_reached key further kept.1 kept.3 in
        let no = find_misses (is_reached slots range after) slots none kept.0 kept.1 kept.2 in
        cc (yes, no)

    pub next_some : IsInOrder slots → (it : Kept) → find (is_reached slots range after) slots ≡ Some it → IsNextKey (bank_map limit (sure_of known)) range after (Some it.at.key)
    next_some order it found =
        let passes = find_passes (is_reached slots range after) slots it found in
        let table : it.at.table ≡ range.table = of_table range it.at.table it.at.key (reached_in it passes) in (
          is_further it passes,
          λ key further.
              let kept = further_kept key further in
              let up = find_least (is_reached slots range after) slots order it found kept.0 kept.1 kept.2 (further_reached key further kept.1 kept.3) in
              let so : is_gt (table_key_cmp (record { table = range.table; key = it.at.key }) (record { table = range.table; key = key })) ≡ false =
              ap (λ (t : ℕ). is_gt (table_key_cmp (record { table = t; key = it.at.key }) (record { table = range.table; key = key }))) (sym table) ∙ ap (λ (k : Key). is_gt (table_key_cmp it.at k)) (sym kept.3) ∙ up in
              not_greater (values_cmp it.at.key key) (ap is_gt (sym (same_table range.table it.at.key key)) ∙ so),
        )
