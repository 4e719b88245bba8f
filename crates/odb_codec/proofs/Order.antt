-- Writes in order, one after another, and all at once.
use Rattle.std.proofs.Common.{◌≡◌, true, List, [], ◌∷◌, Option, Some, None, refl, ap}
use Rattle.std.specs.declared.cmp.Ordering.{Ordering}
use Rattle.std.specs.declared.cmp.Ordering.TheVariants.{Less, Equal, Greater}
use Rattle.std.specs.List.{AllByRecursion}
use Rattle.std.specs.List.Sorted.{IsStrictlySortedBy}
use Rattle.std.specs.Ordering.{is_lt}
use Rattle.odb_model.specs.declared.write.Write.{Write}
use Rattle.odb_model.specs.declared.table_key.TableKey.{TableKey}
use Rattle.odb_model.specs.State.{table_key_cmp, table_key_of}
use Rattle.odb_model.specs.Transaction.{table_keys}
use Rattle.odb_model.proofs.Replay.{table_key_cmp_total}
use Rattle.odb_codec.specs.Reading.{is_above}

-- each write is to a place above the one before it, and the first to one above the place before
abbrev pub AscendFrom : Option TableKey → List Write → Type 0
AscendFrom before [] = Unit {0}
AscendFrom before (w ∷ ws) = (is_above before (table_key_of w) ≡ true) × AscendFrom (Some (table_key_of w)) ws

less_from_test : (o : Ordering) → is_lt o ≡ true → o ≡ Less
less_from_test Less e = refl
less_from_test Equal e = absurd cc
less_from_test Greater e = absurd cc

all_above : (a b : TableKey) (ps : List TableKey) → table_key_cmp a b ≡ Less → AllByRecursion (λ q. table_key_cmp b q ≡ Less) ps → AllByRecursion (λ q. table_key_cmp a q ≡ Less) ps
all_above a b [] lt h = tt
all_above a b (p ∷ ps) lt h = (table_key_cmp_total.trans a b p lt h.0, all_above a b ps lt h.1)

above_all : (before : TableKey) (ws : List Write) → AscendFrom (Some before) ws → AllByRecursion (λ q. table_key_cmp before q ≡ Less) (table_keys ws)
above_all before [] h = tt
above_all before (w ∷ ws) h =
    let lt = less_from_test (table_key_cmp before (table_key_of w)) h.0 in
    (lt, all_above before (table_key_of w) (table_keys ws) lt (above_all (table_key_of w) ws h.1))

pub sorted_from_ascend : (before : Option TableKey) (ws : List Write) → AscendFrom before ws → IsStrictlySortedBy table_key_cmp (table_keys ws)
unfolding IsStrictlySortedBy
sorted_from_ascend before [] h = tt
sorted_from_ascend before (w ∷ ws) h = (above_all (table_key_of w) ws h.1, sorted_from_ascend (Some (table_key_of w)) ws h.1)

ascend_above : (before : TableKey) (ws : List Write) → AllByRecursion (λ q. table_key_cmp before q ≡ Less) (table_keys ws) → IsStrictlySortedBy table_key_cmp (table_keys ws) → AscendFrom (Some before) ws
unfolding IsStrictlySortedBy
ascend_above before [] above sorted = tt
ascend_above before (w ∷ ws) above sorted = (ap is_lt above.0, ascend_above (table_key_of w) ws sorted.0 sorted.1)

pub ascend_from_sorted : (ws : List Write) → IsStrictlySortedBy table_key_cmp (table_keys ws) → AscendFrom None ws
unfolding IsStrictlySortedBy
ascend_from_sorted [] sorted = tt
ascend_from_sorted (w ∷ ws) sorted = (refl, ascend_above (table_key_of w) ws sorted.0 sorted.1)
