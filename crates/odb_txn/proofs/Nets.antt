-- What a transaction intends can be stored as one entry.
use Rattle.std.proofs.Common.{◌≡◌, ◌≤◌, Bool, true, false, cond, List, [], ◌∷◌, map, length, refl, sym, ap, subst, arith}
use Rattle.std.specs.List.{All, filter}
use Rattle.std.specs.List.Sorted.{IsStrictlySortedBy}
use Rattle.std.specs.declared.cmp.Ordering.TheVariants.{Less, Equal, Greater}
use Rattle.std.specs.Ordering.{match_ordering}
use Rattle.std.proofs.lemmas.List.{length-map}
use Rattle.std.proofs.lemmas.List.Elements.{All-cons, All-head, All-tail, All-filter, All-map}
use Rattle.std.proofs.lemmas.Map.Keys.{sorted_head, sorted_tail}
use Rattle.odb_model.specs.declared.write.Write.{Write}
use Rattle.odb_model.specs.declared.table_key.TableKey.{TableKey}
use Rattle.odb_model.specs.declared.intention.Intention.{Intention}
use Rattle.odb_model.specs.State.{table_key_cmp, table_key_of}
use Rattle.odb_model.specs.Transaction.{table_keys}
use Rattle.odb_model.specs.Intentions.{intended_write, leaves_write, intended}
use Rattle.odb_model.specs.Storable.{IsNarrow, IsStorableList}
use Rattle.odb_model.proofs.Keys.{length-filter-le}
use Rattle.odb_rowsource.specs.Intentions.{AreAscending, AreIntentions, intention_of_write, put, put_all}
use Rattle.odb_rowsource.proofs.Intended.{Above, AreAscending-cons, AreAscending-put}

-- the write of an intention is narrow
abbrev pub HasNarrowWrite : Intention → Type 0
HasNarrowWrite i = IsNarrow (intended_write i)

narrow-put : (intentions : List Intention) (w : Write) (b : Bool) → IsNarrow w → All HasNarrowWrite intentions → All HasNarrowWrite (put intentions w b)
narrow-put [] w b narrow all = All-cons HasNarrowWrite (intention_of_write w b) [] narrow all
narrow-put (i ∷ intentions) w b narrow all =
    let head : HasNarrowWrite i = All-head HasNarrowWrite i intentions all in
    let tail : All HasNarrowWrite intentions = All-tail HasNarrowWrite i intentions all in
    elim (table_key_cmp (table_key_of w) i.table_key) as (λ o. All HasNarrowWrite (match_ordering o (intention_of_write w b ∷ i ∷ intentions) (intention_of_write w i.was_there ∷ intentions) (i ∷ put intentions w b))) [
      | Less ↦ All-cons HasNarrowWrite (intention_of_write w b) (i ∷ intentions) narrow all
      | Equal ↦ All-cons HasNarrowWrite (intention_of_write w i.was_there) intentions narrow tail
      | Greater ↦ All-cons HasNarrowWrite i (put intentions w b) head (narrow-put intentions w b narrow tail)
    ]

-- narrow writes that are put leave all narrow
pub narrow-put_all : (ws : List Write) (intentions : List Intention) (there : TableKey → Bool) → All IsNarrow ws → All HasNarrowWrite intentions → All HasNarrowWrite (put_all intentions ws there)
narrow-put_all [] intentions there narrow all = all
narrow-put_all (w ∷ ws) intentions there narrow all =
    narrow-put_all ws (put intentions w (there (table_key_of w))) there (All-tail IsNarrow w ws narrow)
    (narrow-put intentions w (there (table_key_of w)) (All-head IsNarrow w ws narrow) all)

pub AreAscending-put_all : (ws : List Write) (intentions : List Intention) (there : TableKey → Bool) → AreAscending intentions → AreAscending (put_all intentions ws there)
AreAscending-put_all [] intentions there h = h
AreAscending-put_all (w ∷ ws) intentions there h =
    AreAscending-put_all ws (put intentions w (there (table_key_of w))) there (AreAscending-put intentions w (there (table_key_of w)) h)

Above-filter : (k : TableKey) (p : Intention → Bool) (intentions : List Intention) → Above k intentions → Above k (filter p intentions)
Above-filter k p [] all = tt
Above-filter k p (i ∷ intentions) all =
    let rest = Above-filter k p intentions all.1 in
    elim (p i) as (λ b. Above k (cond b (i ∷ filter p intentions) (filter p intentions))) [ true ↦ (all.0, rest) | false ↦ rest ]

AreAscending-filter : (p : Intention → Bool) (intentions : List Intention) → AreAscending intentions → AreAscending (filter p intentions)
AreAscending-filter p [] h = h
AreAscending-filter p (i ∷ intentions) h =
    let keys : List TableKey = map (λ j. j.table_key) intentions in
    let above : Above i.table_key intentions = sorted_head table_key_cmp i.table_key keys h in
    let rest = AreAscending-filter p intentions (sorted_tail table_key_cmp i.table_key keys h) in
    elim (p i) as (λ b. AreAscending (cond b (i ∷ filter p intentions) (filter p intentions))) [
      | true ↦ AreAscending-cons i (filter p intentions) (Above-filter i.table_key p intentions above) rest
      | false ↦ rest
    ]

pub keys_of_intended : (intentions : List Intention) → table_keys (map intended_write intentions) ≡ map (λ i. i.table_key) intentions
keys_of_intended [] = refl
keys_of_intended (i ∷ intentions) = ap (λ keys. i.table_key ∷ keys) (keys_of_intended intentions)

pub intended_storable : (intentions : List Intention) → AreIntentions intentions → All HasNarrowWrite intentions → IsStorableList (intended intentions)
intended_storable intentions meets narrow =
    let left : List Intention = filter leaves_write intentions in record {
      few =
          let fewer : length left ≤ length intentions = length-filter-le leaves_write intentions in
          omega (arith, length-map left intended_write, fewer, meets.few);
      ascending = subst (IsStrictlySortedBy table_key_cmp) (sym (keys_of_intended left)) (AreAscending-filter leaves_write intentions meets.ascending);
      narrow = All-map IsNarrow intended_write left (All-filter leaves_write HasNarrowWrite intentions narrow);
    }
