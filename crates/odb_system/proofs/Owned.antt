-- The keys of what a transaction has written, and what it sees over the rows of a history.
use Rattle.std.proofs.Common.{◌≡◌, ℕ, Bool, List, [], ◌∷◌, map, refl, sym, ap, subst}
use Rattle.std.specs.List.{All}
use Rattle.std.specs.declared.cmp.Ordering.TheVariants.{Less, Equal, Greater}
use Rattle.std.specs.Ordering.{match_ordering}
use Rattle.std.proofs.lemmas.List.Elements.{All-nil, All-cons, All-head, All-tail, All-map, All-filter}
use Rattle.odb_values.specs.Key.{IsKey}
use Rattle.odb_model.specs.declared.write.Write.{Write}
use Rattle.odb_model.specs.declared.intention.Intention.{Intention}
use Rattle.odb_model.specs.declared.statement.Statement.{Statement}
use Rattle.odb_model.specs.declared.table_key.TableKey.{TableKey}
use Rattle.odb_model.specs.State.{State, table_key_cmp, table_key_of}
use Rattle.odb_model.specs.Intentions.{intended_write, leaves_write, intended}
use Rattle.odb_model.specs.Storable.{HaveKeys, HasKeys}
use Rattle.odb_model.proofs.KeysKept.{writes_keyed, after_keyed}
use Rattle.odb_rowsource.specs.Intentions.{laid_over, intention_of_write, put, put_all}
use Rattle.odb_exec.specs.Written.{keys_written}
use Rattle.odb_txn.specs.Transaction.{Kept, writes_found_rows}
use Rattle.odb_system.specs.Open.{HasKeyedRows, HasOwnKeys, outcome_on, grown_on}

abbrev IsKeyed : Intention → Type 0
IsKeyed i = IsKey i.table_key.key

abbrev IsKeyedWrite : Write → Type 0
IsKeyedWrite w = IsKey w.key

put_keyed : (own : List Intention) (w : Write) (b : Bool) → IsKey w.key → All IsKeyed own → All IsKeyed (put own w b)
put_keyed [] w b key all = All-cons IsKeyed (intention_of_write w b) [] key all
put_keyed (i ∷ own) w b key all =
    let head : IsKeyed i = All-head IsKeyed i own all in
    let tail : All IsKeyed own = All-tail IsKeyed i own all in
    elim (table_key_cmp (table_key_of w) i.table_key) as (λ o. All IsKeyed (match_ordering o (intention_of_write w b ∷ i ∷ own) (intention_of_write w i.was_there ∷ own) (i ∷ put own w b))) [
      | Less ↦ All-cons IsKeyed (intention_of_write w b) (i ∷ own) key all
      | Equal ↦ All-cons IsKeyed (intention_of_write w i.was_there) own key tail
      | Greater ↦ All-cons IsKeyed i (put own w b) head (put_keyed own w b key tail)
    ]

put_all_keyed : (ws : List Write) (own : List Intention) (there : TableKey → Bool) → HaveKeys ws → All IsKeyed own → All IsKeyed (put_all own ws there)
put_all_keyed [] own there keys all = all
put_all_keyed (w ∷ ws) own there keys all =
    put_all_keyed ws (put own w (there (table_key_of w))) there (All-tail IsKeyedWrite w ws keys)
    (put_keyed own w (there (table_key_of w)) (All-head IsKeyedWrite w ws keys) all)

-- what lies over rows that have keys has keys
pub sees_keys : (rows : State) (t : Kept) → HasKeys rows → HasOwnKeys t → HasKeyedRows rows t
sees_keys rows t keyed own = after_keyed (map intended_write t.own) rows (All-map IsKeyedWrite intended_write t.own own) keyed

-- so what a statement writes there has keys, and the transaction after it
pub grown_keyed : (s : State) (st : Statement) (t : Kept) (number format : ℕ) → HasKeyedRows s t → HasOwnKeys t → HasOwnKeys (grown_on s st t number format)
grown_keyed s st t number format keyed own =
    put_all_keyed (outcome_on s st t format).writes t.own (λ _. writes_found_rows st)
    (writes_keyed (laid_over s t.own) keyed (keys_written t.own) format st) own

-- and what it leaves
pub intended_keyed : (t : Kept) → HasOwnKeys t → HaveKeys (intended t.own)
intended_keyed t own = All-map IsKeyedWrite intended_write _ (All-filter leaves_write IsKeyed t.own own)
