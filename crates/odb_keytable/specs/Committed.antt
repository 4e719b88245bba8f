-- What rows that stand committed are seen as.
use Rattle.std.specs.Prelude.{ℕ, ◌+◌, List, [], ◌∷◌, length, reverse, refl}
use Rattle.std.specs.Coded.{Coded, code_by, coded×, coded_ℕ, coded_list}
use Rattle.std.specs.FinMap.{code}
use Rattle.odb_values.specs.contracts.value.Value as cell
use Rattle.odb_model.specs.contracts.table_key.TableKey as table_key
use Rattle.odb_model.specs.declared.write.Write.{Write}
use Rattle.odb_model.specs.declared.entry.Entry.{Entry}
use Rattle.odb_model.specs.State.{State, after_writes, replay_from}

-- the state after the entries of a history, and how many of the last ones wait to be folded in
pub record Committed : Type 0 where
  pub state : State
  pub waiting : ℕ

abbrev pub committed_code : Coded Committed
committed_code =
    code_by (State × ℕ)
    (coded× (code table_key.the_row.coded (coded_list cell.the_row.coded)) coded_ℕ)
    (λ c. (c.state, c.waiting)) (λ p. record { state = p.0; waiting = p.1 }) (λ _. refl)

-- the state of a table with these writes of an entry laid over it, the last one first, and then with
-- the entries that come behind that one
abbrev pub state_with : State → List Write → List Entry → State
state_with table begun entries = replay_from (after_writes table (reverse begun)) entries

-- how many entries wait: these, and one more where writes of it are left
abbrev pub waiting_with : List Write → List Entry → ℕ
waiting_with [] entries = length entries
waiting_with (w ∷ begun) entries = length entries + 1
