-- What the calls that read a bank answer.
use Rattle.std.specs.Prelude.{◌≡◌, ◌≢◌, ℕ, List, IsTrue, IsSome, Option, Some, None}
use Rattle.std.specs.declared.cmp.Ordering.TheVariants.{Less, Greater}
use Rattle.odb_values.specs.declared.value.Value.{Value}
use Rattle.odb_values.specs.declared.range.Range.{Range}
use Rattle.odb_values.specs.Value.{values_cmp}
use Rattle.odb_values.specs.Range.{in_range}
use Rattle.odb_bank.specs.declared.error.BankError.{BankError}
use Rattle.odb_bank.specs.declared.error.BankError.TheVariants.{Fault, Damaged, NotNext, Phase as WrongPhase, Limit, NoMemory}
use Rattle.odb_bank.specs.History.{Key, Row}
use Rattle.odb_bank.specs.Records.{bank_map}
use Rattle.odb_bank.specs.Known.{Known, sure_of}
use Rattle.odb_bank.specs.Bank.{BankState, slot_limit}

-- the refusals of a call that reads
abbrev pub IsReadRefusal : BankError → Type 0
IsReadRefusal Fault = Unit {0}
IsReadRefusal NoMemory = Unit {0}
IsReadRefusal (Damaged at) = ⊥
IsReadRefusal (NotNext mark first) = ⊥
IsReadRefusal (WrongPhase now) = ⊥
IsReadRefusal Limit = ⊥

-- The rows of the bank, where this is known of its slots: those of the records that are open
-- whatever a crash leaves. From a faulted `gates` to its Ok they are those from before the run.
abbrev pub rows_in : BankState → (ℕ → Known) → Key → Option Row
rows_in b known key = bank_map (slot_limit b) (sure_of known) key

abbrev pub IsAfter : Option (List Value) → List Value → Type 0
IsAfter None key = Unit {0}
IsAfter (Some before) key = values_cmp before key ≡ Less

-- a key of the range, behind the one before where there is one, that has a row
pub record IsFurther (rows : Key → Option Row) (range : Range) (after : Option (List Value))
    (key : List Value) : Type 0 where
  pub inside : IsTrue (in_range range range.table key)
  pub behind : IsAfter after key
  pub has_row : IsSome (rows (record { table = range.table; key = key }))

-- the least of them; None where there is none
abbrev pub IsNextKey : (Key → Option Row) → Range → Option (List Value) → Option (List Value)
    → Type 0
IsNextKey rows range after None = (key : List Value) → IsFurther rows range after key → ⊥
IsNextKey rows range after (Some next) = IsFurther rows range after next
    × ((key : List Value) → IsFurther rows range after key → values_cmp next key ≢ Greater)
