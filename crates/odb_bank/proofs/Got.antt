-- The row that a bank gives of a key.
use Rattle.std.proofs.Common.{◌≡◌, ℕ, ◌+◌, ◌<◌, ◌≤◌, true, false, List, length, Option, Some, None, Result, Ok, Err, sym, ◌∙◌, subst, refl, arith}
use Rattle.std.specs.Prelude.{slice_get, is_some, IfSome, IfOk}
use Rattle.odb_values.specs.declared.value.Value.{Value}
use Rattle.odb_device.specs.World.{File}
use Rattle.odb_device.specs.Images.{IsImage, ReadsImage}
use Rattle.odb_slots.specs.Slots.{slot_place}
use Rattle.odb_bank.specs.declared.error.BankError.{BankError}
use Rattle.odb_bank.specs.declared.kept.Kept.{Kept}
use Rattle.odb_bank.specs.History.{Key, Row}
use Rattle.odb_bank.specs.Known.{Known}
use Rattle.odb_bank.specs.Bank.{BankState, slot_limit, IsKnownIn, Stands, IsSound}
use Rattle.odb_bank.specs.Reading.{rows_in}
use Rattle.odb_bank.specs.Choosing.{IsBestAt, IsBest, HasRowAt}
use Rattle.odb_bank.proofs.Choice.{none_row, best_row, has_row_at}

-- what is answered, of a told file of which this is known
abbrev pub Gives : BankState → Key → Result (Option Row) BankError → File → Type 0
Gives b key result f = (known : ℕ → Known) → IsKnownIn b known f → IfOk result (λ row. row ≡ rows_in b known key)

no_row : (row : Option Row) → is_some row ≡ false → row ≡ None
no_row None is = refl
no_row (Some row) is = absurd (cc is)

some_row : (row : Option Row) → is_some row ≡ true → (values : Row) × (row ≡ Some values)
some_row None is = absurd (cc is)
some_row (Some row) is = (row, refl)

if_all : (P : File → Type 0) (o : Option File) → ((f : File) → P f) → IfSome o P
if_all P None all = tt
if_all P (Some f) all = all f

module _ (file : ℕ) (b : BankState) (sound : IsSound file b) (key : Key) where
  pub got_none : (o : Option File) → IsBest key b.slots (length b.slots) None → IfSome o (Gives b key (Ok None))
  got_none o none = if_all (Gives b key (Ok None)) o (λ f known is. sym (none_row b.slots known is.kept (slot_limit b) sound.inside key none))

  module _ (place : ℕ) (it : Kept) (here : slice_get b.slots place ≡ Some it) (found : IsBest key b.slots (length b.slots) (Some place)) where
    best : IsBestAt key b.slots (length b.slots) place it
    best = let was = found.1 in let same : found.0 ≡ it = cc (was.is_it, here) in subst (IsBestAt key b.slots (length b.slots) place) same was

    row_is : (known : ℕ → Known) (f : File) (is : IsKnownIn b known f) → rows_in b known key ≡ (is.kept.each place it here).row
    row_is known f is = best_row b.slots known is.kept (slot_limit b) sound.inside key place it best (is.kept.each place it here)

    pub got_mark : (o : Option File) → it.has_row ≡ false → IfSome o (Gives b key (Ok None))
    got_mark o without = if_all (Gives b key (Ok None)) o (λ f known is.
        let by = is.kept.each place it here in
        sym (row_is known f is ∙ no_row by.row (by.has_row ∙ without)))

    -- by the row in its slot
    row_there : (known : ℕ → Known) (f : File) (is : IsKnownIn b known f) → IsImage f f.bytes → it.slot < slot_limit b → it.has_row ≡ true → (result : Result (Option Row) BankError)
        → ((row : List Value) → HasRowAt it.slot row f.bytes → IfOk result (λ found. found ≡ Some row)) → IfOk result (λ row. row ≡ rows_in b known key)
    row_there known f is image low with_row (Err e) reads = tt
    row_there known f is image low with_row (Ok row) reads =
        let by = is.kept.each place it here in
        let some = some_row by.row (by.has_row ∙ with_row) in
        let slots = (is.images f.bytes image).slots in
        reads some.0 (has_row_at (slot_limit b) known f.bytes slots it some.0 low best.its.0 by some.1) ∙ sym (row_is known f is ∙ some.1)

    pub got_row : (o : Option File) (result : Result (Option Row) BankError) → ReadsImage o → it.slot < slot_limit b → it.has_row ≡ true
        → IfSome o (λ f. (row : List Value) → HasRowAt it.slot row f.bytes → IfOk result (λ found. found ≡ Some row)) → IfSome o (Gives b key result)
    got_row None result image low with_row reads = tt
    got_row (Some f) result image low with_row reads = λ known is. row_there known f is image low with_row result reads

  -- a slot that is kept lies in the file
  pub slot_there : (o : Option File) (slot : ℕ) → ReadsImage o → Stands b o → slot < slot_limit b → IfSome o (λ f. slot_place (slot + 1) ≤ length f.bytes)
  slot_there None slot image stands low = tt
  slot_there (Some f) slot image stands low =
      let known = stands.1 in
      let is = known.images f.bytes image in
      let long = is.slots.long in
      omega arith
