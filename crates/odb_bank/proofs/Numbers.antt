-- Entries that are numbered one after another.
use Rattle.std.proofs.Common.{◌≡◌, ℕ, zero, suc, ◌+◌, ◌-◌, ◌≤◌, List, [], ◌∷◌, length, Some, ◌∙◌, ap, subst, arith}
use Rattle.std.specs.Prelude.{slice_get}
use Rattle.std.proofs.lemmas.Option.{slice_get_within, get_or_from_slice_get}
use Rattle.odb_model.specs.declared.entry.Entry.{Entry}
use Rattle.odb_model.specs.State.{IsNumberedFrom}
use Rattle.odb_bank.specs.Bank.{BankState}
use Rattle.odb_bank.specs.Begun.{AreConsecutive, IsNext}
use Rattle.odb_bank.specs.Filling.{IsEntryOf, AreOf}
use Rattle.odb_bank.specs.History.{History}
use Rattle.odb_bank.proofs.Behind.{item_there}

pub numbered_at : (n : ℕ) (es : List Entry) (i : ℕ) (e : Entry) → IsNumberedFrom n es → slice_get es i ≡ Some e → e.number ≡ n + i
numbered_at n [] i e numbers is = absurd (cc is)
numbered_at n (x ∷ es) zero e numbers is = let same : x ≡ e = cc is in omega (arith, numbers.0, ap (λ (y : Entry). y.number) same)
numbered_at n (x ∷ es) (suc i) e numbers is = omega (arith, numbered_at (n + 1) es i e numbers.1 is)

-- where the first one is the next one, they go on from the mark
pub numbered_next : (b : BankState) (es : List Entry) → AreConsecutive es → IsNext b es → IsNumberedFrom (b.mark + 1) es
numbered_next b [] consecutive next = tt
numbered_next b (e ∷ es) consecutive next = subst (λ (n : ℕ). IsNumberedFrom n (e ∷ es)) next consecutive

pub next_at : (b : BankState) (es : List Entry) (first : Entry) → slice_get es 0 ≡ Some first → first.number ≡ b.mark + 1 → IsNext b es
next_at b [] first is number = tt
next_at b (e ∷ es) first is number = let same : e ≡ first = cc is in ap (λ (x : Entry). x.number) same ∙ number

-- and the last one has the number reached
pub last_at : (b : BankState) (es : List Entry) (first last : Entry) → AreConsecutive es → slice_get es 0 ≡ Some first → first.number ≡ b.mark + 1 → slice_get es (length es - 1) ≡ Some last → last.number ≡ b.mark + length es
last_at b es first last consecutive is number end =
    let within = slice_get_within es (length es - 1) last end in
    let numbers = numbered_next b es consecutive (next_at b es first is number) in
    omega (arith, within, numbered_at (b.mark + 1) es (length es - 1) last numbers end)

-- none of a history's entries is behind its end
pub run_within : (h : History) (bank mark : ℕ) (es : List Entry) → IsNumberedFrom (mark + 1) es → AreOf h bank es → mark ≤ h.count → mark + length es ≤ h.count
run_within h bank mark [] numbers of_h low = omega (arith, low)
run_within h bank mark (e ∷ es) numbers of_h low =
    let there = item_there (e ∷ es) (length es) (omega arith) in
    let number = numbered_at (mark + 1) (e ∷ es) (length es) there.0 numbers there.1 in
    let its : IsEntryOf h bank there.0 = subst (IsEntryOf h bank) (get_or_from_slice_get (e ∷ es) (length es) there.0 there.0 there.1) (of_h (length es) there.0 (omega arith)) in
    omega (arith, number, its.to)
