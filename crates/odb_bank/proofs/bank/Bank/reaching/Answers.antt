use Rattle.std.proofs.Common.{◌≡◌, ℕ, ◌+◌, ◌-◌, length, Option, Some, sym, ap, subst, arith, rules}
use Rattle.std.specs.Prelude.{slice_get}
use Rattle.odb_bank.specs.declared.phase.Phase.{Phase}
use Rattle.odb_bank.specs.declared.phase.Phase.TheVariants.{Idle}
use Rattle.odb_bank.specs.Bank.{BankState}
use Rattle.odb_bank.proofs.Numbers.{next_at, last_at}
use Rattle.odb_bank.proofs.bank.Bank.reaching.Goals as goal

pub returns : goal.returns
returns c =
    let b : BankState = c.args.self.now in
    let es = c.args.entries.now in
    let first = c.in-Some-Some.first.now in
    let last = c.in-Some-Some.last.now in
    let inside : ◌≡◌ {A = Phase} c.self.inside.phase Idle = search rules in
    let phase : b.phase ≡ Idle = subst (λ (x : BankState). x.phase ≡ Idle) c.self.view_is inside in
    let mark : c.self.inside.mark ≡ b.mark = ap (λ (x : BankState). x.mark) c.self.view_is in
    let below : ◌≡◌ {A = Option ℕ} c.checked_sub.result (Some c.self.inside.mark) = search rules in
    let number : first.number ≡ b.mark + 1 = grind (arith, c.checked_sub.ensures, below, mark) in
    let begins : slice_get es 0 ≡ Some first = sym c.in-Some-Some.ensures.value in
    let ends : slice_get es (length es - 1) ≡ Some last = sym c.in-Some-Some.ensures'.value in
    (phase, next_at b es first begins number, last_at b es first last c.requires begins number ends)
