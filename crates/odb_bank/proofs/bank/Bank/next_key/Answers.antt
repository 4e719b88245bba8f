use Rattle.std.proofs.Common.{ℕ, None, Some, sym, subst}
use Rattle.std.specs.Option.{option_copied}
use Rattle.odb_bank.specs.declared.kept.Kept.{Kept}
use Rattle.odb_bank.specs.Known.{Known}
use Rattle.odb_bank.specs.Bank.{BankState, slot_limit, AreKnownBy}
use Rattle.odb_bank.specs.Reading.{rows_in, IsNextKey}
use Rattle.odb_bank.proofs.Reached.{next_none, next_some}
use Rattle.odb_bank.proofs.bank.Bank.next_key.Goals as goal

pub returns-in-None : goal.returns-in-None
returns-in-None c =
    let v : BankState = record {
      extents = c.self.inside.extents;
      bank = c.self.inside.bank;
      mark = c.self.inside.mark;
      reached = c.self.inside.reached;
      phase = c.self.inside.phase;
      run = c.self.inside.run.items;
      slots = c.self.inside.slots;
    } in
    let after = option_copied c.args.after in
    subst (λ (b : BankState). (known : ℕ → Known) → AreKnownBy b.slots known → IsNextKey (rows_in b known) c.args.range.now after None) c.self.view_is
    (λ known are. next_none v.slots known are (slot_limit v) c.self.invariant.inside c.args.range.now after (sym c.in-None.ensures))

pub returns-in-Some : goal.returns-in-Some
returns-in-Some c =
    let v : BankState = record {
      extents = c.self.inside.extents;
      bank = c.self.inside.bank;
      mark = c.self.inside.mark;
      reached = c.self.inside.reached;
      phase = c.self.inside.phase;
      run = c.self.inside.run.items;
      slots = c.self.inside.slots;
    } in
    let after = option_copied c.args.after in
    let it : Kept = c.in-Some.it.now in
    subst (λ (b : BankState). (known : ℕ → Known) → AreKnownBy b.slots known → IsNextKey (rows_in b known) c.args.range.now after (Some it.at.key)) c.self.view_is
    (λ known are. next_some v.slots known are (slot_limit v) c.self.invariant.inside c.args.range.now after c.ascends.ensures it (sym c.in-Some.ensures))
