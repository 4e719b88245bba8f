use Rattle.std.proofs.Common.{List, ℕ, sym, ◌∙◌, ap}
use Rattle.std.specs.Prelude.{◌==◌}
use Rattle.std.specs.Cmp.Lexicographic.{pointwise}
use Rattle.odb_bank.specs.declared.fields.BankFields.{BankFields}
use Rattle.odb_bank.proofs.HeadFields.{AreFields, found_some, found_none}
use Rattle.odb_bank.proofs.fields.BankFields.from_bytes.Goals as goal

pub returns-then-eq : goal.returns-then-eq
returns-then-eq c =
    let f : BankFields = record { format = c.read_u16.result; bank = c.read_u32.result; mark = c.read_u64.result } in
    let are : AreFields c.args.bytes.now f = record { format = c.read_u16.ensures; bank = c.read_u32.ensures; mark = c.read_u64.ensures } in
    sym (found_some c.args.bytes.now f are (ap (λ (image : List ℕ). pointwise ◌==◌ image c.args.bytes.now) (sym c.image.ensures) ∙ sym c.eq.ensures ∙ c.if-eq.true))

pub returns-else-eq : goal.returns-else-eq
returns-else-eq c =
    let f : BankFields = record { format = c.read_u16.result; bank = c.read_u32.result; mark = c.read_u64.result } in
    let are : AreFields c.args.bytes.now f = record { format = c.read_u16.ensures; bank = c.read_u32.ensures; mark = c.read_u64.ensures } in
    sym (found_none c.args.bytes.now f are (ap (λ (image : List ℕ). pointwise ◌==◌ image c.args.bytes.now) (sym c.image.ensures) ∙ sym c.eq.ensures ∙ c.if-eq.false))
