use Rattle.std.proofs.Common.{◌≡◌, ℕ, List, ◌∙◌, ap, subst, arith}
use Rattle.odb_device.specs.World.{file_of}
use Rattle.odb_device.specs.Images.{EachImage}
use Rattle.odb_extent.specs.Standing.{IsNew}
use Rattle.odb_bank.specs.Fields.{fields_image, bank_image}
use Rattle.odb_bank.proofs.NewFile.{all_new_stand}
use Rattle.odb_bank.proofs.bank.Bank.format.Goals as goal

pub returns-in-Ok-clause-stands : goal.returns-in-Ok-clause-stands
returns-in-Ok-clause-stands g c = λ h within none.
    let same : c.image.result ≡ bank_image c.args.bank c.args.mark = c.image.ensures ∙ ap (λ (f : ℕ). fields_image (record { format = f; bank = c.args.bank; mark = c.args.mark })) c.requires in
    let file = file_of c.args.file (g.S.Outside.world c.format.new.store) in
    all_new_stand c.args.bank c.args.mark (omega arith) file h within none (subst (λ (l : List ℕ). EachImage (IsNew 4096 l) file) same c.in-Ok.ensures.holds)
