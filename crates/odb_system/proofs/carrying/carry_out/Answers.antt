use Rattle.std.proofs.Common.{◌≡◌, Option, Result, Ok, subst, ap, ◌∙◌}
use Rattle.std.specs.Prelude.{List, ℕ}
use Rattle.odb_device.specs.World.{File, file_of}
use Rattle.odb_model.specs.declared.entry.Entry.{Entry}
use Rattle.odb_transdb.specs.Turning.{MayStand}
use Rattle.odb_commit.specs.declared.error.CommitError.{CommitError}
use Rattle.odb_commit.specs.declared.ready.Ready.{Ready}
use Rattle.odb_commit.specs.declared.ready.Ready.TheVariants.{Sealing}
use Rattle.odb_commit.specs.Parts.{Parts}
use Rattle.odb_system.specs.Durable.{IsDurableBy}
use Rattle.odb_system.specs.Sealed.{CanCarry}
use Rattle.odb_system.proofs.Behind.{stands_settled}
use Rattle.odb_system.proofs.carrying.carry_out.Goals as goal

-- where an entry is ready none is in doubt
carry_stands : (b : Parts) (prepared : Result Ready CommitError) (entry : Entry) (image : List ℕ) (file : Option File) → prepared ≡ Ok (Sealing entry image) → CanCarry b prepared → IsDurableBy b.halted b.transdb file → MayStand b.transdb file
carry_stands b prepared entry image file is can durable =
    let ready : CanCarry b (Ok (Sealing entry image)) = subst (CanCarry b) is can in
    stands_settled b file ready.0.settled durable

pub seal-requires-clause-stands : goal.seal-requires-clause-stands
seal-requires-clause-stands g c =
    carry_stands c.args.book.now c.args.prepared c.in-Sealing.entry c.in-Sealing.image (file_of 0 (g.S.Outside.world c.args.store.now)) (c.in-Ok.is ∙ ap Ok c.in-Sealing.is) c.requires.ready c.requires.durable
