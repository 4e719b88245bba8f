-- What is promised of a call that has done nothing, for want of memory.
use Rattle.std.proofs.Common.{◌≡◌, ◌≢◌, ◌⊎◌, ℕ, true, false, Option, Some, None, refl, inl}
use Rattle.std.specs.Prelude.{IfSome}
use Rattle.odb_device.specs.World.{File, World, file_of}
use Rattle.odb_device.specs.Images.{TornFrom}
use Rattle.odb_device.specs.Moments.{WritesWithin}
use Rattle.odb_device.proofs.Time.{begins}
use Rattle.odb_device.proofs.Torn.{stays_from}
use Rattle.odb_model.specs.declared.status.Status.TheVariants.{NoMemory}
use Rattle.odb_transdb.specs.Answers.{ClosesGates}
use Rattle.odb_transdb.proofs.Pairs.{pair_run}
use Rattle.odb_transdb.proofs.Gates.{gates_still}
use Rattle.odb_tool.specs.Created.{DoesCreate}
use Rattle.odb_tool.specs.Playing.{DoesPlay}
use Rattle.odb_tool.proofs.Leaving.{leaves_unwritten}
use Rattle.odb_tool.proofs.Making.{makes_begin, leaves_looked}

pub clash : {A : Type 0} → true ≡ false → A
clash e = cc e

unwritten : (w : World) → WritesWithin 0 0 0 w w
unwritten w = begins 0 (TornFrom 0 0 (file_of 0 w)) w (stays_from 0 0 (file_of 0 w) (file_of 0 w) refl)

any_file : (o : Option File) → IfSome o (λ f. Unit {0})
any_file None = tt
any_file (Some f) = tt

as_before : (o : Option File) → ClosesGates o o
as_before None = tt
as_before (Some f) = (refl, λ i. inl refl)

pub plays_nothing : (w : World) → DoesPlay NoMemory w w
plays_nothing w = record {
  played = inl (record {
    run = pair_run w w (unwritten w);
    bytes = gates_still w w (unwritten w);
    closed = λ no_fault. as_before (file_of 0 w);
    nothing = λ e. cc e;
  });
  opens = any_file (file_of 0 w);
  fault = λ file e. cc e;
}

pub creates_nothing : (side_kib : ℕ) (w : World) → DoesCreate side_kib NoMemory w w
creates_nothing side_kib w = record {
  ends = tt;
  created = tt;
  found = any_file (file_of 0 w);
  leaves = leaves_unwritten w w (unwritten w);
  files = makes_begin w;
  order = inl (leaves_looked w w (unwritten w));
  fault = λ file e. cc e;
}
