-- Several writes to a file and one sync behind them.
use Rattle.std.proofs.Common.{◌≡◌, ℕ, ◌+◌, ◌≤◌, List, length, Option, Some, None, Result, Ok, Err, sym, subst, refl, arith}
use Rattle.std.specs.Prelude.{OnOk, OnErr, IfSome, option_map}
use Rattle.odb_device.specs.World.{File, World, file_of}
use Rattle.odb_device.specs.Images.{EachImage, ReadsImage, TornFrom, overwritten, written, kept}
use Rattle.odb_device.specs.Calls.{CallsOn, Writes, Tears, Keeps, Unsettles}
use Rattle.odb_device.specs.Moments.{Runs}
use Rattle.odb_device.proofs.Time.{begins, goes_on, weakens, run_end}
use Rattle.odb_device.proofs.Torn.{stays_from}
use Rattle.odb_device.proofs.OneCall.{write_from, sync_from}
use Rattle.odb_device.proofs.Bytes.{image_kept}
use Rattle.odb_device.specs.TornSets.{InRange, TornIn, TornInFrom}
use Rattle.odb_device.specs.Writing.{IsWriting}
use Rattle.odb_device.proofs.TornSets.{from_none, from_inside, from_in_then, torn_in_each}

-- before the first write
pub writing_begins : (P : ℕ → Type 0) (end file : ℕ) (Q : List ℕ → Type 0) (w : World) → IfSome (file_of file w) (λ f. Q f.bytes) → IsWriting P end file Q w w
writing_begins P end file Q w here = record {
  run = begins file (TornInFrom P end (file_of file w)) w (from_none P end (file_of file w) (file_of file w) refl);
  reads = here;
}

-- what holds of any bytes holds of those of a told file
pub if_some : (P : File → Type 0) (o : Option File) → ((f : File) → P f) → IfSome o P
if_some P None each = tt
if_some P (Some f) each = each f

-- one write more, inside the set, whatever it answers
pub write_inside : {E : Type 0} → (P : ℕ → Type 0) (end file : ℕ) (first old new : World) (result : Result (Unit {0}) E) (at : ℕ) (bytes : List ℕ)
    → ((i : ℕ) → InRange at (length bytes) i → P i) → at + length bytes ≤ end
    → Runs file (TornInFrom P end (file_of file first)) first old → CallsOn file old new
    → OnOk result (Writes file at bytes old new) → OnErr result (Tears file at (length bytes) old new)
    → Runs file (TornInFrom P end (file_of file first)) first new
write_inside P end file first old new result at bytes inside to run call ok err =
    goes_on file (TornInFrom P end (file_of file first)) first old new run call
    (from_in_then P end (file_of file first) (file_of file old) (file_of file new) (run_end file (TornInFrom P end (file_of file first)) first old run)
    (from_inside P end at (length bytes) (file_of file old) (file_of file new) inside to (write_from file old new result at bytes ok err)))

read_after : (Q R : List ℕ → Type 0) (at : ℕ) (bytes : List ℕ) (old new : Option File) → ((before : List ℕ) → Q before → R (overwritten at bytes before)) → IfSome old (λ f. Q f.bytes)
    → new ≡ option_map (written at bytes) old → IfSome new (λ f. R f.bytes)
read_after Q R at bytes None new step here e = subst (λ (o : Option File). IfSome o (λ f. R f.bytes)) (sym e) tt
read_after Q R at bytes (Some f) new step here e = subst (λ (o : Option File). IfSome o (λ f. R f.bytes)) (sym e) (step f.bytes here)

-- and with Ok
pub writing_on : (P : ℕ → Type 0) (end file : ℕ) (Q R : List ℕ → Type 0) (first old new : World) (at : ℕ) (bytes : List ℕ)
    → ((before : List ℕ) → Q before → R (overwritten at bytes before)) → Runs file (TornInFrom P end (file_of file first)) first new → IsWriting P end file Q first old → Writes file at bytes old new
    → IsWriting P end file R first new
writing_on P end file Q R first old new at bytes step run before writes = record { run = run; reads = read_after Q R at bytes (file_of file old) (file_of file new) step before.reads writes }

-- the sync behind them, whatever it answers
pub writing_sync : {E : Type 0} → (P : ℕ → Type 0) (end file : ℕ) (first old new : World) (result : Result (Unit {0}) E)
    → Runs file (TornInFrom P end (file_of file first)) first old → CallsOn file old new → ReadsImage (file_of file old)
    → OnOk result (Keeps file old new) → OnErr result (Unsettles file old new) → Runs file (TornInFrom P end (file_of file first)) first new
writing_sync P end file first old new result run call reads ok err =
    goes_on file (TornInFrom P end (file_of file first)) first old new run call
    (from_in_then P end (file_of file first) (file_of file old) (file_of file new) (run_end file (TornInFrom P end (file_of file first)) first old run)
    (from_inside P end 0 0 (file_of file old) (file_of file new) (λ i empty. absurd (omega (arith, empty.0, empty.1))) (omega arith) (sync_from file old new result 0 0 old (stays_from 0 0 (file_of file old) (file_of file old) refl) reads ok err)))

kept_each : (Q : List ℕ → Type 0) (old new : Option File) → IfSome old (λ f. Q f.bytes) → new ≡ option_map kept old → EachImage Q new
kept_each Q None new here e = subst (EachImage Q) (sym e) tt
kept_each Q (Some f) new here e = subst (EachImage Q) (sym e) (λ image is. subst Q (sym (image_kept (kept f) image (refl, refl) is)) here)

-- and with Ok each image is what was read
pub writing_done : (P : ℕ → Type 0) (end file : ℕ) (Q : List ℕ → Type 0) (first old new : World) → IsWriting P end file Q first old → Keeps file old new → EachImage Q (file_of file new)
writing_done P end file Q first old new before keeps = kept_each Q (file_of file old) (file_of file new) before.reads keeps

-- what such a call does to a property of the images, at each moment
pub torn_in_run : (P : ℕ → Type 0) (end : ℕ) (Q R : List ℕ → Type 0) (file : ℕ) (old new : World) → ((before image : List ℕ) → Q before → TornIn P end before image → R image)
    → EachImage Q (file_of file old) → Runs file (TornInFrom P end (file_of file old)) old new → Runs file (EachImage R) old new
torn_in_run P end Q R file old new step each run = weakens file (TornInFrom P end (file_of file old)) (EachImage R) old new (λ o from. torn_in_each P end Q R (file_of file old) o step each from) run

both_each : (P : ℕ → Type 0) (end : ℕ) (Q D R : List ℕ → Type 0) (old new : Option File) → ((before image : List ℕ) → Q before → TornIn P end before image → D image → R image)
    → EachImage Q old → TornInFrom P end old new → EachImage D new → EachImage R new
both_each P end Q D R None new step each from done = subst (EachImage R) (sym from) tt
both_each P end Q D R (Some old) None step each from done = tt
both_each P end Q D R (Some old) (Some new) step each from done = λ image is. let b = from image is in step b.0 image (each b.0 b.1) b.2 (done image is)

-- and at its end, where each image has what was written
pub torn_in_done : (P : ℕ → Type 0) (end : ℕ) (Q D R : List ℕ → Type 0) (file : ℕ) (old new : World) → ((before image : List ℕ) → Q before → TornIn P end before image → D image → R image)
    → EachImage Q (file_of file old) → Runs file (TornInFrom P end (file_of file old)) old new → EachImage D (file_of file new) → EachImage R (file_of file new)
torn_in_done P end Q D R file old new step each run done = both_each P end Q D R (file_of file old) (file_of file new) step each (run_end file (TornInFrom P end (file_of file old)) old new run) done

pub on_ok : {T E : Type 0} (P Q : Type 0) (result : Result T E) → (P → Q) → OnOk result P → OnOk result Q
on_ok P Q (Ok done) gives here = gives here
on_ok P Q (Err e) gives here = tt

-- where at each moment the images have D besides, as another clause says
pub torn_in_run_with : (P : ℕ → Type 0) (end : ℕ) (Q D R : List ℕ → Type 0) (file : ℕ) (old new : World) → ((before image : List ℕ) → Q before → TornIn P end before image → D image → R image)
    → EachImage Q (file_of file old) → Runs file (TornInFrom P end (file_of file old)) old new → Runs file (EachImage D) old new → Runs file (EachImage R) old new
torn_in_run_with P end Q D R file old new step each run with_d = record {
  only = run.only;
  each = λ k from to. both_each P end Q D R (file_of file old) ((new.moment k).files file) step each (run.each k from to) (with_d.each k from to);
}

-- a run that tears a range inside the set
pub run_inside : (P : ℕ → Type 0) (end file at n : ℕ) (old new : World) → ((i : ℕ) → InRange at n i → P i) → at + n ≤ end → Runs file (TornFrom at n (file_of file old)) old new → Runs file (TornInFrom P end (file_of file old)) old new
run_inside P end file at n old new inside to run = weakens file (TornFrom at n (file_of file old)) (TornInFrom P end (file_of file old)) old new (λ o from. from_inside P end at n (file_of file old) o inside to from) run
