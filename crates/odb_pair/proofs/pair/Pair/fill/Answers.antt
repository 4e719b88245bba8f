use Rattle.std.proofs.Common.{ℕ, ◌+◌, ◌-◌, ◌*◌, ◌∙◌, ap, subst, arith, length}
use Rattle.std.specs.Int.{w64, to_be_bytes}
use Rattle.std.proofs.lemmas.Result.{on_ok_weaker}
use Rattle.odb_device.specs.World.{file_of}
use Rattle.odb_device.specs.Images.{TornFrom}
use Rattle.odb_device.specs.Moments.{Runs}
use Rattle.odb_device.proofs.Puts.{torn_run, put_done}
use Rattle.odb_pair.specs.Places.{next}
use Rattle.odb_pair.specs.Standing.{PairState, StandsFor, IsFilled}
use Rattle.odb_pair.proofs.Beside.{run_at, run_wider, puts_at}
use Rattle.odb_pair.proofs.Places.{fill_torn, fill_done}
use Rattle.odb_pair.proofs.pair.Pair.fill.Given.{Over}
use Rattle.odb_pair.proofs.pair.Pair.fill.Goals as goal
use Rattle.odb_pair.proofs.pair.Pair.fill.Goals.{After-write_synced}

-- the write and its sync, whatever they answered
write : (g : Over) (c : After-write_synced g) → let p = c.args.self.now in
    Runs p.file (TornFrom (512 * (1 - p.place) + 1) 63 (file_of p.file (g.S.Outside.world c.args.store.now))) (g.S.Outside.world c.args.store.now) (g.S.Outside.world c.write_synced.new.store)
write g c =
    let p = c.args.self.now in
    let w = g.S.Outside.world c.args.store.now in
    let w1 = g.S.Outside.world c.write_synced.new.store in
    let run = run_at c.self.inside.file p.file (c.other_start.result + 1) (512 * (1 - p.place) + 1) (length c.body_of-body.result) w w1 (ap (λ (k : PairState). k.file) c.self.view_is) (ap (λ (k : ℕ). k + 1) c.other_start.ensures.value) c.write_synced.ensures.run in
    subst (λ (n : ℕ). Runs p.file (TornFrom (512 * (1 - p.place) + 1) n (file_of p.file w)) w w1) c.body_of-body.ensures.size run

pub returns-clause-run : goal.returns-clause-run
returns-clause-run g c =
    let p = c.args.self.now in
    let w = g.S.Outside.world c.args.store.now in
    let w1 = g.S.Outside.world c.write_synced.new.store in
    let wrote = write g (goal.at.returns-clause-run g c).After-write_synced in
    record {
      run = torn_run (StandsFor p) (StandsFor p) p.file (512 * (1 - p.place) + 1) 63 w w1 (λ d i h t. fill_torn p d h i c.requires.closed t) c.requires.stands wrote;
      beside = run_wider p.file (512 * (1 - p.place) + 1) 63 0 1024 w w1 (omega arith) (omega arith) wrote;
    }

pub returns-clause-filled : goal.returns-clause-filled
unfolding next
returns-clause-filled g c =
    let p = c.args.self.now in
    let v = c.args.value.now in
    let w = g.S.Outside.world c.args.store.now in
    let w1 = g.S.Outside.world c.write_synced.new.store in
    let body = c.body_of-body.result in
    let number = c.body_of-body.ensures.sequence ∙ ap (λ (k : PairState). to_be_bytes w64 (next k.sequence)) c.self.view_is in
    on_ok_weaker c.write_synced.result
    (λ done. put_done (StandsFor p) (IsFilled p v) p.file (512 * (1 - p.place) + 1) body w w1 (λ d h. fill_done p d h v body c.requires.closed c.body_of-body.ensures.size number c.body_of-body.ensures.value)
    c.requires.stands (g.met.S.Store.reads_image c.args.store.now p.file)
    (puts_at c.self.inside.file p.file (c.other_start.result + 1) (512 * (1 - p.place) + 1) body w w1 (ap (λ (k : PairState). k.file) c.self.view_is) (ap (λ (k : ℕ). k + 1) c.other_start.ensures.value) done)) c.write_synced.ensures.done
