use Rattle.std.proofs.Common.{◌-◌, ◌*◌, [], ◌∷◌, true, sym, ◌∙◌, ap, arith}
use Rattle.odb_device.specs.World.{World, file_of}
use Rattle.odb_device.specs.Images.{EachImage, TornFrom}
use Rattle.odb_device.specs.Moments.{Runs}
use Rattle.odb_device.proofs.Puts.{torn_run, put_done}
use Rattle.odb_pair.specs.Standing.{PairState, StandsFor, RunsPair}
use Rattle.odb_pair.proofs.Beside.{run_at, run_wider, puts_at}
use Rattle.odb_pair.proofs.Places.{close_torn, close_done}
use Rattle.odb_pair.proofs.pair.Pair.close.Given.{Over}
use Rattle.odb_pair.proofs.pair.Pair.close.Goals as goal
use Rattle.odb_pair.proofs.pair.Pair.close.Goals.{After-write_synced}

-- the write and its sync, whatever they answered
abbrev before : (g : Over) → After-write_synced g → World
before g c = g.S.Outside.world c.args.store.now

abbrev after : (g : Over) → After-write_synced g → World
after g c = g.S.Outside.world c.write_synced.new.store

write : (g : Over) (c : After-write_synced g) → let p = c.args.self.now in Runs p.file (TornFrom (512 * (1 - p.place)) 1 (file_of p.file (before g c))) (before g c) (after g c)
write g c = let p = c.args.self.now in run_at c.self.inside.file p.file c.other_start.result (512 * (1 - p.place)) 1 (before g c) (after g c) (ap (λ (k : PairState). k.file) c.self.view_is) c.other_start.ensures.value c.write_synced.ensures.run

stays : (g : Over) (c : After-write_synced g) → let p = c.args.self.now in Runs p.file (EachImage (StandsFor p)) (before g c) (after g c)
stays g c =
    let p = c.args.self.now in
    torn_run (StandsFor p) (StandsFor p) p.file (512 * (1 - p.place)) 1 (before g c) (after g c) (λ d i h t. close_torn p d h i (ap (λ (k : PairState). k.closed) (sym c.self.view_is) ∙ c.if-not-self.true) t) c.requires (write g c)

beside : (g : Over) (c : After-write_synced g) → let p = c.args.self.now in Runs p.file (TornFrom 0 1024 (file_of p.file (before g c))) (before g c) (after g c)
beside g c = let p = c.args.self.now in run_wider p.file (512 * (1 - p.place)) 1 0 1024 (before g c) (after g c) (omega arith) (omega arith) (write g c)

run : (g : Over) (c : After-write_synced g) → let p = c.args.self.now in RunsPair p (StandsFor p) (before g c) (after g c)
run g c = record { run = stays g c; beside = beside g c }

pub returns-in_err-write_synced-clause-run : goal.returns-in_err-write_synced-clause-run
returns-in_err-write_synced-clause-run g c = run g (goal.at.returns-in_err-write_synced-clause-run g c).After-write_synced

pub returns-in_ok-write_synced-clause-run : goal.returns-in_ok-write_synced-clause-run
returns-in_ok-write_synced-clause-run g c = run g (goal.at.returns-in_ok-write_synced-clause-run g c).After-write_synced

pub returns-in_ok-write_synced-clause-stands : goal.returns-in_ok-write_synced-clause-stands
returns-in_ok-write_synced-clause-stands g c =
    let p = c.args.self.now in
    let w = g.S.Outside.world c.args.store.now in
    let w1 = g.S.Outside.world c.write_synced.new.store in
    put_done (StandsFor p) (StandsFor (record p { closed = true })) p.file (512 * (1 - p.place)) (0 ∷ []) w w1 (λ d h. close_done p d h) c.requires (g.met.S.Store.reads_image c.args.store.now p.file)
    (puts_at c.self.inside.file p.file c.other_start.result (512 * (1 - p.place)) (0 ∷ []) w w1 (ap (λ (k : PairState). k.file) c.self.view_is) c.other_start.ensures.value c.in_ok-write_synced.ensures.done)
