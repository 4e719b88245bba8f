use Rattle.std.proofs.Common.{◌-◌, ◌*◌, [], ◌∷◌, false, refl, sym, subst, ◌∙◌, ap, arith}
use Rattle.odb_device.specs.World.{World, file_of}
use Rattle.odb_device.specs.Images.{EachImage, TornFrom}
use Rattle.odb_device.specs.Moments.{Runs}
use Rattle.odb_device.proofs.Time.{run_end}
use Rattle.odb_device.proofs.Puts.{torn_run, put_done}
use Rattle.odb_pair.specs.Places.{next, OPEN}
use Rattle.odb_pair.specs.Standing.{PairState, StandsFor, RunsPair, IsFilled}
use Rattle.odb_pair.proofs.Beside.{run_at, run_wider, puts_at}
use Rattle.odb_pair.proofs.Places.{open_torn, open_done}
use Rattle.odb_pair.proofs.pair.Pair.open_gate.Given.{Over}
use Rattle.odb_pair.proofs.pair.Pair.open_gate.Goals as goal
use Rattle.odb_pair.proofs.pair.Pair.open_gate.Goals.{After-write_synced}

abbrev before : (g : Over) → After-write_synced g → World
before g c = g.S.Outside.world c.args.store.now

abbrev after : (g : Over) → After-write_synced g → World
after g c = g.S.Outside.world c.write_synced.new.store

-- the pair while its other gate may be open
abbrev opening : (g : Over) → After-write_synced g → PairState
opening g c = record c.args.self.now { tried = c.args.value.now; closed = false }

-- the write and its sync, whatever they answered
write : (g : Over) (c : After-write_synced g) → let p = c.args.self.now in Runs p.file (TornFrom (512 * (1 - p.place)) 1 (file_of p.file (before g c))) (before g c) (after g c)
write g c =
    let p = c.args.self.now in
    run_at c.self.inside.file p.file c.other_start.result (512 * (1 - p.place)) 1 (before g c) (after g c) (ap (λ (k : PairState). k.file) c.self.view_is)
    (c.other_start.ensures.value ∙ ap (λ (k : PairState). 512 * (1 - k.place)) c.self.view_is) c.write_synced.ensures.run

stays : (g : Over) (c : After-write_synced g) → Runs c.args.self.now.file (EachImage (StandsFor (opening g c))) (before g c) (after g c)
stays g c =
    let p = c.args.self.now in
    let v = c.args.value.now in
    torn_run (IsFilled p v) (StandsFor (opening g c)) p.file (512 * (1 - p.place)) 1 (before g c) (after g c) (λ d i h t. open_torn p v d h i t) c.requires.filled (write g c)

beside : (g : Over) (c : After-write_synced g) → let p = c.args.self.now in Runs p.file (TornFrom 0 1024 (file_of p.file (before g c))) (before g c) (after g c)
beside g c = let p = c.args.self.now in run_wider p.file (512 * (1 - p.place)) 1 0 1024 (before g c) (after g c) (omega arith) (omega arith) (write g c)

run : (g : Over) (c : After-write_synced g) → RunsPair c.args.self.now (StandsFor (opening g c)) (before g c) (after g c)
run g c = record { run = stays g c; beside = beside g c }

pub returns-in_err-write_synced-clause-run : goal.returns-in_err-write_synced-clause-run
returns-in_err-write_synced-clause-run g c = run g (goal.at.returns-in_err-write_synced-clause-run g c).After-write_synced

pub returns-clause-run : goal.returns-clause-run
returns-clause-run g c = run g (goal.at.returns-clause-run g c).After-write_synced

pub returns-in_err-write_synced-clause-stands : goal.returns-in_err-write_synced-clause-stands
returns-in_err-write_synced-clause-stands g c =
    let p = c.args.self.now in
    let v = c.args.value.now in
    let w = g.S.Outside.world c.args.store.now in
    let w1 = g.S.Outside.world c.write_synced.new.store in
    subst (λ (k : PairState). EachImage (StandsFor (record k { tried = v; closed = false })) (file_of p.file w1)) (sym c.self.view_is)
    (run_end p.file (EachImage (StandsFor (record p { tried = v; closed = false }))) w w1 (stays g (goal.at.returns-in_err-write_synced-clause-stands g c).After-write_synced))

pub returns-clause-stands : goal.returns-clause-stands
unfolding next
returns-clause-stands g c =
    let p = c.args.self.now in
    let v = c.args.value.now in
    let w = g.S.Outside.world c.args.store.now in
    let w1 = g.S.Outside.world c.write_synced.new.store in
    put_done (IsFilled p v) _ p.file (512 * (1 - p.place)) (OPEN ∷ []) w w1
    (λ d h. open_done p v d h _ (ap (λ (k : PairState). 1 - k.place) c.self.view_is) (ap (λ (k : PairState). next k.sequence) c.self.view_is) refl refl) c.requires.filled (g.met.S.Store.reads_image c.args.store.now p.file)
    (puts_at c.self.inside.file p.file c.other_start.result (512 * (1 - p.place)) (OPEN ∷ []) w w1 (ap (λ (k : PairState). k.file) c.self.view_is)
    (c.other_start.ensures.value ∙ ap (λ (k : PairState). 512 * (1 - k.place)) c.self.view_is) c.in_ok-write_synced.ensures.done)
