use Rattle.std.proofs.Common.{◌≡◌, [], ◌∷◌, refl, arith, rules, length, replicate}
use Rattle.odb_device.specs.World.{file_of}
use Rattle.odb_device.specs.Images.{EachImage, TornFrom}
use Rattle.odb_device.specs.Calls.{FileCountRose}
use Rattle.odb_device.specs.Moments.{Runs}
use Rattle.odb_device.proofs.Time.{changes_then, rose_behind, on_err}
use Rattle.odb_device.proofs.Puts.{put_done}
use Rattle.odb_device.proofs.Torn.{each_weakens}
use Rattle.odb_pair.specs.Places.{OPEN, Holds}
use Rattle.odb_pair.specs.Standing.{StandsFor, formatted}
use Rattle.odb_pair.proofs.Beside.{run_wider, run_then}
use Rattle.odb_pair.proofs.Opens.{opens_settled}
use Rattle.odb_pair.proofs.Fresh.{IsBlank, IsBegun, each_any, blank_done, begun_done, fresh_done}
use Rattle.odb_pair.proofs.pair.Pair.format.Given.{Over}
use Rattle.odb_pair.proofs.pair.Pair.format.Goals as goal
use Rattle.odb_pair.proofs.pair.Pair.format.Goals.{After-write_synced-2, After-write_synced-3}

-- zeros and the body, whatever the second write answered
begun : (g : Over) (c : After-write_synced-2 g) → Runs c.args.file (TornFrom 0 1024 (file_of c.args.file (g.S.Outside.world c.args.store.now))) (g.S.Outside.world c.args.store.now) (g.S.Outside.world c.write_synced-2.new.store)
begun g c =
    let f = c.args.file in
    let w = g.S.Outside.world c.args.store.now in
    let w1 = g.S.Outside.world c.write_synced.new.store in
    let w2 = g.S.Outside.world c.write_synced-2.new.store in
    let size : length c.body_of.result ≡ 63 = c.body_of.ensures.size in
    run_then f 0 1024 w w1 w2 c.write_synced.ensures.run (run_wider f 1 (length c.body_of.result) 0 1024 w1 w2 (omega arith) (omega arith) c.write_synced-2.ensures.run)

-- and the gate
ended : (g : Over) (c : After-write_synced-3 g) → Runs c.args.file (TornFrom 0 1024 (file_of c.args.file (g.S.Outside.world c.args.store.now))) (g.S.Outside.world c.args.store.now) (g.S.Outside.world c.write_synced-3.new.store)
ended g c =
    let f = c.args.file in
    let w = g.S.Outside.world c.args.store.now in
    let w1 = g.S.Outside.world c.write_synced.new.store in
    let w2 = g.S.Outside.world c.write_synced-2.new.store in
    let w3 = g.S.Outside.world c.write_synced-3.new.store in
    let size : length c.body_of.result ≡ 63 = c.body_of.ensures.size in
    run_then f 0 1024 w w2 w3 (run_then f 0 1024 w w1 w2 c.write_synced.ensures.run (run_wider f 1 (length c.body_of.result) 0 1024 w1 w2 (omega arith) (omega arith) c.write_synced-2.ensures.run))
    (run_wider f 0 1 0 1024 w2 w3 (omega arith) (omega arith) c.write_synced-3.ensures.run)

pub returns-in_err-write_synced-2-clause-run : goal.returns-in_err-write_synced-2-clause-run
returns-in_err-write_synced-2-clause-run g c = begun g (goal.at.returns-in_err-write_synced-2-clause-run g c).After-write_synced-2

pub returns-in_err-write_synced-3-clause-run : goal.returns-in_err-write_synced-3-clause-run
returns-in_err-write_synced-3-clause-run g c = ended g (goal.at.returns-in_err-write_synced-3-clause-run g c).After-write_synced-3

pub returns-clause-run : goal.returns-clause-run
returns-clause-run g c = ended g (goal.at.returns-clause-run g c).After-write_synced-3

-- each image of what they leave
fresh : (g : Over) (c : goal.After-result-2-1 g) → EachImage (StandsFor (formatted c.args.file c.args.value.now)) (file_of c.args.file (g.S.Outside.world c.write_synced-3.new.store))
fresh g c =
    let f = c.args.file in
    let v = c.args.value.now in
    let body = c.body_of.result in
    let made = c.body_of.ensures in
    let w = g.S.Outside.world c.args.store.now in
    let w1 = g.S.Outside.world c.write_synced.new.store in
    let w2 = g.S.Outside.world c.write_synced-2.new.store in
    let w3 = g.S.Outside.world c.write_synced-3.new.store in
    let blank = put_done (λ d. Unit {0}) IsBlank f 0 (replicate 1024 0) w w1 (λ d h. blank_done (replicate 1024 0) d (search rules) (search rules)) (each_any (file_of f w)) (g.met.S.Store.reads_image c.args.store.now f) c.in_ok-write_synced.ensures.done in
    let begun = put_done IsBlank (IsBegun v) f 1 body w1 w2 (λ d h. begun_done v body d h made.size made.sequence made.value) blank (g.met.S.Store.reads_image c.write_synced.new.store f) c.in_ok-write_synced-2.ensures.done in
    put_done (IsBegun v) (StandsFor (formatted f v)) f 0 (OPEN ∷ []) w2 w3 (λ d h. fresh_done f v d h) begun (g.met.S.Store.reads_image c.write_synced-2.new.store f) c.in_ok-write_synced-3.ensures.done

pub returns-clause-stands : goal.returns-clause-stands
returns-clause-stands g c = fresh g c

pub returns-clause-holds : goal.returns-clause-holds
returns-clause-holds g c =
    let pair = formatted c.args.file c.args.value.now in
    each_weakens (StandsFor pair) (Holds c.args.value.now) (file_of c.args.file (g.S.Outside.world c.write_synced-3.new.store)) (λ i h. opens_settled pair i refl h) (fresh g c)

pub returns-in_err-write_synced-3-clause-cause : goal.returns-in_err-write_synced-3-clause-cause
returns-in_err-write_synced-3-clause-cause g c =
    let f = c.args.file in
    let w = g.S.Outside.world c.args.store.now in
    let w1 = g.S.Outside.world c.write_synced.new.store in
    let w2 = g.S.Outside.world c.write_synced-2.new.store in
    let w3 = g.S.Outside.world c.write_synced-3.new.store in
    on_err (FileCountRose f w w3) c.from_residual-in_err-write_synced-3.result
    (rose_behind f f w w2 w3 (changes_then f w w1 w2 c.write_synced.ensures.run.only c.write_synced-2.ensures.run.only) c.in_err-write_synced-3.ensures.cause)
