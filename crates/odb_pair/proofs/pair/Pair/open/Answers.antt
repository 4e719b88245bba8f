use Rattle.std.proofs.Common.{◌≡◌, refl, sym, ◌∙◌, subst, rules, take, length, Option, Ok, Err}
use Rattle.std.specs.Prelude.{option_map, IfSome}
use Rattle.std.proofs.lemmas.Result.{err_from_is_err_and}
use Rattle.odb_device.specs.World.{File, file_of}
use Rattle.odb_device.specs.Images.{TornFrom, kept}
use Rattle.odb_device.specs.Moments.{Runs}
use Rattle.odb_device.proofs.Time.{begins, goes_on}
use Rattle.odb_device.proofs.Torn.{stays_from}
use Rattle.odb_device.proofs.OneCall.{sync_from}
use Rattle.odb_pair.specs.Places.{Holds}
use Rattle.odb_pair.specs.CountingPlace.{pair_at}
use Rattle.odb_pair.specs.Standing.{StandsFor}
use Rattle.odb_pair.proofs.Front.{fronts, each_kept, answer_front, stands_read}
use Rattle.odb_pair.proofs.pair.Pair.open.Given.{Over}
use Rattle.odb_pair.proofs.pair.Pair.open.Goals as goal
use Rattle.odb_pair.proofs.pair.Pair.open.Goals.{After-read_places}

abbrev before : (g : Over) → After-read_places g → Option File
before g c = file_of c.args.file (g.S.Outside.world c.args.store.now)

abbrev after : (g : Over) → After-read_places g → Option File
after g c = file_of c.args.file (g.S.Outside.world c.read_at.new.self)

-- each moment of the two calls has the images from before
run : (g : Over) (c : After-read_places g) → Runs c.args.file (TornFrom 0 0 (before g c)) (g.S.Outside.world c.args.store.now) (g.S.Outside.world c.read_at.new.self)
run g c =
    let f = c.args.file in
    let w = g.S.Outside.world c.args.store.now in
    let w1 = g.S.Outside.world c.sync.new.self in
    let w2 = g.S.Outside.world c.read_at.new.self in
    let P = TornFrom 0 0 (file_of f w) in
    let from = stays_from 0 0 (file_of f w) (file_of f w) refl in
    let synced = sync_from f w w1 c.sync.result 0 0 w from (g.met.S.Store.reads_image c.args.store.now f) c.sync.ensures.kept c.sync.ensures.unsettled in
    let one = goes_on f P w w w1 (begins f P w from) c.sync.ensures.call synced in
    goes_on f P w w1 w2 one c.read_at.ensures.call (subst P (sym c.read_at.ensures.same) synced)

keeps : (g : Over) (c : After-read_places g) → after g c ≡ option_map kept (before g c)
keeps g c = c.read_at.ensures.same ∙ c.in_ok-sync.ensures.kept

-- what was read is the front of the file
front : (g : Over) (c : After-read_places g) → IfSome (before g c) (λ f. take c.in_ok-n.n c.read_at.new.out ≡ take 1024 f.bytes)
front g c =
    let size : length c.read_at.new.out ≡ 1024 = search rules in
    fronts (before g c) (file_of c.args.file (g.S.Outside.world c.sync.new.self)) c.in_ok-n.n c.read_at.new.out c.in_ok-sync.ensures.kept c.in_ok-n.ensures.bytes size

pub returns-in_err-counting-clause-run : goal.returns-in_err-counting-clause-run
returns-in_err-counting-clause-run g c = run g (goal.at.returns-in_err-counting-clause-run g c).After-read_places

pub returns-in_err-counting-clause-answer : goal.returns-in_err-counting-clause-answer
returns-in_err-counting-clause-answer g c =
    let p = err_from_is_err_and c.from_residual-in_err-counting.result c.from_residual-in_err-counting.ensures.1 in
    let at = (goal.at.returns-in_err-counting-clause-answer g c).After-read_places in
    rw (p.1, p.2) (answer_front (Err c.in_err-counting.field-0.0) c.in_ok-n.n c.read_at.new.out _ (front g at) c.in_err-counting.ensures.answer)

pub returns-clause-run : goal.returns-clause-run
returns-clause-run g c = run g (goal.at.returns-clause-run g c).After-read_places

pub returns-clause-answer : goal.returns-clause-answer
returns-clause-answer g c = answer_front (Ok c.in_ok-counting.counting.value) c.in_ok-n.n c.read_at.new.out _ (front g (goal.at.returns-clause-answer g c).After-read_places) c.in_ok-counting.ensures.answer

pub returns-clause-stands : goal.returns-clause-stands
returns-clause-stands g c =
    let at = (goal.at.returns-clause-stands g c).After-read_places in
    let pair = pair_at c.args.file c.in_ok-counting.counting in
    each_kept (StandsFor pair) (before g at) (after g at) (keeps g at) (stands_read pair c.in_ok-n.n c.read_at.new.out _ (front g at) (c.in_ok-counting.ensures.stands c.args.file))

pub returns-clause-holds : goal.returns-clause-holds
returns-clause-holds g c =
    let at = (goal.at.returns-clause-holds g c).After-read_places in
    let value = c.in_ok-counting.counting.value in
    each_kept (Holds value) (before g at) (after g at) (keeps g at) (answer_front (Ok value) c.in_ok-n.n c.read_at.new.out _ (front g at) c.in_ok-counting.ensures.answer)
