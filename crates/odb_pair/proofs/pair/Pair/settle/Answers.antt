use Rattle.std.proofs.Common.{◌≡◌, refl, sym, ◌∙◌, ap}
use Rattle.odb_device.specs.World.{file_of}
use Rattle.odb_device.specs.Images.{EachImage, TornFrom}
use Rattle.odb_device.proofs.Time.{begins}
use Rattle.odb_device.proofs.Torn.{each_weakens, stays_from}
use Rattle.odb_pair.specs.Places.{Holds}
use Rattle.odb_pair.specs.Standing.{PairState, StandsFor, HoldsKept}
use Rattle.odb_pair.proofs.Opens.{opens, opens_settled}
use Rattle.odb_pair.proofs.pair.Pair.settle.Goals as goal

pub returns-then-self-clause-run : goal.returns-then-self-clause-run
returns-then-self-clause-run g c =
    let p = c.args.self.now in
    let w = g.S.Outside.world c.args.store.now in
    record {
      run = begins p.file (EachImage (HoldsKept p)) w (each_weakens (StandsFor p) (HoldsKept p) (file_of p.file w) (opens p) c.requires);
      beside = begins p.file (TornFrom 0 1024 (file_of p.file w)) w (stays_from 0 1024 (file_of p.file w) (file_of p.file w) refl);
    }

pub returns-then-self-clause-holds : goal.returns-then-self-clause-holds
returns-then-self-clause-holds g c =
    let p = c.args.self.now in
    let w = g.S.Outside.world c.args.store.now in
    let same : p.tried ≡ p.value = ap (λ (k : PairState). k.tried) (sym c.self.view_is) ∙ c.self.invariant.settled c.if-self.true ∙ ap (λ (k : PairState). k.value) c.self.view_is in
    each_weakens (StandsFor p) (Holds p.value) (file_of p.file w) (λ i h. opens_settled p i same h) c.requires
