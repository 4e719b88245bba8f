use Rattle.std.proofs.Common.{◌≡◌, sym, ◌∙◌, ap, arith}
use Rattle.odb_device.specs.World.{file_of}
use Rattle.odb_device.proofs.Torn.{each_weakens}
use Rattle.odb_pair.specs.Places.{Holds as PairHolds}
use Rattle.odb_extent.specs.Opened.{limit_in}
use Rattle.odb_extent.specs.Standing.{ExtentState, limit_of, fields_of, HoldsAt}
use Rattle.odb_extent.proofs.Putting.{holds_at, adds_none}
use Rattle.odb_extent.proofs.extents.Extents.open.Goals as goal

pub returns-clause-holds : goal.returns-clause-holds
returns-clause-holds g c =
    let e : ExtentState = record { pair = c.in_ok-pair.pair; most = c.args.most } in
    let limit : limit_of e ≡ c.limit_in-limit.result = sym (c.limit_in-limit.ensures ∙ ap limit_in c.value.ensures.value) in
    each_weakens (PairHolds e.pair.value) (HoldsAt e (limit_of e) (fields_of e)) (file_of c.args.file (g.S.Outside.world c.open.new.store))
    (λ image h. holds_at e e.pair.value image (omega (arith, limit)) (omega (arith, limit)) (adds_none (limit_of e) image) h) c.in_ok-pair.ensures.holds
