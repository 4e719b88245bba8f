use Rattle.std.proofs.Common.{◌≡◌, ◌+◌, ◌-◌, ap, arith}
use Rattle.odb_memstore.specs.Shelf.{Shelf}
use Rattle.odb_memstore.specs.Numbered.{bytes_of}
use Rattle.odb_memstore.proofs.Laid.{bytes_of-contents}
use Rattle.odb_memstore.proofs.files.Files.bytes.Goals as goal

pub returns : goal.returns
returns c =
    let back : c.spot_of-spot.result.start + c.spot_of-spot.result.len - c.spot_of-spot.result.start ≡ c.spot_of-spot.result.len = omega arith in
    let here = bytes_of-contents c.self.inside.held.items c.self.inside.bytes.items c.args.file in
    let shown = ap (λ (t : Shelf). bytes_of t.files c.args.file) c.self.view_is in
    cc
