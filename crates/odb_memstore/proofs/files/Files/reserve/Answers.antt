use Rattle.std.proofs.Common.{length, ap, arith}
use Rattle.odb_memstore.specs.Shelf.{Shelf}
use Rattle.odb_memstore.specs.Numbered.{lengths_of}
use Rattle.odb_memstore.proofs.Laid.{length-contents}
use Rattle.odb_memstore.proofs.Grown.{lengths_laid}
use Rattle.odb_memstore.proofs.files.Files.reserve.Goals as goal

pub returns-clause-more_places : goal.returns-clause-more_places
returns-clause-more_places c =
    omega (arith, c.in_ok-reserve.ensures.ok, length-contents c.self.inside.held.items c.self.inside.bytes.items, ap (λ (t : Shelf). length t.files) c.self.view_is, c.self.inside.held.ok.0)

pub returns-clause-more_room : goal.returns-clause-more_room
returns-clause-more_room c =
    omega (arith, c.in_ok-reserve-2.ensures.ok, lengths_laid c.self.inside.held.items c.self.inside.bytes.items c.self.invariant, ap (λ (t : Shelf). lengths_of t.files) c.self.view_is, c.self.inside.bytes.ok.0)
