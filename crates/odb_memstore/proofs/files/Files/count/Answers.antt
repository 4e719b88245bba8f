use Rattle.std.proofs.Common.{length, ap, arith}
use Rattle.odb_memstore.specs.Shelf.{Shelf}
use Rattle.odb_memstore.proofs.Laid.{length-contents}
use Rattle.odb_memstore.proofs.files.Files.count.Goals as goal

pub returns-clause-count : goal.returns-clause-count
returns-clause-count c = omega (arith, c.len.ensures, length-contents c.self.inside.held.items c.self.inside.bytes.items, ap (λ (t : Shelf). length t.files) c.self.view_is, c.self.inside.held.ok.0)
