use Rattle.std.proofs.Common.{ap, arith}
use Rattle.odb_memstore.specs.Shelf.{Shelf}
use Rattle.odb_memstore.specs.Numbered.{lengths_of}
use Rattle.odb_memstore.proofs.Grown.{lengths_laid}
use Rattle.odb_memstore.proofs.files.Files.total.Goals as goal

pub returns-clause-total : goal.returns-clause-total
returns-clause-total c =
    omega (arith, c.len.ensures, c.self.inside.bytes.ok.0, lengths_laid c.self.inside.held.items c.self.inside.bytes.items c.self.invariant, ap (λ (t : Shelf). lengths_of t.files) c.self.view_is)
