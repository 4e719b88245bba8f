use Rattle.std.proofs.Common.{sym, subst}
use Rattle.std.specs.Prelude.{vec_capacity}
use Rattle.odb_memstore.specs.Recording.{Recording}
use Rattle.odb_memstore.specs.Host.{tape_of}
use Rattle.odb_memstore.specs.Standing.{Stands}
use Rattle.odb_memstore.proofs.Standings.{stands_asked}
use Rattle.odb_memstore.proofs.host.MemHost.ask.Goals as goal

pub invariant_of-self : goal.invariant_of-self
invariant_of-self c =
    let h = c.self.inside in
    let tape = tape_of h in
    subst (λ (r : Recording). Stands h.current (vec_capacity h.pieces) (vec_capacity h.said) (record tape { recording = r })) (sym c.ask.ensures.next)
    (stands_asked h.current (vec_capacity h.pieces) (vec_capacity h.said) tape c.self.invariant c.args.call c.requires)
