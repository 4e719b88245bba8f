use Rattle.std.proofs.Common.{List, ◌+◌, length, get_or, map, sym, ◌∙◌, subst, refl, arith}
use Rattle.std.proofs.lemmas.Option.{slice_get_read, slice_get-get_or}
use Rattle.odb_bank.specs.declared.kept.Kept.{Kept}
use Rattle.odb_bank.specs.Additions.{record_of}
use Rattle.odb_bank.specs.Filling.{AreKeptFor}
use Rattle.odb_bank.proofs.Assigned.{kept_more}
use Rattle.odb_bank.proofs.GateTurn.{at_map}
use Rattle.odb_bank.proofs.assigning.kept_of.Goals as goal

pub loop-i-preserved : goal.loop-i-preserved
loop-i-preserved c =
    let run = c.args.free.now in
    let all = c.args.additions.now in
    let i = c.loop-i.i in
    let a = c.index-additions-i.result in
    let there = slice_get_read all (length all) i a refl (omega arith) c.index-additions-i.is in
    let slot = slice_get-get_or run i 0 (omega arith) in
    subst (λ (l : List Kept). AreKeptFor run (map record_of all) l (i + 1)) (sym c.in_ok-push.ensures.items)
    (kept_more run (map record_of all) i (get_or run i 0) (record_of a) slot (at_map record_of all i a there) c.loop-i.kept.items c.in_ok-new.field-0 c.loop-i.invariant (c.in_ok-new.ensures ∙ c.in_ok-it.ensures))
