use Rattle.std.proofs.Common.{◌*◌, List, subst}
use Rattle.std.specs.List.Sorted.{IsPermutation}
use Rattle.odb_device.specs.World.{file_of}
use Rattle.odb_bank.specs.declared.kept.Kept.{Kept}
use Rattle.odb_bank.proofs.Permuted.{told_permuted, apart_kept}
use Rattle.odb_bank.proofs.opens.tree_in.Goals as goal

pub returns-clause-answer : goal.returns-clause-answer
returns-clause-answer g c =
    let same : IsPermutation c.in_ok-slots.slots c.in_ok-tree_of.field-0 = subst (λ (l : List Kept). IsPermutation l c.in_ok-tree_of.field-0) c.into_vec.ensures c.in_ok-tree_of.ensures in
    told_permuted c.args.number c.args.limit c.in_ok-slots.slots c.in_ok-tree_of.field-0 same (file_of c.args.file (g.S.Outside.world c.args.store.now)) c.in_ok-slots.ensures.answer

pub returns-clause-sound : goal.returns-clause-sound
returns-clause-sound g c =
    let same : IsPermutation c.in_ok-slots.slots c.in_ok-tree_of.field-0 = subst (λ (l : List Kept). IsPermutation l c.in_ok-tree_of.field-0) c.into_vec.ensures c.in_ok-tree_of.ensures in
    apart_kept (1024 * c.args.limit) c.in_ok-slots.slots c.in_ok-tree_of.field-0 same c.in_ok-slots.ensures.sound
