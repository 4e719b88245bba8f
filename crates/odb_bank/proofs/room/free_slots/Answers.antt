use Rattle.std.proofs.Common.{◌≡◌, ◌+◌, true, false, [], ◌∷◌, ◌++◌, length, sym, ◌∙◌, ap, subst, arith}
use Rattle.std.proofs.lemmas.List.{length_push}
use Rattle.std.specs.BTreeSet.{contains}
use Rattle.std.specs.Ordering.{nat_cmp}
use Rattle.odb_slots.specs.Sets.{IsOneOf}
use Rattle.odb_bank.proofs.FreeSlots.{IsFinding, finding_used, finding_free, found_free, all_found}
use Rattle.odb_bank.proofs.room.free_slots.Goals as goal
use Rattle.odb_bank.proofs.room.free_slots.Goals.{then-not-contains+in_ok-push, else-not-contains}

pub returns-then-len-count : goal.returns-then-len-count
returns-then-len-count c =
    found_free c.args.used.now c.loop-slot.slot-counter c.loop-slot.free.items c.loop-slot.invariant.finds c.args.count (omega arith) (omega arith)

pub loop-slot-preserved : goal.loop-slot-preserved
loop-slot-preserved c =
    let used = c.args.used.now in
    let slot = c.loop-slot.slot-counter in
    let free = c.loop-slot.free.items in
    elim c.if-not-contains.branch [
      | then-not-contains+in_ok-push w ↦
          let items : c.if-not-contains.free.items ≡ free ++ slot ∷ [] = ap (λ v. v.items) w.free-is ∙ w.in_ok-push.ensures.items in
          let out : contains nat_cmp c.in_ok-set.set slot ≡ false = sym c.contains.ensures ∙ w.if-not-contains.true in
          record {
            finds = subst (IsFinding used (slot + 1)) (sym items) (finding_free used slot free c.loop-slot.invariant.finds (λ (one : IsOneOf used slot). let has = c.in_ok-set.ensures.all slot one in cc (out, has)));
            few = omega (arith, ap length items, length_push free slot);
          }
      | else-not-contains w ↦
          let items : c.if-not-contains.free.items ≡ free = ap (λ v. v.items) w.free-is in
          let here : contains nat_cmp c.in_ok-set.set slot ≡ true = sym c.contains.ensures ∙ w.if-not-contains.false in
          record {
            finds = subst (IsFinding used (slot + 1)) (sym items) (finding_used used slot free c.loop-slot.invariant.finds (c.in_ok-set.ensures.used_only slot here));
            few = omega (arith, ap length items);
          }
    ]

pub returns : goal.returns
returns c =
    let enough = all_found c.args.used.now c.loop-slot.free.items c.loop-slot.slot-counter c.args.count c.loop-slot.invariant.finds (omega arith) c.loop-slot.invariant.few in
    found_free c.args.used.now c.loop-slot.slot-counter c.loop-slot.free.items c.loop-slot.invariant.finds c.args.count enough (omega arith)
