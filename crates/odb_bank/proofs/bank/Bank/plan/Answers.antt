use Rattle.std.proofs.Common.{◌≡◌, ℕ, List, length, Err, Ok, sym, subst, refl, arith}
use Rattle.std.specs.Prelude.{map}
use Rattle.std.proofs.lemmas.List.{length-map}
use Rattle.odb_bank.specs.declared.begin.Plan.{Plan}
use Rattle.odb_bank.specs.declared.error.BankError.TheVariants.{Limit}
use Rattle.odb_bank.specs.declared.kept.Kept.{Kept}
use Rattle.odb_bank.specs.declared.latest.Addition.{Addition}
use Rattle.odb_bank.specs.Additions.{record_of}
use Rattle.odb_bank.specs.Bank.{BankState}
use Rattle.odb_bank.specs.Begun.{IsReachAnswer, IsPlanAnswer}
use Rattle.odb_bank.specs.Closing.{closing_of, staying_of}
use Rattle.odb_bank.specs.Filling.{AreItemsFor, AreKeptFor}
use Rattle.odb_bank.specs.Room.{AreFree}
use Rattle.odb_bank.proofs.Planning.{plan_lacks, plan_made}
use Rattle.odb_bank.proofs.bank.Bank.plan.Goals as goal

pub returns-then-len : goal.returns-then-len
returns-then-len c =
    let v : BankState = record {
      extents = c.self.inside.extents;
      bank = c.self.inside.bank;
      mark = c.self.inside.mark;
      reached = c.self.inside.reached;
      phase = c.self.inside.phase;
      run = c.self.inside.run.items;
      slots = c.self.inside.slots;
    } in
    let entries = c.args.entries.now in
    let reach : IsReachAnswer v entries (Ok c.in_ok-reached.reached) = subst (λ (b : BankState). IsReachAnswer b entries (Ok c.in_ok-reached.reached)) (sym c.self.view_is) c.in_ok-reached.ensures in
    let staying = c.in_ok-staying.staying.items in
    let stays : staying ≡ map (λ (it : Kept). it.slot) (staying_of v) = c.in_ok-staying.ensures in
    let found = c.in_ok-additions.additions.items in
    subst (λ (b : BankState). IsPlanAnswer b entries (Err Limit)) c.self.view_is
    (plan_lacks v entries c.in_ok-reached.reached reach staying stays (map record_of found) c.in_ok-additions.ensures.all (omega (arith, length-map found record_of)))

pub returns : goal.returns
returns c =
    let v : BankState = record {
      extents = c.self.inside.extents;
      bank = c.self.inside.bank;
      mark = c.self.inside.mark;
      reached = c.self.inside.reached;
      phase = c.self.inside.phase;
      run = c.self.inside.run.items;
      slots = c.self.inside.slots;
    } in
    let entries = c.args.entries.now in
    let reach : IsReachAnswer v entries (Ok c.in_ok-reached.reached) = subst (λ (b : BankState). IsReachAnswer b entries (Ok c.in_ok-reached.reached)) (sym c.self.view_is) c.in_ok-reached.ensures in
    let staying = c.in_ok-staying.staying.items in
    let stays : staying ≡ map (λ (it : Kept). it.slot) (staying_of v) = c.in_ok-staying.ensures in
    let found = c.in_ok-additions.additions.items in
    let p : Plan = record {
      closing = c.in_ok-closing.closing;
      additions = c.in_ok-additions.additions;
      run = c.in_ok-run.run';
      items = c.in_ok-items.items;
      kept = c.in_ok-kept.kept;
      reached = c.in_ok-reached.reached;
    } in
    let closes : p.closing.items ≡ closing_of v = c.in_ok-closing.ensures in
    let count : c.len-3.result ≡ length found = omega arith in
    let free : AreFree staying (length found) p.run.items =
    subst (λ (l : List ℕ). AreFree l (length found) p.run.items) c.deref.ensures.value
    (subst (λ (n : ℕ). AreFree c.deref.result.now n p.run.items) count c.in_ok-run.ensures) in
    let items : AreItemsFor p.run.items (map record_of found) p.items.items (length found) =
    subst (λ (l : List ℕ). AreItemsFor l (map record_of found) p.items.items (length found)) c.deref-2.ensures.value
    (subst (λ (l : List Addition). AreItemsFor c.deref-2.result.now (map record_of l) p.items.items (length l)) c.deref-3.ensures.value c.in_ok-items.ensures) in
    let keeps : AreKeptFor p.run.items (map record_of found) p.kept.items (length found) =
    subst (λ (l : List ℕ). AreKeptFor l (map record_of found) p.kept.items (length found)) c.deref-4.ensures.value
    (subst (λ (l : List Addition). AreKeptFor c.deref-4.result.now (map record_of l) p.kept.items (length l)) c.deref-5.ensures.value c.in_ok-kept.ensures) in
    subst (λ (b : BankState). IsPlanAnswer b entries (Ok p)) c.self.view_is
    (plan_made v entries c.in_ok-reached.reached reach staying stays p refl closes c.in_ok-additions.ensures.all (omega (arith, c.if-len.false, c.len.ensures, c.len-2.ensures)) free items keeps)
