use Rattle.std.proofs.Common.{◌≡◌, ℕ, ◌^◌, ◌<◌, sym, ◌∙◌, subst, refl, arith}
use Rattle.odb_device.specs.Calls.{Keeps}
use Rattle.odb_device.specs.Told.{IfTold}
use Rattle.odb_extent.specs.Standing.{limit_of, fields_of}
use Rattle.odb_bank.specs.declared.phase.Phase.TheVariants.{Idle}
use Rattle.odb_bank.specs.Fields.{bank_image}
use Rattle.odb_bank.specs.Bank.{BankState}
use Rattle.odb_bank.specs.Finding.{AreSlotsOf}
use Rattle.odb_bank.proofs.OpenedFile.{opening_run, opening_keeps, kept_told, opened_stands, opened_stands_for}
use Rattle.odb_bank.proofs.bank.Bank.open.Goals as goal

pub returns-in_err-slots-clause-run : goal.returns-in_err-slots-clause-run
returns-in_err-slots-clause-run g c =
    opening_run c.args.file (g.S.Outside.world c.args.store.now) (g.S.Outside.world c.open.new.store) (g.S.Outside.world c.tree_in.new.store) c.open.ensures.run c.tree_in.ensures.run

pub returns-in_err-slots-clause-kept : goal.returns-in_err-slots-clause-kept
returns-in_err-slots-clause-kept g c = λ other.
    opening_keeps c.args.file (g.S.Outside.world c.args.store.now) (g.S.Outside.world c.open.new.store) (g.S.Outside.world c.tree_in.new.store) (c.in-Ok.ensures.kept (λ e. cc e)) c.tree_in.ensures.run

pub returns-clause-kept : goal.returns-clause-kept
returns-clause-kept g c = λ other.
    opening_keeps c.args.file (g.S.Outside.world c.args.store.now) (g.S.Outside.world c.open.new.store) (g.S.Outside.world c.tree_in.new.store) (c.in-Ok.ensures.kept (λ e. cc e)) c.tree_in.ensures.run

pub returns-clause-run : goal.returns-clause-run
returns-clause-run g c =
    opening_run c.args.file (g.S.Outside.world c.args.store.now) (g.S.Outside.world c.open.new.store) (g.S.Outside.world c.tree_in.new.store) c.open.ensures.run c.tree_in.ensures.run

pub returns-clause-stands : goal.returns-clause-stands
returns-clause-stands g c =
    let b : BankState = record {
      extents = c.in-Ok.extents;
      bank = c.args.bank;
      mark = c.in-Some.mark;
      reached = c.in-Some.mark;
      phase = Idle;
      run = c.new.result.items;
      slots = c.in_ok-slots.slots;
    } in
    let old = g.S.Outside.world c.args.store.now in
    let mid = g.S.Outside.world c.open.new.store in
    let new = g.S.Outside.world c.tree_in.new.store in
    let keeps : Keeps c.args.file old mid = c.in-Ok.ensures.kept (λ e. cc e) in
    let by_limit = subst (λ (n : ℕ). IfTold c.args.file mid (AreSlotsOf c.args.number n c.in_ok-slots.slots)) c.limit.ensures.value c.in_ok-slots.ensures.answer in
    let are = kept_told c.args.file old mid (AreSlotsOf c.args.number (limit_of b.extents) b.slots) keeps by_limit in
    opened_stands b c.args.number refl c.args.file old mid new keeps c.tree_in.ensures.run are c.in-Ok.ensures.stands

pub returns-clause-history : goal.returns-clause-history
returns-clause-history g c = λ h at.
    let b : BankState = record {
      extents = c.in-Ok.extents;
      bank = c.args.bank;
      mark = c.in-Some.mark;
      reached = c.in-Some.mark;
      phase = Idle;
      run = c.new.result.items;
      slots = c.in_ok-slots.slots;
    } in
    let old = g.S.Outside.world c.args.store.now in
    let mid = g.S.Outside.world c.open.new.store in
    let new = g.S.Outside.world c.tree_in.new.store in
    let keeps : Keeps c.args.file old mid = c.in-Ok.ensures.kept (λ e. cc e) in
    let by_limit = subst (λ (n : ℕ). IfTold c.args.file mid (AreSlotsOf c.args.number n c.in_ok-slots.slots)) c.limit.ensures.value c.in_ok-slots.ensures.answer in
    let are = kept_told c.args.file old mid (AreSlotsOf c.args.number (limit_of b.extents) b.slots) keeps by_limit in
    let found = c.in-Some.ensures.found in
    let fields : fields_of b.extents ≡ bank_image c.args.bank c.in-Some.mark = sym c.fields.ensures ∙ found.0 in
    let small : c.in-Some.mark < 2 ^ 64 = omega (arith, found.1) in
    opened_stands_for b c.args.number refl h fields small (omega arith) refl c.args.file old mid new keeps c.tree_in.ensures.run are c.in-Ok.ensures.stands c.in-Ok.ensures.answer at
