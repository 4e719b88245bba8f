use Rattle.std.proofs.Common.{◌≡◌, ◌^◌, ◌<◌, sym, subst, arith, rules}
use Rattle.odb_device.specs.World.{file_of}
use Rattle.odb_device.specs.Images.{EachImage}
use Rattle.odb_device.specs.Moments.{Runs}
use Rattle.odb_device.proofs.Time.{run_end}
use Rattle.odb_extent.specs.Standing.{limit_of, HoldsAt}
use Rattle.odb_bank.specs.declared.phase.Phase.{Phase}
use Rattle.odb_bank.specs.declared.phase.Phase.TheVariants.{Idle, Gates}
use Rattle.odb_bank.specs.History.{History}
use Rattle.odb_bank.specs.Fields.{bank_image}
use Rattle.odb_bank.specs.Files.{StandsAt}
use Rattle.odb_bank.specs.Bank.{BankState, file_number, Stands, StandsFor, StandsByMark}
use Rattle.odb_bank.proofs.MarkTurn.{fields_put, with_mark, put_stands, raise_run, raise_done, raise_over, raise_again}
use Rattle.odb_bank.proofs.bank.Bank.raise_mark.Goals as goal

pub returns-in-Ok-clause-run : goal.returns-in-Ok-clause-run
returns-in-Ok-clause-run g c =
    let v : BankState = record {
      extents = c.self.inside.extents;
      bank = c.self.inside.bank;
      mark = c.self.inside.mark;
      reached = c.self.inside.reached;
      phase = c.self.inside.phase;
      run = c.self.inside.run.items;
      slots = c.self.inside.slots;
    } in
    let w = g.S.Outside.world c.args.store.now in
    let now = g.S.Outside.world c.put_fields.new.store in
    let small : c.self.inside.reached < 2 ^ 64 = omega arith in
    let runs = fields_put v.extents v.bank v.reached c.image.result w now c.image.ensures c.put_fields.ensures.run in
    subst (λ (b : BankState). (h : History) → b.phase ≡ Gates → StandsFor h b (file_of (file_number b) w) → Runs (file_number b) (EachImage (StandsByMark h b)) w now) c.self.view_is
    (λ h gates stands. raise_run v c.self.inside.file c.self.invariant gates small w now runs h stands)

pub returns-in-Ok-clause-complete : goal.returns-in-Ok-clause-complete
returns-in-Ok-clause-complete g c =
    let v : BankState = record {
      extents = c.self.inside.extents;
      bank = c.self.inside.bank;
      mark = c.self.inside.mark;
      reached = c.self.inside.reached;
      phase = c.self.inside.phase;
      run = c.self.inside.run.items;
      slots = c.self.inside.slots;
    } in
    let w = g.S.Outside.world c.args.store.now in
    let now = g.S.Outside.world c.put_fields.new.store in
    let small : c.self.inside.reached < 2 ^ 64 = omega arith in
    let runs = fields_put v.extents v.bank v.reached c.image.result w now c.image.ensures c.put_fields.ensures.run in
    let phase : ◌≡◌ {A = Phase} c.self.inside.phase Gates = search rules in
    subst (λ (b : BankState). (h : History) → StandsFor h b (file_of (file_number b) w) → EachImage (StandsAt b.bank h c.self.inside.reached) (file_of (file_number b) now)) c.self.view_is
    (λ h stands. raise_done v c.self.inside.file c.self.invariant phase small w now runs h stands
    (subst (λ (f : _). EachImage (HoldsAt v.extents (limit_of v.extents) f) (file_of (file_number v) now)) c.image.ensures c.in-Ok.ensures.holds))

pub returns-in-Ok-clause-stands : goal.returns-in-Ok-clause-stands
returns-in-Ok-clause-stands g c =
    let v : BankState = record {
      extents = c.self.inside.extents;
      bank = c.self.inside.bank;
      mark = c.self.inside.mark;
      reached = c.self.inside.reached;
      phase = c.self.inside.phase;
      run = c.self.inside.run.items;
      slots = c.self.inside.slots;
    } in
    let w = g.S.Outside.world c.args.store.now in
    let now = g.S.Outside.world c.put_fields.new.store in
    let small : c.self.inside.reached < 2 ^ 64 = omega arith in
    let runs = fields_put v.extents v.bank v.reached c.image.result w now c.image.ensures c.put_fields.ensures.run in
    let e = c.put_fields.new.self in
    let same = c.in-Ok.ensures.put.limit_is in
    let before : Stands v (file_of (file_number v) w) = subst (λ (b : BankState). Stands b (file_of (file_number b) w)) (sym c.self.view_is) c.requires in
    subst (λ (b : BankState). Stands (with_mark v e v.reached Idle) (file_of (file_number b) now)) c.self.view_is
    (put_stands v w now (limit_of v.extents) (bank_image v.bank v.reached) runs e same c.put_fields.ensures.stands v.reached Idle before)

pub returns-in-Ok-clause-history : goal.returns-in-Ok-clause-history
returns-in-Ok-clause-history g c =
    let v : BankState = record {
      extents = c.self.inside.extents;
      bank = c.self.inside.bank;
      mark = c.self.inside.mark;
      reached = c.self.inside.reached;
      phase = c.self.inside.phase;
      run = c.self.inside.run.items;
      slots = c.self.inside.slots;
    } in
    let w = g.S.Outside.world c.args.store.now in
    let now = g.S.Outside.world c.put_fields.new.store in
    let small : c.self.inside.reached < 2 ^ 64 = omega arith in
    let runs = fields_put v.extents v.bank v.reached c.image.result w now c.image.ensures c.put_fields.ensures.run in
    let phase : ◌≡◌ {A = Phase} c.self.inside.phase Gates = search rules in
    let e = c.put_fields.new.self in
    let same = c.in-Ok.ensures.put.limit_is in
    subst (λ (b : BankState). (h : History) → StandsFor h b (file_of (file_number b) w) → StandsFor h (with_mark v e v.reached Idle) (file_of (file_number b) now)) c.self.view_is
    (λ h stands.
    let done = raise_done v c.self.inside.file c.self.invariant phase small w now runs h stands
    (subst (λ (f : _). EachImage (HoldsAt v.extents (limit_of v.extents) f) (file_of (file_number v) now)) c.image.ensures c.in-Ok.ensures.holds) in
    raise_over v c.self.inside.file c.self.invariant phase small w now runs e same c.put_fields.ensures.stands h done stands)

pub returns-in-Err-clause-run : goal.returns-in-Err-clause-run
returns-in-Err-clause-run g c =
    let v : BankState = record {
      extents = c.self.inside.extents;
      bank = c.self.inside.bank;
      mark = c.self.inside.mark;
      reached = c.self.inside.reached;
      phase = c.self.inside.phase;
      run = c.self.inside.run.items;
      slots = c.self.inside.slots;
    } in
    let w = g.S.Outside.world c.args.store.now in
    let now = g.S.Outside.world c.put_fields.new.store in
    let small : c.self.inside.reached < 2 ^ 64 = omega arith in
    let runs = fields_put v.extents v.bank v.reached c.image.result w now c.image.ensures c.put_fields.ensures.run in
    subst (λ (b : BankState). (h : History) → b.phase ≡ Gates → StandsFor h b (file_of (file_number b) w) → Runs (file_number b) (EachImage (StandsByMark h b)) w now) c.self.view_is
    (λ h gates stands. raise_run v c.self.inside.file c.self.invariant gates small w now runs h stands)

pub returns-in-Err-clause-stands : goal.returns-in-Err-clause-stands
returns-in-Err-clause-stands g c =
    let v : BankState = record {
      extents = c.self.inside.extents;
      bank = c.self.inside.bank;
      mark = c.self.inside.mark;
      reached = c.self.inside.reached;
      phase = c.self.inside.phase;
      run = c.self.inside.run.items;
      slots = c.self.inside.slots;
    } in
    let w = g.S.Outside.world c.args.store.now in
    let now = g.S.Outside.world c.put_fields.new.store in
    let small : c.self.inside.reached < 2 ^ 64 = omega arith in
    let runs = fields_put v.extents v.bank v.reached c.image.result w now c.image.ensures c.put_fields.ensures.run in
    let e = c.put_fields.new.self in
    let same = c.in-Err.ensures.tried.limit_is in
    let before : Stands v (file_of (file_number v) w) = subst (λ (b : BankState). Stands b (file_of (file_number b) w)) (sym c.self.view_is) c.requires in
    subst (λ (b : BankState). Stands (with_mark v e v.mark v.phase) (file_of (file_number b) now)) c.self.view_is
    (put_stands v w now (limit_of v.extents) (bank_image v.bank v.reached) runs e same c.put_fields.ensures.stands v.mark v.phase before)

pub returns-in-Err-clause-history : goal.returns-in-Err-clause-history
returns-in-Err-clause-history g c =
    let v : BankState = record {
      extents = c.self.inside.extents;
      bank = c.self.inside.bank;
      mark = c.self.inside.mark;
      reached = c.self.inside.reached;
      phase = c.self.inside.phase;
      run = c.self.inside.run.items;
      slots = c.self.inside.slots;
    } in
    let w = g.S.Outside.world c.args.store.now in
    let now = g.S.Outside.world c.put_fields.new.store in
    let small : c.self.inside.reached < 2 ^ 64 = omega arith in
    let runs = fields_put v.extents v.bank v.reached c.image.result w now c.image.ensures c.put_fields.ensures.run in
    let phase : ◌≡◌ {A = Phase} c.self.inside.phase Gates = search rules in
    let e = c.put_fields.new.self in
    let same = c.in-Err.ensures.tried.limit_is in
    subst (λ (b : BankState). (h : History) → StandsFor h b (file_of (file_number b) w) → StandsFor h (with_mark v e v.mark v.phase) (file_of (file_number b) now)) c.self.view_is
    (λ h stands. subst (λ (p : Phase). StandsFor h (with_mark v e v.mark p) (file_of (file_number v) now)) (sym phase)
    (raise_again v c.self.inside.file c.self.invariant phase small w now runs e same c.put_fields.ensures.stands h
    (run_end (file_number v) (EachImage (StandsByMark h v)) w now (raise_run v c.self.inside.file c.self.invariant phase small w now runs h stands)) stands))
