use Rattle.std.proofs.Common.{sym, ap, subst}
use Rattle.std.specs.Option.{option_copied}
use Rattle.odb_bank.specs.History.{Key}
use Rattle.odb_bank.specs.LeastAbove.{ArePassed}
use Rattle.std.specs.Prelude.{Option}
use Rattle.odb_bank.proofs.Passing.{none_passed, passed_before}
use Rattle.odb_bank.proofs.latest.place_above.Goals as goal

pub returns-in-None-clause-passed : goal.returns-in-None-clause-passed
returns-in-None-clause-passed c =
    subst (λ (o : Option Key). ArePassed o c.args.writes.now 0) (sym (ap option_copied c.in-None.is)) (none_passed c.args.writes.now)

pub returns-in-Some-clause-passed : goal.returns-in-Some-clause-passed
returns-in-Some-clause-passed c =
    subst (λ (o : Option Key). ArePassed o c.args.writes.now c.place_behind.result) (sym (ap option_copied c.in-Some.is))
    (passed_before c.in-Some.before.now c.args.writes.now c.place_behind.result c.place_behind.ensures.within c.place_behind.ensures.splits)
