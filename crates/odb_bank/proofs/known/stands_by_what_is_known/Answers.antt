use Rattle.std.proofs.Common.{inl, inr, refl}
use Rattle.odb_slots.specs.Sets.{IsOneOf}
use Rattle.odb_bank.specs.Known.{held, either}
use Rattle.odb_bank.proofs.Standing.{stands_known, all_closing, all_same, all_opening, all_opened}
use Rattle.odb_bank.proofs.known.stands_by_what_is_known.Goals as goal

pub returns-clause-image : goal.returns-clause-image
returns-clause-image c = stands_known

pub returns-clause-closing : goal.returns-clause-closing
returns-clause-closing c = all_closing

pub returns-clause-filling : goal.returns-clause-filling
returns-clause-filling c = all_same

pub returns-clause-opening : goal.returns-clause-opening
returns-clause-opening c = λ h a reached mark slots known later quiet run become low stands.
    all_opening h a reached (IsOneOf slots) known later either (λ r. refl) (λ r. inl refl) quiet run become mark low stands

pub returns-clause-opened : goal.returns-clause-opened
returns-clause-opened c = λ h a reached slots known later quiet run become low settled stands. (
  all_opening h a reached (IsOneOf slots) known later held (λ r. refl) (λ r. inr refl) quiet run become a low stands,
  all_opened h a reached (IsOneOf slots) known later held (λ r. refl) (λ r. inr refl) quiet run become low settled stands,
)
