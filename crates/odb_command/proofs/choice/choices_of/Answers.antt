use Rattle.std.proofs.Common.{◌≡◌, ◌∙◌, false, sym, ap}
use Rattle.odb_command.specs.Chosen.{banks_differ}
use Rattle.odb_command.proofs.Choices.{none_differing, texts_of}
use Rattle.odb_command.proofs.choice.choices_of.Goals as goal

pub returns-then-not-banks_differ-clause-usage : goal.returns-then-not-banks_differ-clause-usage
returns-then-not-banks_differ-clause-usage c =
    let same : banks_differ c.in_ok-choices.choices ≡ false = ap banks_differ (sym c.as_slice.ensures) ∙ sym c.banks_differ.ensures ∙ c.if-not-banks_differ.true in
    λ e. none_differing (texts_of c.args.words.now) c.in_ok-choices.choices c.in_ok-choices.ensures.found same
