use Rattle.std.proofs.Common.{◌∙◌, ◌++◌, append_assoc, sym}
use Rattle.std.specs.Fmt.{decimal}
use Rattle.std.proofs.lemmas.Bool.Decides.{Decides-eqb}
use Rattle.std.proofs.lemmas.List.{append_cancel_left}
use Rattle.std.proofs.lemmas.Slice.Eq.{strip_prefix_is, strip_suffix_is}
use Rattle.odb_parse.proofs.Between.{between_found, between_none}
use Rattle.odb_parse.proofs.control.number_between.Goals as goal

pub returns-in_err-rest-clause-none : goal.returns-in_err-rest-clause-none
returns-in_err-rest-clause-none c =
    let cases = strip_prefix_is Decides-eqb c.args.line.now c.args.before.now c.strip_prefix.result c.strip_prefix.ensures.cases in
    let none = rw c.in_err-rest.was at cases in
    rw c.from_residual.ensures (λ n few whole. none (decimal n ++ c.args.after.now) (whole ∙ append_assoc c.args.before.now (decimal n) c.args.after.now))

pub returns-in_err-number-clause-none : goal.returns-in_err-number-clause-none
returns-in_err-number-clause-none c =
    let fronts = strip_prefix_is Decides-eqb c.args.line.now c.args.before.now c.strip_prefix.result c.strip_prefix.ensures.cases in
    let front = rw c.in_ok-rest.was at fronts in
    let cases = strip_suffix_is Decides-eqb c.in_ok-rest.rest.now c.args.after.now c.strip_suffix.result c.strip_suffix.ensures.cases in
    let none = rw c.in_err-number.was at cases in
    rw c.from_residual-in_err-number.ensures
    (λ n few whole. none (decimal n) (append_cancel_left c.args.before.now _ _ (sym front ∙ whole ∙ append_assoc c.args.before.now (decimal n) c.args.after.now)))

pub returns-clause-found : goal.returns-clause-found
returns-clause-found c =
    let fronts = strip_prefix_is Decides-eqb c.args.line.now c.args.before.now c.strip_prefix.result c.strip_prefix.ensures.cases in
    let front = rw c.in_ok-rest.was at fronts in
    let backs = strip_suffix_is Decides-eqb c.in_ok-rest.rest.now c.args.after.now c.strip_suffix.result c.strip_suffix.ensures.cases in
    let back = rw c.in_ok-number.was at backs in
    between_found _ _ _ _ _ c.decimal_of.result front back c.decimal_of.ensures.found

pub returns-clause-none : goal.returns-clause-none
returns-clause-none c =
    let fronts = strip_prefix_is Decides-eqb c.args.line.now c.args.before.now c.strip_prefix.result c.strip_prefix.ensures.cases in
    let front = rw c.in_ok-rest.was at fronts in
    let backs = strip_suffix_is Decides-eqb c.in_ok-rest.rest.now c.args.after.now c.strip_suffix.result c.strip_suffix.ensures.cases in
    let back = rw c.in_ok-number.was at backs in
    between_none _ _ _ _ _ c.decimal_of.result front back c.decimal_of.ensures.none
