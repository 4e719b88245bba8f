use Rattle.std.proofs.Common.{arith, unwrap_or}
use Rattle.std.specs.Option.{option_copied}
use Rattle.std.proofs.lemmas.Int.{ints, to_z-of_z}
use Rattle.odb_values.specs.declared.value.Value.{Value}
use Rattle.odb_values.specs.declared.value.Value.TheVariants.{Null}
use Rattle.odb_exec.proofs.Totals.{total-more}
use Rattle.odb_exec.proofs.total.Total.with.Goals as goal

pub returns : goal.returns
returns c = λ values is.
    let v : Value = unwrap_or (option_copied c.args.value) Null in
    total-more values c.args.self v _ _ is (grind (arith, ints, to_z-of_z, c.in_ok-sum.ensures, c.number.ensures)) c.is_some_with.ensures
