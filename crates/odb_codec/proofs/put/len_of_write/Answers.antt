use Rattle.std.proofs.Common.{ap, arith, length}
use Rattle.odb_values.specs.Key.{width_of_all}
use Rattle.odb_codec.proofs.Lengths.{length_deleted, length_put, few_in_row}
use Rattle.odb_codec.proofs.put.len_of_write.Goals as goal

pub width_of_all-requires : goal.width_of_all-requires
width_of_all-requires c = omega (arith, few_in_row c.args.write.now c.in-Some.row c.in-Some.is c.requires, ap length c.as_slice-in-Some.ensures)

pub returns-in-None-clause-value : goal.returns-in-None-clause-value
returns-in-None-clause-value c = omega (arith, length_deleted c.args.write.now c.in-None.is, c.width_of_all-key.ensures, ap width_of_all c.as_slice.ensures.value)

pub returns-in-Some-clause-value : goal.returns-in-Some-clause-value
returns-in-Some-clause-value c =
    omega (arith, length_put c.args.write.now c.in-Some.row c.in-Some.is, c.width_of_all-key.ensures, ap width_of_all c.as_slice.ensures.value, c.width_of_all.ensures, ap width_of_all c.as_slice-in-Some.ensures)
