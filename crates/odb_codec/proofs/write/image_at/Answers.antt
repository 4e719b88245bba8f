use Rattle.std.proofs.Common.{◌≤◌, length, arith}
use Rattle.odb_codec.specs.Reading.{values_in}
use Rattle.odb_codec.proofs.Within.{fault_inside, values_within}
use Rattle.odb_codec.proofs.write.image_at.Goals as goal

pub overflow_add-result : goal.overflow_add-result
overflow_add-result c =
    let front = c.split_at.result.0.now in
    let fault = rw c.in-Err-Fault.field-0-is at c.in-Err-Fault.ensures in
    let inside : c.in-Err-Fault.left ≤ length front = fault_inside (length front) (values_in front) c.in-Err-Fault.left (values_within front) fault in
    omega arith
