use Rattle.std.proofs.Common.{arith}
use Rattle.std.proofs.lemmas.Result.{on_ok_weaker}
use Rattle.odb_codec.proofs.Lengths.{few_values}
use Rattle.odb_codec.proofs.Putting.{counted_put}
use Rattle.odb_codec.proofs.put.put_counted.Goals as goal

pub width_of_all-requires : goal.width_of_all-requires
width_of_all-requires c = omega (arith, few_values c.args.values.now)

pub returns-clause-image : goal.returns-clause-image
returns-clause-image c =
    on_ok_weaker c.put_values.result (λ put. counted_put c.args.out.now.items c.put_u16.new.out.items c.put_values.new.out.items c.width_of_all.result c.args.values.now c.width_of_all.ensures c.in_ok-put_u16.ensures put) c.put_values.ensures.image
