use Rattle.std.proofs.Common.{◌≡◌, ◌++◌, length, ap, ◌∙◌, arith}
use Rattle.odb_codec.specs.Image.{values_image}
use Rattle.odb_codec.proofs.Agree.{length-values_image}
use Rattle.odb_codec.proofs.Lengths.{few_values}
use Rattle.odb_codec.proofs.encode.encode_values.Goals as goal

pub width_of_all-requires : goal.width_of_all-requires
width_of_all-requires c = omega (arith, few_values c.args.values.now)

pub returns-clause-width : goal.returns-clause-width
returns-clause-width c =
    let image : c.from_vec.result ≡ values_image c.args.values.now =
    c.from_vec.ensures ∙ c.in_ok-put_values.ensures.image ∙ ap (λ front. front ++ values_image c.args.values.now) c.in_ok-out.ensures.items in
    ap length image ∙ length-values_image c.args.values.now
