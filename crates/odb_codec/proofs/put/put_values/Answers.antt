use Rattle.odb_codec.specs.Image.{value_image, IsTyped}
use Rattle.odb_codec.proofs.Putting.{image_more, all_more}
use Rattle.odb_codec.proofs.put.put_values.Goals as goal

pub loop-value-preserved : goal.loop-value-preserved
loop-value-preserved c = record {
  image = image_more value_image c.args.out.now.items c.loop-value.out.items c.put_value.new.out.items c.args.values.now c.loop-value.value-index c.value-item.result c.loop-value-test.true c.value-item.is c.loop-value.invariant.image c.in_ok-put_value.ensures.image;
  typed = all_more IsTyped c.args.values.now c.loop-value.value-index c.value-item.result c.loop-value-test.true c.value-item.is c.loop-value.invariant.typed c.in_ok-put_value.ensures.typed;
}
