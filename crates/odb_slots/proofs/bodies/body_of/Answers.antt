use Rattle.std.proofs.Common.{◌∙◌}
use Rattle.std.proofs.lemmas.List.{drop-replicate}
use Rattle.odb_slots.proofs.Imaging.{image_put}
use Rattle.odb_slots.proofs.bodies.body_of.Goals as goal

pub returns-clause-image : goal.returns-clause-image
returns-clause-image c =
    image_put c.args.item.now c.to_be_bytes.result c.to_be_bytes-2.result c.to_be_bytes-3.result c.to_be_bytes-4.result c.as_slice-key.result.now c.as_slice-row.result.now
    c.to_be_bytes.ensures c.to_be_bytes-2.ensures c.to_be_bytes-3.ensures c.to_be_bytes-4.ensures c.as_slice-key.ensures c.as_slice-row.ensures
    c.put.new.out c.put-2.new.out c.put-3.new.out c.put-4.new.out c.put-5.new.out c.put-6.new.out c.put-7.new.out
    c.put.ensures.front (c.put.ensures.rest ∙ drop-replicate 1 1023 0)
    c.put-2.ensures.front c.put-2.ensures.rest c.put-3.ensures.front c.put-3.ensures.rest c.put-4.ensures.front c.put-4.ensures.rest
    c.put-5.ensures.front c.put-5.ensures.rest c.put-6.ensures.front c.put-6.ensures.rest c.put-7.ensures.front c.put-7.ensures.rest
