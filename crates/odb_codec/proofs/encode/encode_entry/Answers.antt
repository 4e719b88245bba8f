use Rattle.std.proofs.Common.{[], ◌∷◌, ◌++◌, length, ◌∙◌}
use Rattle.std.specs.Int.{w16, to_be_bytes}
use Rattle.odb_codec.specs.Image.{write_image, IsTypedWrite}
use Rattle.odb_codec.proofs.Putting.{image_more, all_more, entry_put}
use Rattle.odb_codec.proofs.encode.encode_entry.Goals as goal

pub loop-write-preserved : goal.loop-write-preserved
loop-write-preserved c =
    let ws = c.as_slice-writes.result.now in
    record {
      image = image_more write_image ((c.args.e.now.by ∷ []) ++ to_be_bytes w16 (length ws)) c.loop-write.out.items c.put_write.new.out.items ws c.loop-write.write-index c.write-item.result c.loop-write-test.true c.write-item.is c.loop-write.invariant.image c.in_ok-put_write.ensures.image;
      typed = all_more IsTypedWrite ws c.loop-write.write-index c.write-item.result c.loop-write-test.true c.write-item.is c.loop-write.invariant.typed c.in_ok-put_write.ensures.typed;
    }

pub returns-clause-image : goal.returns-clause-image
returns-clause-image c = entry_put c.args.e.now c.as_slice-writes.result.now c.loop-write.write-index c.from_vec.result c.as_slice-writes.ensures c.loop-write-test.false (c.from_vec.ensures ∙ c.loop-write.invariant.image)
