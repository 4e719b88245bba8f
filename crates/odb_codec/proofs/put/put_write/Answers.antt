use Rattle.std.proofs.Common.{◌≡◌, ◌++◌, ap, ◌∙◌}
use Rattle.odb_codec.specs.Image.{counted, values_image}
use Rattle.odb_codec.proofs.Putting.{write_put, deletion_put, row_put}
use Rattle.odb_codec.proofs.put.put_write.Goals as goal

pub returns-in_ok-push-in-None-clause-image : goal.returns-in_ok-push-in-None-clause-image
returns-in_ok-push-in-None-clause-image c =
    let w = c.args.write.now in
    let key : c.put_counted.new.out.items ≡ c.put_u32-2.new.out.items ++ counted (values_image w.key) =
    c.in_ok-put_counted.ensures.image ∙ ap (λ vs. c.put_u32-2.new.out.items ++ counted (values_image vs)) c.as_slice.ensures.value in
    write_put w c.args.out.now.items c.put_u32.new.out.items c.put_u32-2.new.out.items c.put_counted.new.out.items c.push.new.self.items c.in_ok-put_u32.ensures c.in_ok-put_u32-2.ensures key
    (deletion_put w.row c.put_counted.new.out.items c.push.new.self.items c.in-None.is c.in_ok-push-in-None.ensures.items)

pub returns-in_ok-put_counted-in-Some-clause-image : goal.returns-in_ok-put_counted-in-Some-clause-image
returns-in_ok-put_counted-in-Some-clause-image c =
    let w = c.args.write.now in
    let key : c.put_counted.new.out.items ≡ c.put_u32-2.new.out.items ++ counted (values_image w.key) =
    c.in_ok-put_counted.ensures.image ∙ ap (λ vs. c.put_u32-2.new.out.items ++ counted (values_image vs)) c.as_slice.ensures.value in
    let row : c.put_counted-in-Some.new.out.items ≡ c.push-in-Some.new.self.items ++ counted (values_image c.in-Some.row) =
    c.in_ok-put_counted-in-Some.ensures.image ∙ ap (λ vs. c.push-in-Some.new.self.items ++ counted (values_image vs)) c.as_slice-in-Some.ensures in
    write_put w c.args.out.now.items c.put_u32.new.out.items c.put_u32-2.new.out.items c.put_counted.new.out.items c.put_counted-in-Some.new.out.items c.in_ok-put_u32.ensures c.in_ok-put_u32-2.ensures key
    (row_put w.row c.in-Some.row c.put_counted.new.out.items c.push-in-Some.new.self.items c.put_counted-in-Some.new.out.items c.in-Some.is c.in_ok-push-in-Some.ensures.items row)
