use Rattle.std.proofs.Common.{◌∙◌, ap, arith}
use Rattle.std.proofs.lemmas.List.{take_all}
use Rattle.odb_model.specs.State.{after_writes, part_in, replay}
use Rattle.odb_plain.proofs.Inside.{inside, part_in-empty, part_in-item, part_in-after_writes}
use Rattle.odb_plain.proofs.part.rows_in.Goals as goal

pub loop-entry-init : goal.loop-entry-init
loop-entry-init c = c.new-rows.ensures ∙ part_in-empty c.args.range.now

pub loop-entry-preserved : goal.loop-entry-preserved
loop-entry-preserved c =
    let range = c.args.range.now in
    c.in_ok-put_inside.ensures
    ∙ ap (λ ws. after_writes c.loop-entry.rows (inside range ws)) c.as_slice.ensures
    ∙ ap (λ m. after_writes m (inside range c.entry-item.result.writes)) c.loop-entry.invariant
    ∙ part_in-item range c.args.history.now c.loop-entry.entry-index c.entry-item.result c.loop-entry-test.true c.entry-item.is

pub returns : goal.returns
returns c =
    let range = c.args.range.now in
    c.in_ok-put_inside-2.ensures
    ∙ ap (λ m. after_writes m (inside range c.args.write_set.now)) (c.loop-entry.invariant ∙ ap (λ h. part_in range (replay h)) (take_all c.loop-entry.entry-index c.args.history.now (omega arith)))
    ∙ part_in-after_writes range (replay c.args.history.now) c.args.write_set.now
