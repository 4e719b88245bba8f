use Rattle.std.proofs.Common.{refl, sym, ◌∙◌, ap, arith, rules}
use Rattle.odb_device.specs.World.{file_of}
use Rattle.odb_pair.specs.Standing.{PairState, formatted}
use Rattle.odb_extent.specs.Opened.{limit_in, fields_in}
use Rattle.odb_extent.specs.Standing.{ExtentState}
use Rattle.odb_extent.proofs.Putting.{IsValueOf, made_value, settled_stands}
use Rattle.odb_extent.proofs.Formatting.{blank_run, made_run, made_new}
use Rattle.odb_extent.proofs.extents.Extents.format.Goals as goal

pub returns-in_err-zero_extent-clause-run : goal.returns-in_err-zero_extent-clause-run
returns-in_err-zero_extent-clause-run g c = blank_run c.args.file (g.S.Outside.world c.args.store.now) (g.S.Outside.world c.zero_extent.new.store) c.zero_extent.ensures.run

pub returns-in_err-pair-clause-run : goal.returns-in_err-pair-clause-run
returns-in_err-pair-clause-run g c = made_run c.args.file (g.S.Outside.world c.args.store.now) (g.S.Outside.world c.zero_extent.new.store) (g.S.Outside.world c.format.new.store) c.zero_extent.ensures.run c.format.ensures.run

pub returns-clause-run : goal.returns-clause-run
returns-clause-run g c = made_run c.args.file (g.S.Outside.world c.args.store.now) (g.S.Outside.world c.zero_extent.new.store) (g.S.Outside.world c.format.new.store) c.zero_extent.ensures.run c.format.ensures.run

pub returns-clause-stands : goal.returns-clause-stands
returns-clause-stands g c =
    let fresh = c.in_ok-pair.ensures.fresh in
    settled_stands (record { pair = c.in_ok-pair.pair; most = c.args.most }) (file_of c.args.file (g.S.Outside.world c.format.new.store))
    (ap (λ (k : PairState). k.tried) fresh ∙ sym (ap (λ (k : PairState). k.value) fresh)) c.in_ok-pair.ensures.stands

pub returns-clause-holds : goal.returns-clause-holds
returns-clause-holds g c =
    let is : IsValueOf 1 c.args.fields.now c.value_with.result = made_value 1 1 c.args.fields.now c.value_with.result c.value_with.ensures refl (omega arith) (search rules) in
    made_new c.args.file c.args.most c.args.fields.now c.value_with.result (g.S.Outside.world c.zero_extent.new.store) (g.S.Outside.world c.format.new.store) is c.requires.0 c.in_ok-zero_extent.ensures.zero
    c.format.ensures.run c.in_ok-pair.ensures.holds

pub returns-clause-made : goal.returns-clause-made
returns-clause-made g c =
    ap (λ (p : PairState). let e : ExtentState = record { pair = p; most = c.args.most } in e) (c.in_ok-pair.ensures.fresh ∙ ap (formatted c.args.file) c.value_with.ensures)

pub returns-clause-limit : goal.returns-clause-limit
returns-clause-limit g c =
    let is : IsValueOf 1 c.args.fields.now c.value_with.result = made_value 1 1 c.args.fields.now c.value_with.result c.value_with.ensures refl (omega arith) (search rules) in
    let kept = ap (λ (k : PairState). k.value) c.in_ok-pair.ensures.fresh in
    (ap limit_in kept ∙ is.limit_is, ap fields_in kept ∙ is.fields_are)

pub invariant_of-result : goal.invariant_of-result
invariant_of-result g c =
    let is : IsValueOf 1 c.args.fields.now c.value_with.result = made_value 1 1 c.args.fields.now c.value_with.result c.value_with.ensures refl (omega arith) (search rules) in
    let kept = ap (λ (k : PairState). limit_in k.value) c.in_ok-pair.ensures.fresh in
    let tried = ap (λ (k : PairState). limit_in k.tried) c.in_ok-pair.ensures.fresh in
    let low = c.requires.0 in
    record {
      low = omega (arith, kept, is.limit_is);
      high = omega (arith, kept, is.limit_is);
      most = c.requires.1;
      tried_low = omega (arith, kept, tried);
      tried_high = omega (arith, tried, is.limit_is);
    }
