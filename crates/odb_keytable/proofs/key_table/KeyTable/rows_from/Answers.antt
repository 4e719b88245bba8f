use Rattle.std.proofs.Common.{ap, sym, subst, ◌∙◌, List, Option}
use Rattle.std.specs.Option.{option_copied}
use Rattle.std.specs.BTreeMap.Range.{entries_between}
use Rattle.std.specs.declared.ops.Bound.{Bound}
use Rattle.std.specs.declared.ops.Bound.TheVariants.{Unbounded}
use Rattle.odb_values.specs.declared.value.Value.{Value}
use Rattle.odb_model.specs.State.{State}
use Rattle.odb_keytable.specs.declared.spot.Spot.{Spot}
use Rattle.odb_keytable.specs.Spot.{spot_cmp}
use Rattle.odb_keytable.specs.Table.{state_of}
use Rattle.odb_keytable.specs.Place.{IsLeft}
use Rattle.odb_keytable.proofs.Places.{left-reached}
use Rattle.odb_keytable.proofs.key_table.KeyTable.rows_from.Goals as goal

pub returns : goal.returns
returns c =
    let range = c.args.range.now in
    let after : Option (List Value) = option_copied c.args.after in
    let es : List (Spot × List Value) = c.self.inside.rows.entries in
    subst (λ (s : State). IsLeft range after s c.entries_behind.result) c.self.view_is
    (subst (λ (xs : List (Spot × List Value)). IsLeft range after (state_of es) xs)
    (sym (c.entries_behind.ensures.entries ∙ ap (λ (begin : Bound Spot). entries_between spot_cmp begin Unbounded es) c.in_ok-begin.ensures))
    (left-reached range after es c.self.invariant c.entries_behind.ensures.ordered))
