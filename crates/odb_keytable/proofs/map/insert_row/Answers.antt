use Rattle.std.proofs.Common.{sym, subst, List, Some}
use Rattle.odb_values.specs.declared.value.Value.{Value}
use Rattle.odb_keytable.specs.declared.spot.Spot.{Spot}
use Rattle.odb_keytable.specs.Table.{AreRows}
use Rattle.odb_keytable.proofs.RowPlaces.{state_of-updated, AreRows-insert}
use Rattle.odb_keytable.proofs.map.insert_row.Goals as goal

pub returns-in-Ok-clause-ok : goal.returns-in-Ok-clause-ok
returns-in-Ok-clause-ok c =
    let es : List (Spot × List Value) = c.args.rows.now.entries in
    let rows : AreRows c.insert.new.self.entries =
    subst (λ (fs : List (Spot × List Value)). AreRows fs) (sym c.in-Ok.ensures.entries) (AreRows-insert es c.args.spot c.args.row c.requires.place c.requires.rows) in
    state_of-updated es c.insert.new.self.entries c.args.spot (Some c.args.row) c.requires.place c.requires.rows rows c.in-Ok.ensures.updates.0

pub returns-in-Ok-clause-rows : goal.returns-in-Ok-clause-rows
returns-in-Ok-clause-rows c =
    subst (λ (fs : List (Spot × List Value)). AreRows fs) (sym c.in-Ok.ensures.entries)
    (AreRows-insert c.args.rows.now.entries c.args.spot c.args.row c.requires.place c.requires.rows)
