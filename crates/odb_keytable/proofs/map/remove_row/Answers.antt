use Rattle.std.proofs.Common.{sym, subst, List, None}
use Rattle.std.specs.BTreeMap.{is_at}
use Rattle.odb_values.specs.declared.value.Value.{Value}
use Rattle.odb_keytable.specs.declared.spot.Spot.{Spot}
use Rattle.odb_keytable.specs.Spot.{spot_cmp}
use Rattle.odb_keytable.specs.Table.{AreRows}
use Rattle.odb_keytable.proofs.RowPlaces.{state_of-updated, AreRows-remove}
use Rattle.odb_keytable.proofs.map.remove_row.Goals as goal

pub returns-clause-removed : goal.returns-clause-removed
returns-clause-removed c =
    let es : List (Spot × List Value) = c.args.rows.now.entries in
    let rows : AreRows c.remove.new.self.entries =
    subst (λ (fs : List (Spot × List Value)). AreRows fs) (sym c.remove.ensures.entries) (AreRows-remove (is_at (spot_cmp c.args.spot.now)) es c.requires.rows) in
    state_of-updated es c.remove.new.self.entries c.args.spot.now None c.requires.place c.requires.rows rows c.remove.ensures.updates.0

pub returns-clause-rows : goal.returns-clause-rows
returns-clause-rows c =
    subst (λ (fs : List (Spot × List Value)). AreRows fs) (sym c.remove.ensures.entries)
    (AreRows-remove (is_at (spot_cmp c.args.spot.now)) c.args.rows.now.entries c.requires.rows)
