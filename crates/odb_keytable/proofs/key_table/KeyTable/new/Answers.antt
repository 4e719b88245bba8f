use Rattle.std.proofs.Common.{refl, sym, subst, List}
use Rattle.odb_values.specs.declared.value.Value.{Value}
use Rattle.odb_keytable.specs.declared.spot.Spot.{Spot}
use Rattle.odb_keytable.specs.Table.{AreRows}
use Rattle.odb_keytable.proofs.key_table.KeyTable.new.Goals as goal

pub invariant_of-result : goal.invariant_of-result
invariant_of-result c = subst (λ (es : List (Spot × List Value)). AreRows es) (sym c.new.ensures.empty) refl
