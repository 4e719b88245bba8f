use Rattle.std.proofs.Common.{◌≡◌, ◌∙◌, List, Option, Some, ap, sym, subst}
use Rattle.odb_values.specs.declared.value.Value.{Value}
use Rattle.odb_model.specs.declared.write.Write.{Write}
use Rattle.odb_model.specs.State.{State, table_key_of, changed}
use Rattle.odb_model.specs.Table.{key_of, row_of}
use Rattle.odb_model.specs.Fitting.{row_refusal}
use Rattle.odb_model.specs.Meaning.{writes_of, with_write}
use Rattle.odb_plain.specs.declared.changes.Change.{Change}
use Rattle.odb_plain.specs.Changes.{IsChangeOf, Joins}
use Rattle.odb_plain.proofs.Making.{joins-put, put-is}
use Rattle.odb_plain.proofs.insert.next_change.Goals as goal

pub returns-clause-earlier : goal.returns-clause-earlier
returns-clause-earlier c = λ s joins.
    let t = c.args.table.now in
    let v = c.args.tuple.now in
    let w = c.in-Made.write in
    let rows = c.args.rows.now in
    let earlier = c.args.earlier.now in
    let change = subst (λ (x : Change). IsChangeOf (row_refusal c.args.format t (key_of t v) v) (writes_of t v) x) c.in-Made.is c.in_ok-reply.ensures in
    let row : w.row ≡ Some (row_of t v) = ap (λ (x : Write). x.row) (sym (put-is t c.args.format v w change.1)) in
    let both : Joins (changed s (table_key_of w) w.row) rows (changed earlier (table_key_of w) w.row) =
    subst (λ (o : Option (List Value)). Joins (changed s (table_key_of w) o) rows (changed earlier (table_key_of w) o)) (sym row) (joins-put s rows earlier (table_key_of w) (row_of t v) joins) in
    subst (λ (x : State). Joins (with_write s w) rows x) (sym c.in_ok-put.ensures.ok) both
