use Rattle.std.proofs.Common.{ap, sym, ◌∙◌, List, Option, option_map}
use Rattle.odb_values.specs.declared.value.Value.{Value}
use Rattle.odb_rowsource.specs.RowSource.{keyed_row}
use Rattle.odb_keytable.specs.declared.spot.Spot.{Spot}
use Rattle.odb_keytable.specs.Table.{row_entry, is_inside_row, where_passes}
use Rattle.odb_keytable.proofs.Places.{first-is, next-left, place-gone}
use Rattle.odb_keytable.proofs.place.Place.advance.Goals as goal

pub returns-clause-found : goal.returns-clause-found
returns-clause-found c = λ s after is.
    c.where_inside.ensures
    ∙ ap (λ (o : Option (Spot × List Value)). option_map keyed_row (option_map row_entry (where_passes (is_inside_row c.args.range.now) o)))
    (first-is c.args.self.now.rest c.next-first.new.self c.next-first.result c.next-first.ensures.steps)
    ∙ sym (next-left c.args.range.now after s c.args.self.now.rest is)

pub returns-clause-place : goal.returns-clause-place
returns-clause-place c = λ s after here is.
    place-gone c.args.range.now after s c.args.self.now c.stand_at.new.self c.next-first.new.self c.next-first.result c.next-first.ensures.steps
    c.stand_at.ensures.none c.stand_at.ensures.at c.stand_at.ensures.rest here is
