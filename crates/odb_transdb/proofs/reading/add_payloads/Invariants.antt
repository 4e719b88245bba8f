use Rattle.std.proofs.Common.{◌≡◌, length}
use Rattle.std.specs.Vec.Iter.{into_iter_items, into_iter_len}
use Rattle.odb_transdb.specs.Header.{side_start, first_on}
use Rattle.odb_transdb.specs.Kept.{AreSteps}
use Rattle.odb_transdb.proofs.Adding.{IsAdded}
use Rattle.odb_transdb.proofs.reading.add_payloads.Given as goal

abbrev pub invariant-loop-payload : goal.invariant-loop-payload
invariant-loop-payload l = record {
  added : IsAdded (first_on l.fn.header l.fn.side) (side_start l.fn.header l.fn.side) (into_iter_items l.initial.payload-iterator) l.yielded (into_iter_items l.payload-iterator) l.fn.entries.items l.entries.items l.at l.number;
  steps : AreSteps (side_start l.fn.header l.fn.side) l.yielded l.places;
  counts : into_iter_len l.payload-iterator ≡ length (into_iter_items l.payload-iterator);
}
