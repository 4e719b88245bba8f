-- The pair that is made of the place that counts, as a file's bytes have it.
use Rattle.std.specs.Prelude.{ℕ, true}
use Rattle.odb_pair.specs.Standing.{PairState}
use Rattle.odb_pair.specs.declared.reading.CountingPlace.{CountingPlace}

abbrev pub pair_at : ℕ → CountingPlace → PairState
pair_at file c = record {
  file = file;
  place = c.place;
  sequence = c.sequence;
  value = c.value;
  tried = c.value;
  closed = c.alone;
  settled = true;
}
