-- The record of a host in memory, from its fields.
use Rattle.std.specs.Prelude.{vec_capacity}
use Rattle.odb_memstore.specs.declared.host.MemHost.TheInside.{Inside}
use Rattle.odb_memstore.specs.Tape.{Tape}
use Rattle.odb_memstore.specs.Standing.{Stands}

-- what it shows of them
abbrev pub tape_of : Inside → Tape
tape_of h = record {
  room = h.room;
  start = h.start.files;
  recording = h.recorder;
  pieces = h.pieces.items;
  input = h.input.items;
  taken = h.taken;
  has_ended = h.has_ended;
  said = h.said.items;
}

-- what holds of them
abbrev pub HoldsTape : Inside → Type 0
HoldsTape h = Stands h.current (vec_capacity h.pieces) (vec_capacity h.said) (tape_of h)
