use Rattle.std.proofs.Common.{◌≡◌, ◌+◌, drop}
use Rattle.odb_memstore.specs.Layout.{held_length, place_of, start_of, length_of}
use Rattle.odb_memstore.proofs.files.spot_of.Given as goal

abbrev pub invariant-loop-place : goal.invariant-loop-place
invariant-loop-place l = record {
  place : place_of l.held l.file ≡ l.place + place_of (drop l.place l.held) l.file;
  start : start_of l.held l.file ≡ l.start + start_of (drop l.place l.held) l.file;
  length : length_of l.held l.file ≡ length_of (drop l.place l.held) l.file;
  all : held_length l.held ≡ l.start + held_length (drop l.place l.held);
}
