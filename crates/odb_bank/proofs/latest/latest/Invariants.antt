use Rattle.std.proofs.Common.{map}
use Rattle.std.specs.List.{All}
use Rattle.odb_bank.specs.Additions.{record_of, last_key, IsNarrow}
use Rattle.odb_bank.proofs.LastWrites.{IsGathering}
use Rattle.odb_bank.proofs.latest.latest.Given as goal

abbrev pub invariant-keys : goal.invariant-keys
invariant-keys l = record {
  gathers : IsGathering l.bank l.entries (last_key l.found.items) (map record_of l.found.items);
  narrow : All IsNarrow l.found.items;
}
