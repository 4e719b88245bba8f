use Rattle.odb_bank.proofs.Searching.{IsSearching}
use Rattle.odb_bank.proofs.opens.damage_before.Given as goal

abbrev pub invariant-loop-n : goal.invariant-loop-n
invariant-loop-n g l = IsSearching l.file l.number l.n (g.S.Outside.world l.initial.store) (g.S.Outside.world l.store)
