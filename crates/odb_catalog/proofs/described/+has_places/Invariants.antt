use Rattle.odb_catalog.proofs.described.+has_places.Given as goal

abbrev pub decreases-has_places : goal.decreases-has_places
decreases-has_places l = l.count
