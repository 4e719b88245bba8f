use Rattle.odb_catalog.proofs.described.+put_key.Given as goal

abbrev pub decreases-put_key : goal.decreases-put_key
decreases-put_key l = l.count
