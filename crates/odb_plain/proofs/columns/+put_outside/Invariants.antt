use Rattle.odb_plain.proofs.columns.+put_outside.Given as goal

abbrev pub decreases-put_outside : goal.decreases-put_outside
decreases-put_outside l = l.count
