use Rattle.odb_print.proofs.statements.put_statement.Goals as goal

pub returns-in-CreateShadow : goal.returns-in-CreateShadow
returns-in-CreateShadow c = rw c.in-CreateShadow.is c.pair.ensures

pub returns-in-ShadowMaster : goal.returns-in-ShadowMaster
returns-in-ShadowMaster c = rw c.in-ShadowMaster.is c.put_one-in-ShadowMaster.ensures

pub returns-in-DropShadow : goal.returns-in-DropShadow
returns-in-DropShadow c = rw c.in-DropShadow.is c.put_last-in-DropShadow.ensures

pub returns-in-CreateBackup : goal.returns-in-CreateBackup
returns-in-CreateBackup c = rw c.in-CreateBackup.is c.pair-in-CreateBackup.ensures
