use Rattle.odb_device.specs.World.{file_of}
use Rattle.odb_transdb.specs.Opened.{entries_in}
use Rattle.odb_transdb.proofs.Settling.{may_stand}
use Rattle.odb_runner.proofs.machine.read.Goals as goal

-- a log that was just opened stands for its entries
pub entries-requires-clause-stands : goal.entries-requires-clause-stands
entries-requires-clause-stands g c =
    let file = file_of 0 (g.S.Outside.world c.open.new.store) in
    (entries_in file, may_stand c.in_ok-transdb.transdb file c.in_ok-transdb.ensures.stands)
