use Rattle.std.specs.Option.{option_copied}
use Rattle.odb_bank.proofs.Passing.{first_from}
use Rattle.odb_bank.proofs.latest.first_above.Goals as goal

pub loop-i-init : goal.loop-i-init
loop-i-init c = first_from c.args.bank (option_copied c.args.above) c.args.writes.now c.place_above-i.result c.place_above-i.ensures.passed
