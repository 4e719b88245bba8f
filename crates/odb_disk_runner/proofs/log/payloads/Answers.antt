use Rattle.std.proofs.Common.{arith}
use Rattle.odb_disk_runner.proofs.log.payloads.Goals as goal

pub records-requires : goal.records-requires
records-requires c =
    let opened = c.in_ok-log.ensures.opened in
    record { readable = record { usable = opened.in_doubt; stands = tt; low = omega (arith, opened.start); high = omega arith; place = tt } }
