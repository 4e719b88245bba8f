use Rattle.std.proofs.Common.{◌≡◌, ◌<◌, ap, ◌∙◌, arith}
use Rattle.odb_transdb.specs.Standing.{room_of}
use Rattle.odb_machine.specs.Book.{most_entries}
use Rattle.odb_commit.specs.Parts.{Parts}
use Rattle.odb_commit.proofs.Prepared.{sealing_full, sealing_ready}
use Rattle.odb_commit.proofs.book.Book.prepare_writes.Goals as goal

pub returns-then-room-need-clause-prepared : goal.returns-then-room-need-clause-prepared
returns-then-room-need-clause-prepared c =
    let few : c.count-count.result < most_entries = omega (arith, c.if-count-ge-MOST_ENTRIES.false) in
    let room : c.room-room.result ≡ room_of c.args.self.now.transdb = c.room-room.ensures ∙ ap (λ (b : Parts). room_of b.transdb) c.self.view_is in
    sealing_full c.args.self.now c.args.session c.args.writes c.count-count.result c.in-Ok.image c.len.result c.room-room.result
    c.count-count.ensures few c.in-Ok.ensures.image c.len.ensures room (omega (arith, c.if-room-need.true))

pub returns-clause-prepared : goal.returns-clause-prepared
returns-clause-prepared c =
    let few : c.count-count.result < most_entries = omega (arith, c.if-count-ge-MOST_ENTRIES.false) in
    let room : c.room-room.result ≡ room_of c.args.self.now.transdb = c.room-room.ensures ∙ ap (λ (b : Parts). room_of b.transdb) c.self.view_is in (
      sealing_ready c.args.self.now c.args.session c.args.writes c.count-count.result c.in-Ok.image c.len.result c.room-room.result
          c.count-count.ensures few c.in-Ok.ensures.image c.len.ensures room (omega (arith, c.if-room-need.false)),
      c.in-Ok.ensures.image,
    )
