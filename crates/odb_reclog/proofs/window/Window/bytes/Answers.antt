use Rattle.std.proofs.Common.{◌≡◌, ◌+◌, ◌-◌, refl, arith, rules}
use Rattle.odb_device.specs.World.{file_of}
use Rattle.odb_device.specs.Images.{part}
use Rattle.odb_reclog.proofs.Heads.{bytes_shown}
use Rattle.odb_reclog.proofs.window.Window.bytes.Goals as goal

pub returns-clause-bytes : goal.returns-clause-bytes
returns-clause-bytes g c =
    let w = c.args.self.now in
    let k = c.args.place - w.from in
    let copied : c.from_vec.result ≡ part k (k + c.args.size - k) w.bytes = search rules in
    let held = c.if-not-covers.ensures.0 refl in
    bytes_shown (file_of c.args.file (g.S.Outside.world c.args.store.now)) w.from w.held c.args.place c.args.size (k + c.args.size - k)
    w.bytes c.from_vec.result (omega arith) copied held.0 held.1 c.requires.shows.bytes
