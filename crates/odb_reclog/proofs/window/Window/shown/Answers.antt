use Rattle.std.proofs.Common.{◌+◌, ◌-◌, arith}
use Rattle.odb_reclog.proofs.Heads.{shows_head}
use Rattle.odb_reclog.proofs.window.Window.shown.Goals as goal

pub returns : goal.returns
returns c = λ file shows.
    let w = c.args.self.now in
    let k = c.args.place - w.from in
    shows_head file w.from w.held c.args.place (k + 13 - k) w.bytes c.from_bytes.result (omega arith) c.from_bytes.ensures c.requires.held.0
    c.requires.held.1 shows.bytes
