use Rattle.std.proofs.Common.{◌-◌, ◌≤◌, length, ap, sym, ◌∙◌, arith}
use Rattle.odb_model.specs.Window.{write_count, start_within, window_writes}
use Rattle.odb_validate.specs.Window.{Windowed, last_number, forget, put_last}
use Rattle.odb_validate.proofs.Suffixes.{start_within-fits}
use Rattle.odb_validate.proofs.Steps.{last-forget, last-push, push-room, push-past}
use Rattle.odb_validate.proofs.window.Window.push.Goals as goal

pub put_last-requires-clause-next : goal.put_last-requires-clause-next
put_last-requires-clause-next c =
    omega (arith, c.requires.next, ap last_number c.make_room.ensures, last-forget c.args.self.now (window_writes - c.len-writes.result))

pub put_last-requires-clause-room : goal.put_last-requires-clause-room
put_last-requires-clause-room c =
    omega (
      arith,
      ap (λ (w : Windowed). write_count w.entries) c.make_room.ensures,
      start_within-fits (window_writes - c.len-writes.result) c.args.self.now.entries,
      c.len-writes.ensures,
      c.if-writes-le-WINDOW_WRITES.true,
    )

pub returns-then-writes-le-WINDOW_WRITES-clause-pushed : goal.returns-then-writes-le-WINDOW_WRITES-clause-pushed
returns-then-writes-le-WINDOW_WRITES-clause-pushed c =
    let e = c.args.entry in
    let w = c.args.self.now in
    let room : length e.writes ≤ window_writes = omega (arith, c.len-writes.ensures, c.if-writes-le-WINDOW_WRITES.true) in
    c.put_last.ensures
    ∙ ap (λ (v : Windowed). put_last v e) (c.make_room.ensures
    ∙ ap (λ n. forget w (start_within (window_writes - n) w.entries)) c.len-writes.ensures)
    ∙ push-room w e room

pub returns-then-writes-le-WINDOW_WRITES-clause-last : goal.returns-then-writes-le-WINDOW_WRITES-clause-last
returns-then-writes-le-WINDOW_WRITES-clause-last c =
    ap last_number (returns-then-writes-le-WINDOW_WRITES-clause-pushed c)
    ∙ last-push c.args.self.now c.args.entry ∙ sym c.requires.next

pub returns-else-writes-le-WINDOW_WRITES-clause-pushed : goal.returns-else-writes-le-WINDOW_WRITES-clause-pushed
returns-else-writes-le-WINDOW_WRITES-clause-pushed c =
    c.forget_all.ensures
    ∙ push-past c.args.self.now c.args.entry (omega (arith, c.len-writes.ensures, c.if-writes-le-WINDOW_WRITES.false)) c.requires.next
