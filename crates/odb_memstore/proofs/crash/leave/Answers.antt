use Rattle.std.proofs.Common.{◌≡◌, ℕ, ◌+◌, ◌-◌, ◌∙◌, List, take, drop, sym, ap, arith}
use Rattle.odb_device.specs.Images.{part, overwritten}
use Rattle.odb_memstore.specs.declared.recorder.Call.{Call}
use Rattle.odb_memstore.specs.Numbered.{bytes_of, with_bytes}
use Rattle.odb_memstore.specs.Crash.{first_digit, held_by, left_by_call}
use Rattle.odb_memstore.proofs.Crashes.{left_unsettled, left_settled}
use Rattle.odb_memstore.proofs.crash.leave.Goals as goal

-- the bytes that were written
piece : (pieces : List ℕ) (from len : ℕ) → take (from + len - from) (drop from pieces) ≡ part from len pieces
piece pieces from len = ap (λ (n : ℕ). take n (drop from pieces)) (let e : from + len - from ≡ len = omega arith in e)

pub returns-then-not-is_synced-clause-files : goal.returns-then-not-is_synced-clause-files
returns-then-not-is_synced-clause-files c = λ g.
    let pieces = c.args.pieces.now in
    let w = c.in-Write in
    let files = c.args.files.now.files in
    let is = c.in_ok-hold.ensures
    ∙ ap (λ (d : ℕ). with_bytes files w.file (held_by d w.at (take (w.from + w.len - w.from) (drop w.from pieces)) (bytes_of files w.file))) c.next.ensures.digit
    ∙ ap (λ (l : List ℕ). with_bytes files w.file (held_by (first_digit c.args.digits.now) w.at l (bytes_of files w.file))) (piece pieces w.from w.len) in
    left_unsettled pieces w.file w.at w.from w.len c.args.recorded.failed c.args.later.now c.args.digits.now files c.hold.new.files.files (sym c.is_synced.ensures ∙ c.if-not-is_synced.true) is g
    ∙ ap (λ (q : Call). left_by_call pieces g q c.args.recorded.failed c.args.later.now c.args.digits.now (bytes_of files g)) (sym w.is)

pub returns-clause-files : goal.returns-clause-files
returns-clause-files c = λ g.
    let pieces = c.args.pieces.now in
    let w = c.in-Write in
    let files = c.args.files.now.files in
    let is = c.write.ensures.files
    ∙ ap (λ (l : List (ℕ × List ℕ)). with_bytes l w.file (overwritten w.at (take (w.from + w.len - w.from) (drop w.from pieces)) (bytes_of l w.file))) c.in_ok-reserve.ensures.files
    ∙ ap (λ (l : List ℕ). with_bytes files w.file (overwritten w.at l (bytes_of files w.file))) (piece pieces w.from w.len) in
    left_settled pieces w.file w.at w.from w.len c.args.recorded.failed c.args.later.now c.args.digits.now files c.write.new.self.files (sym c.is_synced.ensures ∙ c.if-not-is_synced.false) c.if-recorded.false is g
    ∙ ap (λ (q : Call). left_by_call pieces g q c.args.recorded.failed c.args.later.now c.args.digits.now (bytes_of files g)) (sym w.is)
