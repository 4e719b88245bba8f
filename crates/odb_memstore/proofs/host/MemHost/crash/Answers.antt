use Rattle.std.proofs.Common.{◌≡◌, ℕ, List, length, take, sym, ◌∙◌, ap, subst, rules}
use Rattle.odb_device.specs.Images.{IsImage}
use Rattle.odb_memstore.specs.declared.recorder.Recorded.{Recorded}
use Rattle.odb_memstore.specs.Tape.{Tape, file_at, file_now}
use Rattle.odb_memstore.specs.Numbered.{bytes_of}
use Rattle.odb_memstore.specs.Standing.{HavePieces, IsWhole}
use Rattle.odb_memstore.specs.Crash.{digits, left_by, crash_image}
use Rattle.odb_memstore.proofs.Replays.{pieces_take}
use Rattle.odb_memstore.proofs.Crashes.{crash_one}
use Rattle.odb_memstore.proofs.host.MemHost.crash.Goals as goal

pub leave_all-requires : goal.leave_all-requires
leave_all-requires c =
    let h = c.self.inside in
    let has = pieces_take (length h.pieces.items) c.args.calls h.recorder.calls c.self.invariant.whole.pieces in
    subst (λ (l : List ℕ). HavePieces (length l) (take c.args.calls c.calls.result.now)) (sym c.deref.ensures.value)
    (subst (λ (l : List Recorded). HavePieces (length h.pieces.items) (take c.args.calls l)) (sym c.calls.ensures.value) has)

pub returns-clause-images : goal.returns-clause-images
returns-clause-images c = λ file.
    let is : (file_now c.in_ok-with_files.field-0 file).bytes ≡ crash_image c.args.self.now c.args.calls c.args.pick file = search rules in
    subst (IsImage (file_at c.args.self.now c.args.calls file)) (sym is) (crash_one c.args.self.now c.args.calls c.args.pick file (subst IsWhole c.self.view_is c.self.invariant.whole))

pub returns-clause-files : goal.returns-clause-files
returns-clause-files c = λ file.
    let h = c.self.inside in
    let ds = digits 40 c.args.pick in
    ap (λ (t : Tape). (file_now t file).bytes) c.in_ok-with_files.ensures
    ∙ c.in_ok-leave_all.ensures file
    ∙ ap (λ (l : List ℕ). left_by l file (take c.args.calls c.calls.result.now) ds (bytes_of c.in_ok-files.files.files file)) c.deref.ensures.value
    ∙ ap (λ (l : List Recorded). left_by h.pieces.items file (take c.args.calls l) ds (bytes_of c.in_ok-files.files.files file)) c.calls.ensures.value
    ∙ ap (λ (l : List (ℕ × List ℕ)). left_by h.pieces.items file (take c.args.calls h.recorder.calls) ds (bytes_of l file)) c.in_ok-files.ensures.files
    ∙ ap (λ (t : Tape). crash_image t c.args.calls c.args.pick file) c.self.view_is
