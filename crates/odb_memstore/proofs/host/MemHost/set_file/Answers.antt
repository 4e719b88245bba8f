use Rattle.std.proofs.Common.{◌≡◌, ℕ, ◌∙◌, List, Some, length, map, sym, ap, subst, arith}
use Rattle.std.specs.Prelude.{vec_capacity}
use Rattle.odb_memstore.specs.Host.{tape_of}
use Rattle.odb_memstore.specs.Numbered.{with_bytes}
use Rattle.odb_memstore.specs.Recording.{Recording, forgotten}
use Rattle.odb_memstore.specs.Tape.{Tape, file_now}
use Rattle.odb_memstore.specs.Setting.{with_file}
use Rattle.odb_memstore.specs.Standing.{Stands}
use Rattle.odb_memstore.proofs.Named.{length-with}
use Rattle.odb_memstore.proofs.Settled.{set_now, set_other, stands_set}
use Rattle.odb_memstore.proofs.host.MemHost.set_file.Goals as goal
use Rattle.odb_memstore.proofs.host.MemHost.set_file.Goals.{After-forget}

-- what the record is then
next : (c : After-forget) → with_file c.args.file c.args.bytes.now (tape_of c.self.inside) ≡ record (tape_of c.self.inside) { start = c.set.new.self.files; recording = c.forget.new.self }
next c =
    let tape = tape_of c.self.inside in
    let start : with_bytes c.self.inside.start.files c.args.file c.args.bytes.now ≡ c.set.new.self.files =
    sym (c.set.ensures.files ∙ ap (λ (l : List (ℕ × List ℕ)). with_bytes l c.args.file c.args.bytes.now) c.reserve.ensures.files) in
    ap (λ (l : List (ℕ × List ℕ)). let t : Tape = record tape { start = l; recording = record tape.recording { calls = map (forgotten c.args.file) tape.recording.calls } } in t) start
    ∙ ap (λ (r : Recording). let t : Tape = record tape { start = c.set.new.self.files; recording = r } in t) (sym c.forget.ensures)

pub invariant_of-self-2 : goal.invariant_of-self-2
invariant_of-self-2 c =
    let k = (goal.at.invariant_of-self-2 c).After-forget in
    let h = c.self.inside in
    let file = c.args.file in
    let bytes = c.args.bytes.now in
    let files : c.set-2.new.self.files ≡ with_bytes h.current.files file bytes = c.set-2.ensures.files ∙ ap (λ (l : List (ℕ × List ℕ)). with_bytes l file bytes) c.reserve-2.ensures.files in
    subst (Stands c.set-2.new.self (vec_capacity h.pieces) (vec_capacity h.said)) (next k)
    (stands_set (tape_of h) file bytes h.current c.set-2.new.self (vec_capacity h.pieces) (vec_capacity h.said) c.self.invariant files
    (omega (arith, ap length files, length-with file bytes h.current.files, c.in_ok-reserve-2.ensures.more_places, c.set-2.ensures.space.places, c.places_left-places.ensures.left, ap length c.reserve-2.ensures.files))
    (omega (arith, c.reserve-2.ensures.space.room, c.set-2.ensures.space.room)))

pub returns-clause-on_disk : goal.returns-clause-on_disk
returns-clause-on_disk c =
    let k = (goal.at.returns-clause-on_disk c).After-forget in
    ap (λ (t : Tape). Some (file_now t c.args.file)) (sym (next k)) ∙ ap Some (set_now (tape_of c.self.inside) c.args.file c.args.bytes.now)

pub returns-clause-others : goal.returns-clause-others
returns-clause-others c = λ g other.
    let k = (goal.at.returns-clause-others c).After-forget in
    ap (λ (t : Tape). Some (file_now t g)) (sym (next k)) ∙ ap Some (set_other (tape_of c.self.inside) c.args.file c.args.bytes.now g other) ∙ ap (λ (t : Tape). Some (file_now t g)) c.self.view_is
