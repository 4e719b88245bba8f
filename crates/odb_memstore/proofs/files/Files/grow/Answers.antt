use Rattle.std.proofs.Common.{◌≡◌, ◌+◌, ◌-◌, ◌≤◌, ◌∙◌, ◌++◌, List, ℕ, length, take, drop, replicate, sym, ap, subst, arith, length-append, length-drop, length-take}
use Rattle.std.specs.Prelude.{slice_set}
use Rattle.std.proofs.lemmas.List.{length-replicate, append-nil}
use Rattle.odb_memstore.specs.declared.files.Held.{Held}
use Rattle.odb_memstore.specs.Shelf.{Shelf}
use Rattle.odb_memstore.specs.Numbered.{bytes_of, with_bytes, extended, lengths_of}
use Rattle.odb_memstore.specs.Layout.{total_length, contents, held_length, start_of, length_of}
use Rattle.odb_memstore.proofs.Laid.{length-contents, relength, relength_by, held_length-relength}
use Rattle.odb_memstore.proofs.Grown.{length-entered, bytes_of-entered, with_entered, contents-grown, laid_with, lengths_laid}
use Rattle.odb_memstore.proofs.files.Files.grow.Goals as goal
use Rattle.odb_memstore.proofs.files.Files.grow.Goals.{After-index_mut, Else-end-spot}

pub enter-spot-requires-clause-place : goal.enter-spot-requires-clause-place
enter-spot-requires-clause-place c =
    let held = c.self.inside.held.items in
    let bytes = c.self.inside.bytes.items in
    omega (arith, length-contents held bytes, ap (λ (t : Shelf). length t.files) c.self.view_is, ap (λ (t : Shelf). t.places) c.self.view_is, c.self.inside.held.ok.0)

pub insert_zeros-requires-clause-room : goal.insert_zeros-requires-clause-room
insert_zeros-requires-clause-room c =
    let held = c.self.inside.held.items in
    let bytes = c.self.inside.bytes.items in
    let files = contents held bytes in
    let all : held_length held ≡ length bytes = c.self.invariant.packed in
    let size = length-entered files c.enter-spot.new.held.items bytes c.args.file (omega (arith, c.enter-spot.ensures.size, all)) (c.enter-spot.ensures.files bytes (omega (arith, all))) in
    let shown = ap (λ (t : Shelf). lengths_of t.files + (c.args.end - length (bytes_of t.files c.args.file))) c.self.view_is in
    omega (arith, c.requires.room, shown, lengths_laid held bytes c.self.invariant, size, c.enter-spot.ensures.len, ap (λ (t : Shelf). t.room) c.self.view_is, c.self.inside.bytes.ok.0, all)

-- the files after it, where it gets longer
then : (c : After-index_mut) → contents (slice_set c.enter-spot.new.held.items c.enter-spot.result.place (record c.index_mut.result.now { len = c.args.end })) c.insert_zeros.new.bytes.items
    ≡ with_bytes c.args.self.now.files c.args.file (extended c.args.end (bytes_of c.args.self.now.files c.args.file))
then c =
    let held = c.self.inside.held.items in
    let bytes = c.self.inside.bytes.items in
    let now = c.enter-spot.new.held.items in
    let files = contents held bytes in
    let file = c.args.file in
    let end = c.args.end in
    let all : held_length now ≤ length bytes = omega (arith, c.enter-spot.ensures.size, c.self.invariant.packed) in
    let is = c.enter-spot.ensures.files bytes (omega (arith, c.self.invariant.packed)) in
    let set = relength_by now file end c.enter-spot.result.place c.index_mut.result.now c.enter-spot.ensures.place c.enter-spot.ensures.within c.index_mut.ensures.value in
    let grown = contents-grown now bytes file (omega (arith, c.enter-spot.ensures.within, c.enter-spot.ensures.place)) all end (omega (arith, c.enter-spot.ensures.len)) in
    let spot : take (c.enter-spot.result.start + c.enter-spot.result.len) bytes ++ replicate (end - c.enter-spot.result.len) 0 ++ drop (c.enter-spot.result.start + c.enter-spot.result.len) bytes
    ≡ take (start_of now file + length_of now file) bytes ++ replicate (end - length_of now file) 0 ++ drop (start_of now file + length_of now file) bytes = cc (c.enter-spot.ensures.start, c.enter-spot.ensures.len) in
    ap (λ (l : List Held). contents l c.insert_zeros.new.bytes.items) set ∙ ap (contents (relength now file end)) (c.insert_zeros.ensures.bytes ∙ spot) ∙ grown
    ∙ with_entered files (contents now bytes) file (extended end (bytes_of (contents now bytes) file)) is
    ∙ ap (λ (x : List ℕ). with_bytes files file (extended end x)) (bytes_of-entered files (contents now bytes) file is)
    ∙ ap (λ (t : Shelf). with_bytes t.files file (extended end (bytes_of t.files file))) c.self.view_is

pub invariant_of-self : goal.invariant_of-self
invariant_of-self c =
    let bytes = c.self.inside.bytes.items in
    let now = c.enter-spot.new.held.items in
    let file = c.args.file in
    let s = c.enter-spot.result.start + c.enter-spot.result.len in
    let k = c.args.end - c.enter-spot.result.len in
    let set = relength_by now file c.args.end c.enter-spot.result.place c.index_mut.result.now c.enter-spot.ensures.place c.enter-spot.ensures.within c.index_mut.ensures.value in
    let size = held_length-relength now file c.args.end (omega (arith, c.enter-spot.ensures.within, c.enter-spot.ensures.place)) in
    let long : length c.insert_zeros.new.bytes.items ≡ length bytes + k =
    ap length c.insert_zeros.ensures.bytes ∙ omega (arith, length-append (take s bytes ++ replicate k 0) (drop s bytes), length-append (take s bytes) (replicate k 0), length-replicate {A = ℕ} k 0, length-take s bytes, length-drop s bytes, c.enter-spot.ensures.end, c.self.invariant.packed) in
    let packed : held_length (slice_set now c.enter-spot.result.place (record c.index_mut.result.now { len = c.args.end })) ≡ length c.insert_zeros.new.bytes.items =
    ap held_length set ∙ omega (arith, size, long, c.enter-spot.ensures.len, c.enter-spot.ensures.size, c.self.invariant.packed) in
    laid_with c.args.self.now _ c.insert_zeros.new.bytes.items file _ (omega (arith, c.ranges.file.fits)) (subst (λ (t : Shelf). total_length t.files ≡ lengths_of t.files) c.self.view_is c.self.invariant.total)
    packed (then (goal.at.invariant_of-self c).After-index_mut)

-- and where it is long enough
stays : (c : Else-end-spot) → contents c.enter-spot.new.held.items c.self.inside.bytes.items ≡ with_bytes c.args.self.now.files c.args.file (extended c.args.end (bytes_of c.args.self.now.files c.args.file))
stays c =
    let held = c.self.inside.held.items in
    let bytes = c.self.inside.bytes.items in
    let files = contents held bytes in
    let file = c.args.file in
    let all : held_length held ≡ length bytes = c.self.invariant.packed in
    let is = c.enter-spot.ensures.files bytes (omega (arith, all)) in
    let size = length-entered files c.enter-spot.new.held.items bytes file (omega (arith, c.enter-spot.ensures.size, all)) is in
    let none : c.args.end - length (bytes_of files file) ≡ 0 = omega (arith, size, c.enter-spot.ensures.len) in
    let old : extended c.args.end (bytes_of files file) ≡ bytes_of files file = ap (λ (n : ℕ). bytes_of files file ++ replicate n 0) none ∙ append-nil (bytes_of files file) in
    is ∙ ap (with_bytes files file) (sym old) ∙ ap (λ (t : Shelf). with_bytes t.files file (extended c.args.end (bytes_of t.files file))) c.self.view_is

pub returns-then-end-spot-clause-files : goal.returns-then-end-spot-clause-files
returns-then-end-spot-clause-files c = then (goal.at.returns-then-end-spot-clause-files c).After-index_mut

pub invariant_of-self-else-end-spot : goal.invariant_of-self-else-end-spot
invariant_of-self-else-end-spot c =
    laid_with c.args.self.now c.enter-spot.new.held.items c.self.inside.bytes.items c.args.file _ (omega (arith, c.ranges.file.fits))
    (subst (λ (t : Shelf). total_length t.files ≡ lengths_of t.files) c.self.view_is c.self.invariant.total)
    (c.enter-spot.ensures.size ∙ c.self.invariant.packed) (stays (goal.at.invariant_of-self-else-end-spot c).Else-end-spot)

pub returns-else-end-spot-clause-files : goal.returns-else-end-spot-clause-files
returns-else-end-spot-clause-files c = stays (goal.at.returns-else-end-spot-clause-files c).Else-end-spot
