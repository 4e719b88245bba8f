use Rattle.std.proofs.Common.{◌≡◌, ◌+◌, ◌∙◌, ◌++◌, [], List, ℕ, length, take, drop, sym, ap, subst, arith, length-append, length-drop, length-take}
use Rattle.std.specs.Prelude.{slice_set}
use Rattle.std.proofs.lemmas.List.{nil_from_length}
use Rattle.odb_memstore.specs.declared.files.Held.{Held}
use Rattle.odb_memstore.specs.Shelf.{Shelf}
use Rattle.odb_memstore.specs.Numbered.{bytes_of, with_bytes, lengths_of}
use Rattle.odb_memstore.specs.Layout.{total_length, contents, held_length, place_of, start_of, length_of}
use Rattle.odb_memstore.proofs.Laid.{relength, relength_by, length-relength, held_length-relength, length-contents, contents-replaced, place_filled}
use Rattle.odb_memstore.proofs.Named.{bytes_of-same, with_again, lengths-with}
use Rattle.odb_memstore.proofs.Grown.{length-bytes_of, laid_with}
use Rattle.odb_memstore.proofs.files.Files.cut.Goals as goal
use Rattle.odb_memstore.proofs.files.Files.cut.Goals.{After-spot_of-spot, After-index_mut}

-- the spot is that of the file's entry
place : (c : After-spot_of-spot) → c.spot_of-spot.result.place ≡ place_of c.self.inside.held.items c.args.file
place c = c.spot_of-spot.ensures.place ∙ ap (λ (l : List Held). place_of l c.args.file) c.deref.ensures.value

len : (c : After-spot_of-spot) → c.spot_of-spot.result.len ≡ length_of c.self.inside.held.items c.args.file
len c = c.spot_of-spot.ensures.len ∙ ap (λ (l : List Held). length_of l c.args.file) c.deref.ensures.value

pub index_mut-requires : goal.index_mut-requires
index_mut-requires c =
    let k = (goal.at.index_mut-requires c).After-spot_of-spot in
    omega (arith, place k, place_filled c.self.inside.held.items c.args.file (omega (arith, len k)), c.self.inside.held.ok.0)

-- the entries with the file's of length 0
entries : (c : After-index_mut) → slice_set c.self.inside.held.items c.spot_of-spot.result.place (record c.index_mut.result.now { len = 0 }) ≡ relength c.self.inside.held.items c.args.file 0
entries c =
    let held = c.self.inside.held.items in
    let place : c.spot_of-spot.result.place ≡ place_of held c.args.file = c.spot_of-spot.ensures.place ∙ ap (λ (l : List Held). place_of l c.args.file) c.deref.ensures.value in
    let len : c.spot_of-spot.result.len ≡ length_of held c.args.file = c.spot_of-spot.ensures.len ∙ ap (λ (l : List Held). length_of l c.args.file) c.deref.ensures.value in
    relength_by held c.args.file 0 c.spot_of-spot.result.place c.index_mut.result.now place (omega (arith, place, place_filled held c.args.file (omega (arith, len)))) c.index_mut.ensures.value

-- the file has no bytes any more
emptied : (c : After-index_mut) → contents (slice_set c.self.inside.held.items c.spot_of-spot.result.place (record c.index_mut.result.now { len = 0 })) c.remove.new.bytes.items ≡ with_bytes c.args.self.now.files c.args.file []
emptied c =
    let held = c.self.inside.held.items in
    let bytes = c.self.inside.bytes.items in
    let file = c.args.file in
    let start : c.spot_of-spot.result.start ≡ start_of held file = c.spot_of-spot.ensures.start ∙ ap (λ (l : List Held). start_of l file) c.deref.ensures.value in
    let len : c.spot_of-spot.result.len ≡ length_of held file = c.spot_of-spot.ensures.len ∙ ap (λ (l : List Held). length_of l file) c.deref.ensures.value in
    let rest : take c.spot_of-spot.result.start bytes ++ drop (c.spot_of-spot.result.start + c.spot_of-spot.result.len) bytes ≡ take (start_of held file) bytes ++ drop (start_of held file + length_of held file) bytes = cc in
    ap (λ (l : List Held). contents l c.remove.new.bytes.items) (entries c) ∙ ap (contents (relength held file 0)) (c.remove.ensures.bytes ∙ rest)
    ∙ contents-replaced held bytes [] file (place_filled held file (omega (arith, len))) (omega (arith, c.self.invariant.packed))
    ∙ ap (λ (t : Shelf). with_bytes t.files file []) c.self.view_is

pub invariant_of-self : goal.invariant_of-self
invariant_of-self c =
    let k = (goal.at.invariant_of-self c).After-spot_of-spot in
    let held = c.self.inside.held.items in
    let bytes = c.self.inside.bytes.items in
    let s = c.spot_of-spot.result.start in
    let n = c.spot_of-spot.result.len in
    let size : held_length (slice_set held c.spot_of-spot.result.place (record c.index_mut.result.now { len = 0 })) ≡ length c.remove.new.bytes.items =
    ap held_length (entries (goal.at.invariant_of-self c).After-index_mut)
    ∙ omega (
      arith,
      held_length-relength held c.args.file 0 (place_filled held c.args.file (omega (arith, len k))),
      len k,
      ap length c.remove.ensures.bytes,
      length-append (take s bytes) (drop (s + n) bytes),
      length-take s bytes,
      length-drop (s + n) bytes,
      c.spot_of-spot.ensures.within,
      ap held_length c.deref.ensures.value,
      c.self.invariant.packed,
    ) in
    laid_with c.args.self.now _ c.remove.new.bytes.items c.args.file [] (omega (arith, c.ranges.file.fits)) (subst (λ (t : Shelf). total_length t.files ≡ lengths_of t.files) c.self.view_is c.self.invariant.total)
    size (emptied (goal.at.invariant_of-self c).After-index_mut)

pub returns-then-spot-gt0-clause-empty : goal.returns-then-spot-gt0-clause-empty
returns-then-spot-gt0-clause-empty c =
    ap (λ (l : List (ℕ × List ℕ)). bytes_of l c.args.file) (emptied (goal.at.returns-then-spot-gt0-clause-empty c).After-index_mut) ∙ bytes_of-same c.args.file [] c.args.self.now.files

pub returns-then-spot-gt0-clause-same : goal.returns-then-spot-gt0-clause-same
returns-then-spot-gt0-clause-same c = λ bytes.
    ap (λ (l : List (ℕ × List ℕ)). with_bytes l c.args.file bytes) (emptied (goal.at.returns-then-spot-gt0-clause-same c).After-index_mut) ∙ with_again c.args.file bytes [] c.args.self.now.files

pub returns-then-spot-gt0-clause-count : goal.returns-then-spot-gt0-clause-count
returns-then-spot-gt0-clause-count c =
    let held = c.self.inside.held.items in
    ap (λ (l : List Held). length (contents l c.remove.new.bytes.items)) (entries (goal.at.returns-then-spot-gt0-clause-count c).After-index_mut)
    ∙ length-contents (relength held c.args.file 0) c.remove.new.bytes.items ∙ length-relength held c.args.file 0 ∙ sym (length-contents held c.self.inside.bytes.items)
    ∙ ap (λ (t : Shelf). length t.files) c.self.view_is

pub returns-then-spot-gt0-clause-total : goal.returns-then-spot-gt0-clause-total
returns-then-spot-gt0-clause-total c =
    omega (arith, ap lengths_of (emptied (goal.at.returns-then-spot-gt0-clause-total c).After-index_mut), lengths-with c.args.self.now.files c.args.file [] (omega (arith, c.ranges.file.fits)))

pub returns-else-spot-gt0-clause-empty : goal.returns-else-spot-gt0-clause-empty
returns-else-spot-gt0-clause-empty c =
    let held = c.self.inside.held.items in
    let k = (goal.at.returns-else-spot-gt0-clause-empty c).After-spot_of-spot in
    nil_from_length (bytes_of c.args.self.now.files c.args.file) (ap (λ (t : Shelf). length (bytes_of t.files c.args.file)) (sym c.self.view_is) ∙ length-bytes_of held c.self.inside.bytes.items c.args.file (omega (arith, c.self.invariant.packed)) ∙ omega (arith, len k))
