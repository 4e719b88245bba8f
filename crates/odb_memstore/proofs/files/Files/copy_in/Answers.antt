use Rattle.std.proofs.Common.{◌≡◌, ◌+◌, ◌≤◌, ◌∙◌, ◌++◌, List, ℕ, length, take, drop, sym, ap, subst, arith, length-append, length-drop, length-take}
use Rattle.odb_memstore.specs.declared.files.Held.{Held}
use Rattle.odb_memstore.specs.Shelf.{Shelf}
use Rattle.odb_memstore.specs.Numbered.{bytes_of, with_bytes, IsThere, pasted, lengths_of}
use Rattle.odb_memstore.specs.Layout.{total_length, contents, held_length, start_of, length_of}
use Rattle.odb_memstore.proofs.Laid.{place_there}
use Rattle.odb_memstore.proofs.Grown.{length-bytes_of, contents-pasted, laid_with}
use Rattle.odb_memstore.proofs.files.Files.copy_in.Goals as goal
use Rattle.odb_memstore.proofs.files.Files.copy_in.Goals.{After-spot_of-spot, After-paste}

-- the piece lies within the file
inside : (c : After-spot_of-spot) → c.args.at + length c.args.piece.now ≤ c.spot_of-spot.result.len
inside c =
    let held = c.self.inside.held.items in
    let size = length-bytes_of held c.self.inside.bytes.items c.args.file (omega (arith, c.self.invariant.packed)) in
    let shown = ap (λ (t : Shelf). length (bytes_of t.files c.args.file)) c.self.view_is in
    omega (arith, c.requires.within, size, shown, c.spot_of-spot.ensures.len, ap (λ (l : List Held). length_of l c.args.file) c.deref.ensures.value)

pub overflow_add-spot : goal.overflow_add-spot
overflow_add-spot c =
    let low = inside (goal.at.overflow_add-spot c).After-spot_of-spot in
    omega (arith, low, c.spot_of-spot.ensures.within, c.self.invariant.packed, c.self.inside.bytes.ok.0, ap held_length c.deref.ensures.value)

pub paste-requires : goal.paste-requires
paste-requires c =
    let low = inside (goal.at.paste-requires c).After-spot_of-spot in
    omega (arith, low, c.spot_of-spot.ensures.within, c.self.invariant.packed, c.self.inside.bytes.ok.0, ap held_length c.deref.ensures.value)

-- the files after it
then : (c : After-paste) → c.args.at + length c.args.piece.now ≤ c.spot_of-spot.result.len
    → contents c.self.inside.held.items c.paste.new.bytes.items ≡ with_bytes c.args.self.now.files c.args.file (pasted c.args.at c.args.piece.now (bytes_of c.args.self.now.files c.args.file))
then c low =
    let held = c.self.inside.held.items in
    let bytes = c.self.inside.bytes.items in
    let file = c.args.file in
    let piece = c.args.piece.now in
    let start : c.spot_of-spot.result.start ≡ start_of held file = c.spot_of-spot.ensures.start ∙ ap (λ (l : List Held). start_of l file) c.deref.ensures.value in
    let there = subst (λ (t : Shelf). IsThere t.files file) (sym c.self.view_is) c.requires.there in
    ap (contents held) (c.paste.ensures.bytes ∙ ap (λ (n : ℕ). pasted (n + c.args.at) piece bytes) start)
    ∙ contents-pasted held bytes file c.args.at piece (place_there held bytes file there) (omega (arith, c.self.invariant.packed)) (omega (arith, low, c.spot_of-spot.ensures.len, ap (λ (l : List Held). length_of l file) c.deref.ensures.value))
    ∙ ap (λ (t : Shelf). with_bytes t.files file (pasted c.args.at piece (bytes_of t.files file))) c.self.view_is

pub invariant_of-self : goal.invariant_of-self
invariant_of-self c =
    let low = inside (goal.at.invariant_of-self c).After-spot_of-spot in
    let bytes = c.self.inside.bytes.items in
    let at = c.spot_of-spot.result.start + c.args.at in
    let piece = c.args.piece.now in
    let long : length c.paste.new.bytes.items ≡ length bytes = omega (
      arith,
      low,
      c.spot_of-spot.ensures.within,
      c.self.invariant.packed,
      ap held_length c.deref.ensures.value,
      ap length c.paste.ensures.bytes,
      length-append (take at bytes ++ piece) (drop (at + length piece) bytes),
      length-append (take at bytes) piece,
      length-take at bytes,
      length-drop (at + length piece) bytes,
    ) in
    laid_with c.args.self.now c.self.inside.held.items c.paste.new.bytes.items c.args.file _ (omega (arith, c.ranges.file.fits)) (subst (λ (t : Shelf). total_length t.files ≡ lengths_of t.files) c.self.view_is c.self.invariant.total)
    (c.self.invariant.packed ∙ sym long) (then (goal.at.invariant_of-self c).After-paste low)

pub returns-clause-files : goal.returns-clause-files
returns-clause-files c = then (goal.at.returns-clause-files c).After-paste (inside (goal.at.returns-clause-files c).After-spot_of-spot)
