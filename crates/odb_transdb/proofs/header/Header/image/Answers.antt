use Rattle.std.proofs.Common.{◌≡◌, ℕ, List, replicate, ◌∙◌, ap}
use Rattle.std.specs.Int.{w16, w64, to_be_bytes}
use Rattle.std.proofs.Math.ListN.{set}
use borrow.Rule.Slice.PartMut.{put_mid}
use Rattle.odb_transdb.specs.declared.header.Header.{Header}
use Rattle.odb_transdb.specs.Header.{header_image, state_byte}
use Rattle.odb_transdb.proofs.header.Header.image.Goals as goal

-- zeros with the fields at their places
abbrev built : ℕ → List ℕ → List ℕ → ℕ → List ℕ → List ℕ → List ℕ
built active format side state first0 first1 =
    put_mid 14 8 (put_mid 6 8 (set (set (put_mid 2 2 (put_mid 0 2 (replicate 40 0) format) side) 4 active) 5 state) first0) first1

module _ (h : Header) where
  built_is : (format side first0 first1 : List ℕ) (state : ℕ) → format ≡ to_be_bytes w16 h.format → side ≡ to_be_bytes w16 h.side_kib → state ≡ state_byte h.other
      → first0 ≡ to_be_bytes w64 h.first0 → first1 ≡ to_be_bytes w64 h.first1 → built h.active format side state first0 first1 ≡ header_image h
  unfolding header_image
  built_is format side first0 first1 state a b s c d =
      ap (λ (x : List ℕ). built h.active x side state first0 first1) a ∙ ap (λ (x : List ℕ). built h.active (to_be_bytes w16 h.format) x state first0 first1) b
      ∙ ap (λ (x : ℕ). built h.active (to_be_bytes w16 h.format) (to_be_bytes w16 h.side_kib) x first0 first1) s
      ∙ ap (λ (x : List ℕ). built h.active (to_be_bytes w16 h.format) (to_be_bytes w16 h.side_kib) (state_byte h.other) x first1) c
      ∙ ap (λ (x : List ℕ). built h.active (to_be_bytes w16 h.format) (to_be_bytes w16 h.side_kib) (state_byte h.other) (to_be_bytes w64 h.first0) x) d

pub returns : goal.returns
returns c =
    let side = rw c.write_u16.ensures at c.write_u16-2.ensures in
    let first0 = rw (c.write_u16.ensures, side) at c.write_u64.ensures in
    let first1 = rw (c.write_u16.ensures, side, first0) at c.write_u64-2.ensures in
    built_is c.args.self.now c.write_u16.new.buf c.write_u16-2.new.buf c.write_u64.new.buf c.write_u64-2.new.buf c.state_byte.result c.write_u16.ensures side
    c.state_byte.ensures first0 first1
