-- A header and its forty bytes.
use Rattle.std.proofs.Common.{◌≡◌, ℕ, ◌+◌, ◌^◌, ◌≤◌, Bool, true, false, List, Option, Some, None, refl, sym, ◌∙◌, ap, subst, arith}
use Rattle.std.specs.Prelude.{IsTrue, ◌==◌, ◌&&◌, slice_index, if◌then◌else◌}
use Rattle.std.specs.Int.{w16, w64, to_be_bytes, from_be_bytes}
use Rattle.std.specs.Cmp.Lexicographic.{pointwise, bytes_decides}
use Rattle.std.proofs.lemmas.Bool.{and_parts}
use Rattle.std.proofs.lemmas.Bool.Decides.{nat_tests}
use Rattle.std.proofs.lemmas.Nat.{from_be_bytes-to_be_bytes_2, from_be_bytes-to_be_bytes_8}
use Rattle.odb_device.specs.Images.{part}
use Rattle.odb_model.specs.declared.side.OtherSide.{OtherSide}
use Rattle.odb_model.specs.declared.side.OtherSide.TheVariants.{Live, Dirty, Clean}
use Rattle.odb_transdb.specs.declared.header.Header.{Header}
use Rattle.odb_transdb.specs.Header.{state_byte, state_of, header_image, is_header, with_fields, checked, with_state, header_of}

-- what a lawful header says of its fields
pub record IsLawful (h : Header) : Type 0 where
  pub format : h.format ≡ 1
  pub low : 64 ≤ h.side_kib
  pub high : h.side_kib ≤ 16384
  pub active : h.active ≤ 1
  pub first0 : h.first0 ≤ 2 ^ 48 + 1
  pub first1 : h.first1 ≤ 2 ^ 48 + 1
  pub some0 : 1 ≤ h.first0
  pub some1 : 1 ≤ h.first1

pub lawful_is : (h : Header) → IsTrue (is_header h) → IsLawful h
lawful_is h is = record {
  format = grind (arith, nat_tests);
  low = grind (arith, nat_tests);
  high = grind (arith, nat_tests);
  active = grind (arith, nat_tests);
  first0 = grind (arith, nat_tests);
  first1 = grind (arith, nat_tests);
  some0 = grind (arith, nat_tests);
  some1 = grind (arith, nat_tests);
}

module _ (h : Header) where
  abbrev image : List ℕ
  image = header_image h

  state_again : (o : OtherSide) → state_of (state_byte o) ≡ Some o
  state_again Live = refl
  state_again Dirty = refl
  state_again Clean = refl

  state_back : state_of (slice_index image 5) ≡ Some h.other
  unfolding header_image
  state_back = state_again h.other

  abbrev made : ℕ → ℕ → ℕ → ℕ → Header
  made format side first0 first1 = record { format = format; side_kib = side; active = h.active; other = h.other; first0 = first0; first1 = first1 }

  fields_back : IsTrue (is_header h) → with_fields image h.other ≡ h
  unfolding header_image
  fields_back is =
      let l = lawful_is h is in
      let format : from_be_bytes w16 (to_be_bytes w16 h.format) ≡ h.format = from_be_bytes-to_be_bytes_2 h.format (omega (arith, l.format)) in
      let side : from_be_bytes w16 (to_be_bytes w16 h.side_kib) ≡ h.side_kib = from_be_bytes-to_be_bytes_2 h.side_kib (omega (arith, l.high)) in
      let first0 : from_be_bytes w64 (to_be_bytes w64 h.first0) ≡ h.first0 = from_be_bytes-to_be_bytes_8 h.first0 (omega (arith, l.first0)) in
      let first1 : from_be_bytes w64 (to_be_bytes w64 h.first1) ≡ h.first1 = from_be_bytes-to_be_bytes_8 h.first1 (omega (arith, l.first1)) in
      ap (λ (x : ℕ). made x (from_be_bytes w16 (to_be_bytes w16 h.side_kib)) (from_be_bytes w64 (to_be_bytes w64 h.first0)) (from_be_bytes w64 (to_be_bytes w64 h.first1))) format
      ∙ ap (λ (x : ℕ). made h.format x (from_be_bytes w64 (to_be_bytes w64 h.first0)) (from_be_bytes w64 (to_be_bytes w64 h.first1))) side
      ∙ ap (λ (x : ℕ). made h.format h.side_kib x (from_be_bytes w64 (to_be_bytes w64 h.first1))) first0
      ∙ ap (λ (x : ℕ). made h.format h.side_kib h.first0 x) first1

  is_checked : (bytes : List ℕ) → IsTrue (is_header h) → bytes ≡ header_image h → checked bytes h ≡ Some h
  is_checked bytes is same =
      let passes : pointwise ◌==◌ (header_image h) bytes ≡ true = (bytes_decides (header_image h) bytes).1 (sym same) in
      ap (λ (b : Bool). if b && pointwise ◌==◌ (header_image h) bytes then Some h else None) is
      ∙ ap (λ (b : Bool). if b then Some h else None) passes

  -- the image of a lawful header is read as that header
  pub header_again : IsTrue (is_header h) → header_of image ≡ Some h
  unfolding header_of
  header_again is = ap (with_state image) state_back ∙ ap (checked image) (fields_back is) ∙ is_checked image is refl

-- what is read is a lawful header, whose image was read
pub record IsRead (h : Header) (bytes : List ℕ) : Type 0 where
  pub lawful : IsTrue (is_header h)
  pub image : bytes ≡ header_image h

checked_takes : (bytes : List ℕ) (found h : Header) → checked bytes found ≡ Some h → IsRead h bytes
checked_takes bytes found h e = of_test (is_header found && pointwise ◌==◌ (header_image found) bytes) refl
  where
    of_test : (b : Bool) → is_header found && pointwise ◌==◌ (header_image found) bytes ≡ b → IsRead h bytes
    of_test false fails = let none : None ≡ Some h = sym (ap (λ (b : Bool). if b then Some found else None) fails) ∙ e in absurd (cc none)
    of_test true passes =
        let some : Some found ≡ Some h = sym (ap (λ (b : Bool). if b then Some found else None) passes) ∙ e in
        let same : found ≡ h = cc some in
        let both = and_parts (is_header found) (pointwise ◌==◌ (header_image found) bytes) passes in
        subst (λ (x : Header). IsRead x bytes) same (record { lawful = both.0; image = sym ((bytes_decides (header_image found) bytes).0 both.1) })

state_takes : (bytes : List ℕ) (o : Option OtherSide) (h : Header) → with_state bytes o ≡ Some h → IsRead h bytes
state_takes bytes None h e = absurd (cc e)
state_takes bytes (Some other) h e = checked_takes bytes (with_fields bytes other) h e

pub header_takes : (bytes : List ℕ) (h : Header) → header_of bytes ≡ Some h → IsRead h bytes
unfolding header_of
header_takes bytes h e = state_takes bytes (state_of (slice_index bytes 5)) h e

-- the header has the fields that stand at their places
pub record AreFields (bytes : List ℕ) (h : Header) : Type 0 where
  pub format : h.format ≡ from_be_bytes w16 (part 0 2 bytes)
  pub side : h.side_kib ≡ from_be_bytes w16 (part 2 2 bytes)
  pub active : h.active ≡ slice_index bytes 4
  pub state : state_of (slice_index bytes 5) ≡ Some h.other
  pub first0 : h.first0 ≡ from_be_bytes w64 (part 6 8 bytes)
  pub first1 : h.first1 ≡ from_be_bytes w64 (part 14 8 bytes)

module _ (bytes : List ℕ) (h : Header) (are : AreFields bytes h) where
  abbrev of_parts : ℕ → ℕ → ℕ → ℕ → ℕ → Header
  of_parts format side active first0 first1 = record { format = format; side_kib = side; active = active; other = h.other; first0 = first0; first1 = first1 }

  fields_are : with_fields bytes h.other ≡ h
  fields_are =
      ap (λ (x : ℕ). of_parts x (from_be_bytes w16 (part 2 2 bytes)) (slice_index bytes 4) (from_be_bytes w64 (part 6 8 bytes)) (from_be_bytes w64 (part 14 8 bytes))) (sym are.format)
      ∙ ap (λ (x : ℕ). of_parts h.format x (slice_index bytes 4) (from_be_bytes w64 (part 6 8 bytes)) (from_be_bytes w64 (part 14 8 bytes))) (sym are.side)
      ∙ ap (λ (x : ℕ). of_parts h.format h.side_kib x (from_be_bytes w64 (part 6 8 bytes)) (from_be_bytes w64 (part 14 8 bytes))) (sym are.active)
      ∙ ap (λ (x : ℕ). of_parts h.format h.side_kib h.active x (from_be_bytes w64 (part 14 8 bytes))) (sym are.first0)
      ∙ ap (λ (x : ℕ). of_parts h.format h.side_kib h.active h.first0 x) (sym are.first1)

  found_checked : header_of bytes ≡ checked bytes h
  unfolding header_of
  found_checked = ap (with_state bytes) are.state ∙ ap (checked bytes) fields_are

  -- it is what the bytes tell, where it passes both tests
  pub found_some : is_header h ≡ true → pointwise ◌==◌ (header_image h) bytes ≡ true → header_of bytes ≡ Some h
  found_some lawful same =
      found_checked ∙ ap (λ (b : Bool). if b && pointwise ◌==◌ (header_image h) bytes then Some h else None) lawful
      ∙ ap (λ (b : Bool). if b then Some h else None) same

  pub found_unlawful : is_header h ≡ false → header_of bytes ≡ None
  found_unlawful fails = found_checked ∙ ap (λ (b : Bool). if b && pointwise ◌==◌ (header_image h) bytes then Some h else None) fails

  pub found_other : is_header h ≡ true → pointwise ◌==◌ (header_image h) bytes ≡ false → header_of bytes ≡ None
  found_other lawful fails =
      found_checked ∙ ap (λ (b : Bool). if b && pointwise ◌==◌ (header_image h) bytes then Some h else None) lawful
      ∙ ap (λ (b : Bool). if b then Some h else None) fails
