-- Files in memory after one of them was written to.
use Rattle.std.proofs.Common.{◌≡◌, ◌^◌, subst, inl, inr, zero, suc, max, ℕ, ◌+◌, ◌-◌, ◌<◌, ◌≤◌, List, [], ◌++◌, length, take, drop, replicate, refl, sym, ◌∙◌, ap, arith, append_assoc, length-append, length-drop, length-take}
use Rattle.std.specs.Prelude.{slice_index}
use Rattle.std.proofs.lemmas.Bool.{cases_lt}
use Rattle.std.proofs.lemmas.List.{length-replicate, append-nil, drop_all, get_or-take, get_or-drop, get_or_append_left, get_or-append_right, get_or_past, same_lists, get_or_default, take-take, take-append-drop, drop-append-le, drop-drop}
use Rattle.std.proofs.Math.Seq.{take-add}
use Rattle.odb_device.specs.Images.{part, overwritten}
use Rattle.odb_device.proofs.Bytes.{length-part, length-overwritten, overwritten-front, overwritten-inside, overwritten-after}
use Rattle.odb_memstore.specs.declared.files.Held.{Held}
use Rattle.odb_memstore.specs.Shelf.{Shelf}
use Rattle.odb_memstore.specs.Numbered.{bytes_of, with_bytes, extended, pasted, lengths_of}
use Rattle.odb_memstore.specs.Layout.{total_length, contents, held_length, place_of, start_of, length_of, IsLaid}
use Rattle.odb_memstore.proofs.Named.{bytes_of-same, with_again, total_kept}
use Rattle.odb_memstore.proofs.Laid.{total-contents, bytes_of-contents, ends_within, relength, replaced, contents-replaced, relength_same}

-- how many bytes a file has
pub length-bytes_of : (held : List Held) (bytes : List ℕ) (file : ℕ) → held_length held ≤ length bytes → length (bytes_of (contents held bytes) file) ≡ length_of held file
length-bytes_of held bytes file le =
    ap length (bytes_of-contents held bytes file) ∙ length-part (start_of held file) (length_of held file) bytes (omega (arith, ends_within held file))

-- what is written to a file that was entered before
pub with_entered : (files entered : List (ℕ × List ℕ)) (file : ℕ) (bytes : List ℕ) → entered ≡ with_bytes files file (bytes_of files file) → with_bytes entered file bytes ≡ with_bytes files file bytes
with_entered files entered file bytes is = ap (λ (l : List (ℕ × List ℕ)). with_bytes l file bytes) is ∙ with_again file bytes (bytes_of files file) files

pub bytes_of-entered : (files entered : List (ℕ × List ℕ)) (file : ℕ) → entered ≡ with_bytes files file (bytes_of files file) → bytes_of entered file ≡ bytes_of files file
bytes_of-entered files entered file is = ap (λ (l : List (ℕ × List ℕ)). bytes_of l file) is ∙ bytes_of-same file (bytes_of files file) files

module _ (held : List Held) (bytes : List ℕ) (file : ℕ) (within : place_of held file < length held) (all : held_length held ≤ length bytes) where
  -- a file with zeros behind what it has
  pub contents-grown : (end : ℕ) → length_of held file ≤ end
      → contents (relength held file end) (take (start_of held file + length_of held file) bytes ++ replicate (end - length_of held file) 0 ++ drop (start_of held file + length_of held file) bytes)
      ≡ with_bytes (contents held bytes) file (extended end (bytes_of (contents held bytes) file))
  contents-grown end more =
      let s = start_of held file in
      let l = length_of held file in
      let old = part s l bytes in
      let zeros : List ℕ = replicate (end - l) 0 in
      let long = length-bytes_of held bytes file all in
      let new = extended end (bytes_of (contents held bytes) file) in
      let is : new ≡ old ++ replicate (end - l) 0 = ap (λ (x : List ℕ). extended end x) (bytes_of-contents held bytes file) ∙ ap (λ (k : ℕ). old ++ replicate (end - k) 0) (sym (ap length (bytes_of-contents held bytes file)) ∙ long) in
      let size : length new ≡ end = omega (arith, long, length-append (bytes_of (contents held bytes) file) (replicate (end - length (bytes_of (contents held bytes) file)) 0), length-replicate {A = ℕ} (end - length (bytes_of (contents held bytes) file)) 0) in
      let front : take (s + l) bytes ≡ take s bytes ++ old = take-add s l bytes in
      let whole : take (s + l) bytes ++ zeros ++ drop (s + l) bytes ≡ replaced held file new bytes =
      ap (λ (x : List ℕ). x ++ zeros ++ drop (s + l) bytes) front
      ∙ ap (λ (x : List ℕ). x ++ drop (s + l) bytes) (append_assoc (take s bytes) old zeros)
      ∙ append_assoc (take s bytes) (old ++ zeros) (drop (s + l) bytes)
      ∙ ap (λ (x : List ℕ). take s bytes ++ (x ++ drop (s + l) bytes)) (sym is) in
      ap (contents (relength held file end)) whole ∙ ap (λ (n : ℕ). contents (relength held file n) (replaced held file new bytes)) (sym size) ∙ contents-replaced held bytes new file within all

pub length-entered : (files : List (ℕ × List ℕ)) (held : List Held) (bytes : List ℕ) (file : ℕ) → held_length held ≤ length bytes → contents held bytes ≡ with_bytes files file (bytes_of files file) → length (bytes_of files file) ≡ length_of held file
length-entered files held bytes file all is = ap length (sym (bytes_of-entered files (contents held bytes) file is)) ∙ length-bytes_of held bytes file all

-- a piece written over what a file has
pub contents-pasted : (held : List Held) (bytes : List ℕ) (file at : ℕ) (piece : List ℕ) → place_of held file < length held → held_length held ≤ length bytes → at + length piece ≤ length_of held file
    → contents held (pasted (start_of held file + at) piece bytes) ≡ with_bytes (contents held bytes) file (pasted at piece (bytes_of (contents held bytes) file))
contents-pasted held bytes file at piece within all inside =
    let s = start_of held file in
    let l = length_of held file in
    let n = length piece in
    let rest : List ℕ = drop s bytes in
    let old : List ℕ = take l rest in
    let long : length old ≡ l = length-part s l bytes (omega (arith, ends_within held file)) in
    let new : List ℕ = pasted at piece old in
    let size : length new ≡ l = omega (arith, long, inside, length-append (take at old ++ piece) (drop (at + n) old), length-append (take at old) piece, length-take at old, length-drop (at + n) old) in
    let front : take (s + at) bytes ≡ take s bytes ++ take at old = take-add s at bytes ∙ ap (λ (x : List ℕ). take s bytes ++ x) (sym (take-take at l rest (omega arith))) in
    let back : drop (s + at + n) bytes ≡ drop (at + n) old ++ drop (s + l) bytes =
    ap (λ (k : ℕ). drop k bytes) (let e : s + at + n ≡ s + (at + n) = omega arith in e) ∙ sym (drop-drop (at + n) s bytes)
    ∙ ap (drop (at + n)) (sym (take-append-drop l rest)) ∙ drop-append-le (at + n) old (drop l rest) (omega (arith, long, inside))
    ∙ ap (λ (x : List ℕ). drop (at + n) old ++ x) (drop-drop l s bytes) in
    let whole : pasted (s + at) piece bytes ≡ replaced held file new bytes =
    append_assoc (take (s + at) bytes) piece (drop (s + at + n) bytes)
    ∙ ap (λ (x : List ℕ). x ++ (piece ++ drop (s + at + n) bytes)) front ∙ ap (λ (x : List ℕ). take s bytes ++ take at old ++ (piece ++ x)) back
    ∙ append_assoc (take s bytes) (take at old) (piece ++ (drop (at + n) old ++ drop (s + l) bytes))
    ∙ ap (λ (x : List ℕ). take s bytes ++ x) (sym (append_assoc (take at old) piece (drop (at + n) old ++ drop (s + l) bytes)) ∙ sym (append_assoc (take at old ++ piece) (drop (at + n) old) (drop (s + l) bytes))) in
    ap (contents held) whole ∙ ap (λ (h : List Held). contents h (replaced held file new bytes)) (sym (relength_same held file) ∙ ap (relength held file) (sym size))
    ∙ contents-replaced held bytes new file within all
    ∙ ap (λ (x : List ℕ). with_bytes (contents held bytes) file (pasted at piece x)) (sym (bytes_of-contents held bytes file))

-- a list with zeros behind it reads the same
zeros_same : (old : List ℕ) (n i : ℕ) → slice_index (old ++ replicate n 0) i ≡ slice_index old i
zeros_same old n i = elim (cases_lt i (length old)) [
  | inl within ↦ get_or_append_left old (replicate n 0) 0 i within
  | inr past ↦ get_or-append_right old (replicate n 0) (length old) i 0 refl past ∙ zeros n (i - length old) ∙ sym (get_or_past old i 0 past)
]
  where
    zeros : (n i : ℕ) → slice_index (replicate n 0) i ≡ 0
    zeros zero i = refl
    zeros (suc n) zero = refl
    zeros (suc n) (suc i) = zeros n i

-- the bytes of a write, when zeros were put behind first
pub pasted-extended : (at : ℕ) (piece old : List ℕ) → pasted at piece (extended (at + length piece) old) ≡ overwritten at piece old
pasted-extended at piece old =
    let e = extended (at + length piece) old in
    let n = length piece in
    let long : length e ≡ max (length old) (at + n) = omega (arith, length-append old (replicate (at + n - length old) 0), length-replicate {A = ℕ} (at + n - length old) 0) in
    let reads : (i : ℕ) → slice_index e i ≡ slice_index old i = λ i. zeros_same old (at + n - length old) i in
    let front : length (take at e) ≡ at = omega (arith, length-take at e) in
    let two : length (take at e ++ piece) ≡ at + n = omega (arith, front, length-append (take at e) piece) in
    let all : length (take at e ++ piece ++ drop (at + n) e) ≡ length (overwritten at piece old) =
    omega (arith, two, length-append (take at e ++ piece) (drop (at + n) e), length-drop (at + n) e, length-overwritten at piece old) in
    same_lists _ _ all (λ i d low.
    get_or_default _ i d 0 low
    ∙ elim (cases_lt i at) [
      | inl below ↦ get_or_append_left (take at e ++ piece) (drop (at + n) e) 0 i (omega (arith, two)) ∙ get_or_append_left (take at e) piece 0 i (omega (arith, front)) ∙ get_or-take at e i 0 below ∙ reads i
          ∙ sym (overwritten-front at piece old i below)
      | inr from ↦ elim (cases_lt i (at + n)) [
        | inl inside ↦
            let there : at + (i - at) ≡ i = omega arith in
            get_or_append_left (take at e ++ piece) (drop (at + n) e) 0 i (omega (arith, two)) ∙ get_or-append_right (take at e) piece at i 0 front from
            ∙ sym (ap (slice_index (overwritten at piece old)) (sym there) ∙ overwritten-inside at piece old (i - at) (omega arith))
        | inr past ↦
            let there : at + n + (i - (at + n)) ≡ i = omega arith in
            get_or-append_right (take at e ++ piece) (drop (at + n) e) (at + n) i 0 two past ∙ get_or-drop (at + n) e (i - (at + n)) 0 ∙ ap (slice_index e) there ∙ reads i ∙ sym (overwritten-after at piece old i past)
      ]
    ]
    ∙ sym (get_or_default _ i d 0 (omega (arith, low, all))))

-- what is written into an empty file
pub overwritten-nothing : (bytes : List ℕ) → overwritten 0 bytes [] ≡ bytes
unfolding overwritten
overwritten-nothing bytes = ap (λ (x : List ℕ). [] ++ bytes ++ x) (drop_all (0 + length bytes) [] (omega arith)) ∙ append-nil ([] ++ bytes)

-- what holds of entries and bytes that give a file other bytes
pub laid_with : (before : Shelf) (held : List Held) (bytes : List ℕ) (file : ℕ) (new : List ℕ) → file < 2 ^ 32 → total_length before.files ≡ lengths_of before.files
    → held_length held ≡ length bytes → contents held bytes ≡ with_bytes before.files file new → IsLaid held bytes
laid_with before held bytes file new low total packed is = record {
  packed = packed;
  total = subst (λ (l : List (ℕ × List ℕ)). total_length l ≡ lengths_of l) (sym is) (total_kept before.files file new low total);
}

-- the lengths of all files are those of the bytes that they lie in
pub lengths_laid : (held : List Held) (bytes : List ℕ) → IsLaid held bytes → lengths_of (contents held bytes) ≡ length bytes
lengths_laid held bytes laid = sym laid.total ∙ total-contents held bytes (omega (arith, laid.packed)) ∙ laid.packed
