-- One file's bytes among those of all.
use Rattle.std.proofs.Common.{◌≡◌, inl, inr, ℕ, suc, ◌+◌, ◌<◌, ◌≤◌, true, false, List, [], ◌∷◌, ◌++◌, length, take, drop, get_or, refl, sym, ◌∙◌, ap, arith, append_assoc, length-append, length-take, length-drop}
use Rattle.std.specs.Prelude.{if◌then◌else◌, ◌==◌, slice_set}
use Rattle.std.proofs.lemmas.Bool.{cases_lt}
use Rattle.std.proofs.lemmas.Bool.Decides.{nat_tests}
use Rattle.std.proofs.lemmas.List.{drop-drop, take_at, drop_at}
use Rattle.std.proofs.Math.Seq.{take-add, take-append_seam, drop-append_seam}
use Rattle.odb_device.specs.Images.{part}
use Rattle.odb_memstore.specs.declared.files.Held.{Held}
use Rattle.odb_memstore.specs.Numbered.{bytes_of, with_bytes, IsThere}
use Rattle.odb_memstore.specs.Layout.{total_length, contents, held_length, place_of, start_of, length_of}

pub total-contents : (held : List Held) (bytes : List ℕ) → held_length held ≤ length bytes → total_length (contents held bytes) ≡ held_length held
total-contents [] bytes le = refl
total-contents (h ∷ held) bytes le = omega (arith, total-contents held (drop h.len bytes) (omega (arith, length-drop h.len bytes)), length-take h.len bytes)

pub length-contents : (held : List Held) (bytes : List ℕ) → length (contents held bytes) ≡ length held
length-contents [] bytes = refl
length-contents (h ∷ held) bytes = ap suc (length-contents held (drop h.len bytes))

-- the entry of a file that has one
pub length_at : (held : List Held) (file : ℕ) (d : Held) → place_of held file < length held → (get_or held (place_of held file) d).len ≡ length_of held file
length_at [] file d within = absurd (omega arith)
length_at (h ∷ held) file d within = grind (arith, nat_tests, length_at held file d)

pub file_at : (held : List Held) (file : ℕ) (d : Held) → place_of held file < length held → (get_or held (place_of held file) d).file ≡ file
file_at [] file d within = absurd (omega arith)
file_at (h ∷ held) file d within = grind (arith, nat_tests, file_at held file d)

-- its bytes end within those of all
pub ends_within : (held : List Held) (file : ℕ) → start_of held file + length_of held file ≤ held_length held
ends_within [] file = omega arith
ends_within (h ∷ held) file = grind (arith, nat_tests, ends_within held file)

pub bytes_of-contents : (held : List Held) (bytes : List ℕ) (file : ℕ) → bytes_of (contents held bytes) file ≡ part (start_of held file) (length_of held file) bytes
bytes_of-contents [] bytes file = refl
bytes_of-contents (h ∷ held) bytes file =
    elim (h.file == file) as (λ b. (if b then take h.len bytes else bytes_of (contents held (drop h.len bytes)) file) ≡ part (if b then 0 else h.len + start_of held file) (if b then h.len else length_of held file) bytes) [
      | true ↦ refl
      | false ↦ bytes_of-contents held (drop h.len bytes) file ∙ ap (take (length_of held file)) (drop-drop (start_of held file) h.len bytes)
    ]

-- a file with no entry has no bytes
pub length_past : (held : List Held) (file : ℕ) → length held ≤ place_of held file → length_of held file ≡ 0
length_past [] file past = refl
length_past (h ∷ held) file past = grind (arith, nat_tests, length_past held file)

-- the entries when the file's has another length
abbrev pub relength : List Held → ℕ → ℕ → List Held
relength [] file n = []
relength (h ∷ held) file n = if h.file == file then (record h { len = n }) ∷ held else h ∷ relength held file n

pub relength_is : (held : List Held) (file n : ℕ) (d : Held) → place_of held file < length held → slice_set held (place_of held file) (record (get_or held (place_of held file) d) { len = n }) ≡ relength held file n
relength_is [] file n d within = absurd (omega arith)
relength_is (h ∷ held) file n d within =
    elim (h.file == file) as (λ b. (if b then 0 else suc (place_of held file)) < suc (length held)
    → slice_set (h ∷ held) (if b then 0 else suc (place_of held file)) (record (get_or (h ∷ held) (if b then 0 else suc (place_of held file)) d) { len = n }) ≡ (if b then (record h { len = n }) ∷ held else h ∷ relength held file n)) [
      | true ↦ λ low. refl
      | false ↦ λ low. ap (λ (l : List Held). h ∷ l) (relength_is held file n d (omega arith))
    ] within

-- what a write to the entry makes of them
pub relength_by : (held : List Held) (file n place : ℕ) (h : Held) → place ≡ place_of held file → place < length held → h ≡ get_or held place h → slice_set held place (record h { len = n }) ≡ relength held file n
relength_by held file n place h is within read =
    ap (λ (d : Held). slice_set held place (record d { len = n })) read ∙ ap (λ (p : ℕ). slice_set held p (record (get_or held p h) { len = n })) is
    ∙ relength_is held file n h (omega arith)

pub relength_same : (held : List Held) (file : ℕ) → relength held file (length_of held file) ≡ held
relength_same [] file = refl
relength_same (h ∷ held) file =
    elim (h.file == file) as (λ b. (if b then (record h { len = if b then h.len else length_of held file }) ∷ held else h ∷ relength held file (if b then h.len else length_of held file)) ≡ h ∷ held) [
      | true ↦ refl
      | false ↦ ap (λ (l : List Held). h ∷ l) (relength_same held file)
    ]

pub length-relength : (held : List Held) (file n : ℕ) → length (relength held file n) ≡ length held
length-relength [] file n = refl
length-relength (h ∷ held) file n = elim (h.file == file) as (λ b. length (if b then (record h { len = n }) ∷ held else h ∷ relength held file n) ≡ suc (length held)) [
  | true ↦ refl
  | false ↦ ap suc (length-relength held file n)
]

pub held_length-relength : (held : List Held) (file n : ℕ) → place_of held file < length held → held_length (relength held file n) + length_of held file ≡ held_length held + n
held_length-relength [] file n within = absurd (omega arith)
held_length-relength (h ∷ held) file n within =
    elim (h.file == file) as (λ b. (if b then 0 else suc (place_of held file)) < suc (length held)
    → held_length (if b then (record h { len = n }) ∷ held else h ∷ relength held file n) + (if b then h.len else length_of held file) ≡ h.len + held_length held + n) [
      | true ↦ λ low. omega arith
      | false ↦ λ low. omega (arith, held_length-relength held file n (omega arith))
    ] within

-- the bytes of all, when the file has others
abbrev pub replaced : List Held → ℕ → List ℕ → List ℕ → List ℕ
replaced held file new bytes = take (start_of held file) bytes ++ (new ++ drop (start_of held file + length_of held file) bytes)

pub contents-replaced : (held : List Held) (bytes new : List ℕ) (file : ℕ) → place_of held file < length held → held_length held ≤ length bytes
    → contents (relength held file (length new)) (replaced held file new bytes) ≡ with_bytes (contents held bytes) file new
contents-replaced [] bytes new file within le = absurd (omega arith)
contents-replaced (h ∷ held) bytes new file within le =
    let n = length new in
    let s = start_of held file in
    let l = length_of held file in
    let rest = drop h.len bytes in
    elim (h.file == file) as (λ b. (if b then 0 else suc (place_of held file)) < suc (length held)
    → contents (if b then (record h { len = n }) ∷ held else h ∷ relength held file n) (take (if b then 0 else h.len + s) bytes ++ (new ++ drop ((if b then 0 else h.len + s) + (if b then h.len else l)) bytes))
    ≡ (if b then (h.file, new) ∷ contents held rest else (h.file, take h.len bytes) ∷ with_bytes (contents held rest) file new)) [
      | true ↦ λ low.
          let none : 0 + h.len ≡ h.len = omega arith in
          let front = take-append_seam new (drop (0 + h.len) bytes) in
          let back = drop-append_seam new (drop (0 + h.len) bytes) in
          cc
      | false ↦ λ low.
          let long : length (take h.len bytes) ≡ h.len = omega (arith, length-take h.len bytes) in
          let two : take (h.len + s) bytes ≡ take h.len bytes ++ take s rest = take-add h.len s bytes in
          let past : drop (s + l) rest ≡ drop (h.len + (s + l)) bytes = drop-drop (s + l) h.len bytes in
          let same : h.len + s + l ≡ h.len + (s + l) = omega arith in
          let whole : take (h.len + s) bytes ++ (new ++ drop (h.len + s + l) bytes) ≡ take h.len bytes ++ replaced held file new rest =
          ap (λ (x : List ℕ). x ++ (new ++ drop (h.len + s + l) bytes)) two ∙ append_assoc (take h.len bytes) (take s rest) (new ++ drop (h.len + s + l) bytes)
          ∙ ap (λ (x : List ℕ). take h.len bytes ++ (take s rest ++ (new ++ x))) (ap (λ (k : ℕ). drop k bytes) same ∙ sym past) in
          let front : take h.len (take h.len bytes ++ replaced held file new rest) ≡ take h.len bytes = take_at (take h.len bytes) (replaced held file new rest) h.len long in
          let back : drop h.len (take h.len bytes ++ replaced held file new rest) ≡ replaced held file new rest = drop_at (take h.len bytes) (replaced held file new rest) h.len long in
          let more = contents-replaced held rest new file (omega arith) (omega (arith, length-drop h.len bytes)) in
          ap (λ (x : List ℕ). (h.file, take h.len x) ∷ contents (relength held file n) (drop h.len x)) whole
          ∙ ap (λ (x : List ℕ). (h.file, x) ∷ contents (relength held file n) (drop h.len (take h.len bytes ++ replaced held file new rest))) front
          ∙ ap (λ (x : List ℕ). (h.file, take h.len bytes) ∷ contents (relength held file n) x) back
          ∙ ap (λ (x : List (ℕ × List ℕ)). (h.file, take h.len bytes) ∷ x) more
    ] within

-- a new entry behind the others
abbrev pub entered : List Held → ℕ → List Held
entered held file = held ++ (record { file = file; len = 0 }) ∷ []

pub place_within : (held : List Held) (file : ℕ) → place_of held file ≤ length held
place_within [] file = omega arith
place_within (h ∷ held) file = grind (arith, nat_tests, place_within held file)

pub place-entered : (held : List Held) (file : ℕ) → length held ≤ place_of held file → place_of (entered held file) file ≡ place_of held file
place-entered [] file past = grind (arith, nat_tests)
place-entered (h ∷ held) file past = grind (arith, nat_tests, place-entered held file)

pub start-entered : (held : List Held) (file : ℕ) → length held ≤ place_of held file → start_of (entered held file) file ≡ start_of held file
start-entered [] file past = grind (arith, nat_tests)
start-entered (h ∷ held) file past = grind (arith, nat_tests, start-entered held file)

pub held_length-entered : (held : List Held) (file : ℕ) → held_length (entered held file) ≡ held_length held
held_length-entered [] file = refl
held_length-entered (h ∷ held) file = omega (arith, held_length-entered held file)

pub contents-entered : (held : List Held) (bytes : List ℕ) (file : ℕ) → length held ≤ place_of held file
    → contents (entered held file) bytes ≡ with_bytes (contents held bytes) file (bytes_of (contents held bytes) file)
contents-entered [] bytes file past = refl
contents-entered (h ∷ held) bytes file past =
    let rest = drop h.len bytes in
    elim (h.file == file) as (λ b. suc (length held) ≤ (if b then 0 else suc (place_of held file))
    → (h.file, take h.len bytes) ∷ contents (entered held file) rest
    ≡ (if b then (h.file, (if b then take h.len bytes else bytes_of (contents held rest) file)) ∷ contents held rest
    else (h.file, take h.len bytes) ∷ with_bytes (contents held rest) file (if b then take h.len bytes else bytes_of (contents held rest) file))) [
      | true ↦ λ low. absurd (omega arith)
      | false ↦ λ low. ap (λ (l : List (ℕ × List ℕ)). (h.file, take h.len bytes) ∷ l) (contents-entered held rest file (omega arith))
    ] past

-- a file that is there may be given the bytes that it has
pub contents-present : (held : List Held) (bytes : List ℕ) (file : ℕ) → place_of held file < length held
    → contents held bytes ≡ with_bytes (contents held bytes) file (bytes_of (contents held bytes) file)
contents-present [] bytes file within = absurd (omega arith)
contents-present (h ∷ held) bytes file within =
    let rest = drop h.len bytes in
    elim (h.file == file) as (λ b. (if b then 0 else suc (place_of held file)) < suc (length held)
    → (h.file, take h.len bytes) ∷ contents held rest
    ≡ (if b then (h.file, (if b then take h.len bytes else bytes_of (contents held rest) file)) ∷ contents held rest
    else (h.file, take h.len bytes) ∷ with_bytes (contents held rest) file (if b then take h.len bytes else bytes_of (contents held rest) file))) [
      | true ↦ λ low. refl
      | false ↦ λ low. ap (λ (l : List (ℕ × List ℕ)). (h.file, take h.len bytes) ∷ l) (contents-present held rest file (omega arith))
    ] within

pub length_of-entered : (held : List Held) (file : ℕ) → length held ≤ place_of held file → length_of (entered held file) file ≡ 0
length_of-entered [] file past = grind (arith, nat_tests)
length_of-entered (h ∷ held) file past = grind (arith, nat_tests, length_of-entered held file)

pub place_there : (held : List Held) (bytes : List ℕ) (file : ℕ) → IsThere (contents held bytes) file → place_of held file < length held
place_there held bytes file there = elim (cases_lt (place_of held file) (length held)) [
  | inl low ↦ low
  | inr past ↦
      let same = ap length (contents-entered held bytes file past ∙ sym there) in
      absurd (omega (arith, same, length-contents held bytes, length-contents (entered held file) bytes, length-append held (record { file = file; len = 0 } ∷ [])))
]

-- a file that has bytes has an entry
pub place_filled : (held : List Held) (file : ℕ) → 0 < length_of held file → place_of held file < length held
place_filled held file filled = elim (cases_lt (place_of held file) (length held)) [
  | inl low ↦ low
  | inr past ↦ absurd (omega (arith, length_past held file past))
]
