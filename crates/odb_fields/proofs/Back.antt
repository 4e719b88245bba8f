-- Fields that are read as they were written.
use Rattle.std.proofs.Common.{◌≡◌, ℕ, ◌-◌, ◌≤◌, Bool, true, false, List, [], ◌∷◌, ◌++◌, length, drop, replicate, Option, Some, None, refl, sym, ◌∙◌, ap, arith, append_assoc, length-append}
use Rattle.std.specs.Prelude.{◌==◌, sum, if◌then◌else◌}
use Rattle.std.specs.Cmp.Lexicographic.{pointwise, bytes_decides}
use Rattle.std.proofs.lemmas.List.{length-replicate, drop-append-le, drop_all}
use Rattle.std.proofs.lemmas.List.Sums.{sum_by-cons}
use Rattle.byteorder.specs.Endian.{big_bytes, big_number}
use Rattle.byteorder.specs.Numbers.{big_number-reads_back, length-bytes_high_first}
use Rattle.odb_fields.specs.Fields.{Fit, fields_image, numbers_in, padded_image, fields_of}

-- behind a field stands the rest
drop_field : (w n : ℕ) (rest : List ℕ) → drop w (big_bytes w n ++ rest) ≡ rest
drop_field w n rest =
    let long : length (big_bytes w n) ≡ w = length-bytes_high_first w n in
    drop-append-le w (big_bytes w n) rest (omega arith) ∙ ap (λ (l : List ℕ). l ++ rest) (drop_all w (big_bytes w n) (omega arith))

pub back : (widths numbers rest : List ℕ) → Fit widths numbers → numbers_in widths (fields_image widths numbers ++ rest) ≡ numbers
back [] [] rest fit = refl
back [] (n ∷ numbers) rest fit = absurd fit
back (w ∷ widths) [] rest fit = absurd fit
back (w ∷ widths) (n ∷ numbers) rest fit =
    let behind : List ℕ = fields_image widths numbers ++ rest in
    let split : (big_bytes w n ++ fields_image widths numbers) ++ rest ≡ big_bytes w n ++ behind = append_assoc (big_bytes w n) (fields_image widths numbers) rest in
    ap (λ (l : List ℕ). big_number w l ∷ numbers_in widths (drop w l)) split
    ∙ ap (λ (k : ℕ). k ∷ numbers_in widths (drop w (big_bytes w n ++ behind))) (big_number-reads_back w n behind fit.0)
    ∙ ap (λ (l : List ℕ). n ∷ numbers_in widths l) (drop_field w n behind)
    ∙ ap (λ (l : List ℕ). n ∷ l) (back widths numbers rest fit.1)

length_image : (widths numbers : List ℕ) → Fit widths numbers → length (fields_image widths numbers) ≡ sum widths
length_image [] [] fit = refl
length_image [] (n ∷ numbers) fit = absurd fit
length_image (w ∷ widths) [] fit = absurd fit
length_image (w ∷ widths) (n ∷ numbers) fit =
    omega (arith, length-append (big_bytes w n) (fields_image widths numbers), length-bytes_high_first w n, length_image widths numbers fit.1, sum_by-cons {X = ℕ} (λ x. x) w widths)

pub size_is : (size : ℕ) (widths numbers : List ℕ) → Fit widths numbers → sum widths ≤ size → length (padded_image size widths numbers) ≡ size
size_is size widths numbers fit room =
    let zeros : List ℕ = replicate (size - sum widths) 0 in
    let long : length zeros ≡ size - sum widths = length-replicate {A = ℕ} (size - sum widths) 0 in
    omega (arith, length-append (fields_image widths numbers) zeros, length_image widths numbers fit)

-- by the test of the bytes against an image
tested : ℕ → List ℕ → List ℕ → List ℕ → Option (List ℕ)
tested size widths numbers bytes = if pointwise ◌==◌ (padded_image size widths numbers) bytes then Some numbers else None

pub found : (size : ℕ) (widths numbers : List ℕ) → Fit widths numbers → fields_of size widths (padded_image size widths numbers) ≡ Some numbers
unfolding tested
found size widths numbers fit =
    let bytes : List ℕ = padded_image size widths numbers in
    let same : numbers_in widths bytes ≡ numbers = back widths numbers (replicate (size - sum widths) 0) fit in
    let passes : pointwise ◌==◌ bytes bytes ≡ true = (bytes_decides bytes bytes).1 refl in
    ap (λ (l : List ℕ). tested size widths l bytes) same ∙ ap (λ (b : Bool). if b then Some numbers else None) passes

pub only : (size : ℕ) (widths numbers bytes : List ℕ) → fields_of size widths bytes ≡ Some numbers → bytes ≡ padded_image size widths numbers
only size widths numbers bytes is = of_test (pointwise ◌==◌ (padded_image size widths (numbers_in widths bytes)) bytes) refl
  where
    of_test : (b : Bool) → pointwise ◌==◌ (padded_image size widths (numbers_in widths bytes)) bytes ≡ b → bytes ≡ padded_image size widths numbers
    of_test false fails = let none : None ≡ Some numbers = sym (ap (λ (b : Bool). if b then Some (numbers_in widths bytes) else None) fails) ∙ is in absurd (cc none)
    of_test true passes =
        let some : Some (numbers_in widths bytes) ≡ Some numbers = sym (ap (λ (b : Bool). if b then Some (numbers_in widths bytes) else None) passes) ∙ is in
        let same : numbers_in widths bytes ≡ numbers = cc some in
        sym ((bytes_decides (padded_image size widths (numbers_in widths bytes)) bytes).0 passes) ∙ ap (padded_image size widths) same
