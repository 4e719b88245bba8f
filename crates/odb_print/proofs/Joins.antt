-- Texts with a comma between two.
use Rattle.std.proofs.Common.{◌≡◌, ℕ, zero, suc, ◌+◌, ◌<◌, ◌≤◌, List, [], ◌∷◌, ◌++◌, length, take, get_or, sym, ◌∙◌, ap, arith, codes, flat_map, append_assoc}
use Rattle.std.proofs.lemmas.List.{take_more, length-take-le, flat_map_more}
use Rattle.odb_model.specs.Canonical.{joined}

-- one item more, after others, stands behind a comma
pub joined_push : {A : Type 0} (text : A → List ℕ) (xs : List A) (x : A) → 0 < length xs → joined text (xs ++ x ∷ []) ≡ joined text xs ++ (codes ", " ++ text x)
joined_push text [] x some = absurd (omega arith)
joined_push text (y ∷ []) x some = append_assoc (text y) (codes ", ") (text x)
joined_push text (y ∷ z ∷ xs) x some =
    let rest : joined text ((z ∷ xs) ++ x ∷ []) ≡ joined text (z ∷ xs) ++ (codes ", " ++ text x) = joined_push text (z ∷ xs) x (omega arith) in
    rw rest (simp append_assoc)

-- the item at a place other than the first is written behind a comma
pub joined_more : {A : Type 0} (text : A → List ℕ) (before out : List ℕ) (xs : List A) (i : ℕ) (x : A) → i < length xs → x ≡ get_or xs i x → 0 < i → out ≡ before ++ joined text (take i xs) → (out ++ codes ", ") ++ text x ≡ before ++ joined text (take (i + 1) xs)
joined_more text before out xs i x within here later written =
    let longer : take (i + 1) xs ≡ take i xs ++ get_or xs i x ∷ [] = take_more xs i x within in
    let some : 0 < length (take i xs) = omega (arith, length-take-le i xs (omega arith)) in
    rw (longer, ← here, joined_push text (take i xs) x some, written) (simp append_assoc)

-- the first item is written with nothing before it
pub joined_first : {A : Type 0} (text : A → List ℕ) (before out : List ℕ) (xs : List A) (i : ℕ) (x : A) → i < length xs → x ≡ get_or xs i x → i ≤ 0 → out ≡ before ++ joined text (take i xs) → out ++ text x ≡ before ++ joined text (take (i + 1) xs)
joined_first text before out [] i x within here first written = absurd (omega arith)
joined_first text before out (y ∷ xs) zero x within here first written = rw (written, here) (simp append_assoc)
joined_first text before out (y ∷ xs) (suc i) x within here first written = absurd (omega arith)

-- the next item is written right behind those before it
pub all_more : {A : Type 0} (text : A → List ℕ) (before out : List ℕ) (xs : List A) (i : ℕ) (x : A) → i < length xs → x ≡ get_or xs i x → out ≡ before ++ flat_map text (take i xs) → out ++ text x ≡ before ++ flat_map text (take (i + 1) xs)
all_more text before out xs i x within here written =
    ap (λ b. b ++ text x) written ∙ flat_map_more text before (take i xs) x ∙ ap (λ y. before ++ flat_map text (take i xs ++ y ∷ [])) here
    ∙ ap (λ ys. before ++ flat_map text ys) (sym (take_more xs i x within))
