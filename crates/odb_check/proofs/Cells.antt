-- The values of a row in column order, with a comma between two.
use Rattle.std.proofs.Common.{◌≡◌, ℕ, ◌+◌, ◌<◌, ◌≤◌, zero, suc, List, [], ◌∷◌, ◌++◌, length, map, refl, sym, ap, ◌∙◌, arith, codes, append_assoc, append-nil, zero-add}
use Rattle.std.specs.List.{range_with_len}
use Rattle.std.proofs.lemmas.List.FromFn.{map-range_with_len_more, length-map-range_with_len}
use Rattle.odb_values.specs.declared.value.Value.{Value}
use Rattle.odb_model.specs.Canonical.{value_text}
use Rattle.odb_model.specs.Print.{values_text}
use Rattle.odb_model.specs.Table.{Table, stored_value}

-- the values of the first n columns
abbrev pub cells : Table → List Value → List Value → ℕ → List Value
cells t key row n = map (stored_value t key row) (range_with_len 0 n)

cells_more : (t : Table) (key row : List Value) (n : ℕ) → cells t key row (n + 1) ≡ cells t key row n ++ stored_value t key row n ∷ []
cells_more t key row n = map-range_with_len_more (stored_value t key row) 0 n n (zero-add n)

-- one value more, after others, stands behind a comma
text_push : (vs : List Value) (w : Value) → 0 < length vs → values_text (vs ++ w ∷ []) ≡ values_text vs ++ codes "," ++ value_text w
text_push [] w some = absurd (omega arith)
text_push (v ∷ []) w some = refl
text_push (v ∷ u ∷ vs) w some =
    let rest : values_text ((u ∷ vs) ++ w ∷ []) ≡ values_text (u ∷ vs) ++ codes "," ++ value_text w = text_push (u ∷ vs) w (omega arith) in
    rw rest (simp append_assoc)

-- the value of a column other than the first is written behind a comma
pub cell_behind : (t : Table) (key row : List Value) (n : ℕ) (before out : List ℕ) (v : Value) → v ≡ stored_value t key row n → 0 < n → out ≡ before ++ values_text (cells t key row n)
    → (out ++ codes ",") ++ value_text v ≡ before ++ values_text (cells t key row (n + 1))
cell_behind t key row n before out v is later written =
    let some : 0 < length (cells t key row n) = omega (arith, length-map-range_with_len (stored_value t key row) 0 n) in
    let pushed = text_push (cells t key row n) (stored_value t key row n) some in
    rw (cells_more t key row n, pushed, is, written) (simp append_assoc)

-- that of the first with nothing before it
pub cell_first : (t : Table) (key row : List Value) (n : ℕ) (before out : List ℕ) (v : Value) → v ≡ stored_value t key row n → n ≤ 0 → out ≡ before ++ values_text (cells t key row n)
    → out ++ value_text v ≡ before ++ values_text (cells t key row (n + 1))
cell_first t key row zero before out v is first written =
    let one : values_text (cells t key row (0 + 1)) ≡ value_text (stored_value t key row 0) = ap values_text (cells_more t key row 0) in
    ap (λ (b : List ℕ). b ++ value_text v) (written ∙ append-nil before) ∙ ap (λ (x : Value). before ++ value_text x) is ∙ ap (λ (x : List ℕ). before ++ x) (sym one)
cell_first t key row (suc n) before out v is first written = absurd (omega arith)
