-- Values with a comma between two.
use Rattle.std.proofs.Common.{◌≡◌, ℕ, ◌+◌, ◌<◌, ◌≤◌, List, [], ◌∷◌, ◌++◌, length, take, get_or, zero, suc, refl, arith, codes, append_assoc}
use Rattle.std.proofs.lemmas.List.{take_more, length-take-le}
use Rattle.odb_values.specs.declared.value.Value.{Value}
use Rattle.odb_model.specs.Canonical.{value_text}
use Rattle.odb_model.specs.Print.{values_text}

-- one value more, after others, stands behind a comma
pub values_text_push : (vs : List Value) (w : Value) → 0 < length vs → values_text (vs ++ w ∷ []) ≡ values_text vs ++ codes "," ++ value_text w
values_text_push [] w some = absurd (omega arith)
values_text_push (v ∷ []) w some = refl
values_text_push (v ∷ u ∷ vs) w some =
    let rest : values_text ((u ∷ vs) ++ w ∷ []) ≡ values_text (u ∷ vs) ++ codes "," ++ value_text w = values_text_push (u ∷ vs) w (omega arith) in
    rw rest (simp append_assoc)

-- the value at a place other than the first is written behind a comma
pub values_text_more : (before out : List ℕ) (vs : List Value) (i : ℕ) (v : Value) → i < length vs → v ≡ get_or vs i v → 0 < i → out ≡ before ++ values_text (take i vs) → (out ++ codes ",") ++ value_text v ≡ before ++ values_text (take (i + 1) vs)
values_text_more before out vs i v within here later written =
    let longer : take (i + 1) vs ≡ take i vs ++ get_or vs i v ∷ [] = take_more vs i v within in
    let some : 0 < length (take i vs) = omega (arith, length-take-le i vs (omega arith)) in
    rw (longer, ← here, values_text_push (take i vs) v some, written) (simp append_assoc)

-- the first value is written with nothing before it
pub values_text_first : (before out : List ℕ) (vs : List Value) (i : ℕ) (v : Value) → i < length vs → v ≡ get_or vs i v → i ≤ 0 → out ≡ before ++ values_text (take i vs) → out ++ value_text v ≡ before ++ values_text (take (i + 1) vs)
values_text_first before out [] i v within here first written = absurd (omega arith)
values_text_first before out (u ∷ vs) zero v within here first written = rw (written, here) (simp append_assoc)
values_text_first before out (u ∷ vs) (suc i) v within here first written = absurd (omega arith)
