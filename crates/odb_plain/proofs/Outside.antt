-- The values outside the key, place by place.
use Rattle.std.proofs.Common.{◌≡◌, ℕ, zero, suc, ◌+◌, ◌-◌, ◌<◌, ◌≤◌, Bool, true, false, List, [], ◌∷◌, ◌++◌, map, length, cond, refl, sym, ap, ◌∙◌, arith, append_assoc, is_none}
use Rattle.std.specs.List.{filter, range_with_len}
use Rattle.std.proofs.lemmas.List.{length-map}
use Rattle.odb_values.specs.declared.value.Value.{Value}
use Rattle.odb_model.specs.Table.{Table, IsTable, value_at, place_in, row_of, places}
use Rattle.odb_model.proofs.Keys.{length-filter-le}

range-cons : (from n : ℕ) → 0 < n → range_with_len from n ≡ from ∷ range_with_len (from + 1) (n - 1)
range-cons from zero h = absurd (omega arith)
range-cons from (suc n) h = let same : n ≡ suc n - 1 = omega arith in ap (λ m. from ∷ range_with_len (from + 1) m) same

module _ (f : ℕ → Value) (p : ℕ → Bool) (row : List Value) (from count : ℕ) (some : 0 < count) where
  abbrev pub outside : List ℕ → List Value
  outside ps = map f (filter p ps)

  -- a place in the key is passed
  pub outside-passed : p from ≡ false → row ++ outside (range_with_len (from + 1) (count - 1)) ≡ row ++ outside (range_with_len from count)
  outside-passed e =
      sym (ap (λ ps. row ++ outside ps) (range-cons from count some)
      ∙ ap (λ b. row ++ map f (cond b (from ∷ filter p (range_with_len (from + 1) (count - 1))) (filter p (range_with_len (from + 1) (count - 1))))) e)

  -- another is put
  pub outside-more : p from ≡ true → (row ++ f from ∷ []) ++ outside (range_with_len (from + 1) (count - 1)) ≡ row ++ outside (range_with_len from count)
  outside-more e =
      append_assoc row (f from ∷ []) (outside (range_with_len (from + 1) (count - 1)))
      ∙ sym (ap (λ ps. row ++ outside ps) (range-cons from count some)
      ∙ ap (λ b. row ++ map f (cond b (from ∷ filter p (range_with_len (from + 1) (count - 1))) (filter p (range_with_len (from + 1) (count - 1))))) e)

length-range : (k a : ℕ) → length (range_with_len a k) ≡ k
length-range zero a = refl
length-range (suc k) a = ap suc (length-range k (a + 1))

-- a row has at most 15 values
pub row-few : (t : Table) (values : List Value) → IsTable t → length (row_of t values) ≤ 15
row-few t values is =
    omega (arith, length-map (filter (λ place. is_none (place_in t.key place)) (places t)) (value_at values), length-filter-le (λ place. is_none (place_in t.key place)) (places t), length-range (length t.columns) 0, is.narrow)
