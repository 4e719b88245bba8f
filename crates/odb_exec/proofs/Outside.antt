-- The values outside the key, place by place.
use Rattle.std.proofs.Common.{◌≡◌, ℕ, zero, suc, ◌+◌, ◌-◌, ◌<◌, ◌≤◌, Bool, true, false, List, [], ◌∷◌, ◌++◌, map, length, cond, refl, sym, ap, ◌∙◌, arith, append_assoc}
use Rattle.std.specs.List.{filter, range_with_len}
use Rattle.std.proofs.lemmas.List.{length-map}
use Rattle.odb_values.specs.declared.value.Value.{Value}
use Rattle.odb_model.specs.Table.{Table, IsTable, value_at, key_of, row_of, places, places_outside}
use Rattle.odb_model.proofs.Keys.{length-filter-le}
use Rattle.odb_exec.specs.Outside.{is_outside}

range-next : (place n k : ℕ) → n - place ≡ suc k → range_with_len place (n - place) ≡ place ∷ range_with_len (place + 1) (n - (place + 1))
range-next place n k e =
    let same : n - (place + 1) ≡ k = omega arith in
    ap (range_with_len place) e ∙ ap (λ m. place ∷ range_with_len (place + 1) m) (sym same)

one_less : (place n : ℕ) → place < n → (k : ℕ) × (n - place ≡ suc k)
one_less place n h = (n - (place + 1), omega arith)

module _ (t : Table) (values : List Value) where
  abbrev pub outside : List ℕ → List Value
  outside ps = map (value_at values) (filter (is_outside t) ps)

  outside-cons : (b : Bool) (row : List Value) (place : ℕ) (ps : List ℕ)
      → (row ++ map (value_at values) (cond b (place ∷ []) [])) ++ outside ps ≡ row ++ map (value_at values) (cond b (place ∷ filter (is_outside t) ps) (filter (is_outside t) ps))
  outside-cons true row place ps = append_assoc row (value_at values place ∷ []) (outside ps)
  outside-cons false row place ps = append_assoc row [] (outside ps)

  -- with one place more
  pub row-one : (row : List Value) (place n : ℕ) → place < n
      → (row ++ outside (place ∷ [])) ++ outside (range_with_len (place + 1) (n - (place + 1))) ≡ row ++ outside (range_with_len place (n - place))
  row-one row place n h =
      let next = one_less place n h in
      outside-cons (is_outside t place) row place (range_with_len (place + 1) (n - (place + 1)))
      ∙ ap (λ ps. row ++ outside ps) (sym (range-next place n next.0 next.1))

length-range : (k a : ℕ) → length (range_with_len a k) ≡ k
length-range zero a = refl
length-range (suc k) a = ap suc (length-range k (a + 1))

-- a row has at most 15 values
pub row-few : (t : Table) (values : List Value) → IsTable t → length (row_of t values) ≤ 15
row-few t values is =
    omega (arith, length-map (places_outside t) (value_at values), length-filter-le (is_outside t) (places t), length-range (length t.columns) 0, is.narrow)

-- and a key
pub key-few : (t : Table) (values : List Value) → IsTable t → length (key_of t values) ≤ 15
key-few t values is = omega (arith, length-map t.key (value_at values), is.few)
