-- What is gathered of the rows of a walk.
use Rattle.std.proofs.Common.{◌≡◌, List, [], ◌∷◌, ◌++◌, map, refl, sym, ap, ◌∙◌, append_assoc}

module _ {A X : Type 0} (f : A → X) where
  -- with one row more
  pub values-more : (told more : List X) (all : List X) (left : List A) (e : A) (later : List A) (v : X) → more ≡ told ++ v ∷ [] → v ≡ f e → left ≡ e ∷ later → told ++ map f left ≡ all → more ++ map f later ≡ all
  values-more told more all left e later v pushed is step before =
      ap (λ l. l ++ map f later) (pushed ∙ ap (λ x. told ++ x ∷ []) is) ∙ append_assoc told (f e ∷ []) (map f later) ∙ sym (ap (λ l. told ++ map f l) step) ∙ before

  no_more : (xs : List X) → xs ++ [] ≡ xs
  no_more [] = refl
  no_more (x ∷ xs) = ap (λ l. x ∷ l) (no_more xs)

  -- where none is left
  pub values-all : (told all : List X) (left : List A) → left ≡ [] → told ++ map f left ≡ all → told ≡ all
  values-all told all left none before = sym (ap (λ l. told ++ map f l) none ∙ no_more told) ∙ before

  pub map-one : (passed : List A) (e : A) → map f (passed ++ e ∷ []) ≡ map f passed ++ f e ∷ []
  map-one [] e = refl
  map-one (x ∷ xs) e = ap (λ l. f x ∷ l) (map-one xs e)
