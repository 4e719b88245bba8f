-- A walk as far as it has come: the rows passed, and those that are left.
use Rattle.std.proofs.Common.{◌≡◌, List, [], ◌∷◌, ◌++◌, refl, sym, ap, subst, ◌∙◌, append_assoc}

module _ {A : Type 0} where
  -- the rows are those passed, of which this holds, and those that are left
  abbrev pub Passed : (List A → Type 0) → List A → List A → Type 0
  Passed P all left = (passed : List A) × (all ≡ passed ++ left) × P passed

  -- at first none is passed
  pub passed-none : (P : List A → Type 0) (all : List A) → P [] → Passed P all all
  passed-none P all p = ([], refl, p)

  -- one more is passed
  pub passed-one : (P Q : List A → Type 0) (all left later : List A) (x : A) → Passed P all left → left ≡ x ∷ later
      → ((passed : List A) → all ≡ passed ++ x ∷ later → P passed → Q (passed ++ x ∷ [])) → Passed Q all later
  passed-one P Q all left later x before e step =
      let passed : List A = before.0 in
      let here : all ≡ passed ++ x ∷ later = before.1 ∙ ap (λ l. passed ++ l) e in
      (passed ++ x ∷ [], here ∙ sym (append_assoc passed (x ∷ []) later), step passed here before.2)

  no_more : (xs : List A) → xs ++ [] ≡ xs
  no_more [] = refl
  no_more (x ∷ xs) = ap (λ l. x ∷ l) (no_more xs)

  -- where none is left all are passed
  pub passed-all : (P : List A → Type 0) (all left : List A) → Passed P all left → left ≡ [] → P all
  passed-all P all left before e = subst P (sym (before.1 ∙ ap (λ l. before.0 ++ l) e ∙ no_more before.0)) before.2
