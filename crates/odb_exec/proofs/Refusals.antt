-- The first refusal of rows, row by row.
use Rattle.std.proofs.Common.{◌≡◌, List, [], ◌∷◌, ◌++◌, refl, ap, ◌∙◌, Option, Some, None}
use Rattle.std.specs.Option.{option_or}
use Rattle.odb_model.specs.declared.reply.Reply.{Reply}
use Rattle.odb_model.specs.Binding.{first_refusal}

module _ {A : Type 0} (refusal : A → Option Reply) where
  later_by : (o a b e : Option Reply) → option_or o a ≡ None → (a ≡ None → b ≡ e) → option_or o b ≡ e
  later_by None a b e none more = more none
  later_by (Some r) a b e none more = cc

  -- behind rows that none refuses the rest decides
  pub first-later : (passed later : List A) → first_refusal refusal passed ≡ None → first_refusal refusal (passed ++ later) ≡ first_refusal refusal later
  first-later [] later none = refl
  first-later (x ∷ xs) later none =
      later_by (refusal x) (first_refusal refusal xs) (first_refusal refusal (xs ++ later)) (first_refusal refusal later) none (first-later xs later)

  -- one more that isn't refused
  pub first-passed : (passed : List A) (x : A) → first_refusal refusal passed ≡ None → refusal x ≡ None → first_refusal refusal (passed ++ x ∷ []) ≡ None
  first-passed passed x none here = first-later passed (x ∷ []) none ∙ ap (λ o. option_or o None) here

  -- the first one that is
  pub first-refused : (passed later : List A) (x : A) (reply : Reply) → first_refusal refusal passed ≡ None → refusal x ≡ Some reply → first_refusal refusal (passed ++ x ∷ later) ≡ Some reply
  first-refused passed later x reply none here = first-later passed (x ∷ later) none ∙ ap (λ o. option_or o (first_refusal refusal later)) here
