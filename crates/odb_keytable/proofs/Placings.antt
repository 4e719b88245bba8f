-- Lists of one entry, and joined lists.
use Rattle.std.proofs.Common.{◌≡◌, List, [], ◌∷◌, ◌++◌, length, get_or, cond, refl, ap, ◌∙◌, arith, Result}
use Rattle.std.specs.Prelude.{IsOk, is_ok}
use Rattle.odb_model.specs.declared.entry.Entry.{Entry}
use Rattle.odb_keytable.specs.Pending.{only_entry}

pub only-front : (es : List Entry) (x : Entry) → length es ≡ 1 → x ≡ get_or es 0 x → x ≡ only_entry es
only-front [] x one e = absurd (omega arith)
only-front (y ∷ es) x one e = e

pub only-list : (es : List Entry) → length es ≡ 1 → es ≡ only_entry es ∷ []
only-list [] one = absurd (omega arith)
only-list (x ∷ []) one = refl
only-list (x ∷ y ∷ es) one = absurd (omega arith)

-- what was joined to a list stands behind it
pub joined : {A E : Type 0} (r : Result A E) (old new more : List Entry) → length more ≡ 1
    → new ≡ cond (is_ok r) (old ++ more) old → IsOk r → new ≡ old ++ only_entry more ∷ []
joined r old new more one e ok =
    e ∙ ap (λ b. cond b (old ++ more) old) ok ∙ ap (λ es. old ++ es) (only-list more one)
