-- Values are written without an LF.
use Rattle.std.proofs.Common.{◌≡◌, ℕ, Bool, true, false, ◌&&◌, ◌||◌, ◌==◌, cond, List, [], ◌∷◌, ◌++◌, codes, refl, sym, ap, ◌∙◌, eqb-true}
use Rattle.std.specs.List.{All, list_all, list_any}
use Rattle.std.proofs.lemmas.List.Elements.{All-head, All-tail}
use Rattle.odb_values.specs.declared.value.Value.{Value}
use Rattle.odb_values.specs.Text.{is_plain}
use Rattle.odb_lex.specs.Quoted.{doubled}
use Rattle.odb_model.specs.Canonical.{value_text}
use Rattle.odb_model.specs.Print.{values_text}
use Rattle.odb_model.proofs.Told.{no_lf-append}
use Rattle.odb_reply.specs.Unbroken.{HasNoLf, IsUnbroken, IsUnbrokenRow}

plain_no_lf : (b : ℕ) → is_plain b ≡ true → (b == 10) ≡ false
plain_no_lf b plain = elim (b == 10) as (λ c. (b == 10) ≡ c → c ≡ false) [
  | true ↦ λ e. sym plain ∙ ap is_plain (eqb-true b 10 e)
  | false ↦ λ e. refl
] refl

both_true : (a b : Bool) → (a && b) ≡ true → (a ≡ true) × (b ≡ true)
both_true true b e = (refl, e)
both_true false b e = cc

doubled-no_lf : (text : List ℕ) → list_all is_plain text ≡ true → HasNoLf (doubled text)
doubled-no_lf [] plain = refl
doubled-no_lf (b ∷ text) plain =
    let parts = both_true (is_plain b) (list_all is_plain text) plain in
    let rest = doubled-no_lf text parts.1 in
    elim (b == 39) as (λ c. HasNoLf (cond c (39 ∷ 39 ∷ []) (b ∷ []) ++ doubled text)) [
      | true ↦ rest
      | false ↦ ap (λ c. c || list_any (λ x. x == 10) (doubled text)) (plain_no_lf b parts.0) ∙ rest
    ]

-- a text in quotes
pub quoted-no_lf : (text : List ℕ) → list_all is_plain text ≡ true → HasNoLf (codes "'" ++ doubled text ++ codes "'")
quoted-no_lf text plain = no_lf-append (codes "'" ++ doubled text) (codes "'") (doubled-no_lf text plain) refl

-- a row whose values are unbroken is so
pub row-no_lf : (values : List Value) → All IsUnbroken values → IsUnbrokenRow values
row-no_lf [] all = refl
row-no_lf (v ∷ []) all = All-head IsUnbroken v [] all
row-no_lf (v ∷ w ∷ values) all =
    no_lf-append (value_text v ++ codes ",") (values_text (w ∷ values)) (no_lf-append (value_text v) (codes ",") (All-head IsUnbroken v (w ∷ values) all) refl)
    (row-no_lf (w ∷ values) (All-tail IsUnbroken v (w ∷ values) all))
