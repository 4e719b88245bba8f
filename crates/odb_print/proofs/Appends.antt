-- Texts written one behind another.
use Rattle.std.proofs.Common.{◌≡◌, ℕ, List, ◌++◌, ap, ◌∙◌, append_assoc}

three : (out a b c : List ℕ) → ((out ++ a) ++ b) ++ c ≡ out ++ (a ++ b ++ c)
three out a b c = simp append_assoc

pub three_joined : (out a b c : List ℕ) → (out ++ (a ++ b)) ++ c ≡ out ++ (a ++ b ++ c)
three_joined out a b c = simp append_assoc

pub four : (out a b c d : List ℕ) → (out ++ (a ++ b ++ c)) ++ d ≡ out ++ (a ++ b ++ c ++ d)
four out a b c d = simp append_assoc

-- the text of a CREATE TABLE
pub eight : (out a b c d e f g h : List ℕ) → ((((out ++ (a ++ b ++ c)) ++ d) ++ e) ++ f) ++ (g ++ h) ≡ out ++ (a ++ b ++ c ++ d ++ e ++ f ++ g ++ h)
eight out a b c d e f g h = simp append_assoc

-- what stands behind a left part is written behind what closes it
pub left_written : (out opened part closes words behind left word right : List ℕ) → opened ++ part ++ closes ≡ out ++ left → words ≡ closes ++ word → behind ≡ words ++ right
    → opened ++ part ++ behind ≡ out ++ (left ++ word ++ right)
left_written out opened part closes words behind left word right before written last =
    let apart : (opened ++ part) ++ ((closes ++ word) ++ right) ≡ (((opened ++ part) ++ closes) ++ word) ++ right = simp append_assoc in
    ap (λ x. (opened ++ part) ++ x) (last ∙ ap (λ x. x ++ right) written) ∙ apart ∙ ap (λ x. (x ++ word) ++ right) before ∙ three out left word right
