-- The longest front of a list that is UTF-8, and the front of a value that is right, where the list is put together.
use Rattle.std.proofs.Common.{◌≡◌, ◌⊎◌, ℕ, zero, suc, ◌+◌, ◌-◌, ◌<◌, ◌≤◌, false, cond, List, [], ◌∷◌, ◌++◌, length, take, IsUtf8, refl, sym, ap, subst, ◌∙◌, ⊎_elim, inl, inr, arith, true≢false, eq-eqb, ne_eqb, length-append, take_all, drop_at, add-suc, add-zero}
use Rattle.std.proofs.Math.Seq.{take-append-add, take-append_seam}
use Rattle.std.proofs.lemmas.Bool.{cases_Bool, cond-true, cond-false, cond_both, false_from_ne_true, cases_eq}
use Rattle.std.proofs.lemmas.List.{take-append-le}
use Rattle.std.proofs.lemmas.List.Folds.{prefix_len-append}
use Rattle.std.proofs.lemmas.List.Sums.{prefix_len-le-length}
use Rattle.std.proofs.lemmas.Bool.Decides.{nat_tests}
use Rattle.std.proofs.lemmas.Str.{IsUtf8-append, IsUtf8-nil, IsUtf8-drop, IsCharBoundary-from_take, IsUtf8-from_is_utf8, is_utf8-from_IsUtf8, utf8_valid_len_le, utf8_valid_len-IsUtf8}
use Rattle.std.specs.List.{prefix_len}
use Rattle.std.specs.Str.{is_utf8}
use Rattle.std.specs.Str.Lossy.{valid_len_up_to, utf8_valid_len}
use Rattle.odb_values.specs.Text.{is_plain}
use Rattle.odb_lex.specs.Quoted.{right_len}

up_to_le : (bs : List ℕ) (m : ℕ) → valid_len_up_to bs m ≤ m
up_to_le bs zero = omega arith
up_to_le bs (suc m) =
    let below = up_to_le bs m in
    cond_both (is_utf8 (take (suc m) bs)) (suc m) (valid_len_up_to bs m) (λ n. n ≤ suc m) (λ _. omega arith) (λ _. omega arith)

-- bytes that are UTF-8 to their end
pub whole_from_len : (bs : List ℕ) → utf8_valid_len bs ≡ length bs → IsUtf8 bs
unfolding utf8_valid_len
whole_from_len [] e = IsUtf8-nil
whole_from_len (b ∷ bs) e =
    let n = length bs in
    let whole = b ∷ bs in
    ⊎_elim
    (λ yes. subst IsUtf8 (take_all (suc n) whole (omega arith)) (IsUtf8-from_is_utf8 _ yes))
    (λ broken.
    let less = up_to_le whole n in
    let is : valid_len_up_to whole (suc n) ≡ valid_len_up_to whole n = cond-false _ _ _ broken in
    absurd (omega arith))
    (cases_Bool (is_utf8 (take (suc n) whole)))

-- what stands behind UTF-8 is UTF-8 by itself or not at all
pub utf8_behind : (p v : List ℕ) → IsUtf8 p → IsUtf8 (p ++ v) → IsUtf8 v
utf8_behind p v u both =
    let within : length p ≤ length (p ++ v) = omega (arith, length-append p v) in
    let front : IsUtf8 (take (length p) (p ++ v)) = subst IsUtf8 (sym (take-append_seam p v)) u in
    subst IsUtf8 (drop_at p v (length p) refl) (IsUtf8-drop (p ++ v) (length p) both (IsCharBoundary-from_take (p ++ v) (length p) both within front))

is_utf8_behind : (p v : List ℕ) → IsUtf8 p → is_utf8 (p ++ v) ≡ is_utf8 v
is_utf8_behind p v u =
    ⊎_elim
    (λ yes. is_utf8-from_IsUtf8 _ (IsUtf8-append p v u (IsUtf8-from_is_utf8 v yes)) ∙ sym yes)
    (λ broken. false_from_ne_true _ (λ both. true≢false (sym (is_utf8-from_IsUtf8 v (utf8_behind p v u (IsUtf8-from_is_utf8 _ both))) ∙ broken)) ∙ sym broken)
    (cases_Bool (is_utf8 v))

up_to_here : (p v : List ℕ) → IsUtf8 p → valid_len_up_to (p ++ v) (length p) ≡ length p
up_to_here [] v u = refl
up_to_here (b ∷ bs) v u =
    cond-true _ _ _ (ap is_utf8 (take-append_seam (b ∷ bs) v) ∙ is_utf8-from_IsUtf8 (b ∷ bs) u)

up_to_behind : (p v : List ℕ) (m : ℕ) → IsUtf8 p → valid_len_up_to (p ++ v) (length p + m) ≡ length p + valid_len_up_to v m
up_to_behind p v zero u = rw add-zero (up_to_here p v u)
up_to_behind p v (suc m) u =
    let same : is_utf8 (take (suc (length p + m)) (p ++ v)) ≡ is_utf8 (take (suc m) v) =
    ap (λ n. is_utf8 (take n (p ++ v))) (sym (add-suc (length p) m)) ∙ ap is_utf8 (take-append-add p v (suc m)) ∙ is_utf8_behind p (take (suc m) v) u in
    let rest = up_to_behind p v m u in
    rw add-suc
    (⊎_elim
    (λ yes.
    let left : valid_len_up_to (p ++ v) (suc (length p + m)) ≡ suc (length p + m) = cond-true _ _ _ (same ∙ yes) in
    let right : valid_len_up_to v (suc m) ≡ suc m = cond-true _ _ _ yes in
    omega arith)
    (λ broken.
    let left : valid_len_up_to (p ++ v) (suc (length p + m)) ≡ valid_len_up_to (p ++ v) (length p + m) = cond-false _ _ _ (same ∙ broken) in
    let right : valid_len_up_to v (suc m) ≡ valid_len_up_to v m = cond-false _ _ _ broken in
    omega arith)
    (cases_Bool (is_utf8 (take (suc m) v))))

-- behind UTF-8 the longest front goes on as if what follows stood alone
pub len_behind : (p v : List ℕ) → IsUtf8 p → utf8_valid_len (p ++ v) ≡ length p + utf8_valid_len v
unfolding utf8_valid_len
len_behind p v u = ap (valid_len_up_to (p ++ v)) (length-append p v) ∙ up_to_behind p v (length v) u

-- what follows can't make these bytes UTF-8
pub record IsSealed (p v : List ℕ) : Type 0 where
  pub stays : (m : ℕ) → IsUtf8 (p ++ take m v) → IsUtf8 p

up_to_front : (p v : List ℕ) (k : ℕ) → k ≤ length p → valid_len_up_to (p ++ v) k ≡ valid_len_up_to p k
up_to_front p v zero within = refl
up_to_front p v (suc k) within =
    let cut : take (suc k) (p ++ v) ≡ take (suc k) p = take-append-le (suc k) p v within in
    let rest = up_to_front p v k (omega arith) in
    λ i. cond (is_utf8 (cut i)) (suc k) (rest i)

up_to_before : (p v : List ℕ) (m : ℕ) → IsSealed p v → is_utf8 p ≡ false → valid_len_up_to (p ++ v) (length p + m) ≡ valid_len_up_to p (length p)
up_to_before p v zero s broken = rw add-zero (up_to_front p v (length p) (omega arith))
up_to_before p v (suc m) s broken =
    let never : is_utf8 (p ++ take (suc m) v) ≡ false =
    false_from_ne_true _ (λ yes. true≢false (sym (is_utf8-from_IsUtf8 p (s.stays (suc m) (IsUtf8-from_is_utf8 _ yes))) ∙ broken)) in
    let cut : is_utf8 (take (suc (length p + m)) (p ++ v)) ≡ false =
    ap (λ n. is_utf8 (take n (p ++ v))) (sym (add-suc (length p) m)) ∙ ap is_utf8 (take-append-add p v (suc m)) ∙ never in
    rw add-suc (cond-false _ _ _ cut ∙ up_to_before p v m s broken)

-- where such bytes aren't UTF-8, the longest front lies in them
pub len_before : (p v : List ℕ) → IsSealed p v → is_utf8 p ≡ false → utf8_valid_len (p ++ v) ≡ utf8_valid_len p
unfolding utf8_valid_len
len_before p v s broken = ap (valid_len_up_to (p ++ v)) (length-append p v) ∙ up_to_before p v (length v) s broken

-- behind a front that is wholly right, what is right is counted on
pub right_behind : (p v : List ℕ) (most : ℕ) → right_len most p ≡ length p → right_len most (p ++ v) ≡ length p + right_len (most - length p) v
right_behind p v most whole =
    let plain_le = prefix_len-le-length is_plain p in
    let utf8_le = utf8_valid_len_le p in
    let plain : prefix_len is_plain p ≡ length p = omega arith in
    let utf8 : utf8_valid_len p ≡ length p = omega arith in
    let behind = len_behind p v (whole_from_len p utf8) in
    let plains = prefix_len-append is_plain p v in
    let plains' : prefix_len is_plain (p ++ v) ≡ length p + prefix_len is_plain v = grind (arith, nat_tests) in
    omega arith

-- where something is wrong in the front, that is the first wrong byte of all
pub right_before : (p v : List ℕ) (most : ℕ) → IsSealed p v → right_len most p < length p → right_len most (p ++ v) ≡ right_len most p
right_before p v most s wrong =
    let plain_le = prefix_len-le-length is_plain p in
    let utf8_le = utf8_valid_len_le p in
    let plains = prefix_len-append is_plain p v in
    let plain : (prefix_len is_plain (p ++ v) ≡ prefix_len is_plain p) ⊎ ((prefix_len is_plain p ≡ length p) × (length p ≤ prefix_len is_plain (p ++ v))) =
    ⊎_elim
    (λ same.
    let on : prefix_len is_plain (p ++ v) ≡ length p + prefix_len is_plain v = plains ∙ cond-true _ _ _ (eq-eqb _ _ same) in
    inr (same, omega arith))
    (λ differs. inl (plains ∙ cond-false _ _ _ (ne_eqb _ _ differs)))
    (cases_eq (prefix_len is_plain p) (length p)) in
    let utf8 : (utf8_valid_len (p ++ v) ≡ utf8_valid_len p) ⊎ ((utf8_valid_len p ≡ length p) × (length p ≤ utf8_valid_len (p ++ v))) =
    ⊎_elim
    (λ yes.
    let u = IsUtf8-from_is_utf8 p yes in
    let on = len_behind p v u in
    inr (utf8_valid_len-IsUtf8 p u, omega arith))
    (λ broken. inl (len_before p v s broken))
    (cases_Bool (is_utf8 p)) in
    omega arith
