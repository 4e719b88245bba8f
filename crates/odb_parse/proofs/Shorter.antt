-- What is read is no longer than all.
use Rattle.std.proofs.Common.{◌≡◌, ℕ, suc, ◌-◌, ◌<◌, Bool, true, false, cond, List, [], ◌∷◌, length, Result, Ok, Err, OnOk, refl, sym, ap, ◌∙◌, arith, true≢false}
use Rattle.odb_model.specs.declared.keyword.Keyword.{Keyword}
use Rattle.odb_model.specs.declared.sign.Sign.{Sign}
use Rattle.odb_model.specs.Lexeme.{Lexeme}
use Rattle.odb_parse.specs.declared.error.ParseError.{ParseError}
use Rattle.odb_parse.specs.Codes.{Item, Stands, Wrong}
use Rattle.odb_parse.specs.Items.{kind_of}
use Rattle.odb_parse.specs.Reading.{Outcome, Reads, Shortens, ◌>>◌, pure, refuse, skip, is_sign, is_word, sees_sign, sees_word, eat_sign, eat_word, expect_sign}

rest_of : {A : Type 0} → Outcome A → List Item
rest_of (Ok read) = read.1
rest_of (Err wrong) = wrong.1

flag_of : Outcome Bool → Bool
flag_of (Ok read) = read.0
flag_of (Err wrong) = false

rest_is : {A : Type 0} (a b : A) (is js : List Item) → ◌≡◌ {A = Outcome A} (Ok (a, is)) (Ok (b, js)) → is ≡ js
unfolding rest_of
rest_is a b is js e = ap rest_of e

never : (is js : List Item) → ◌≡◌ {A = Outcome Bool} (Ok (false, is)) (Ok (true, js)) → ⊥
unfolding flag_of
never is js e = true≢false (sym (ap flag_of e))

skip_shortens : (old new : List Item) (u : Unit {0}) → skip old ≡ Ok (u, new) → Shortens old new
unfolding skip
skip_shortens [] new u e =
    let len = ap length (rest_is tt u [] new e) in
    record { most = omega arith; fewer = λ some. absurd (some refl) }
skip_shortens (Stands l at ∷ []) new u e =
    let len = ap length (rest_is tt u [] new e) in
    record { most = omega arith; fewer = λ some. omega arith }
skip_shortens (Stands l at ∷ Stands k on ∷ items) new u e =
    let len = ap length (rest_is tt u (Stands k on ∷ items) new e) in
    record { most = omega arith; fewer = λ some. omega arith }
skip_shortens (Stands l at ∷ Wrong w ∷ items) new u e = cc
skip_shortens (Wrong w ∷ items) new u e =
    let len = ap length (rest_is tt u (Wrong w ∷ items) new e) in
    record { most = omega arith; fewer = λ some. absurd (some refl) }

pub skip_short : (old : List Item) (r : Result (Unit {0}) ParseError) (new : List Item) → Reads (skip old) r new → OnOk r (Shortens old new)
skip_short old (Ok u) new e = skip_shortens old new u e
skip_short old (Err e) new h = tt

-- what was eaten is gone
eaten : (b : Bool) (l : Lexeme) (at : ℕ) (items new : List Item)
    → cond b ((skip >> pure true) (Stands l at ∷ items)) (Ok (false, Stands l at ∷ items)) ≡ Ok (true, new) → length new < length (Stands l at ∷ items)
unfolding skip
eaten true l at [] new e = let len = ap length (rest_is true true [] new e) in omega arith
eaten true l at (Stands k on ∷ items) new e = let len = ap length (rest_is true true (Stands k on ∷ items) new e) in omega arith
eaten true l at (Wrong w ∷ items) new e = cc
eaten false l at items new e = absurd (never (Stands l at ∷ items) new e)

pub sign_eaten : (sign : Sign) (old new : List Item) (b : Bool) → b ≡ true → eat_sign sign old ≡ Ok (b, new) → length new < length old
unfolding eat_sign sees_sign
sign_eaten sign [] new b taken e = absurd (never [] new (e ∙ ap (λ b. Ok (b, new)) taken))
sign_eaten sign (Stands l at ∷ items) new b taken e = eaten (is_sign sign (kind_of l)) l at items new (e ∙ ap (λ b. Ok (b, new)) taken)
sign_eaten sign (Wrong w ∷ items) new b taken e = absurd (never (Wrong w ∷ items) new (e ∙ ap (λ b. Ok (b, new)) taken))

pub word_eaten : (word : Keyword) (old new : List Item) (b : Bool) → b ≡ true → eat_word word old ≡ Ok (b, new) → length new < length old
unfolding eat_word sees_word
word_eaten word [] new b taken e = absurd (never [] new (e ∙ ap (λ b. Ok (b, new)) taken))
word_eaten word (Stands l at ∷ items) new b taken e = eaten (is_word word (kind_of l)) l at items new (e ∙ ap (λ b. Ok (b, new)) taken)
word_eaten word (Wrong w ∷ items) new b taken e = absurd (never (Wrong w ∷ items) new (e ∙ ap (λ b. Ok (b, new)) taken))

-- what had to stand next is gone
expected : (b : Bool) (l : Lexeme) (at : ℕ) (items new : List Item) (u : Unit {0})
    → cond b (skip (Stands l at ∷ items)) (refuse (Stands l at ∷ items)) ≡ Ok (u, new) → length new < length (Stands l at ∷ items)
unfolding skip
expected true l at [] new u e = let len = ap length (rest_is tt u [] new e) in omega arith
expected true l at (Stands k on ∷ items) new u e = let len = ap length (rest_is tt u (Stands k on ∷ items) new e) in omega arith
expected true l at (Wrong w ∷ items) new u e = cc
expected false l at items new u e = cc

pub sign_expected : (sign : Sign) (old new : List Item) (u : Unit {0}) → expect_sign sign old ≡ Ok (u, new) → length new < length old
unfolding expect_sign sees_sign
sign_expected sign [] new u e = cc
sign_expected sign (Stands l at ∷ items) new u e = expected (is_sign sign (kind_of l)) l at items new u e
sign_expected sign (Wrong w ∷ items) new u e = cc

-- ---- turns of a loop, which are counted down

pub one_turn : {O : Type 0} (f : ℕ → O) (all : O) (left n : ℕ) → n < left → all ≡ f left → all ≡ f (suc (left - 1))
one_turn f all left n some e = let is : left ≡ suc (left - 1) = omega arith in e ∙ ap f is
