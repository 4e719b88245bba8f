-- Sums over lists that change at one place, beginnings of one list, and the entries of one session.
use Rattle.std.proofs.Common.{◌≡◌, ℕ, zero, suc, ◌+◌, ◌<◌, ◌≤◌, ◌≢◌, List, [], ◌∷◌, ◌++◌, length, set, sym, refl, ap, ◌∙◌, arith, append_assoc, length-append, Bool, true, false, cond, eqb}
use Rattle.std.specs.Prelude.{nat_lt}
use Rattle.std.proofs.lemmas.Bool.Decides.{nat_tests}
use mathlib.Core.Option.{some, some-injective, some-ne-none}
use mathlib.Core.List.{IsPrefix}
use lib.ListN.{get_elem?}
use Rattle.odb_model.specs.declared.entry.Entry.{Entry}
use Rattle.odb_model.specs.State.{IsNumberedFrom}
use Rattle.odb_words.specs.Views.{total, by_session}
use Rattle.odb_words.specs.Moves.{longer, shorter}

module _ {A : Type 0} (g : A → ℕ) where
  pub total-append : (l m : List A) → total g (l ++ m) ≡ total g l + total g m
  total-append [] m = omega arith
  total-append (x ∷ xs) m = omega (arith, total-append xs m)

  pub total-set : (l : List A) (j : ℕ) (v w : A) → get_elem? l j ≡ some v → total g (set l j w) + g v ≡ total g l + g w
  total-set [] j v w e = absurd (some-ne-none v (sym e))
  total-set (x ∷ xs) zero v w e = omega (arith, ap g (some-injective x v e))
  total-set (x ∷ xs) (suc j) v w e = omega (arith, total-set xs j v w e)

  pub term_le : (l : List A) (j : ℕ) (v : A) → get_elem? l j ≡ some v → g v ≤ total g l
  term_le [] j v e = absurd (some-ne-none v (sym e))
  term_le (x ∷ xs) zero v e = omega (arith, ap g (some-injective x v e))
  term_le (x ∷ xs) (suc j) v e = omega (arith, term_le xs j v e)

  pub terms_le : (l : List A) (j k : ℕ) (v u : A) → k ≢ j → get_elem? l j ≡ some v → get_elem? l k ≡ some u → g v + g u ≤ total g l
  terms_le [] j k v u n e d = absurd (some-ne-none v (sym e))
  terms_le (x ∷ xs) zero zero v u n e d = absurd (n refl)
  terms_le (x ∷ xs) zero (suc k) v u n e d = omega (arith, ap g (some-injective x v e), term_le xs k u d)
  terms_le (x ∷ xs) (suc j) zero v u n e d = omega (arith, ap g (some-injective x u d), term_le xs j v e)
  terms_le (x ∷ xs) (suc j) (suc k) v u n e d = omega (arith, terms_le xs j k v u (λ h. n (ap suc h)) e d)

module _ {A : Type 0} where
  pub prefix_nil : (xs : List A) → IsPrefix [] xs
  prefix_nil xs = (xs, refl)

  pub append_nil : (xs : List A) → xs ++ [] ≡ xs
  append_nil [] = refl
  append_nil (x ∷ xs) = ap (λ ys. x ∷ ys) (append_nil xs)

  pub prefix_self : (xs : List A) → IsPrefix xs xs
  prefix_self xs = ([], append_nil xs)

  pub prefix_trans : (xs ys zs : List A) → IsPrefix xs ys → IsPrefix ys zs → IsPrefix xs zs
  prefix_trans xs ys zs p q = (p.0 ++ q.0, sym (append_assoc xs p.0 q.0) ∙ (ap (λ w. w ++ q.0) p.1 ∙ q.1))

  pub prefix_shorter : (xs ys zs : List A) → IsPrefix xs zs → IsPrefix ys zs → length xs ≤ length ys → IsPrefix xs ys
  prefix_shorter [] ys zs p q le = (ys, refl)
  prefix_shorter (x ∷ xs) [] zs p q le = absurd (omega arith)
  prefix_shorter (x ∷ xs) (y ∷ ys) [] p q le = absurd (cc (p.1))
  prefix_shorter (x ∷ xs) (y ∷ ys) (z ∷ zs) p q le =
      let heads : x ≡ y = cc (p.1, q.1) in
      let rest = prefix_shorter xs ys zs (p.0, cc (p.1)) (q.0, cc (q.1)) (omega arith) in
      (rest.0, cc (heads, rest.1))

  pub prefix_whole : (xs ys : List A) → IsPrefix xs ys → length ys ≤ length xs → xs ≡ ys
  prefix_whole [] [] p le = refl
  prefix_whole [] (y ∷ ys) p le = absurd (omega arith)
  prefix_whole (x ∷ xs) [] p le = absurd (cc (p.1))
  prefix_whole (x ∷ xs) (y ∷ ys) p le =
      let rest = prefix_whole xs ys (p.0, cc (p.1)) (omega arith) in cc (p.1, rest)

  pub prefix_length : (xs ys : List A) → IsPrefix xs ys → length xs ≤ length ys
  prefix_length xs ys p = omega (arith, sym (ap length p.1) ∙ length-append xs p.0)

  pub prefix_more : (xs ys : List A) (y : A) → IsPrefix xs ys → IsPrefix xs (ys ++ y ∷ [])
  prefix_more xs ys y p = prefix_trans xs ys (ys ++ y ∷ []) p (y ∷ [], refl)

  pub nothing : (xs : List A) → length xs ≡ 0 → xs ≡ []
  nothing [] e = refl
  nothing (x ∷ xs) e = absurd (omega arith)

pub by_session-append : (s : ℕ) (xs ys : List Entry) → by_session s (xs ++ ys) ≡ by_session s xs ++ by_session s ys
by_session-append s [] ys = refl
by_session-append s (e ∷ xs) ys = kept (eqb e.by s) (by_session-append s xs ys)
  where
    kept : (b : Bool) → by_session s (xs ++ ys) ≡ by_session s xs ++ by_session s ys → cond b (e ∷ by_session s (xs ++ ys)) (by_session s (xs ++ ys)) ≡ cond b (e ∷ by_session s xs) (by_session s xs) ++ by_session s ys
    kept true is = ap (λ l. e ∷ l) is
    kept false is = is

pub by_session-prefix : (s : ℕ) (xs ys : List Entry) → IsPrefix xs ys → IsPrefix (by_session s xs) (by_session s ys)
by_session-prefix s xs ys p = (by_session s p.0, sym (by_session-append s xs p.0) ∙ ap (by_session s) p.1)

-- between two lists with the same entries by s each list has these
pub by_session-between : (s : ℕ) (xs ys zs m : List Entry) → IsPrefix xs ys → IsPrefix ys zs → by_session s xs ≡ m → by_session s zs ≡ m → by_session s ys ≡ m
by_session-between s xs ys zs m p q a b =
    let low = prefix_length _ _ (by_session-prefix s xs ys p) in
    let high = prefix_length _ _ (by_session-prefix s ys zs q) in
    sym (prefix_whole (by_session s xs) (by_session s ys) (by_session-prefix s xs ys p) (omega (arith, high, ap length a, ap length b))) ∙ a

-- a list by its length
pub longer_cases : (P : List Entry → Type 0) (xs ys : List Entry) → (length ys < length xs → P xs) → (length xs ≤ length ys → P ys) → P (longer xs ys)
longer_cases P xs ys one other = go (nat_lt (length ys) (length xs)) refl
  where
    go : (b : Bool) → nat_lt (length ys) (length xs) ≡ b → P (cond b xs ys)
    go true e = one (grind (arith, nat_tests, e))
    go false e = other (grind (arith, nat_tests, e))

pub shorter_cases : (P : List Entry → Type 0) (xs ys : List Entry) → P ys → P xs → P (shorter xs ys)
shorter_cases P xs ys one other = go (nat_lt (length ys) (length xs))
  where
    go : (b : Bool) → P (cond b ys xs)
    go true = one
    go false = other

-- where the longer and the shorter begin one list, both begin the longer
pub both_begin : (log xs ys : List Entry) → IsPrefix (longer xs ys) log → IsPrefix (shorter xs ys) log → IsPrefix xs (longer xs ys) × IsPrefix ys (longer xs ys)
both_begin log xs ys p q = go (nat_lt (length ys) (length xs)) refl p q
  where
    go : (b : Bool) → nat_lt (length ys) (length xs) ≡ b → IsPrefix (cond b xs ys) log → IsPrefix (cond b ys xs) log → IsPrefix xs (cond b xs ys) × IsPrefix ys (cond b xs ys)
    go true e p' q' = (prefix_self xs, prefix_shorter ys xs log q' p' (grind (arith, nat_tests, e)))
    go false e p' q' = (prefix_shorter xs ys log q' p' (grind (arith, nat_tests, e)), prefix_self ys)

-- numbers go on behind a list
pub numbered_snoc : (n : ℕ) (l : List Entry) (e : Entry) → IsNumberedFrom n l → e.number ≡ n + length l → IsNumberedFrom n (l ++ e ∷ [])
numbered_snoc n [] e is next = (omega (arith, next), tt)
numbered_snoc n (x ∷ xs) e is next = (is.0, numbered_snoc (n + 1) xs e is.1 (omega (arith, next)))

pub numbered_prefix : (n : ℕ) (xs ys : List Entry) → IsPrefix xs ys → IsNumberedFrom n ys → IsNumberedFrom n xs
numbered_prefix n [] ys p is = tt
numbered_prefix n (x ∷ xs) [] p is = absurd (cc (p.1))
numbered_prefix n (x ∷ xs) (y ∷ ys) p is =
    let same : x ≡ y = cc (p.1) in (ap (λ (e : Entry). e.number) same ∙ is.0, numbered_prefix (n + 1) xs ys (p.0, cc (p.1)) is.1)
