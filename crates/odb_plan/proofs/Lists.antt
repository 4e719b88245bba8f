-- Steps of loops that go through lists.
use Rattle.std.proofs.Common.{◌≡◌, ℕ, ◌+◌, ◌<◌, ◌≤◌, Bool, true, false, ◌||◌, List, [], ◌∷◌, ◌++◌, map, reverse, length, take, drop, get_or, refl, sym, ap, ◌∙◌, Option, Some, None, add-one}
use Rattle.std.specs.Option.{option_or}
use Rattle.std.specs.List.{list_any, AllZip}
use Rattle.std.proofs.Math.Seq.{drop-cons}
use Rattle.std.proofs.Math.ListN.{drop_of_length-le}
use Rattle.std.proofs.lemmas.List.{take_more, reverse-append}
use Rattle.std.proofs.lemmas.List.Folds.{list_any-append}
use Rattle.odb_model.specs.declared.reply.Reply.{Reply}
use Rattle.odb_model.specs.Binding.{first_refusal}

module _ {X : Type 0} where
  pub drop_more : (xs : List X) (i : ℕ) (d : X) → i < length xs → drop i xs ≡ get_or xs i d ∷ drop (i + 1) xs
  drop_more xs i d h = drop-cons xs i d h ∙ ap (λ n. get_or xs i d ∷ drop n xs) (sym (add-one i))

  -- what comes from an item on
  pub first_more : (f : X → Option Reply) (xs : List X) (i : ℕ) (d : X) → i < length xs → first_refusal f (drop i xs) ≡ option_or (f (get_or xs i d)) (first_refusal f (drop (i + 1) xs))
  first_more f xs i d h = ap (first_refusal f) (drop_more xs i d h)

  -- behind the last item none comes
  pub first_done : (f : X → Option Reply) (xs : List X) (i : ℕ) → length xs ≤ i → first_refusal f (drop i xs) ≡ None
  first_done f xs i h = ap (first_refusal f) (drop_of_length-le xs h)

  -- an item that isn't refused is passed
  pub first_passed : (f : X → Option Reply) (xs : List X) (i : ℕ) (d : X) (all : Option Reply) → i < length xs → f (get_or xs i d) ≡ None → first_refusal f (drop i xs) ≡ all → first_refusal f (drop (i + 1) xs) ≡ all
  first_passed f xs i d all h none so = sym (first_more f xs i d h ∙ ap (λ o. option_or o (first_refusal f (drop (i + 1) xs))) none) ∙ so

  -- one that is refused is the first
  pub first_found : (f : X → Option Reply) (xs : List X) (i : ℕ) (d : X) (r : Reply) → i < length xs → f (get_or xs i d) ≡ Some r → first_refusal f (drop i xs) ≡ Some r
  first_found f xs i d r h some = first_more f xs i d h ∙ ap (λ o. option_or o (first_refusal f (drop (i + 1) xs))) some

  pub reverse_more : (xs : List X) (i : ℕ) (d : X) → i < length xs → reverse (take (i + 1) xs) ≡ get_or xs i d ∷ reverse (take i xs)
  reverse_more xs i d h = ap reverse (take_more xs i d h) ∙ reverse-append (take i xs) (get_or xs i d ∷ [])

-- one more on each side
pub AllZip-both : {X Y : Type 0} (R : X → Y → Type 0) (xs : List X) (ys : List Y) (x : X) (y : Y) → AllZip R xs ys → R x y → AllZip R (xs ++ x ∷ []) (ys ++ y ∷ [])
AllZip-both R [] [] x y all one = (one, tt)
AllZip-both R [] (w ∷ ys) x y all one = absurd all
AllZip-both R (v ∷ xs) [] x y all one = absurd all
AllZip-both R (v ∷ xs) (w ∷ ys) x y all one = (all.0, AllZip-both R xs ys x y all.1 one)

-- the first refusal at what is got of each item
pub first-map : {X Y : Type 0} (f : Y → Option Reply) (g : X → Y) (xs : List X) (i : ℕ) (d : X) → i < length xs
    → first_refusal f (map g (drop i xs)) ≡ option_or (f (g (get_or xs i d))) (first_refusal f (map g (drop (i + 1) xs)))
first-map f g xs i d h = ap (λ ys. first_refusal f (map g ys)) (drop_more xs i d h)

-- a list told backward twice
pub twice : {X : Type 0} (xs : List X) → reverse (reverse xs) ≡ xs
twice [] = refl
twice (x ∷ xs) = ap reverse (reverse-append (x ∷ []) xs) ∙ reverse-append (reverse xs) (x ∷ []) ∙ ap (λ ys. x ∷ ys) (twice xs)

pub or_assoc : (a b c : Option Reply) → option_or (option_or a b) c ≡ option_or a (option_or b c)
or_assoc None b c = refl
or_assoc (Some r) b c = refl

-- the order doesn't matter to a test of some
pub any_backward : {X Y : Type 0} (p : Y → Bool) (f : X → Y) (xs : List X) → list_any p (reverse (map f xs)) ≡ list_any (λ x. p (f x)) xs
any_backward p f [] = refl
any_backward p f (x ∷ xs) =
    ap (list_any p) (reverse-append (f x ∷ []) (map f xs))
    ∙ list_any-append p (reverse (map f xs)) (f x ∷ [])
    ∙ ap (λ b. b || list_any p (f x ∷ [])) (any_backward p f xs)
    ∙ alone (list_any (λ y. p (f y)) xs) (p (f x))
  where
    alone : (a b : Bool) → (a || (b || false)) ≡ (b || a)
    alone true true = refl
    alone true false = refl
    alone false true = refl
    alone false false = refl
