-- The readers of one token, and what they fit.
use Rattle.std.proofs.Common.{◌≡◌, ℕ, List, [], ◌∷◌, Option, Some, None, Err, refl, sym, ap, subst, ◌∙◌}
use Rattle.odb_model.specs.Lexeme.{Lexeme}
use Rattle.odb_parse.specs.Codes.{Item, Stands, Wrong}
use Rattle.odb_parse.specs.Items.{refusal}
use Rattle.odb_parse.specs.Reading.{Outcome, Reader, and_then, pure, refuse, passed}
use Rattle.odb_parse.proofs.Takes.{Takes, done, next, Nothing, Seen, Bad, sight}
use Rattle.odb_parse.proofs.Fits.{IsRightLexeme, Completes, rest_of, moved, Accepts, At, Fits}

-- a reader of a token that is accepted
abbrev pub token_by : {A : Type 0} → Option A → Lexeme → ℕ → List Item → Outcome A
token_by (Some a) l at items = and_then (passed items) (λ _. pure a)
token_by None l at items = refuse (Stands l at ∷ items)

abbrev pub token : {A : Type 0} → (Lexeme → Option A) → Reader A
token accept [] = refuse []
token accept (Stands l at ∷ items) = token_by (accept l) l at items
token accept (Wrong wrong ∷ items) = refuse (Wrong wrong ∷ items)

pub data One {A : Type 0} (accept : Lexeme → Option A) : List Lexeme → A → Type 0 where
  one : {l : Lexeme} {a : A} → IsRightLexeme l → accept l ≡ Some a → One accept (l ∷ []) a

-- what looks alike begins alike
nothing_seen : (rest : List Item) → sight rest ≡ Nothing → rest ≡ []
nothing_seen [] e = refl
nothing_seen (Stands l at ∷ rest) e = cc
nothing_seen (Wrong w ∷ rest) e = cc

passed_again : {A : Type 0} (a : A) (items rest : List Item) → sight rest ≡ sight items
    → and_then (passed rest) (λ _. pure a) ≡ moved (and_then (passed items) (λ _. pure a)) rest
passed_again a [] [] e = refl
passed_again a [] (Stands l at ∷ rest) e = cc
passed_again a [] (Wrong w ∷ rest) e = cc
passed_again a (Stands l at ∷ items) [] e = cc
passed_again a (Stands l at ∷ items) (Stands k on ∷ rest) e = refl
passed_again a (Stands l at ∷ items) (Wrong w ∷ rest) e = cc
passed_again a (Wrong w ∷ items) [] e = cc
passed_again a (Wrong w ∷ items) (Stands l at ∷ rest) e = cc
passed_again a (Wrong w ∷ items) (Wrong v ∷ rest) e = refl

module _ {A : Type 0} (accept : Lexeme → Option A) (some : Completes (One accept) []) where
  refused_again : (others rest : List Item) (l : Lexeme) → accept l ≡ None → Takes others [] rest → sight rest ≡ Seen l
      → token accept others ≡ Err (refusal rest, rest)
  refused_again others rest l e done same = go others same
    where
      go : (others : List Item) → sight others ≡ Seen l → token accept others ≡ Err (refusal others, others)
      go [] same = cc
      go (Stands k at ∷ others) same =
          let is : k ≡ l = cc in
          ap (λ o. token_by o k at others) (ap accept is ∙ e)
      go (Wrong w ∷ others) same = cc

  token_again : (others rest items : List Item) (l : Lexeme) (a : A) → accept l ≡ Some a → Takes others (l ∷ []) rest → sight rest ≡ sight items
      → token accept others ≡ moved (and_then (passed items) (λ _. pure a)) rest
  token_again others rest items l a e (next {at = at} done) same = ap (λ o. token_by o l at rest) e ∙ passed_again a items rest same

  passed_accepts : (items : List Item) (l : Lexeme) (a : A) → accept l ≡ Some a → IsRightLexeme l
      → Accepts (One accept) (l ∷ []) (and_then (passed items) (λ _. pure a))
  passed_accepts [] l a e right = one right e
  passed_accepts (Stands k at ∷ items) l a e right = one right e
  passed_accepts (Wrong w ∷ items) l a e right = record { more = []; value = a; whole = one right e }

  passed_rest : (items : List Item) (a : A) → rest_of (and_then (passed items) (λ _. pure a)) ≡ items
  passed_rest [] a = refl
  passed_rest (Stands k at ∷ items) a = refl
  passed_rest (Wrong w ∷ items) a = refl

  token_at : (l : Lexeme) (at : ℕ) (items : List Item) (o : Option A) → accept l ≡ o
      → At (token accept) (One accept) (Stands l at ∷ items) (token_by o l at items)
  token_at l at items None e = record {
    front = [];
    takes = done;
    accepts = λ right. some;
    again = λ others rest takes same. refused_again others rest l e takes same;
  }
  token_at l at items (Some a) e = record {
    front = l ∷ [];
    takes = next (subst (λ rest. Takes items [] rest) (sym (passed_rest items a)) done);
    accepts = λ right. passed_accepts items l a e right.0;
    again = λ others rest takes same. token_again others rest items l a e takes (same ∙ ap sight (passed_rest items a));
  }

  pub fits_token : Fits (token accept) (One accept)
  fits_token = record { at = go }
    where
      go : (items : List Item) → At (token accept) (One accept) items (token accept items)
      go [] = record {
        front = [];
        takes = done;
        accepts = λ right. some;
        again = λ others rest takes same. nothing others rest takes same;
      }
        where
          nothing : (others rest : List Item) → Takes others [] rest → sight rest ≡ Nothing → token accept others ≡ Err (refusal rest, rest)
          nothing others rest done same = let e = nothing_seen others same in subst (λ (is : List Item). token accept is ≡ Err (refusal is, is)) (sym e) refl
      go (Stands l at ∷ items) = token_at l at items (accept l) refl
      go (Wrong wrong ∷ items) = record {
        front = [];
        takes = done;
        accepts = λ right. some;
        again = λ others rest takes same. bad others rest takes same;
      }
        where
          stuck : (others : List Item) → sight others ≡ Bad wrong → token accept others ≡ Err (refusal others, others)
          stuck [] same = cc
          stuck (Stands k at ∷ others) same = cc
          stuck (Wrong w ∷ others) same = refl

          bad : (others rest : List Item) → Takes others [] rest → sight rest ≡ Bad wrong → token accept others ≡ Err (refusal rest, rest)
          bad others rest done same = stuck others same
