-- What the readers of `item {, item}` fit.
use Rattle.std.proofs.Common.{◌≡◌, ℕ, zero, suc, ◌<◌, ◌≤◌, Bool, true, false, cond, List, [], ◌∷◌, ◌++◌, length, Ok, Err, refl, sym, subst, arith, append_assoc, append-nil}
use Rattle.odb_model.specs.declared.sign.Sign.TheVariants as s
use Rattle.odb_model.specs.Lexeme.{Lexeme, Symbol}
use Rattle.odb_model.specs.Grammar.{IsListed, last, more}
use Rattle.odb_parse.specs.Codes.{Item}
use Rattle.odb_parse.specs.Reading.{Outcome, Reader, and_then, pure, eat_sign}
use Rattle.odb_parse.specs.Sums.{listed_from, listed}
use Rattle.odb_parse.proofs.Shorter.{sign_eaten}
use Rattle.odb_parse.proofs.Fits.{Completes, Seq, seq, Nil, nil, Fits, fits_more, fits_pure, fits_refuse, fits_shorter}
use Rattle.odb_parse.proofs.StepsFit.{begins, fits_then, Maybe, there, left_out, fits_eat_sign, fits_bounded}

-- two readers go on alike behind what was read
pub then_same : {A B : Type 0} (o : Outcome A) (f g : A → Reader B) → ((a : A) (rest : List Item) → o ≡ Ok (a, rest) → f a rest ≡ g a rest)
    → and_then o f ≡ and_then o g
then_same (Ok read) f g h = h read.0 read.1 refl
then_same (Err wrong) f g h = refl

-- behind what was found, further items
pub data ListedOn {A : Type 0} (G : List Lexeme → A → Type 0) (found : List A) : List Lexeme → List A → Type 0 where
  on : {ls : List Lexeme} {xs : List A} → IsListed G ls xs → ListedOn G found ls (found ++ xs)

abbrev listed_after : {A : Type 0} → (List Lexeme → A → Type 0) → List A → Bool → List Lexeme → List A → Type 0
listed_after G found true = ListedOn G found
listed_after G found false = Nil found

to_listed_on : {A : Type 0} {G : List Lexeme → A → Type 0} (found : List A) (ls : List Lexeme) (out : List A)
    → Seq G (λ x. Seq (Maybe (Symbol s.Comma)) (λ b. listed_after G (found ++ x ∷ []) b)) ls out → ListedOn G found ls out
to_listed_on {G = G} found ls out (seq {us = us} {a = x} g (seq there (on {ls = ks} {xs = xs} gs))) =
    subst (λ out. ListedOn G found (us ++ Symbol s.Comma ∷ ks) out) (sym (append_assoc found (x ∷ []) xs)) (on (more g gs))
to_listed_on {G = G} found ls out (seq {us = us} {a = x} g (seq left_out nil)) =
    subst (λ ls. ListedOn G found ls (found ++ x ∷ [])) (sym (append-nil us)) (on (last g))

listed_more : {A : Type 0} {G : List Lexeme → A → Type 0} (p : Reader (List A)) (found : List A) (b : Bool) → Fits p (ListedOn G found)
    → Fits (cond b p (pure found)) (listed_after G found b)
listed_more p found true f = f
listed_more p found false f = fits_pure found

some_listed : {A : Type 0} {G : List Lexeme → A → Type 0} (found : List A) → Completes G [] → Completes (ListedOn G found) []
some_listed found c = record { more = c.more; value = found ++ c.value ∷ []; whole = on (last c.whole) }

fits_listed_from : {A : Type 0} {item : Reader A} {G : List Lexeme → A → Type 0} → Fits item G → (left : ℕ) (found : List A)
    → Fits (listed_from item left found) (ListedOn G found)
unfolding listed_from
fits_listed_from f zero found = fits_refuse (some_listed found (begins f))
fits_listed_from {item = item} f (suc left) found =
    fits_more (to_listed_on found) (fits_then f (λ x. fits_then (fits_eat_sign s.Comma)
    (λ b. listed_more (listed_from item left (found ++ x ∷ [])) (found ++ x ∷ []) b (fits_listed_from f left (found ++ x ∷ [])))))

-- each turn takes a comma
turns_same : {A : Type 0} {item : Reader A} {G : List Lexeme → A → Type 0} → Fits item G → (n m : ℕ) (found : List A) (items : List Item)
    → length items < n → length items < m → listed_from item n found items ≡ listed_from item m found items
unfolding listed_from
turns_same f zero m found items less small = absurd (omega arith)
turns_same f (suc n) zero found items less small = absurd (omega arith)
turns_same {A = A} {item = item} f (suc n) (suc m) found items less small =
    then_same (item items) _ _ (λ x rest read.
    let short = fits_shorter f items rest x read in
    then_same (eat_sign s.Comma rest) _ _ (λ b behind eaten. go x rest short b behind eaten
    (λ lesser. turns_same f n m (found ++ x ∷ []) behind (omega arith) (omega arith))))
  where
    go : (x : A) (rest : List Item) → length rest ≤ length items → (b : Bool) (behind : List Item) → eat_sign s.Comma rest ≡ Ok (b, behind)
        → (length behind < length items → listed_from item n (found ++ x ∷ []) behind ≡ listed_from item m (found ++ x ∷ []) behind)
        → cond b (listed_from item n (found ++ x ∷ [])) (pure (found ++ x ∷ [])) behind
        ≡ cond b (listed_from item m (found ++ x ∷ [])) (pure (found ++ x ∷ [])) behind
    go x rest short true behind eaten same =
        let less = sign_eaten s.Comma rest behind true refl eaten in
        same (omega arith)
    go x rest short false behind eaten same = refl

to_listed : {A : Type 0} {G : List Lexeme → A → Type 0} (ls : List Lexeme) (out : List A) → ListedOn G [] ls out → IsListed G ls out
to_listed ls out (on gs) = gs

pub fits_listed : {A : Type 0} {item : Reader A} {G : List Lexeme → A → Type 0} → Fits item G → Fits (listed item) (IsListed G)
unfolding listed
fits_listed {A = A} {item = item} {G = G} f =
    fits_more to_listed (fits_bounded (λ n. listed_from item n []) (ListedOn G []) (λ n. fits_listed_from f n []) (λ n m items. turns_same f n m [] items))
