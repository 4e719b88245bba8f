-- What readers made of several steps fit: one after another, a choice by what stands next, a step that is left out.
use Rattle.std.proofs.Common.{◌≡◌, ℕ, suc, ◌+◌, ◌<◌, Bool, true, false, cond, List, [], ◌∷◌, length, Ok, Err, refl, sym, ap, subst, ◌∙◌, arith}
use Rattle.odb_model.specs.declared.keyword.Keyword.{Keyword}
use Rattle.odb_model.specs.declared.sign.Sign.{Sign}
use Rattle.odb_model.specs.Lexeme.{Lexeme, Word, Symbol}
use Rattle.odb_parse.specs.declared.kind.Kind.{Kind}
use Rattle.odb_parse.specs.declared.kind.Kind.TheVariants as kind
use Rattle.odb_parse.specs.Codes.{Item, Stands, Wrong}
use Rattle.odb_parse.specs.Items.{kind_in, refusal}
use Rattle.odb_parse.specs.Reading.{Outcome, Reader, and_then, ◌>>=◌, ◌>>◌, ◌<$>◌, peek, skip, is_word, is_sign, sees_word, sees_sign, expect_word, expect_sign, eat_word, eat_sign, finish}
use Rattle.odb_parse.proofs.Takes.{Takes, done, next, Nothing, sight, takes_shorter}
use Rattle.odb_parse.proofs.Fits.{Completes, Seq, seq, Nil, nil, Mapped, At, Fits, fits_more, fits_seq, fits_map, fits_pure, fits_peek, fits_same}
use Rattle.odb_parse.proofs.Words.{Only, only, fits_word, fits_sign, word_skip, sign_skip, word_found, sign_found}

-- ---- one reader after another

nothing_taken : {rest : List Item} {ls : List Lexeme} → Takes [] ls rest → ls ≡ []
nothing_taken done = refl

begins_by : {A : Type 0} (p : Reader A) (G : List Lexeme → A → Type 0) (o : Outcome A) → At p G [] o → Completes G []
begins_by p G (Ok read) F = record { more = []; value = read.0; whole = subst (λ ls. G ls read.0) (nothing_taken F.takes) (F.accepts tt) }
begins_by p G (Err wrong) F = subst (λ ls. Completes G ls) (nothing_taken F.takes) (F.accepts tt)

-- a part that a reader fits has a whole
pub begins : {A : Type 0} {p : Reader A} {G : List Lexeme → A → Type 0} → Fits p G → Completes G []
begins {p = p} {G = G} f = begins_by p G (p []) (f.at [])

pub fits_then : {A B : Type 0} {p : Reader A} {q : A → Reader B} {G : List Lexeme → A → Type 0} {H : A → List Lexeme → B → Type 0}
    → Fits p G → ((a : A) → Fits (q a) (H a)) → Fits (p >>= q) (Seq G H)
fits_then {p = p} {q = q} {G = G} {H = H} f fq = fits_seq p q G H fq (λ a. begins (fq a)) f

pub fits_with : {A B : Type 0} {p : Reader A} {G : List Lexeme → A → Type 0} (f : A → B) → Fits p G → Fits (f <$> p) (Mapped f G)
fits_with {p = p} {G = G} f fp = fits_map f p G fp

-- ---- where one kind of token stands next

-- the reader is one that fits, where such a token stands next
pub record FitsAt {A : Type 0} (k : Kind) (p : Reader A) (G : List Lexeme → A → Type 0) : Type 0 where
  pub other : Reader A
  pub fits : Fits other G
  pub same : (items : List Item) → kind_in items ≡ k → p items ≡ other items

pub anywhere : {A : Type 0} {k : Kind} {p : Reader A} {G : List Lexeme → A → Type 0} → Fits p G → FitsAt k p G
anywhere {p = p} f = record { other = p; fits = f; same = λ items e. refl }

pub more_at : {A : Type 0} {k : Kind} {p : Reader A} {G H : List Lexeme → A → Type 0} → ((ls : List Lexeme) (a : A) → G ls a → H ls a)
    → FitsAt k p G → FitsAt k p H
more_at more f = record { other = f.other; fits = fits_more more f.fits; same = f.same }

pub fits_choice : {A : Type 0} {f : Kind → Reader A} {G : List Lexeme → A → Type 0} → ((k : Kind) → FitsAt k (f k) G) → Fits (peek >>= f) G
fits_choice {f = f} ff =
    fits_same (peek >>= f) (peek >>= (λ k. (ff k).other)) (λ items. (ff (kind_in items)).same items refl)
    (fits_peek (λ k. (ff k).other) (λ k. (ff k).fits))

pub past_word : {A : Type 0} (w : Keyword) {q : Reader A} {G : List Lexeme → A → Type 0} → Fits q G
    → FitsAt (kind.Word w) (skip >> q) (Seq (Only (Word w)) (λ _. G))
past_word w {q = q} f = record {
  other = expect_word w >> q;
  fits = fits_then (fits_word w) (λ _. f);
  same = λ items e. ap (λ o. and_then o (λ _. q)) (word_skip w items e);
}

pub past_sign : {A : Type 0} (s : Sign) {q : Reader A} {G : List Lexeme → A → Type 0} → Fits q G
    → FitsAt (kind.Symbol s) (skip >> q) (Seq (Only (Symbol s)) (λ _. G))
past_sign s {q = q} f = record {
  other = expect_sign s >> q;
  fits = fits_then (fits_sign s) (λ _. f);
  same = λ items e. ap (λ o. and_then o (λ _. q)) (sign_skip s items e);
}

pub then_at : {A B : Type 0} {k : Kind} {p : Reader A} {q : A → Reader B} {G : List Lexeme → A → Type 0} {H : A → List Lexeme → B → Type 0}
    → FitsAt k p G → ((a : A) → Fits (q a) (H a)) → FitsAt k (p >>= q) (Seq G H)
then_at {q = q} f fq = record { other = f.other >>= q; fits = fits_then f.fits fq; same = λ items e. ap (λ o. and_then o q) (f.same items e) }

-- ---- whether a word or sign stands next

cond_at : {A : Type 0} (b : Bool) (p q : Reader A) (items : List Item) → cond b (p items) (q items) ≡ cond b p q items
cond_at true p q items = refl
cond_at false p q items = refl

is_this_word : (w : Keyword) (k : Kind) → is_word w k ≡ true → k ≡ kind.Word w
is_this_word w (kind.Word found) e = ap kind.Word (word_found w found e)
is_this_word w kind.Nothing e = cc
is_this_word w kind.Name e = cc
is_this_word w kind.Number e = cc
is_this_word w kind.Quoted e = cc
is_this_word w (kind.Symbol s) e = cc

is_this_sign : (s : Sign) (k : Kind) → is_sign s k ≡ true → k ≡ kind.Symbol s
is_this_sign s (kind.Symbol found) e = ap kind.Symbol (sign_found s found e)
is_this_sign s kind.Nothing e = cc
is_this_sign s kind.Name e = cc
is_this_sign s kind.Number e = cc
is_this_sign s kind.Quoted e = cc
is_this_sign s (kind.Word w) e = cc

module _ {A : Type 0} (this : Kind) (test : Kind → Bool) (p q : Reader A) (G : List Lexeme → A → Type 0)
    (found : (k : Kind) → test k ≡ true → k ≡ this) (fp : FitsAt this p G) (fq : Fits q G) where
  tested_at : (k : Kind) (b : Bool) → test k ≡ b → FitsAt k (cond b p q) G
  tested_at k true e = subst (λ k. FitsAt k p G) (sym (found k e)) fp
  tested_at k false e = anywhere fq

  fits_tested : Fits (λ items. cond (test (kind_in items)) (p items) (q items)) G
  fits_tested =
      fits_same (λ items. cond (test (kind_in items)) (p items) (q items)) (peek >>= (λ k. cond (test k) p q))
      (λ items. cond_at (test (kind_in items)) p q items) (fits_choice (λ k. tested_at k (test k) refl))

pub fits_if_word : {A : Type 0} (w : Keyword) {p q : Reader A} {G : List Lexeme → A → Type 0} → FitsAt (kind.Word w) p G → Fits q G
    → Fits (λ items. cond (sees_word w items) (p items) (q items)) G
unfolding sees_word
fits_if_word w {p = p} {q = q} {G = G} fp fq = fits_tested (kind.Word w) (is_word w) p q G (is_this_word w) fp fq

pub fits_if_sign : {A : Type 0} (s : Sign) {p q : Reader A} {G : List Lexeme → A → Type 0} → FitsAt (kind.Symbol s) p G → Fits q G
    → Fits (λ items. cond (sees_sign s items) (p items) (q items)) G
unfolding sees_sign
fits_if_sign s {p = p} {q = q} {G = G} fp fq = fits_tested (kind.Symbol s) (is_sign s) p q G (is_this_sign s) fp fq

-- a word or sign that may be left out
pub data Maybe (l : Lexeme) : List Lexeme → Bool → Type 0 where
  there : Maybe l (l ∷ []) true
  left_out : Maybe l [] false

to_there : (l : Lexeme) (ls : List Lexeme) (b : Bool) → Seq (Only l) (λ _. Nil true) ls b → Maybe l ls b
to_there l ls b (seq only nil) = there

to_left_out : (l : Lexeme) (ls : List Lexeme) (b : Bool) → Nil false ls b → Maybe l ls b
to_left_out l ls b nil = left_out

pub fits_eat_word : (w : Keyword) → Fits (eat_word w) (Maybe (Word w))
unfolding eat_word
fits_eat_word w = fits_if_word w (more_at (to_there (Word w)) (past_word w (fits_pure true))) (fits_more (to_left_out (Word w)) (fits_pure false))

pub fits_eat_sign : (s : Sign) → Fits (eat_sign s) (Maybe (Symbol s))
unfolding eat_sign
fits_eat_sign s = fits_if_sign s (more_at (to_there (Symbol s)) (past_sign s (fits_pure true))) (fits_more (to_left_out (Symbol s)) (fits_pure false))

-- ---- the end

finish_at : (items : List Item) → At finish (Nil tt) items (finish items)
unfolding finish
finish_at [] = record { front = []; takes = done; accepts = λ right. nil; again = again }
  where
    ended : (others : List Item) → sight others ≡ Nothing → finish others ≡ Ok (tt, others)
    ended [] e = refl
    ended (Stands l at ∷ others) e = cc
    ended (Wrong w ∷ others) e = cc

    again : (others rest : List Item) → Takes others [] rest → sight rest ≡ Nothing → finish others ≡ Ok (tt, rest)
    again others rest done e = ended others e
finish_at (item ∷ items) = record { front = []; takes = done; accepts = λ right. record { more = []; value = tt; whole = nil }; again = again item }
  where
    goes_on : (item : Item) (others : List Item) → sight others ≡ sight (item ∷ items) → finish others ≡ Err (refusal others, others)
    goes_on item (other ∷ others) e = refl
    goes_on (Stands l at) [] e = cc
    goes_on (Wrong w) [] e = cc

    again : (item : Item) (others rest : List Item) → Takes others [] rest → sight rest ≡ sight (item ∷ items) → finish others ≡ Err (refusal rest, rest)
    again item others rest done e = goes_on item others e

pub fits_finish : Fits finish (Nil tt)
fits_finish = record { at = finish_at }

-- ---- a reader with a number that bounds its turns and is never used up

front_same : {a b c d : List Item} {ls ks : List Lexeme} → Takes a ls b → Takes c ks d → a ≡ c → length b ≡ length d → ls ≡ ks
front_same done done e len = refl
front_same done (next {l = l} {at = at} {items = items} {rest = rest} takes) e len =
    let short = takes_shorter takes in
    let whole = ap length e in
    absurd (omega arith)
front_same (next {l = l} {at = at} {items = items} {rest = rest} takes) done e len =
    let short = takes_shorter takes in
    let whole = ap length e in
    absurd (omega arith)
front_same (next {l = l} {at = at} {items = items} takes) (next {l = k} {at = on} {items = others} more) e len =
    let same : l ≡ k = cc in
    let behind : items ≡ others = cc in
    let ends = front_same takes more behind len in
    cc

module _ {A : Type 0} (p : ℕ → Reader A) (G : List Lexeme → A → Type 0) (fits : (n : ℕ) → Fits (p n) G)
    (same : (n m : ℕ) (items : List Item) → length items < n → length items < m → p n items ≡ p m items) where
  bounded_at : (items : List Item) (o : Outcome A) → p (suc (length items)) items ≡ o → At (λ is. p (suc (length is)) is) G items o
  bounded_at items o e =
      let first = subst (At (p (suc (length items))) G items) e ((fits (suc (length items))).at items) in
      record {
        front = first.front;
        takes = first.takes;
        accepts = first.accepts;
        again = λ others rest takes looks.
            let n : ℕ = suc (length items + length others) in
            let all : p n items ≡ o = same n (suc (length items)) items (omega arith) (omega arith) ∙ e in
            let F = subst (At (p n) G items) all ((fits n).at items) in
            let front = front_same first.takes F.takes refl refl in
            same (suc (length others)) n others (omega arith) (omega arith)
            ∙ F.again others rest (subst (λ ls. Takes others ls rest) front takes) looks;
      }

  pub fits_bounded : Fits (λ is. p (suc (length is)) is) G
  fits_bounded = record { at = λ items. bounded_at items (p (suc (length items)) items) refl }
