-- Parts of a statement's printed text, with their lexemes.
use Rattle.std.proofs.Common.{◌≡◌, ℕ, ◌≤◌, ◌^◌, ◌||◌, Bool, true, false, List, [], ◌∷◌, ◌++◌, codes, refl, sym, subst, append_assoc, append-nil}
use Rattle.std.specs.Fmt.{decimal}
use Rattle.odb_values.specs.Text.{IsText}
use Rattle.odb_lex.specs.Quoted.{doubled}
use Rattle.odb_model.specs.declared.keyword.Keyword.{Keyword}
use Rattle.odb_model.specs.declared.sign.Sign.{Sign}
use Rattle.odb_model.specs.declared.sign.Sign.TheVariants as s
use Rattle.odb_model.specs.Lexeme.{Lexeme, Word, Name, Number, Quoted, Symbol, IsFree, word_text, sign_text}
use Rattle.odb_model.specs.Grammar.{IsListed, last, more}
use Rattle.odb_model.specs.Canonical.{joined}
use Rattle.odb_print.proofs.Lexemes.{joined_lexemes}
use Rattle.odb_print.proofs.Tokens.{Lexes, lexes_end, lexes_blank}
use Rattle.odb_print.proofs.TokensOne.{ends, parts, lexes_word, lexes_name, lexes_number, lexes_quoted, lexes_sign}

-- The text has these lexemes before whatever stands behind it, where it is closed, and else before what ends a token.
pub record Part (closed : Bool) (t : List ℕ) (ts : List Lexeme) : Type 0 where
  pub before : (rest : List ℕ) (ls : List Lexeme) → (closed || ends rest) ≡ true → Lexes rest ls → Lexes (t ++ rest) (ts ++ ls)

-- and ends a token itself
pub record Tail (closed : Bool) (t : List ℕ) (ts : List Lexeme) : Type 0 where
  pub part : Part closed t ts
  pub begins : (rest : List ℕ) → (closed || ends rest) ≡ true → ends (t ++ rest) ≡ true

pub whole : {t : List ℕ} {ts : List Lexeme} → Part false t ts → Lexes t ts
whole {t = t} {ts = ts} p =
    subst (λ u. Lexes u ts) (append-nil t) (subst (Lexes (t ++ [])) (append-nil ts) (p.before [] [] refl lexes_end))

-- the same lexemes in another form
pub as_lexemes : {c : Bool} {t : List ℕ} {ts us : List Lexeme} → Part c t ts → ts ≡ us → Part c t us
as_lexemes {c = c} {t = t} p e = subst (Part c t) e p

-- ---- one behind the other

or_true : (b : Bool) → (b || true) ≡ true
or_true true = refl
or_true false = refl

join : (t u : List ℕ) (ts us : List Lexeme) (rest : List ℕ) (ls : List Lexeme) → Lexes (t ++ (u ++ rest)) (ts ++ (us ++ ls))
    → Lexes ((t ++ u) ++ rest) ((ts ++ us) ++ ls)
join t u ts us rest ls both =
    subst (λ x. Lexes x ((ts ++ us) ++ ls)) (sym (append_assoc t u rest))
    (subst (Lexes (t ++ (u ++ rest))) (sym (append_assoc ts us ls)) both)

infixl 20 ◌>>◌
pub ◌>>◌ : {c : Bool} {t u : List ℕ} {ts us : List Lexeme} → Part true t ts → Part c u us → Part c (t ++ u) (ts ++ us)
◌>>◌ {t = t} {u = u} {ts = ts} {us = us} p q = record {
  before = λ rest ls e more. join t u ts us rest ls (p.before (u ++ rest) (us ++ ls) refl (q.before rest ls e more));
}

infixl 20 ◌<>◌
pub ◌<>◌ : {c d : Bool} {t u : List ℕ} {ts us : List Lexeme} → Part d t ts → Tail c u us → Part c (t ++ u) (ts ++ us)
◌<>◌ {d = d} {t = t} {u = u} {ts = ts} {us = us} p q = record {
  before = λ rest ls e more.
      let apart = subst (λ b. (d || b) ≡ true) (sym (q.begins rest e)) (or_true d) in
      join t u ts us rest ls (p.before (u ++ rest) (us ++ ls) apart (q.part.before rest ls e more));
}

pub tail_tail : {c d : Bool} {t u : List ℕ} {ts us : List Lexeme} → Tail d t ts → Tail c u us → Tail c (t ++ u) (ts ++ us)
tail_tail {d = d} {t = t} {u = u} p q = record {
  part = p.part <> q;
  begins = λ rest e.
      let apart = subst (λ b. (d || b) ≡ true) (sym (q.begins rest e)) (or_true d) in
      subst (λ x. ends x ≡ true) (sym (append_assoc t u rest)) (p.begins (u ++ rest) apart);
}

pub tail_part : {c : Bool} {t u : List ℕ} {ts us : List Lexeme} → Tail true t ts → Part c u us → Tail c (t ++ u) (ts ++ us)
tail_part {t = t} {u = u} p q = record {
  part = p.part >> q;
  begins = λ rest e. subst (λ x. ends x ≡ true) (sym (append_assoc t u rest)) (p.begins (u ++ rest) refl);
}

-- ---- single tokens

pub name : {n : List ℕ} → IsFree n → Part false n (Name n ∷ [])
name free = record { before = λ rest ls e more. lexes_name free e more }

pub number : (n : ℕ) → n ≤ 2 ^ 63 → Part false (decimal n) (Number n ∷ [])
number n small = record { before = λ rest ls e more. lexes_number n small e more }

pub quoted : {t : List ℕ} → IsText t → Part false (codes "'" ++ doubled t ++ codes "'") (Quoted t ∷ [])
quoted {t = t} is = record { before = λ rest ls e more. lexes_quoted t is e more }

pub word : (w : Keyword) → Part false (word_text w) (Word w ∷ [])
word w = record { before = λ rest ls e more. lexes_word w e more }

sign_parts : (sign : Sign) (rest : List ℕ) → ends rest ≡ true → parts sign rest ≡ true
sign_parts s.Less rest e = e
sign_parts s.Greater rest e = e
sign_parts sign rest e = refl

pub sign : (x : Sign) → Part false (sign_text x) (Symbol x ∷ [])
sign x = record { before = λ rest ls e more. lexes_sign x (sign_parts x rest e) more }

-- ---- with blanks: `_` in a name stands for one

pub nothing : Tail false [] []
nothing = record { part = record { before = λ rest ls e more. more }; begins = λ rest e. e }

pub blank : {c : Bool} {t : List ℕ} {ts : List Lexeme} → Part c t ts → Tail c (32 ∷ t) ts
blank p = record {
  part = record { before = λ rest ls e more. lexes_blank (p.before rest ls e more) };
  begins = λ rest e. refl;
}

space : Tail true (32 ∷ []) []
space = record {
  part = record { before = λ rest ls e more. lexes_blank more };
  begins = λ rest e. refl;
}

pub word_ : (w : Keyword) → Part true (word_text w ++ 32 ∷ []) (Word w ∷ [])
word_ w = word w <> space

pub _word_ : (w : Keyword) → Tail true (32 ∷ word_text w ++ 32 ∷ []) (Word w ∷ [])
_word_ w = blank (word_ w)

pub _sign_ : (x : Sign) → Tail true (32 ∷ sign_text x ++ 32 ∷ []) (Symbol x ∷ [])
_sign_ x = blank (sign x <> space)

-- ---- signs that no other begins with: anything may follow them

pub left : Tail true (40 ∷ []) (Symbol s.Open ∷ [])
unfolding sign_text
left = record { part = record { before = λ rest ls e more. lexes_sign s.Open refl more }; begins = λ rest e. refl }

pub right : Tail true (41 ∷ []) (Symbol s.Close ∷ [])
unfolding sign_text
right = record { part = record { before = λ rest ls e more. lexes_sign s.Close refl more }; begins = λ rest e. refl }

-- a closed text stands before less as well
pub opened : {t : List ℕ} {ts : List Lexeme} → Tail true t ts → Tail false t ts
opened p = record { part = record { before = λ rest ls e more. p.part.before rest ls refl more }; begins = λ rest e. p.begins rest refl }

pub right_end : Tail false (41 ∷ []) (Symbol s.Close ∷ [])
right_end = opened right

pub minus : Part true (45 ∷ []) (Symbol s.Minus ∷ [])
unfolding sign_text
minus = record { before = λ rest ls e more. lexes_sign s.Minus refl more }

pub comma_ : Tail true (44 ∷ 32 ∷ []) (Symbol s.Comma ∷ [])
unfolding sign_text
comma_ = record { part = record { before = λ rest ls e more. lexes_sign s.Comma refl (lexes_blank more) }; begins = λ rest e. refl }

-- ---- item {, item}

pub items : {A : Type 0} {Item : List Lexeme → A → Type 0} (text : A → List ℕ) (lexemes : A → List Lexeme)
    → ((ts : List Lexeme) (x : A) → Item ts x → Part false (text x) (lexemes x))
    → (ts : List Lexeme) (xs : List A) → IsListed Item ts xs → Part false (joined text xs) (joined_lexemes lexemes xs)
items text lexemes item _ _ (last i) = item _ _ i
items text lexemes item _ _ (more i (last j)) = as_lexemes (item _ _ i <> comma_ >> item _ _ j) (simp append_assoc)
items text lexemes item _ _ (more i (more j js)) =
    as_lexemes (item _ _ i <> comma_ >> items text lexemes item _ _ (more j js)) (simp append_assoc)
