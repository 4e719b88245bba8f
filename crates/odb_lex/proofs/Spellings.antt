-- The value of a quoted text and its spelling, each quote twice, back and forth.
use Rattle.std.proofs.Common.{◌≡◌, ◌≢◌, ◌⊎◌, ℕ, ◌+◌, ◌-◌, ◌≤◌, eqb, List, [], ◌∷◌, ◌++◌, length, take, drop, get_or, Some, None, IsUtf8, refl, sym, ap, subst, ◌∙◌, ⊎_elim, inl, inr, arith, ne_eqb, eq-eqb, append_assoc, append-nil, length-append, take-append-drop, take_at}
use Rattle.std.proofs.lemmas.Bool.{cond-true, cond-false, cases_eq}
use Rattle.std.proofs.lemmas.List.{append_cancel_left}
use Rattle.odb_lex.specs.Quoted.{doubled, value_from, quote_in, pair_in}
use Rattle.odb_lex.specs.Token.{IsQuoted, value_in}
use Rattle.odb_lex.proofs.Fronts.{utf8_behind}
use Rattle.odb_lex.proofs.Pieces.{doubled_none, doubled-append, value_past, value_past_one, value_end, value_on, with_quote, utf8_front, none_before, pair_some, pair_none}

doubled_quote : (v : List ℕ) → doubled (39 ∷ v) ≡ 39 ∷ 39 ∷ doubled v
doubled_quote v = refl

doubled_other : (b : ℕ) (v : List ℕ) → b ≢ 39 → doubled (b ∷ v) ≡ b ∷ doubled v
doubled_other b v other = ap (λ xs. xs ++ doubled v) (cond-false (eqb b 39) (39 ∷ 39 ∷ []) (b ∷ []) (ne_eqb b 39 other))

-- the spelling of a value, up to something that ends a text, has that value
pub value_of_spelling : (v q : List ℕ) → value_from q ≡ [] → value_from (doubled v ++ q) ≡ v
value_of_spelling [] q ends = ends
value_of_spelling (b ∷ v) q ends =
    let rest = value_of_spelling v q ends in
    ⊎_elim
    (λ quote.
    let start : doubled (b ∷ v) ≡ 39 ∷ 39 ∷ doubled v = ap (λ c. doubled (c ∷ v)) quote in
    ap (λ xs. value_from (xs ++ q)) start ∙ ap (λ xs. 39 ∷ xs) rest ∙ ap (λ c. c ∷ v) (sym quote))
    (λ other.
    ap (λ xs. value_from (xs ++ q)) (doubled_other b v other) ∙ value_past_one b (doubled v ++ q) other ∙ ap (λ xs. b ∷ xs) rest)
    (cases_eq b 39)

-- bytes are the spelling of their value, and then a quote by itself or nothing
pub record EndsByQuote (bytes : List ℕ) : Type 0 where
  pub rest : List ℕ
  pub spelled : bytes ≡ doubled (value_from bytes) ++ 39 ∷ rest
  pub other : get_or rest 0 0 ≢ 39

pub spelling_of_value : (bytes : List ℕ) → (bytes ≡ doubled (value_from bytes)) ⊎ EndsByQuote bytes
spelling_of_value [] = inl refl
spelling_of_value (b ∷ []) =
    ⊎_elim
    (λ quote.
    let none : value_from (b ∷ []) ≡ [] = cond-true _ _ _ (eq-eqb b 39 quote) in
    inr (record {
      rest = [];
      spelled = ap (λ c. c ∷ []) quote ∙ ap (λ v. doubled v ++ 39 ∷ []) (sym none);
      other = λ (e : 0 ≡ 39). omega arith;
    }))
    (λ other.
    let one : value_from (b ∷ []) ≡ b ∷ [] = value_past_one b [] other in
    inl (sym (ap doubled one ∙ doubled_other b [] other)))
    (cases_eq b 39)
spelling_of_value (b ∷ c ∷ bytes) =
    ⊎_elim
    (λ quote. ⊎_elim
    (λ second.
    let start : b ∷ c ∷ bytes ≡ 39 ∷ 39 ∷ bytes = λ i. quote i ∷ second i ∷ bytes in
    let value : value_from (b ∷ c ∷ bytes) ≡ 39 ∷ value_from bytes = ap value_from start in
    let back : 39 ∷ 39 ∷ doubled (value_from bytes) ≡ doubled (value_from (b ∷ c ∷ bytes)) = ap doubled (sym value) in
    ⊎_elim
    (λ all. inl (start ∙ ap (λ xs. 39 ∷ 39 ∷ xs) all ∙ back))
    (λ closed. inr (record {
      rest = closed.rest;
      spelled = start ∙ ap (λ xs. 39 ∷ 39 ∷ xs) closed.spelled ∙ ap (λ xs. xs ++ 39 ∷ closed.rest) back;
      other = closed.other;
    }))
    (spelling_of_value bytes))
    (λ alone.
    let start : b ∷ c ∷ bytes ≡ 39 ∷ c ∷ bytes = ap (λ x. x ∷ c ∷ bytes) quote in
    let none : value_from (b ∷ c ∷ bytes) ≡ [] = ap value_from start ∙ value_end (c ∷ bytes) alone in
    inr (record {
      rest = c ∷ bytes;
      spelled = start ∙ ap (λ v. doubled v ++ 39 ∷ c ∷ bytes) (sym none);
      other = alone;
    }))
    (cases_eq c 39))
    (λ other.
    let value : value_from (b ∷ c ∷ bytes) ≡ b ∷ value_from (c ∷ bytes) = value_past_one b (c ∷ bytes) other in
    let back : b ∷ doubled (value_from (c ∷ bytes)) ≡ doubled (value_from (b ∷ c ∷ bytes)) = sym (ap doubled value ∙ doubled_other b (value_from (c ∷ bytes)) other) in
    ⊎_elim
    (λ all. inl (ap (λ xs. b ∷ xs) all ∙ back))
    (λ closed. inr (record {
      rest = closed.rest;
      spelled = ap (λ xs. b ∷ xs) closed.spelled ∙ ap (λ xs. xs ++ 39 ∷ closed.rest) back;
      other = closed.other;
    }))
    (spelling_of_value (c ∷ bytes)))
    (cases_eq b 39)

-- ---- reading a value from its spelling, piece by piece

-- what is left is a spelling of UTF-8, and behind what is read it gives the whole value
pub record IsReading (whole read rest : List ℕ) : Type 0 where
  pub all : read ++ value_from rest ≡ whole
  pub spelled : rest ≡ doubled (value_from rest)
  pub utf8 : IsUtf8 (value_from rest)

pub record ReadsPiece (whole read rest : List ℕ) (len : ℕ) : Type 0 where
  pub within : len + 2 ≤ length rest
  pub utf8 : IsUtf8 (take (len + 1) rest)
  pub after : IsReading whole (read ++ take (len + 1) rest) (drop (len + 2) rest)

pub reads_piece : (whole read rest : List ℕ) (len : ℕ) → IsReading whole read rest → pair_in rest ≡ Some len → ReadsPiece whole read rest len
reads_piece whole read rest len reading e =
    let pair = pair_some rest len e in
    let p = take len rest in
    let r = drop (len + 2) rest in
    let v = value_from r in
    let value : value_from rest ≡ with_quote p ++ v = ap value_from pair.split ∙ value_on p r pair.none in
    let both : IsUtf8 (with_quote p ++ v) = subst IsUtf8 value reading.utf8 in
    let front : IsUtf8 (with_quote p) = utf8_front p v both in
    let first : doubled (with_quote p) ≡ p ++ 39 ∷ 39 ∷ [] = doubled-append p (39 ∷ []) ∙ ap (λ xs. xs ++ 39 ∷ 39 ∷ []) (doubled_none p pair.none) in
    let left : p ++ 39 ∷ 39 ∷ r ≡ p ++ 39 ∷ 39 ∷ doubled v =
    sym pair.split ∙ reading.spelled ∙ ap doubled value ∙ doubled-append (with_quote p) v ∙ ap (λ xs. xs ++ doubled v) first ∙ append_assoc p (39 ∷ 39 ∷ []) (doubled v) in
    let behind : 39 ∷ 39 ∷ r ≡ 39 ∷ 39 ∷ doubled v = append_cancel_left p _ _ left in
    record {
      within = pair.within;
      utf8 = subst IsUtf8 (sym pair.piece) front;
      after = record {
        all = ap (λ xs. (read ++ xs) ++ v) pair.piece ∙ append_assoc read (with_quote p) v ∙ ap (λ xs. read ++ xs) (sym value) ∙ reading.all;
        spelled = ap (drop 2) behind;
        utf8 = utf8_behind (with_quote p) v front both;
      };
    }

-- the last piece is its own value
pub rest_whole : (rest : List ℕ) → pair_in rest ≡ None → rest ≡ doubled (value_from rest) → value_from rest ≡ rest
rest_whole rest e spelled =
    let at = quote_in rest in
    let p = take at rest in
    let none = none_before rest in
    let last = pair_none rest e in
    let cut : rest ≡ p ++ drop at rest = sym (take-append-drop at rest) in
    let value : value_from rest ≡ p = ap value_from cut ∙ value_past p (drop at rest) none ∙ ap (λ xs. p ++ xs) last.ends ∙ append-nil p in
    value ∙ sym (doubled_none p none) ∙ ap doubled (sym value) ∙ sym spelled

pub record ReadsLast (whole read rest : List ℕ) : Type 0 where
  pub utf8 : IsUtf8 rest
  pub all : read ++ rest ≡ whole

pub reads_last : (whole read rest : List ℕ) → IsReading whole read rest → pair_in rest ≡ None → ReadsLast whole read rest
reads_last whole read rest reading e =
    let same = rest_whole rest e reading.spelled in
    record { utf8 = subst IsUtf8 same reading.utf8; all = ap (λ xs. read ++ xs) (sym same) ∙ reading.all }

-- a token's value is all to be read from what stands between its quotes
pub record StartsReading (token : List ℕ) : Type 0 where
  pub some : 2 ≤ length token
  pub start : IsReading (value_in token) [] (take (length token - 1 - 1) (drop 1 token))

pub starts_reading : (token : List ℕ) → IsQuoted token → StartsReading token
starts_reading token quoted =
    let v = value_in token in
    let written : token ≡ 39 ∷ (doubled v ++ 39 ∷ []) = quoted.spelled in
    let inner : drop 1 token ≡ doubled v ++ 39 ∷ [] = ap (drop 1) written in
    let size : length token ≡ length (doubled v) + 2 = omega (arith, ap length written, length-append (doubled v) (39 ∷ [])) in
    let number : length token - 1 - 1 ≡ length (doubled v) = omega arith in
    let cut : take (length token - 1 - 1) (drop 1 token) ≡ doubled v =
    (λ i. take (number i) (inner i)) ∙ take_at (doubled v) (39 ∷ []) (length (doubled v)) refl in
    let value : value_from (doubled v) ≡ v = ap value_from (sym (append-nil (doubled v))) ∙ value_of_spelling v [] refl in
    record {
      some = omega arith;
      start = rw cut (record { all = value; spelled = ap doubled (sym value); utf8 = subst IsUtf8 (sym value) quoted.value.utf8 });
    }
