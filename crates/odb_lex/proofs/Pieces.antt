-- A quoted text, from quote to quote: what each piece of it says of where the text ends.
use Rattle.std.proofs.Common.{◌≡◌, ◌≢◌, ℕ, suc, ◌+◌, ◌-◌, ◌<◌, ◌≤◌, true, false, cond, nat_lt, nat_eq, ◌==◌, List, [], ◌∷◌, ◌++◌, length, take, drop, get_or, Some, None, Result, Ok, Err, IsUtf8, refl, sym, ap, subst, ◌∙◌, ⊎_elim, arith, true≢false, eq-eqb, ne_eqb, eqb-true, lt-ltb, le-ltb, take_at, append_assoc, append-nil, length-append, length-take, length-drop, take_all, drop-drop, get_or-take, take-append-drop}
use Rattle.std.proofs.lemmas.Bool.{cases_Bool, and_parts, and_from, false≢true, cond-true, cond-false, eqb-false, cases_lt}
use Rattle.std.proofs.lemmas.Bool.Decides.{nat_tests}
use Rattle.std.proofs.lemmas.Grind.{flat_map-append}
use Rattle.std.proofs.lemmas.List.{drop_more, drop_all, take_more, get_or_at, take-append-le}
use Rattle.std.proofs.lemmas.List.Sums.{prefix_len-le-length, fails_before_first, passes_at_first}
use Rattle.std.proofs.lemmas.Str.{IsUtf8-take, IsCharBoundary-after_ascii}
use Rattle.std.proofs.Math.Seq.{take-append-add}
use Rattle.std.specs.List.{starts_with}
use Rattle.odb_lex.specs.declared.error.LexError.{LexError}
use Rattle.odb_lex.specs.declared.error.LexError.TheVariants.{BadCharacter, OpenText}
use Rattle.odb_lex.specs.Quoted.{doubled, value_from, right_len, text_end, quote_in, pair_in}
use Rattle.odb_lex.proofs.Fronts.{IsSealed, right_behind, right_before}

-- ---- bytes without a quote

abbrev pub HasNoQuote : List ℕ → Type 0
HasNoQuote xs = (i : ℕ) → i < length xs → get_or xs i 0 ≢ 39

rest_no_quote : (x : ℕ) (xs : List ℕ) → HasNoQuote (x ∷ xs) → HasNoQuote xs
rest_no_quote x xs none i below = none (suc i) (omega arith)

-- they are their own spelling, and their own value
pub doubled_none : (xs : List ℕ) → HasNoQuote xs → doubled xs ≡ xs
doubled_none [] none = refl
doubled_none (x ∷ xs) none =
    let first : x ≢ 39 = none 0 (omega arith) in
    let rest : doubled xs ≡ xs = doubled_none xs (rest_no_quote x xs none) in
    grind (arith, rest, first)

pub doubled-append : (xs ys : List ℕ) → doubled (xs ++ ys) ≡ doubled xs ++ doubled ys
doubled-append xs ys = flat_map-append _ xs ys

pub value_past_one : (b : ℕ) (bytes : List ℕ) → b ≢ 39 → value_from (b ∷ bytes) ≡ b ∷ value_from bytes
value_past_one b [] other = cond-false _ _ _ (ne_eqb b 39 other)
value_past_one b (c ∷ cs) other = cond-false _ _ _ (ne_eqb b 39 other)

pub value_past : (p q : List ℕ) → HasNoQuote p → value_from (p ++ q) ≡ p ++ value_from q
value_past [] q none = refl
value_past (b ∷ bs) q none =
    value_past_one b (bs ++ q) (none 0 (omega arith)) ∙ ap (λ v. b ∷ v) (value_past bs q (rest_no_quote b bs none))

-- ---- at a quote

-- one quote alone ends the value
pub value_end : (q : List ℕ) → get_or q 0 0 ≢ 39 → value_from (39 ∷ q) ≡ []
value_end [] other = refl
value_end (c ∷ cs) other = cond-false _ _ _ (ne_eqb c 39 other)

-- two are one of it
pub value_twice : (q : List ℕ) → value_from (39 ∷ 39 ∷ q) ≡ 39 ∷ value_from q
value_twice q = refl

abbrev pub two_quotes : List ℕ
two_quotes = 39 ∷ 39 ∷ []

twice_front : (xs : List ℕ) → starts_with nat_eq xs two_quotes ≡ true → xs ≡ 39 ∷ 39 ∷ drop 2 xs
twice_front [] twice = cc
twice_front (a ∷ []) twice = absurd (false≢true (and_parts _ _ twice).1)
twice_front (a ∷ c ∷ cs) twice =
    let both = and_parts _ _ twice in
    let first : 39 ≡ a = eqb-true 39 a both.0 in
    let second : 39 ≡ c = eqb-true 39 c (and_parts _ _ both.1).0 in
    cc

once_front : (xs : List ℕ) → starts_with nat_eq xs two_quotes ≡ false → get_or xs 0 0 ≡ 39 → get_or (drop 1 xs) 0 0 ≢ 39
once_front [] once quote = λ e. absurd (omega arith)
once_front (a ∷ []) once quote = λ e. absurd (omega arith)
once_front (a ∷ c ∷ cs) once quote = λ second.
    true≢false (sym (and_from _ _ (eq-eqb 39 a (sym quote)) (and_from _ _ (eq-eqb 39 c (sym second)) refl)) ∙ once)

-- ---- the cut of some bytes at their first quote

pub quote_in_le : (bytes : List ℕ) → quote_in bytes ≤ length bytes
quote_in_le bytes = prefix_len-le-length _ bytes

pub none_before : (bytes : List ℕ) → HasNoQuote (take (quote_in bytes) bytes)
none_before bytes i below =
    let within : i < quote_in bytes = omega (arith, length-take (quote_in bytes) bytes) in
    let other : get_or bytes i 0 ≢ 39 = eqb-false _ _ (fails_before_first (λ b. b == 39) bytes i 0 within) in
    rw (get_or-take (quote_in bytes) bytes i 0 within) other

pub quote_there : (bytes : List ℕ) → quote_in bytes < length bytes → drop (quote_in bytes) bytes ≡ 39 ∷ drop (quote_in bytes + 1) bytes
quote_there bytes within =
    let found : get_or bytes (quote_in bytes) 0 ≡ 39 = eqb-true _ _ (passes_at_first (λ b. b == 39) bytes 0 within) in
    drop_more bytes (quote_in bytes) 0 within ∙ ap (λ b. b ∷ drop (quote_in bytes + 1) bytes) found

-- ---- where the text ends, by the numbers that it takes

shape : ℕ → ℕ → ℕ → ℕ → ℕ → ℕ → ℕ → Result ℕ LexError
shape first place right len wrong written all =
    cond (nat_lt right len) (Err (BadCharacter (place + wrong)))
    (cond (written == all) (Err (OpenText first)) (Ok (place + written + 1)))

text_end_shape : (first most place : ℕ) (bytes value : List ℕ) → value_from bytes ≡ value
    → text_end first most place bytes
    ≡ shape first place (right_len most value) (length value) (length (doubled (take (right_len most value) value))) (length (doubled value)) (length bytes)
unfolding shape
text_end_shape first most place bytes value e =
    ap (λ v. shape first place (right_len most v) (length v) (length (doubled (take (right_len most v) v))) (length (doubled v)) (length bytes)) e

shape_on : (first place n m right len wrong written all : ℕ)
    → shape first place (n + right) (n + len) (m + wrong) (m + written) (m + all) ≡ shape first (place + m) right len wrong written all
unfolding shape
shape_on first place n m right len wrong written all =
    let sooner : nat_lt (n + right) (n + len) ≡ nat_lt right len = grind (arith, nat_tests) in
    let same : (m + written == m + all) ≡ (written == all) = grind (arith, nat_tests) in
    let bad : place + (m + wrong) ≡ place + m + wrong = omega arith in
    let end : place + (m + written) + 1 ≡ place + m + written + 1 = omega arith in
    λ i. cond (sooner i) (Err (BadCharacter (bad i))) (cond (same i) (Err (OpenText first)) (Ok (end i)))

shape_wrong : (first place right len wrong written all : ℕ) → right < len
    → shape first place right len wrong written all ≡ Err (BadCharacter (place + wrong))
unfolding shape
shape_wrong first place right len wrong written all less = cond-true _ _ _ (lt-ltb right len less)

shape_open : (first place right len wrong written all : ℕ) → len ≤ right → written ≡ all
    → shape first place right len wrong written all ≡ Err (OpenText first)
unfolding shape
shape_open first place right len wrong written all whole e =
    cond-false _ _ _ (le-ltb right len whole) ∙ cond-true _ _ _ (eq-eqb written all e)

shape_end : (first place right len wrong written all : ℕ) → len ≤ right → written ≢ all
    → shape first place right len wrong written all ≡ Ok (place + written + 1)
unfolding shape
shape_end first place right len wrong written all whole differ =
    cond-false _ _ _ (le-ltb right len whole) ∙ cond-false _ _ _ (ne_eqb written all differ)

-- ---- what a piece p without a quote says, and what follows it

take_no_quote : (k : ℕ) (p : List ℕ) → HasNoQuote p → k ≤ length p → length (doubled (take k p)) ≡ k
take_no_quote k p none within =
    let len : length (take k p) ≡ k = omega (arith, length-take k p) in
    let cut : HasNoQuote (take k p) = λ i below. rw (get_or-take k p i 0 (omega arith)) (none i (omega arith)) in
    ap length (doubled_none (take k p) cut) ∙ len

-- a wrong byte in the last piece
pub last_wrong : (first most place : ℕ) (p q : List ℕ) → HasNoQuote p → value_from q ≡ [] → right_len most p < length p
    → text_end first most place (p ++ q) ≡ Err (BadCharacter (place + right_len most p))
last_wrong first most place p q none ends wrong =
    let value : value_from (p ++ q) ≡ p = value_past p q none ∙ ap (λ v. p ++ v) ends ∙ append-nil p in
    text_end_shape first most place (p ++ q) p value ∙ shape_wrong first place _ _ _ _ _ wrong
    ∙ ap (λ k. Err (BadCharacter (place + k))) (take_no_quote (right_len most p) p none (omega arith))

-- the last piece without a quote behind it
pub last_open : (first most place : ℕ) (p : List ℕ) → HasNoQuote p → right_len most p ≡ length p
    → text_end first most place p ≡ Err (OpenText first)
last_open first most place p none whole =
    let value : value_from p ≡ p = ap value_from (sym (append-nil p)) ∙ value_past p [] none ∙ append-nil p in
    let written : length (doubled p) ≡ length p = ap length (doubled_none p none) in
    text_end_shape first most place p p value ∙ shape_open first place _ _ _ _ _ (omega arith) written

-- and with one
pub last_end : (first most place : ℕ) (p r : List ℕ) → HasNoQuote p → get_or r 0 0 ≢ 39 → right_len most p ≡ length p
    → text_end first most place (p ++ 39 ∷ r) ≡ Ok (place + length p + 1)
last_end first most place p r none other whole =
    let value : value_from (p ++ 39 ∷ r) ≡ p = value_past p (39 ∷ r) none ∙ ap (λ v. p ++ v) (value_end r other) ∙ append-nil p in
    let written : length (doubled p) ≡ length p = ap length (doubled_none p none) in
    let differ : length (doubled p) ≢ length (p ++ 39 ∷ r) = omega (arith, length-append p (39 ∷ r)) in
    text_end_shape first most place (p ++ 39 ∷ r) p value ∙ shape_end first place _ _ _ _ _ (omega arith) differ
    ∙ ap (λ k. Ok (place + k + 1)) written

abbrev pub with_quote : List ℕ → List ℕ
with_quote p = p ++ 39 ∷ []

pub value_on : (p r : List ℕ) → HasNoQuote p → value_from (p ++ 39 ∷ 39 ∷ r) ≡ with_quote p ++ value_from r
value_on p r none = value_past p (39 ∷ 39 ∷ r) none ∙ sym (append_assoc p (39 ∷ []) (value_from r))

-- a front that ends with a quote is UTF-8 where the whole is
pub utf8_front : (p w : List ℕ) → IsUtf8 (with_quote p ++ w) → IsUtf8 (with_quote p)
utf8_front p w u =
    let bs = with_quote p ++ w in
    let n = length p in
    let here : get_or bs n 0 ≡ 39 = ap (λ xs. get_or xs n 0) (append_assoc p (39 ∷ []) w) ∙ get_or_at p 39 w 0 n refl in
    let len : length (with_quote p) ≡ n + 1 = length-append p (39 ∷ []) in
    let past : n < length bs = omega (arith, length-append (with_quote p) w) in
    let cut : take (n + 1) bs ≡ with_quote p = take_at (with_quote p) w (n + 1) len in
    subst IsUtf8 cut (IsUtf8-take bs (n + 1) u (IsCharBoundary-after_ascii bs n u past (omega arith)))

sealed_by_quote : (p v : List ℕ) → IsSealed (with_quote p) v
sealed_by_quote p v = record { stays = λ m u. utf8_front p (take m v) u }

-- a wrong byte in a piece with two quotes behind it, of which the first belongs to the piece
pub piece_wrong : (first most place : ℕ) (p r : List ℕ) → HasNoQuote p → right_len most (with_quote p) < length (with_quote p)
    → text_end first most place (p ++ 39 ∷ 39 ∷ r) ≡ Err (BadCharacter (place + right_len most (with_quote p)))
piece_wrong first most place p r none wrong =
    let v = value_from r in
    let right = right_before (with_quote p) v most (sealed_by_quote p v) wrong in
    let len = length-append p (39 ∷ []) in
    let all = length-append (with_quote p) v in
    let k = right_len most (with_quote p) in
    let less : right_len most (with_quote p ++ v) < length (with_quote p ++ v) = omega arith in
    let cut : take k (with_quote p ++ v) ≡ take k p = take-append-le k (with_quote p) v (omega arith) ∙ take-append-le k p (39 ∷ []) (omega arith) in
    text_end_shape first most place (p ++ 39 ∷ 39 ∷ r) (with_quote p ++ v) (value_on p r none) ∙ shape_wrong first place _ _ _ _ _ less
    ∙ ap (λ j. Err (BadCharacter (place + length (doubled (take j (with_quote p ++ v)))))) right
    ∙ ap (λ xs. Err (BadCharacter (place + length (doubled xs)))) cut
    ∙ ap (λ j. Err (BadCharacter (place + j))) (take_no_quote k p none (omega arith))

-- and a right one, behind which the text goes on
pub piece_on : (first most place : ℕ) (p r : List ℕ) → HasNoQuote p → right_len most (with_quote p) ≡ length (with_quote p)
    → text_end first most place (p ++ 39 ∷ 39 ∷ r) ≡ text_end first (most - (length p + 1)) (place + (length p + 2)) r
piece_on first most place p r none whole =
    let v = value_from r in
    let w = with_quote p in
    let n = length p + 1 in
    let m = length p + 2 in
    let k = right_len (most - n) v in
    let len : length w ≡ n = length-append p (39 ∷ []) in
    let counted : right_len most (w ++ v) ≡ length w + k = right_behind w v most whole ∙ ap (λ x. length w + right_len (most - x) v) len in
    let right : right_len most (w ++ v) ≡ n + k = counted ∙ ap (λ x. x + k) len in
    let all_value : length (w ++ v) ≡ n + length v = length-append w v ∙ ap (λ x. x + length v) len in
    let twice : length (doubled w) ≡ m = ap length (doubled-append p (39 ∷ []) ∙ ap (λ xs. xs ++ 39 ∷ 39 ∷ []) (doubled_none p none)) ∙ length-append p (39 ∷ 39 ∷ []) in
    let spelled : (xs : List ℕ) → length (doubled (w ++ xs)) ≡ m + length (doubled xs) =
    λ xs. ap length (doubled-append w xs) ∙ length-append (doubled w) (doubled xs) ∙ ap (λ x. x + length (doubled xs)) twice in
    let written = spelled v in
    let wrong : length (doubled (take (right_len most (w ++ v)) (w ++ v))) ≡ m + length (doubled (take k v)) =
    ap (λ j. length (doubled (take j (w ++ v)))) counted ∙ ap (λ xs. length (doubled xs)) (take-append-add w v k) ∙ spelled (take k v) in
    let all : length (p ++ 39 ∷ 39 ∷ r) ≡ m + length r = omega (arith, length-append p (39 ∷ 39 ∷ r)) in
    text_end_shape first most place (p ++ 39 ∷ 39 ∷ r) (w ++ v) (value_on p r none)
    ∙ (λ i. shape first place (right i) (all_value i) (wrong i) (written i) (all i))
    ∙ shape_on first place n m k (length v) (length (doubled (take k v))) (length (doubled v)) (length r)
    ∙ sym (text_end_shape first (most - n) (place + m) r v refl)

-- ---- what the first quote of some bytes says

-- two quotes stand at len, the first of all
pub record IsPair (bytes : List ℕ) (len : ℕ) : Type 0 where
  pub within : len + 2 ≤ length bytes
  pub none : HasNoQuote (take len bytes)
  pub front : length (take len bytes) ≡ len
  pub split : bytes ≡ take len bytes ++ 39 ∷ 39 ∷ drop (len + 2) bytes
  pub piece : take (len + 1) bytes ≡ with_quote (take len bytes)

pair_there : (bytes : List ℕ) → starts_with nat_eq (drop (quote_in bytes) bytes) two_quotes ≡ true → IsPair bytes (quote_in bytes)
pair_there bytes twice =
    let at = quote_in bytes in
    let two = twice_front (drop at bytes) twice in
    let both : drop at bytes ≡ 39 ∷ 39 ∷ drop (at + 2) bytes = two ∙ ap (λ xs. 39 ∷ 39 ∷ xs) (drop-drop 2 at bytes) in
    let within : at + 2 ≤ length bytes = omega (arith, length-drop at bytes, ap length two) in
    let found : get_or bytes at 0 ≡ 39 = eqb-true _ _ (passes_at_first (λ b. b == 39) bytes 0 (omega arith)) in
    record {
      within = within;
      none = none_before bytes;
      front = omega (arith, length-take at bytes);
      split = sym (take-append-drop at bytes) ∙ ap (λ xs. take at bytes ++ xs) both;
      piece = take_more bytes at 0 (omega arith) ∙ ap (λ b. take at bytes ++ b ∷ []) found;
    }

pub pair_some : (bytes : List ℕ) (len : ℕ) → pair_in bytes ≡ Some len → IsPair bytes len
pair_some bytes len e =
    let at = quote_in bytes in
    ⊎_elim
    (λ twice.
    let is : pair_in bytes ≡ Some at = cond-true _ _ _ twice in
    let same : at ≡ len = cc in
    subst (IsPair bytes) same (pair_there bytes twice))
    (λ once.
    let is : pair_in bytes ≡ None = cond-false _ _ _ once in
    cc)
    (cases_Bool (starts_with nat_eq (drop at bytes) two_quotes))

-- no quote is followed by another at the first
pub record IsLast (bytes : List ℕ) : Type 0 where
  pub front : length (take (quote_in bytes) bytes) ≡ quote_in bytes
  pub ends : value_from (drop (quote_in bytes) bytes) ≡ []
  pub closed : quote_in bytes < length bytes
      → (bytes ≡ take (quote_in bytes) bytes ++ 39 ∷ drop (quote_in bytes + 1) bytes) × (get_or (drop (quote_in bytes + 1) bytes) 0 0 ≢ 39)

last_there : (bytes : List ℕ) → starts_with nat_eq (drop (quote_in bytes) bytes) two_quotes ≡ false → IsLast bytes
last_there bytes once =
    let at = quote_in bytes in
    let closed : at < length bytes → (bytes ≡ take at bytes ++ 39 ∷ drop (at + 1) bytes) × (get_or (drop (at + 1) bytes) 0 0 ≢ 39) = λ below.
    let there = quote_there bytes below in
    let first : get_or (drop at bytes) 0 0 ≡ 39 = ap (λ xs. get_or xs 0 0) there in
    let other : get_or (drop 1 (drop at bytes)) 0 0 ≢ 39 = once_front (drop at bytes) once first in
    (sym (take-append-drop at bytes) ∙ ap (λ xs. take at bytes ++ xs) there, rw (← drop-drop 1 at bytes) other) in
    record {
      front = omega (arith, length-take at bytes, quote_in_le bytes);
      ends = ⊎_elim
          (λ below. ap value_from (quote_there bytes below) ∙ value_end (drop (at + 1) bytes) (closed below).1)
          (λ past. ap value_from (drop_all at bytes past))
          (cases_lt at (length bytes));
      closed = closed;
    }

pub pair_none : (bytes : List ℕ) → pair_in bytes ≡ None → IsLast bytes
pair_none bytes e =
    let at = quote_in bytes in
    ⊎_elim
    (λ twice.
    let is : pair_in bytes ≡ Some at = cond-true _ _ _ twice in
    cc)
    (λ once. last_there bytes once)
    (cases_Bool (starts_with nat_eq (drop at bytes) two_quotes))

-- ---- the steps of the walk

-- a right piece is left behind
pub record GoesOn (first most place len : ℕ) (rest : List ℕ) : Type 0 where
  pub room : len + 1 ≤ most
  pub same : text_end first (most - (len + 1)) (place + (len + 2)) (drop (len + 2) rest) ≡ text_end first most place rest

pub goes_on : (first most place len : ℕ) (rest : List ℕ) → pair_in rest ≡ Some len
    → right_len most (take (len + 1) rest) ≡ length (take (len + 1) rest) → GoesOn first most place len rest
goes_on first most place len rest e whole =
    let pair = pair_some rest len e in
    let p = take len rest in
    let right : right_len most (with_quote p) ≡ length (with_quote p) = subst (λ xs. right_len most xs ≡ length xs) pair.piece whole in
    let size : length (with_quote p) ≡ len + 1 = length-append p (39 ∷ []) ∙ ap (λ n. n + 1) pair.front in
    let on = piece_on first most place p (drop (len + 2) rest) pair.none right in
    record {
      room = omega arith;
      same = sym (ap (text_end first most place) pair.split ∙ on ∙ ap (λ n. text_end first (most - (n + 1)) (place + (n + 2)) (drop (len + 2) rest)) pair.front);
    }

-- where the walk ends, by what is known of the piece that it stands at
abbrev pub IsWrongAt : ℕ → List ℕ → ℕ → Type 0
IsWrongAt most piece wrong = (wrong ≡ right_len most piece) × (wrong < length piece)

pub wrong_on : (first most place len wrong : ℕ) (rest : List ℕ) → pair_in rest ≡ Some len → IsWrongAt most (take (len + 1) rest) wrong
    → text_end first most place rest ≡ Err (BadCharacter (place + wrong))
wrong_on first most place len wrong rest e found =
    let pair = pair_some rest len e in
    let p = take len rest in
    let there : IsWrongAt most (with_quote p) wrong = subst (λ xs. IsWrongAt most xs wrong) pair.piece found in
    ap (text_end first most place) pair.split ∙ piece_wrong first most place p (drop (len + 2) rest) pair.none (omega (arith, there.0, there.1))
    ∙ ap (λ k. Err (BadCharacter (place + k))) (sym there.0)

pub wrong_last : (first most place len wrong : ℕ) (rest : List ℕ) → pair_in rest ≡ None → len ≡ quote_in rest
    → IsWrongAt most (take len rest) wrong → text_end first most place rest ≡ Err (BadCharacter (place + wrong))
wrong_last first most place len wrong rest e here found =
    let at = quote_in rest in
    let there : IsWrongAt most (take at rest) wrong = subst (λ n. IsWrongAt most (take n rest) wrong) here found in
    ap (text_end first most place) (sym (take-append-drop at rest))
    ∙ last_wrong first most place (take at rest) (drop at rest) (none_before rest) (pair_none rest e).ends (omega (arith, there.0, there.1))
    ∙ ap (λ k. Err (BadCharacter (place + k))) (sym there.0)

pub open_last : (first most place len : ℕ) (rest : List ℕ) → pair_in rest ≡ None → len ≡ quote_in rest
    → right_len most (take len rest) ≡ length (take len rest) → len ≡ length rest → text_end first most place rest ≡ Err (OpenText first)
open_last first most place len rest e here whole all =
    let is : take len rest ≡ rest = take_all len rest (omega arith) in
    let none : HasNoQuote (take len rest) = subst (λ n. HasNoQuote (take n rest)) (sym here) (none_before rest) in
    ap (text_end first most place) (sym is) ∙ last_open first most place (take len rest) none whole

pub end_last : (first most place len : ℕ) (rest : List ℕ) → pair_in rest ≡ None → len ≡ quote_in rest
    → right_len most (take len rest) ≡ length (take len rest) → len ≢ length rest → text_end first most place rest ≡ Ok (place + len + 1)
end_last first most place len rest e here whole some =
    let at = quote_in rest in
    let last = pair_none rest e in
    let closed = last.closed (omega (arith, quote_in_le rest)) in
    let right : right_len most (take at rest) ≡ length (take at rest) = subst (λ n. right_len most (take n rest) ≡ length (take n rest)) here whole in
    ap (text_end first most place) closed.0 ∙ last_end first most place (take at rest) (drop (at + 1) rest) (none_before rest) closed.1 right
    ∙ ap (λ n. Ok (place + n + 1)) (last.front ∙ sym here)
