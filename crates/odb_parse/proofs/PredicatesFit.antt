-- What the readers of predicates fit.
use Rattle.std.proofs.Common.{◌≡◌, ℕ, zero, suc, ◌<◌, Bool, true, false, cond, List, [], ◌∷◌, ◌++◌, length, Option, Some, None, Ok, refl, sym, ap, subst, ◌∙◌, arith, append_assoc, append-nil}
use Rattle.odb_values.specs.declared.value.Value.TheVariants.{Null}
use Rattle.odb_model.specs.declared.keyword.Keyword.{Keyword}
use Rattle.odb_model.specs.declared.keyword.Keyword.TheVariants as k
use Rattle.odb_model.specs.declared.sign.Sign.{Sign}
use Rattle.odb_model.specs.declared.sign.Sign.TheVariants as s
use Rattle.odb_model.specs.declared.predicate.Compare.{Compare}
use Rattle.odb_model.specs.declared.predicate.Compare.TheVariants.{Eq}
use Rattle.odb_model.specs.declared.predicate.Operand.{Operand}
use Rattle.odb_model.specs.declared.predicate.Operand.TheVariants.{Column, Literal}
use Rattle.odb_model.specs.declared.predicate.Predicate.{Predicate}
use Rattle.odb_model.specs.declared.predicate.Predicate.TheVariants as p
use Rattle.odb_model.specs.Lexeme.{Lexeme, Word, Symbol}
use Rattle.odb_model.specs.Grammar.{IsLiteral, IsOperand, IsCompare, IsTest, IsPredicate, IsBooleanTerm, IsBooleanFactor, IsFilter}
use Rattle.odb_parse.specs.declared.kind.Kind.{Kind}
use Rattle.odb_parse.specs.declared.kind.Kind.TheVariants as kind
use Rattle.odb_parse.specs.Codes.{Item}
use Rattle.odb_parse.specs.Reading.{Reader, ◌>>=◌, ◌>>◌, ◌<$>◌, pure, refuse, peek, skip, eat_word}
use Rattle.odb_parse.specs.Sums.{operand}
use Rattle.odb_parse.specs.Predicates.{compares, compared_by, null_test, tested, single_test, ands_from, conjunction_of, ors_from, whole_of, negation_by, negation, conjunction, predicate, filter}
use Rattle.odb_parse.proofs.Shorter.{word_eaten}
use Rattle.odb_parse.proofs.Fits.{Completes, Seq, seq, Nil, nil, Mapped, mapped, Fits, fits_more, fits_pure, fits_refuse, fits_shorter}
use Rattle.odb_parse.proofs.Words.{Only, only, fits_word, fits_sign}
use Rattle.odb_parse.proofs.StepsFit.{FitsAt, anywhere, more_at, fits_choice, past_word, past_sign, fits_if_word, Maybe, there, left_out, fits_eat_word, fits_then, fits_with, fits_bounded}
use Rattle.odb_parse.proofs.ListsFit.{then_same}
use Rattle.odb_parse.proofs.SumsFit.{fits_operand}

-- ---- tests

-- what makes a test behind its left side
record Tested (left : Operand) (ls : List Lexeme) (out : Predicate) : Type 0 where
  goes : (ts : List Lexeme) → IsOperand ts left → IsTest (ts ++ ls) out

some_tested : (left : Operand) → Completes (Tested left) []
some_tested left = record {
  more = Symbol s.Equal ∷ Word k.Null ∷ [];
  value = p.Test Eq left (Literal Null);
  whole = record { goes = λ ts x. IsTest.test x IsCompare.equal (IsOperand.literal IsLiteral.null) };
}

null_goes : (n : List ℕ) (ts : List Lexeme) → IsOperand ts (Column n) → IsTest (ts ++ Word k.Is ∷ Word k.Null ∷ []) (p.Null n false)
null_goes n ts (IsOperand.column free) = IsTest.null free

not_null_goes : (n : List ℕ) (ts : List Lexeme) → IsOperand ts (Column n) → IsTest (ts ++ Word k.Is ∷ Word k.Not ∷ Word k.Null ∷ []) (p.Null n true)
not_null_goes n ts (IsOperand.column free) = IsTest.not_null free

to_null_test : (n : List ℕ) (ls : List Lexeme) (out : Predicate)
    → Seq (Only (Word k.Is)) (λ _. Seq (Maybe (Word k.Not)) (λ negated. Seq (Only (Word k.Null)) (λ _. Nil (p.Null n negated)))) ls out
    → Tested (Column n) ls out
to_null_test n ls out (seq only (seq there (seq only nil))) = record { goes = not_null_goes n }
to_null_test n ls out (seq only (seq left_out (seq only nil))) = record { goes = null_goes n }

null_at : (left : Operand) → FitsAt (kind.Word k.Is) (null_test left) (Tested left)
unfolding null_test
null_at (Column n) =
    more_at (to_null_test n) (past_word k.Is (fits_then (fits_eat_word k.Not) (λ negated. fits_then (fits_word k.Null) (λ _. fits_pure (p.Null n negated)))))
null_at (Literal v) = anywhere (fits_refuse (some_tested (Literal v)))

to_compared : {sign : Sign} {op : Compare} (left : Operand) → IsCompare sign op → (ls : List Lexeme) (out : Predicate)
    → Seq (Only (Symbol sign)) (λ _. Mapped (p.Test op left) IsOperand) ls out → Tested left ls out
to_compared left compare ls out (seq only (mapped right)) = record { goes = λ ts x. IsTest.test x compare right }

compared_past : {sign : Sign} {op : Compare} (left : Operand) → IsCompare sign op
    → FitsAt (kind.Symbol sign) (skip >> ((λ right. p.Test op left right) <$> operand)) (Tested left)
compared_past {sign = sign} {op = op} left compare = more_at (to_compared left compare) (past_sign sign (fits_with (p.Test op left) fits_operand))

compared_at : (left : Operand) (seen : Kind) → FitsAt seen (compared_by left (compares seen)) (Tested left)
compared_at left (kind.Symbol s.Equal) = compared_past left IsCompare.equal
compared_at left (kind.Symbol s.Unequal) = compared_past left IsCompare.unequal
compared_at left (kind.Symbol s.Less) = compared_past left IsCompare.less
compared_at left (kind.Symbol s.AtMost) = compared_past left IsCompare.at_most
compared_at left (kind.Symbol s.Greater) = compared_past left IsCompare.greater
compared_at left (kind.Symbol s.AtLeast) = compared_past left IsCompare.at_least
compared_at left _ = anywhere (fits_refuse (some_tested left))

fits_tested : (left : Operand) → Fits (tested left) (Tested left)
fits_tested left =
    fits_if_word k.Is {p = null_test left} {q = peek >>= (λ seen. compared_by left (compares seen))} (null_at left) (fits_choice (compared_at left))

to_test : (ls : List Lexeme) (out : Predicate) → Seq IsOperand Tested ls out → IsTest ls out
to_test ls out (seq {us = us} left t) = t.goes us left

pub fits_test : Fits single_test IsTest
unfolding single_test
fits_test = fits_more to_test (fits_then fits_operand fits_tested)

-- ---- parts joined by one word, which group to the left

-- what goes on with a whole
record Chain (Whole : List Lexeme → Predicate → Type 0) (left : Predicate) (ls : List Lexeme) (out : Predicate) : Type 0 where
  goes : (ts : List Lexeme) → Whole ts left → Whole (ts ++ ls) out

chain_end : (Whole : List Lexeme → Predicate → Type 0) (left : Predicate) → Chain Whole left [] left
chain_end Whole left = record { goes = λ ts g. subst (λ ls. Whole ls left) (sym (append-nil ts)) g }

some_chain : (Whole : List Lexeme → Predicate → Type 0) (left : Predicate) → Completes (Chain Whole left) []
some_chain Whole left = record { more = []; value = left; whole = chain_end Whole left }

abbrev chain_after : (Predicate → Predicate → Predicate) → (Whole Part : List Lexeme → Predicate → Type 0) → Predicate → Bool → List Lexeme → Predicate → Type 0
chain_after make Whole Part left true = Seq Part (λ right. Chain Whole (make left right))
chain_after make Whole Part left false = Nil left

to_chain : (w : Keyword) (make : Predicate → Predicate → Predicate) (Whole Part : List Lexeme → Predicate → Type 0)
    → ((ts us : List Lexeme) (a b : Predicate) → Whole ts a → Part us b → Whole (ts ++ Word w ∷ us) (make a b))
    → (left : Predicate) (ls : List Lexeme) (out : Predicate) → Seq (Maybe (Word w)) (chain_after make Whole Part left) ls out → Chain Whole left ls out
to_chain w make Whole Part joined left ls out (seq there (seq {us = us} {vs = vs} {a = right} part chain)) = record {
  goes = λ ts g. subst (λ ls. Whole ls out) (append_assoc ts (Word w ∷ us) vs) (chain.goes (ts ++ Word w ∷ us) (joined ts us left right g part));
}
to_chain w make Whole Part joined left ls out (seq left_out nil) = chain_end Whole left

to_whole : (Whole Part : List Lexeme → Predicate → Type 0) → ((ts : List Lexeme) (a : Predicate) → Part ts a → Whole ts a) → (ls : List Lexeme) (out : Predicate)
    → Seq Part (Chain Whole) ls out → Whole ls out
to_whole Whole Part first ls out (seq {us = us} {a = left} part chain) = chain.goes us (first us left part)

-- the reader is given by its two equations
module _ (w : Keyword) (make : Predicate → Predicate → Predicate) (Whole Part : List Lexeme → Predicate → Type 0)
    (first : (ts : List Lexeme) (a : Predicate) → Part ts a → Whole ts a)
    (joined : (ts us : List Lexeme) (a b : Predicate) → Whole ts a → Part us b → Whole (ts ++ Word w ∷ us) (make a b))
    (item : Reader Predicate) (fits_item : Fits item Part) (next : ℕ → Predicate → Reader Predicate)
    (none_left : (left : Predicate) → next zero left ≡ refuse)
    (one_more : (turns : ℕ) (left : Predicate)
    → next (suc turns) left ≡ (eat_word w >>= (λ goes_on. cond goes_on (item >>= (λ right. next turns (make left right))) (pure left)))) where
  chain_more : (left : Predicate) (p : Predicate → Reader Predicate) → ((right : Predicate) → Fits (p (make left right)) (Chain Whole (make left right))) → (b : Bool)
      → Fits (cond b (item >>= (λ right. p (make left right))) (pure left)) (chain_after make Whole Part left b)
  chain_more left p f true = fits_then fits_item f
  chain_more left p f false = fits_pure left

  chain_fits : (turns : ℕ) (left : Predicate) → Fits (next turns left) (Chain Whole left)
  chain_fits zero left = subst (λ p. Fits p (Chain Whole left)) (sym (none_left left)) (fits_refuse (some_chain Whole left))
  chain_fits (suc turns) left =
      subst (λ p. Fits p (Chain Whole left)) (sym (one_more turns left))
      (fits_more (to_chain w make Whole Part joined left)
      (fits_then (fits_eat_word w) (chain_more left (next turns) (λ right. chain_fits turns (make left right)))))

  -- each turn takes a word
  chain_same : (n m : ℕ) (left : Predicate) (items : List Item) → length items < n → length items < m → next n left items ≡ next m left items
  chain_same zero m left items less small = absurd (omega arith)
  chain_same (suc n) zero left items less small = absurd (omega arith)
  chain_same (suc n) (suc m) left items less small =
      ap (λ p. p items) (one_more n left)
      ∙ then_same (eat_word w items) _ _ (λ b behind eaten. go b behind eaten (λ right rest lesser. chain_same n m (make left right) rest (omega arith) (omega arith)))
      ∙ sym (ap (λ p. p items) (one_more m left))
    where
      go : (b : Bool) (behind : List Item) → eat_word w items ≡ Ok (b, behind)
          → ((right : Predicate) (rest : List Item) → length rest < length items → next n (make left right) rest ≡ next m (make left right) rest)
          → cond b (item >>= (λ right. next n (make left right))) (pure left) behind ≡ cond b (item >>= (λ right. next m (make left right))) (pure left) behind
      go true behind eaten same =
          let less = word_eaten w items behind true refl eaten in
          then_same (item behind) _ _ (λ right rest read. let short = fits_shorter fits_item behind rest right read in same right rest (omega arith))
      go false behind eaten same = refl

  fits_chain : Fits (item >>= (λ left items. next (suc (length items)) left items)) Whole
  fits_chain =
      fits_more (to_whole Whole Part first)
      (fits_then fits_item (λ left. fits_bounded (λ n. next n left) (Chain Whole left) (λ n. chain_fits n left) (λ n m items. chain_same n m left items)))

pub fits_conjunction_of : {item : Reader Predicate} {room : ℕ} → Fits item (IsBooleanFactor room) → Fits (conjunction_of item) (IsBooleanTerm room)
unfolding conjunction_of ands_from
fits_conjunction_of {item = item} {room = room} f =
    fits_chain k.And p.And (IsBooleanTerm room) (IsBooleanFactor room) (λ ts a g. IsBooleanTerm.factor g) (λ ts us a b g h. IsBooleanTerm.and g h) item f (ands_from item) (λ left. refl) (λ turns left. refl)

pub fits_whole_of : {item : Reader Predicate} {room : ℕ} → Fits item (IsBooleanTerm room) → Fits (whole_of item) (IsPredicate room)
unfolding whole_of ors_from
fits_whole_of {item = item} {room = room} f =
    fits_chain k.Or p.Or (IsPredicate room) (IsBooleanTerm room) (λ ts a g. IsPredicate.term g) (λ ts us a b g h. IsPredicate.or g h) item f (ors_from item) (λ left. refl) (λ turns left. refl)

-- ---- predicates

to_not : {room : ℕ} (ls : List Lexeme) (out : Predicate) → Seq (Only (Word k.Not)) (λ _. Mapped p.Not (IsBooleanFactor room)) ls out → IsBooleanFactor (suc room) ls out
to_not ls out (seq only (mapped a)) = IsBooleanFactor.not a

to_parens : {room : ℕ} (ls : List Lexeme) (out : Predicate)
    → Seq (Only (Symbol s.Open)) (λ _. Seq (IsPredicate room) (λ inner. Seq (Only (Symbol s.Close)) (λ _. Nil inner))) ls out → IsBooleanFactor (suc room) ls out
to_parens ls out (seq only (seq a (seq only nil))) = IsBooleanFactor.parens a

to_negation : {room : ℕ} (ls : List Lexeme) (out : Predicate) → IsTest ls out → IsBooleanFactor room ls out
to_negation ls out t = IsBooleanFactor.test t

negation_at : {room : ℕ} {item inner : Reader Predicate} → Fits item (IsBooleanFactor room) → Fits inner (IsPredicate room) → (seen : Kind)
    → FitsAt seen (negation_by item inner seen) (IsBooleanFactor (suc room))
negation_at fi fw (kind.Word k.Not) = more_at to_not (past_word k.Not (fits_with p.Not fi))
negation_at fi fw (kind.Symbol s.Open) = more_at to_parens (past_sign s.Open (fits_then fw (λ inner. fits_then (fits_sign s.Close) (λ _. fits_pure inner))))
negation_at fi fw _ = anywhere (fits_more to_negation fits_test)

pub fits_negation : (room : ℕ) → Fits (negation room) (IsBooleanFactor room)
unfolding negation
fits_negation zero = fits_more to_negation fits_test
fits_negation (suc room) = fits_choice (negation_at (fits_negation room) (fits_whole_of (fits_conjunction_of (fits_negation room))))

pub fits_conjunction : (room : ℕ) → Fits (conjunction room) (IsBooleanTerm room)
unfolding conjunction
fits_conjunction room = fits_conjunction_of (fits_negation room)

pub fits_predicate : (room : ℕ) → Fits (predicate room) (IsPredicate room)
unfolding predicate
fits_predicate room = fits_whole_of (fits_conjunction room)

-- ---- [WHERE pred]

abbrev filter_after : Bool → List Lexeme → Option Predicate → Type 0
filter_after true = Mapped Some (IsPredicate 64)
filter_after false = Nil None

filter_more : (b : Bool) → Fits (cond b (Some <$> predicate 64) (pure None)) (filter_after b)
filter_more true = fits_with Some (fits_predicate 64)
filter_more false = fits_pure None

to_filter : (ls : List Lexeme) (out : Option Predicate) → Seq (Maybe (Word k.Where)) filter_after ls out → IsFilter ls out
to_filter ls out (seq there (mapped a)) = IsFilter.where_ a
to_filter ls out (seq left_out nil) = IsFilter.all

pub fits_filter : Fits filter IsFilter
unfolding filter
fits_filter = fits_more to_filter (fits_then (fits_eat_word k.Where) filter_more)
