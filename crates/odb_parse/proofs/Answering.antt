-- What the reader of a whole text gives is the answer to the text.
use Rattle.std.proofs.Common.{◌≡◌, ◌≢◌, ℕ, suc, Bool, List, [], ◌∷◌, ◌++◌, length, Result, Ok, Err, refl, sym, ap, subst, append_assoc, arith}
use Rattle.odb_lex.specs.declared.error.LexError.{LexError}
use Rattle.odb_lex.specs.declared.error.LexError.TheVariants as lex
use Rattle.odb_lex.specs.Next.{next_in}
use Rattle.odb_model.specs.declared.statement.Statement.{Statement}
use Rattle.odb_model.specs.Lexeme.{Lexeme}
use Rattle.odb_model.specs.Grammar.{Spells}
use Rattle.odb_model.specs.Answer.{Begins, IsNoToken}
use Rattle.odb_parse.specs.declared.error.ParseError.{ParseError}
use Rattle.odb_parse.specs.declared.error.ParseError.TheVariants as error
use Rattle.odb_parse.specs.Answering.{IsAnswerTo}
use Rattle.odb_parse.specs.Codes.{Item, Stands, Wrong}
use Rattle.odb_parse.specs.Error.{lex_refusal}
use Rattle.odb_parse.specs.Items.{items_behind, items_of, refusal}
use Rattle.odb_parse.specs.Reading.{Outcome, Reader, Reads, and_then, passed, finish}
use Rattle.odb_parse.specs.Statements.{statement, whole}
use Rattle.odb_parse.proofs.Behind.{Ascends}
use Rattle.odb_parse.proofs.Fits.{AreRight, Completes, At, rest_of}
use Rattle.odb_parse.proofs.Lexed.{Slices, Reaches, reaches, right_behind, first_is, none_is, wrong_is}
use Rattle.odb_parse.proofs.StatementsFit.{fits_whole}
use Rattle.odb_parse.proofs.StatementsRead.{reads_whole, reads_lexemes, as_items, takes_items}
use Rattle.odb_parse.proofs.Takes.{Takes, takes_split, takes_first, Seen, sight}

-- ---- a text that is read is read to its end

finish_ends : (items : List Item) (a b : Statement) (rest : List Item) → ◌≡◌ {A = Outcome Statement} (and_then (finish items) (λ _ is. Ok (a, is))) (Ok (b, rest))
    → rest ≡ []
unfolding finish
finish_ends [] a b rest e = sym (ap rest_of e)
finish_ends (item ∷ items) a b rest e = cc

eaten_ends : (o : Outcome Bool) (a b : Statement) (rest : List Item)
    → ◌≡◌ {A = Outcome Statement} (and_then o (λ _ is. and_then (finish is) (λ _ is. Ok (a, is)))) (Ok (b, rest)) → rest ≡ []
eaten_ends (Ok read) a b rest e = finish_ends read.1 a b rest e
eaten_ends (Err wrong) a b rest e = cc

found_ends : (o : Outcome Statement) (sign : Reader Bool) (b : Statement) (rest : List Item)
    → ◌≡◌ {A = Outcome Statement} (and_then o (λ a is. and_then (sign is) (λ _ is. and_then (finish is) (λ _ is. Ok (a, is))))) (Ok (b, rest)) → rest ≡ []
found_ends (Ok read) sign b rest e = eaten_ends (sign read.1) read.0 b rest e
found_ends (Err wrong) sign b rest e = cc

whole_ends : (items : List Item) (a : Statement) (rest : List Item) → whole items ≡ Ok (a, rest) → rest ≡ []
unfolding whole
whole_ends items a rest e = found_ends (statement items) _ a rest e

why_in : {A : Type 0} → ParseError → Outcome A → ParseError
why_in other (Ok read) = other
why_in other (Err wrong) = wrong.0

-- what refuses the text before any token
pub passed_whole : (items : List Item) (wrong : ParseError) → passed items ≡ Err (wrong, items) → whole items ≡ Err (wrong, items)
unfolding whole statement why_in
passed_whole [] wrong e = cc
passed_whole (Stands l at ∷ items) wrong e = cc
passed_whole (Wrong found ∷ items) wrong e = ap (λ why. Err (why, Wrong found ∷ items)) (ap (why_in wrong) e)

-- ---- the answer

module _ (law : Ascends) (slices : Slices) (text : List ℕ) where
  all : List Item
  all = items_of text (next_in text 0)

  all_is : items_behind (suc (length text)) text 0 ≡ all
  unfolding all items_behind
  all_is = refl

  reached : (front : List Lexeme) (rest : List Item) → Takes all front rest → Reaches text 0 front rest
  reached front rest takes =
      reaches law front (length text) text 0 rest (omega arith) (omega arith) (subst (λ is. Takes is front rest) (sym all_is) takes)

  right : AreRight all
  right = subst AreRight all_is (right_behind law slices (suc (length text)) text 0 (omega arith))

  -- no statement begins with a token at which the reader stops
  never_at : (front : List Lexeme) (l : Lexeme) (o : Outcome Statement) (e : ParseError) (rest : List Item)
      → ((others mid : List Item) → Takes others front mid → sight mid ≡ Seen l → whole others ≡ Err (refusal mid, mid))
      → Begins (front ++ l ∷ []) → ⊥
  never_at front l o e rest again b =
      let ls = (front ++ l ∷ []) ++ b.rest in
      let items = as_items ls in
      let read = reads_lexemes ls b.statement b.whole in
      let takes : Takes items (front ++ l ∷ b.rest) [] = subst (λ ls. Takes items ls []) (append_assoc front (l ∷ []) b.rest) (takes_items ls) in
      let split = takes_split front (l ∷ b.rest) items [] takes in
      let first = takes_first split.back in
      let stuck = again items split.mid split.front (ap sight first.is) in
      cc

  before : (front : List Lexeme) → Completes Spells front → Begins front
  before front c = record { rest = c.more; statement = c.value; whole = c.whole }

  refused : (front : List Lexeme) (rest : List Item) → Takes all front rest → Completes Spells front
      → whole all ≡ Err (refusal rest, rest)
      → ((others mid : List Item) → Takes others front mid → sight mid ≡ sight rest → whole others ≡ Err (refusal mid, mid))
      → IsAnswerTo text (Err (refusal rest))
  unfolding items_behind
  refused front [] takes c e again =
      let r = reached front [] takes in
      record {
        front = front;
        to = r.to;
        has = r.has;
        all = none_is text (items_behind r.left text) (next_in text r.to) r.is;
        before = before front c;
        never = λ st spells. let read = reads_whole all spells takes in cc;
      }
  refused front (Stands l at ∷ items) takes c e again =
      let r = reached front (Stands l at ∷ items) takes in
      let f = first_is text (items_behind r.left text) (next_in text r.to) l at items r.is in
      record {
        front = front;
        to = r.to;
        has = r.has;
        token = f.token;
        next = f.next;
        place = f.place;
        before = before front c;
        never = subst (λ k. Begins (front ++ k ∷ []) → ⊥) (sym f.lexeme) (never_at front l (whole all) (refusal (Stands l at ∷ items)) items again);
      }
  refused front (Wrong wrong ∷ items) takes c e again = no_token wrong
      (let r = reached front (Wrong wrong ∷ items) takes in
      record {
        front = front;
        to = r.to;
        has = r.has;
        next = wrong_is text (items_behind r.left text) (next_in text r.to) wrong items r.is;
        before = before front c;
      })
    where
      no_token : (wrong : LexError) → IsNoToken text wrong → IsAnswerTo text (Err (lex_refusal wrong))
      no_token (lex.BadCharacter at) is = is
      no_token (lex.OpenText at) is = is
      no_token (lex.NumberTooWide at) is = is

  abbrev Given : Outcome Statement → Type 0
  Given (Ok read) = IsAnswerTo text (Ok read.0)
  Given (Err wrong) = IsAnswerTo text (Err wrong.0)

  given : (o : Outcome Statement) → whole all ≡ o → At whole Spells all o → Given o
  unfolding items_behind
  given (Ok read) e F =
      let ends = whole_ends all read.0 read.1 e in
      let r = reached F.front [] (subst (λ rest. Takes all F.front rest) ends F.takes) in
      record {
        lexemes = F.front;
        to = r.to;
        has = r.has;
        all = none_is text (items_behind r.left text) (next_in text r.to) r.is;
        spells = F.accepts right;
      }
  given (Err wrong) e F =
      let here = F.again all wrong.1 F.takes refl in
      let why : refusal wrong.1 ≡ wrong.0 = cc in
      subst (λ why. IsAnswerTo text (Err why)) why (refused F.front wrong.1 F.takes (F.accepts right) here F.again)

  at_all : (o : Outcome Statement) → whole all ≡ o → Given o
  at_all o e = given o e (subst (At whole Spells all) e (fits_whole.at all))

  refusal_answers : (e : ParseError) (rest : List Item) → e ≢ error.NoMemory → Reads (whole all) (Err e) rest → IsAnswerTo text (Err e)
  refusal_answers e rest other reads = at_all (Err (e, rest)) (reads other)

  -- what a function answers that reads as `whole` does is the answer to the text
  pub answers : (r : Result Statement ParseError) (rest : List Item) → Reads (whole (items_of text (next_in text 0))) r rest → IsAnswerTo text r
  unfolding all
  answers (Ok a) rest reads = at_all (Ok (a, rest)) reads
  answers (Err error.NoMemory) rest reads = tt
  answers (Err (error.BadCharacter at)) rest reads = refusal_answers (error.BadCharacter at) rest (λ is. cc) reads
  answers (Err (error.OpenText at)) rest reads = refusal_answers (error.OpenText at) rest (λ is. cc) reads
  answers (Err (error.NumberTooWide at)) rest reads = refusal_answers (error.NumberTooWide at) rest (λ is. cc) reads
  answers (Err (error.Unexpected at)) rest reads = refusal_answers (error.Unexpected at) rest (λ is. cc) reads
  answers (Err error.End) rest reads = refusal_answers error.End rest (λ is. cc) reads

  -- the same of what refuses the text before any token
  pub answers_first : (e : ParseError) → (e ≢ error.NoMemory → passed (items_of text (next_in text 0)) ≡ Err (e, items_of text (next_in text 0)))
      → IsAnswerTo text (Err e)
  answers_first e wrong =
      answers (Err e) (items_of text (next_in text 0)) (λ other. passed_whole (items_of text (next_in text 0)) e (wrong other))
