-- Lexemes at the front of items, and what stands behind them.
use Rattle.std.proofs.Common.{◌≡◌, ℕ, ◌≤◌, List, [], ◌∷◌, ◌++◌, length, refl, sym, subst, arith}
use Rattle.odb_lex.specs.declared.error.LexError.{LexError}
use Rattle.odb_model.specs.Lexeme.{Lexeme}
use Rattle.odb_parse.specs.Codes.{Item, Stands, Wrong}

-- the items begin with tokens that stand for the lexemes, and go on with the others
pub data Takes : List Item → List Lexeme → List Item → Type 0 where
  done : {items : List Item} → Takes items [] items
  next : {l : Lexeme} {at : ℕ} {items rest : List Item} {ls : List Lexeme} → Takes items ls rest → Takes (Stands l at ∷ items) (l ∷ ls) rest

-- what a reader sees of the items
pub data Sight : Type 0 where
  Nothing : Sight
  Seen : Lexeme → Sight
  Bad : LexError → Sight

abbrev pub sight : List Item → Sight
sight [] = Nothing
sight (Stands l at ∷ items) = Seen l
sight (Wrong wrong ∷ items) = Bad wrong

pub takes_both : {a b c : List Item} {ls ks : List Lexeme} → Takes a ls b → Takes b ks c → Takes a (ls ++ ks) c
takes_both done more = more
takes_both (next takes) more = next (takes_both takes more)

-- where the front of two items is one and what stands behind looks alike, they look alike
pub sight_front : {a b c d : List Item} {ls : List Lexeme} → Takes a ls b → Takes c ls d → sight d ≡ sight b → sight c ≡ sight a
sight_front done done e = e
sight_front (next a) (next c) e = refl

pub record Splits (a : List Item) (ls ks : List Lexeme) (c : List Item) : Type 0 where
  pub mid : List Item
  pub front : Takes a ls mid
  pub back : Takes mid ks c

-- the first lexeme is the first token's
pub record TakesFirst (a : List Item) (l : Lexeme) (ls : List Lexeme) (c : List Item) : Type 0 where
  pub at : ℕ
  pub behind : List Item
  pub is : a ≡ Stands l at ∷ behind
  pub rest : Takes behind ls c

pub takes_first : {a c : List Item} {l : Lexeme} {ls : List Lexeme} → Takes a (l ∷ ls) c → TakesFirst a l ls c
takes_first (next {at = at} {items = items} takes) = record { at = at; behind = items; is = refl; rest = takes }

pub takes_split : (ls ks : List Lexeme) (a c : List Item) → Takes a (ls ++ ks) c → Splits a ls ks c
takes_split [] ks a c takes = record { mid = a; front = done; back = takes }
takes_split (l ∷ ls) ks a c takes =
    let t = takes_first takes in
    let s = takes_split ls ks t.behind c t.rest in
    record { mid = s.mid; front = subst (λ is. Takes is (l ∷ ls) s.mid) (sym t.is) (next s.front); back = s.back }

pub takes_shorter : {a b : List Item} {ls : List Lexeme} → Takes a ls b → length b ≤ length a
takes_shorter done = omega arith
takes_shorter (next takes) = let h = takes_shorter takes in omega arith
