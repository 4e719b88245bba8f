-- A reader fits a part of a grammar: what it reads is in it, where it stops some whole goes on from what was read, and it
-- answers by what it reads and sees next alone.
use Rattle.std.proofs.Common.{◌≡◌, List, [], ◌∷◌, ◌++◌, Ok, Err, refl, sym, ap, subst, ◌∙◌, append_assoc, length, ◌≤◌}
use Rattle.odb_values.specs.Text.{IsText}
use Rattle.odb_model.specs.Lexeme.{Lexeme, Word, Name, Number, Quoted, Symbol, IsFree}
use Rattle.odb_parse.specs.declared.kind.Kind.{Kind}
use Rattle.odb_parse.specs.declared.kind.Kind.TheVariants as kind
use Rattle.odb_parse.specs.Codes.{Item, Stands, Wrong}
use Rattle.odb_parse.specs.Items.{kind_in, kind_of, refusal}
use Rattle.odb_parse.specs.Reading.{Outcome, Reader, and_then, ◌>>=◌, ◌<$>◌, pure, refuse, peek}
use Rattle.odb_parse.proofs.Takes.{Takes, done, next, Sight, Nothing, Seen, Bad, sight, takes_both, takes_split, sight_front, takes_shorter}

-- ---- what the lexer says of the lexemes

abbrev pub IsRightLexeme : Lexeme → Type 0
IsRightLexeme (Word word) = Unit {0}
IsRightLexeme (Name name) = IsFree name
IsRightLexeme (Number n) = Unit {0}
IsRightLexeme (Quoted value) = IsText value
IsRightLexeme (Symbol sign) = Unit {0}

abbrev pub AreRight : List Item → Type 0
AreRight [] = Unit {0}
AreRight (Stands l at ∷ items) = IsRightLexeme l × AreRight items
AreRight (Wrong wrong ∷ items) = Unit {0}

pub right_behind : {a b : List Item} {ls : List Lexeme} → Takes a ls b → AreRight a → AreRight b
right_behind done right = right
right_behind (next takes) right = right_behind takes right.1

-- ---- parts of a grammar

-- some whole begins so
pub record Completes {A : Type 0} (G : List Lexeme → A → Type 0) (front : List Lexeme) : Type 0 where
  pub more : List Lexeme
  pub value : A
  pub whole : G (front ++ more) value

pub data Seq {A B : Type 0} (G : List Lexeme → A → Type 0) (H : A → List Lexeme → B → Type 0) : List Lexeme → B → Type 0 where
  seq : {us vs : List Lexeme} {a : A} {b : B} → G us a → H a vs b → Seq G H (us ++ vs) b

pub data Mapped {A B : Type 0} (f : A → B) (G : List Lexeme → A → Type 0) : List Lexeme → B → Type 0 where
  mapped : {ls : List Lexeme} {a : A} → G ls a → Mapped f G ls (f a)

pub data Nil {A : Type 0} (a : A) : List Lexeme → A → Type 0 where
  nil : Nil a [] a

-- ---- fitting

abbrev pub rest_of : {A : Type 0} → Outcome A → List Item
rest_of (Ok read) = read.1
rest_of (Err wrong) = wrong.1

abbrev pub moved : {A : Type 0} → Outcome A → List Item → Outcome A
moved (Ok read) items = Ok (read.0, items)
moved (Err wrong) items = Err (refusal items, items)

abbrev pub Accepts : {A : Type 0} → (List Lexeme → A → Type 0) → List Lexeme → Outcome A → Type 0
Accepts G ls (Ok read) = G ls read.0
Accepts G ls (Err wrong) = Completes G ls

pub record At {A : Type 0} (p : Reader A) (G : List Lexeme → A → Type 0) (items : List Item) (o : Outcome A) : Type 0 where
  pub front : List Lexeme
  pub takes : Takes items front (rest_of o)
  pub accepts : AreRight items → Accepts G front o
  pub again : (others rest : List Item) → Takes others front rest → sight rest ≡ sight (rest_of o) → p others ≡ moved o rest

pub record Fits {A : Type 0} (p : Reader A) (G : List Lexeme → A → Type 0) : Type 0 where
  pub at : (items : List Item) → At p G items (p items)

-- ---- a larger part

accepts_more : {A : Type 0} {G H : List Lexeme → A → Type 0} → ((ls : List Lexeme) (a : A) → G ls a → H ls a) → (ls : List Lexeme) (o : Outcome A)
    → Accepts G ls o → Accepts H ls o
accepts_more more ls (Ok read) g = more ls read.0 g
accepts_more more ls (Err wrong) c = record { more = c.more; value = c.value; whole = more (ls ++ c.more) c.value c.whole }

pub fits_more : {A : Type 0} {p : Reader A} {G H : List Lexeme → A → Type 0} → ((ls : List Lexeme) (a : A) → G ls a → H ls a) → Fits p G → Fits p H
fits_more {p = p} more f = record {
  at = λ items.
      let F = f.at items in
      record { front = F.front; takes = F.takes; accepts = λ right. accepts_more more F.front (p items) (F.accepts right); again = F.again };
}

-- ---- one reader after another

seq_accepts : {A B : Type 0} (G : List Lexeme → A → Type 0) (H : A → List Lexeme → B → Type 0) (us vs : List Lexeme) (a : A) (o : Outcome B)
    → G us a → Accepts (H a) vs o → Accepts (Seq G H) (us ++ vs) o
seq_accepts G H us vs a (Ok read) g h = seq g h
seq_accepts G H us vs a (Err wrong) g c = record {
  more = c.more;
  value = c.value;
  whole = subst (λ ls. Seq G H ls c.value) (sym (append_assoc us vs c.more)) (seq g c.whole);
}

seq_completes : {A B : Type 0} (G : List Lexeme → A → Type 0) (H : A → List Lexeme → B → Type 0) (us : List Lexeme)
    → ((a : A) → Completes (H a) []) → Completes G us → Completes (Seq G H) us
seq_completes G H us some c =
    let d = some c.value in
    record {
      more = c.more ++ d.more;
      value = d.value;
      whole = subst (λ ls. Seq G H ls d.value) (append_assoc us c.more d.more) (seq c.whole d.whole);
    }

module _ {A B : Type 0} (p : Reader A) (q : A → Reader B) (G : List Lexeme → A → Type 0) (H : A → List Lexeme → B → Type 0)
    (fq : (a : A) → Fits (q a) (H a)) (some : (a : A) → Completes (H a) []) where
  seq_at : (items : List Item) (o : Outcome A) → At p G items o → At (p >>= q) (Seq G H) items (and_then o q)
  seq_at items (Ok read) F =
      let S = (fq read.0).at read.1 in
      record {
        front = F.front ++ S.front;
        takes = takes_both F.takes S.takes;
        accepts = λ right. seq_accepts G H F.front S.front read.0 (q read.0 read.1) (F.accepts right) (S.accepts (right_behind F.takes right));
        again = λ others rest takes same.
            let s = takes_split F.front S.front others rest takes in
            ap (λ o. and_then o q) (F.again others s.mid s.front (sight_front S.takes s.back same)) ∙ S.again s.mid rest s.back same;
      }
  seq_at items (Err wrong) F =
      record {
        front = F.front;
        takes = F.takes;
        accepts = λ right. seq_completes G H F.front some (F.accepts right);
        again = λ others rest takes same. ap (λ o. and_then o q) (F.again others rest takes same);
      }

  pub fits_seq : Fits p G → Fits (p >>= q) (Seq G H)
  fits_seq fp = record { at = λ items. seq_at items (p items) (fp.at items) }

-- ---- a reader of another value

module _ {A B : Type 0} (f : A → B) (p : Reader A) (G : List Lexeme → A → Type 0) where
  map_at : (items : List Item) (o : Outcome A) → At p G items o → At (f <$> p) (Mapped f G) items (and_then o (λ x. pure (f x)))
  map_at items (Ok read) F =
      record {
        front = F.front;
        takes = F.takes;
        accepts = λ right. mapped (F.accepts right);
        again = λ others rest takes same. ap (λ o. and_then o (λ x. pure (f x))) (F.again others rest takes same);
      }
  map_at items (Err wrong) F =
      record {
        front = F.front;
        takes = F.takes;
        accepts = λ right. let c = F.accepts right in record { more = c.more; value = f c.value; whole = mapped c.whole };
        again = λ others rest takes same. ap (λ o. and_then o (λ x. pure (f x))) (F.again others rest takes same);
      }

  pub fits_map : Fits p G → Fits (f <$> p) (Mapped f G)
  fits_map fp = record { at = λ items. map_at items (p items) (fp.at items) }

-- ---- readers that read nothing

stays : {items rest : List Item} → Takes items [] rest → items ≡ rest
stays done = refl

pub fits_pure : {A : Type 0} (a : A) → Fits (pure a) (Nil a)
fits_pure a = record {
  at = λ items. record {
    front = [];
    takes = done;
    accepts = λ right. nil;
    again = λ others rest takes same. ap (λ is. Ok (a, is)) (stays takes);
  };
}

pub fits_refuse : {A : Type 0} {G : List Lexeme → A → Type 0} → Completes G [] → Fits refuse G
fits_refuse c = record {
  at = λ items. record {
    front = [];
    takes = done;
    accepts = λ right. c;
    again = λ others rest takes same. ap (λ is. Err (refusal is, is)) (stays takes);
  };
}

-- ---- a choice by what stands next

abbrev seen_kind : Sight → Kind
seen_kind Nothing = kind.Nothing
seen_kind (Seen l) = kind_of l
seen_kind (Bad wrong) = kind.Nothing

kind_seen : (items : List Item) → kind_in items ≡ seen_kind (sight items)
kind_seen [] = refl
kind_seen (Stands l at ∷ items) = refl
kind_seen (Wrong wrong ∷ items) = refl

pub same_kind : (a b : List Item) → sight a ≡ sight b → kind_in a ≡ kind_in b
same_kind a b same = kind_seen a ∙ ap seen_kind same ∙ sym (kind_seen b)

pub fits_peek : {A : Type 0} (f : Kind → Reader A) {G : List Lexeme → A → Type 0} → ((k : Kind) → Fits (f k) G) → Fits (peek >>= f) G
fits_peek f ff = record {
  at = λ items.
      let F = (ff (kind_in items)).at items in
      record {
        front = F.front;
        takes = F.takes;
        accepts = F.accepts;
        again = λ others rest takes same.
            ap (λ k. f k others) (same_kind others items (sight_front F.takes takes same)) ∙ F.again others rest takes same;
      };
}

-- ---- another form of a reader

pub fits_same : {A : Type 0} (p q : Reader A) {G : List Lexeme → A → Type 0} → ((items : List Item) → p items ≡ q items) → Fits q G → Fits p G
fits_same p q {G = G} e f = record {
  at = λ items.
      let F = f.at items in
      subst (At p G items) (sym (e items)) (record {
        front = F.front;
        takes = F.takes;
        accepts = F.accepts;
        again = λ others rest takes same. e others ∙ F.again others rest takes same;
      });
}

-- ---- what is read is no longer than all

pub fits_shorter : {A : Type 0} {p : Reader A} {G : List Lexeme → A → Type 0} → Fits p G → (items rest : List Item) (a : A) → p items ≡ Ok (a, rest)
    → length rest ≤ length items
fits_shorter {A = A} {p = p} f items rest a e =
    let F = f.at items in
    subst (λ (o : Outcome A). length (rest_of o) ≤ length items) e (takes_shorter F.takes)
