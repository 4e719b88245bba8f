-- Literals and operands, and lists of items with commas, are read.
use Rattle.std.proofs.Common.{◌≡◌, ℕ, zero, suc, ◌≤◌, ◌<◌, false, List, [], ◌∷◌, ◌++◌, length, Ok, refl, ap, ◌∙◌, append_assoc, arith}
use Rattle.std.proofs.lemmas.Bool.{le-leb}
use Rattle.odb_values.specs.declared.value.Value.{Value}
use Rattle.odb_model.specs.declared.sign.Sign.TheVariants as s
use Rattle.odb_model.specs.declared.predicate.Operand.{Operand}
use Rattle.odb_model.specs.declared.predicate.Operand.TheVariants.{Literal}
use Rattle.odb_model.specs.Lexeme.{Lexeme, Symbol}
use Rattle.odb_model.specs.Grammar.{IsListed, last, more, IsNamed, IsLiteral, number, negative, text, null, IsOperand}
use Rattle.odb_model.specs.Grammar as grammar
use Rattle.odb_parse.specs.Codes.{Item, Stands}
use Rattle.odb_parse.specs.Reading as reading
use Rattle.odb_parse.specs.Reading.{Reader, passed, skip, same_word, same_sign, sees_word, sees_sign, expect_word, expect_sign, eat_word, eat_sign, name, quoted}
use Rattle.odb_parse.specs.Sums.{greatest, literal, operand, listed, listed_from}
use Rattle.odb_parse.proofs.Takes.{Takes, done, next, takes_split, takes_shorter}
use Rattle.odb_parse.proofs.Following.{IsClear, eat_sign_step}

pub name_read : {ls : List Lexeme} {n : List ℕ} {items rest : List Item} → IsNamed ls n → Takes items ls rest → IsClear rest → name items ≡ Ok (n, rest)
unfolding name skip
name_read (grammar.name free) (next done) clear = rw clear.passes refl

pub literal_read : {ls : List Lexeme} {v : Value} {items rest : List Item} → IsLiteral ls v → Takes items ls rest → IsClear rest
    → literal items ≡ Ok (v, rest)
unfolding literal skip reading.number quoted expect_word sees_word same_word
literal_read (number {n = n} small) (next done) clear =
    let fits : n ≤ greatest = omega arith in
    rw (le-leb n greatest fits, clear.passes) refl
literal_read (negative {n = n} small) (next (next done)) clear =
    let fits : n ≤ 9223372036854775808 = omega arith in
    rw (le-leb n 9223372036854775808 fits, clear.passes) refl
literal_read (text right) (next done) clear = rw clear.passes refl
literal_read null (next done) clear = rw clear.passes refl

literal_operand : {ls : List Lexeme} {v : Value} {items rest : List Item} → IsLiteral ls v → Takes items ls rest → literal items ≡ Ok (v, rest)
    → operand items ≡ Ok (Literal v, rest)
unfolding operand
literal_operand (number small) (next done) e = rw e refl
literal_operand (negative small) (next (next done)) e = rw e refl
literal_operand (text right) (next done) e = rw e refl
literal_operand null (next done) e = rw e refl

pub operand_read : {ls : List Lexeme} {x : Operand} {items rest : List Item} → IsOperand ls x → Takes items ls rest → IsClear rest
    → operand items ≡ Ok (x, rest)
unfolding operand name skip
operand_read (grammar.column free) (next done) clear = rw clear.passes refl
operand_read (grammar.literal v) takes clear = literal_operand v takes (literal_read v takes clear)

-- ---- item {, item}

-- each item of `G` is read, whatever of `Behind` stands behind it
abbrev pub ReadsAll : {A : Type 0} → Reader A → (List Lexeme → A → Type 0) → (List Item → Type 0) → Type 0
ReadsAll {A} p G Behind = (ls : List Lexeme) (x : A) (items rest : List Item) → G ls x → Takes items ls rest → Behind rest → p items ≡ Ok (x, rest)

abbrev AtComma : (List Item → Type 0) → Type 0
AtComma Behind = (items : List Item) (at : ℕ) → Behind (Stands (Symbol s.Comma) at ∷ items)

-- one item and its comma
record OneMore {A : Type 0} (item : Reader A) (turns : ℕ) (found : List A) (x : A) (us : List Lexeme) (items rest : List Item) : Type 0 where
  pub behind : List Item
  pub turn : listed_from item (suc turns) found items ≡ listed_from item turns (found ++ x ∷ []) behind
  pub takes : Takes behind us rest
  pub fewer : length behind < length items

comma_next : {A : Type 0} (item : Reader A) (turns : ℕ) (found : List A) (x : A) (us : List Lexeme) (items mid rest : List Item)
    → item items ≡ Ok (x, mid) → length mid ≤ length items → Takes mid (Symbol s.Comma ∷ us) rest → IsClear rest
    → OneMore item turns found x us items rest
unfolding listed_from
comma_next item turns found x us items mid rest e within takes clear =
    let step = eat_sign_step takes clear in
    let fewer = step.fewer in
    record { behind = step.behind; turn = rw (e, step.reads) refl; takes = step.takes; fewer = omega arith }

at_comma : (Behind : List Item → Type 0) → AtComma Behind → (us : List Lexeme) (mid rest : List Item) → Takes mid (Symbol s.Comma ∷ us) rest → Behind mid
at_comma Behind behind us mid rest (next {at = at} {items = items} takes) = behind items at

module _ {A : Type 0} (item : Reader A) (G : List Lexeme → A → Type 0) (Behind : List Item → Type 0) (each : ReadsAll item G Behind)
    (comma : AtComma Behind) where
  one_more : (turns : ℕ) (found : List A) (ts us : List Lexeme) (x : A) (items rest : List Item) → G ts x
      → Takes items (ts ++ Symbol s.Comma ∷ us) rest → IsClear rest → OneMore item turns found x us items rest
  one_more turns found ts us x items rest g takes clear =
      let split = takes_split ts (Symbol s.Comma ∷ us) items rest takes in
      let e = each ts x items split.mid g split.front (at_comma Behind comma us split.mid rest split.back) in
      comma_next item turns found x us items split.mid rest e (takes_shorter split.front) split.back clear

  last_read : (turns : ℕ) (found : List A) (ts : List Lexeme) (x : A) (items rest : List Item) → G ts x → Takes items ts rest → Behind rest
      → sees_sign s.Comma rest ≡ false → listed_from item (suc turns) found items ≡ Ok (found ++ x ∷ [], rest)
  unfolding listed_from eat_sign
  last_read turns found ts x items rest g takes behind none = rw (each ts x items rest g takes behind, none) refl

  listed_all : (turns : ℕ) {ls : List Lexeme} {xs : List A} → IsListed G ls xs → (found : List A) (items rest : List Item) → Takes items ls rest
      → IsClear rest → Behind rest → sees_sign s.Comma rest ≡ false → length items < turns
      → listed_from item turns found items ≡ Ok (found ++ xs, rest)
  listed_all zero g found items rest takes clear behind none enough = absurd (omega arith)
  listed_all (suc turns) (last {ts = ts} {x = x} g) found items rest takes clear behind none enough =
      last_read turns found ts x items rest g takes behind none
  listed_all (suc turns) (more {ts = ts} {us = us} {x = x} {xs = xs} g gs) found items rest takes clear behind none enough =
      let step = one_more turns found ts us x items rest g takes clear in
      let fewer = step.fewer in
      let all = listed_all turns gs (found ++ x ∷ []) step.behind rest step.takes clear behind none (omega arith) in
      step.turn ∙ all ∙ ap (λ found. Ok (found, rest)) (append_assoc found (x ∷ []) xs)

  pub listed_read : {ls : List Lexeme} {xs : List A} {items rest : List Item} → IsListed G ls xs → Takes items ls rest → IsClear rest → Behind rest
      → sees_sign s.Comma rest ≡ false → listed item items ≡ Ok (xs, rest)
  unfolding listed
  listed_read {items = items} {rest = rest} g takes clear behind none =
      listed_all (suc (length items)) g [] items rest takes clear behind none (omega arith)
