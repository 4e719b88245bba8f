-- Sums, tuples and assignments are read.
use Rattle.std.proofs.Common.{◌≡◌, ℕ, zero, suc, ◌<◌, true, false, List, [], ◌∷◌, ◌++◌, length, None, Ok, refl, ap, ◌∙◌, append_assoc, arith}
use Rattle.std.proofs.lemmas.List.{append-nil}
use Rattle.odb_values.specs.declared.value.Value.{Value}
use Rattle.odb_model.specs.declared.sign.Sign.TheVariants as s
use Rattle.odb_model.specs.declared.predicate.Operand.{Operand}
use Rattle.odb_model.specs.declared.statement.Term.{Term}
use Rattle.odb_model.specs.declared.statement.Expression.{Expression}
use Rattle.odb_model.specs.declared.statement.Assignment.{Assignment}
use Rattle.odb_model.specs.Lexeme.{Lexeme, Symbol}
use Rattle.odb_model.specs.Grammar.{IsListed, IsLiteral, IsOperand, AreTerms, none, plus, minus, IsExpression, IsTuple, IsAssignment}
use Rattle.odb_model.specs.Grammar as grammar
use Rattle.odb_parse.specs.Codes.{Item, Stands}
use Rattle.odb_parse.specs.Items.{kind_in}
use Rattle.odb_parse.specs.Reading.{skip, same_sign}
use Rattle.odb_parse.specs.Sums.{literal, operand, adds, term, terms, terms_from, expression, tuple}
use Rattle.odb_parse.specs.Statements.{assignment}
use Rattle.odb_parse.proofs.Takes.{Takes, done, next, takes_split, takes_shorter}
use Rattle.odb_parse.proofs.Following.{IsClear, clear_front, sign_step, name_step, no_sign_at, stays}
use Rattle.odb_parse.proofs.TokensRead.{ReadsAll, literal_read, operand_read, listed_read}

-- what ends a sum
pub record IsSumEnd (items : List Item) : Type 0 where
  pub clear : IsClear items
  pub none : adds (kind_in items) ≡ None

terms_end : (turns : ℕ) (found : List Term) (rest : List Item) → adds (kind_in rest) ≡ None → terms_from (suc turns) found rest ≡ Ok (found ++ [], rest)
unfolding terms_from
terms_end turns found rest e = rw (e, append-nil) refl

terms_plus : (turns at : ℕ) (found : List Term) (x : Operand) (items mid : List Item) → IsClear items → operand items ≡ Ok (x, mid)
    → terms_from (suc turns) found (Stands (Symbol s.Plus) at ∷ items) ≡ terms_from turns (found ++ term false x ∷ []) mid
unfolding terms_from skip
terms_plus turns at found x items mid clear e = rw (clear.passes, e) refl

terms_minus : (turns at : ℕ) (found : List Term) (x : Operand) (items mid : List Item) → IsClear items → operand items ≡ Ok (x, mid)
    → terms_from (suc turns) found (Stands (Symbol s.Minus) at ∷ items) ≡ terms_from turns (found ++ term true x ∷ []) mid
unfolding terms_from skip
terms_minus turns at found x items mid clear e = rw (clear.passes, e) refl

terms_all : (turns : ℕ) {ls : List Lexeme} {xs : List Term} → AreTerms ls xs → (found : List Term) (items rest : List Item) → Takes items ls rest
    → IsSumEnd rest → length items < turns → terms_from turns found items ≡ Ok (found ++ xs, rest)
terms_all zero g found items rest takes end enough = absurd (omega arith)
terms_all (suc turns) none found items rest done end enough = terms_end turns found rest end.none
terms_all (suc turns) (plus {ts = ts} {us = us} {x = x} {terms = xs} g gs) found items rest (next {at = at} {items = behind} takes) end enough =
    let split = takes_split ts us behind rest takes in
    let shorter = takes_shorter split.front in
    let e = operand_read g split.front (clear_front split.back end.clear) in
    let all = terms_all turns gs (found ++ term false x ∷ []) split.mid rest split.back end (omega arith) in
    terms_plus turns at found x behind split.mid (clear_front takes end.clear) e ∙ all
    ∙ ap (λ found. Ok (found, rest)) (append_assoc found (term false x ∷ []) xs)
terms_all (suc turns) (minus {ts = ts} {us = us} {x = x} {terms = xs} g gs) found items rest (next {at = at} {items = behind} takes) end enough =
    let split = takes_split ts us behind rest takes in
    let shorter = takes_shorter split.front in
    let e = operand_read g split.front (clear_front split.back end.clear) in
    let all = terms_all turns gs (found ++ term true x ∷ []) split.mid rest split.back end (omega arith) in
    terms_minus turns at found x behind split.mid (clear_front takes end.clear) e ∙ all
    ∙ ap (λ found. Ok (found, rest)) (append_assoc found (term true x ∷ []) xs)

terms_read : {ls : List Lexeme} {xs : List Term} (items rest : List Item) → AreTerms ls xs → Takes items ls rest → IsSumEnd rest
    → terms items ≡ Ok (xs, rest)
unfolding terms
terms_read items rest g takes end = terms_all (suc (length items)) g [] items rest takes end (omega arith)

pub expression_read : {ls : List Lexeme} {e : Expression} {items rest : List Item} → IsExpression ls e → Takes items ls rest → IsSumEnd rest
    → expression items ≡ Ok (e, rest)
unfolding expression
expression_read {items = items} {rest = rest} (grammar.sum {ts = ts} {us = us} g gs) takes end =
    let split = takes_split ts us items rest takes in
    let first = operand_read g split.front (clear_front split.back end.clear) in
    rw (first, terms_read split.mid rest gs split.back end) refl

pub assignment_read : {ls : List Lexeme} {a : Assignment} {items rest : List Item} → IsAssignment ls a → Takes items ls rest → IsSumEnd rest
    → assignment items ≡ Ok (a, rest)
unfolding assignment
assignment_read (grammar.set free g) takes end =
    let column = name_step takes end.clear in
    let equal = sign_step column.takes end.clear in
    rw (column.reads, equal.reads, expression_read g equal.takes end) refl

pub literals_read : ReadsAll literal IsLiteral IsClear
literals_read ls x items rest g takes clear = literal_read g takes clear

pub tuple_read : {ls : List Lexeme} {vs : List Value} {items rest : List Item} → IsTuple ls vs → Takes items ls rest → IsClear rest
    → tuple items ≡ Ok (vs, rest)
unfolding tuple same_sign
tuple_read {rest = rest} (grammar.tuple {ts = ts} g) takes clear =
    let open_ = sign_step takes clear in
    let split = takes_split ts (Symbol s.Close ∷ []) open_.behind rest open_.takes in
    let close = sign_step split.back clear in
    let values =
    listed_read literal IsLiteral IsClear literals_read (λ items at. record { passes = refl }) g split.front (clear_front split.back clear)
    (clear_front split.back clear) (no_sign_at s.Comma split.back refl)
    in
    rw (open_.reads, values, close.reads, stays close.takes) refl
