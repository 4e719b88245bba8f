use Rattle.std.proofs.Common.{◌≡◌, ℕ, ◌+◌, ◌-◌, ◌<◌, ◌++◌, [], ◌∷◌, List, Bool, true, false, Option, Some, None, is_some, is_none, cond, refl, map, sym, ap, ◌∙◌, arith}
use Rattle.std.specs.List.{filter, range_with_len}
use Rattle.std.proofs.lemmas.Bool.Decides.{nat_tests}
use Rattle.std.proofs.lemmas.Result.{IfOk-weaker}
use Rattle.odb_values.specs.declared.value.Value.{Value}
use Rattle.odb_model.specs.Table.{value_at, place_in}
use Rattle.odb_plain.proofs.Outside.{outside, outside-passed, outside-more}
use Rattle.odb_plain.proofs.columns.+put_outside.Goals as goal

some_none : (o : Option ℕ) (b : Bool) → is_some o ≡ b → is_none o ≡ cond b false true
some_none None true e = cc
some_none None false e = refl
some_none (Some n) true e = refl
some_none (Some n) false e = cc

pub returns-then-is_some : goal.returns-then-is_some
returns-then-is_some t c =
    let f = value_at c.args.values.now in
    let p = λ (place : ℕ). is_none (place_in c.args.table.now.key place) in
    let row : List Value = c.args.row.now.items in
    let from = c.args.from in
    let count = c.args.count in
    let some : 0 < count = grind (arith, nat_tests) in
    let test : is_some (place_in c.args.table.now.key from) ≡ true = ap is_some (sym c.place_in_key.ensures) ∙ sym c.is_some.ensures ∙ c.if-is_some.true in
    let more = outside-passed f p row from count some (some_none (place_in c.args.table.now.key from) true test) in
    IfOk-weaker c.put_outside.result (λ _. c.put_outside.new.row.items ≡ row ++ outside f p row from count some (range_with_len (from + 1) (count - 1)))
    (λ _. c.put_outside.new.row.items ≡ row ++ outside f p row from count some (range_with_len from count))
    (λ _ e. e ∙ more) c.put_outside.ensures

pub returns : goal.returns
returns t c =
    let f = value_at c.args.values.now in
    let p = λ (place : ℕ). is_none (place_in c.args.table.now.key place) in
    let row : List Value = c.args.row.now.items in
    let from = c.args.from in
    let count = c.args.count in
    let some : 0 < count = grind (arith, nat_tests) in
    let test : is_some (place_in c.args.table.now.key from) ≡ false = ap is_some (sym c.place_in_key.ensures) ∙ sym c.is_some.ensures ∙ c.if-is_some.false in
    let rest : List Value = outside f p row from count some (range_with_len (from + 1) (count - 1)) in
    let pushed : c.push.new.self.items ≡ row ++ f from ∷ [] = c.in_ok-push.ensures.items ∙ ap (λ (v : Value). row ++ v ∷ []) c.in_ok-value_at.ensures in
    let more = ap (λ (l : List Value). l ++ rest) pushed ∙ outside-more f p row from count some (some_none (place_in c.args.table.now.key from) false test) in
    IfOk-weaker c.put_outside-2.result (λ _. c.put_outside-2.new.row.items ≡ c.push.new.self.items ++ rest)
    (λ _. c.put_outside-2.new.row.items ≡ row ++ outside f p row from count some (range_with_len from count))
    (λ _ e. e ∙ more) c.put_outside-2.ensures
