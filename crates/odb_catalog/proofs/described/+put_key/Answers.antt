use Rattle.std.proofs.Common.{◌≡◌, ◌<◌, ◌+◌, ◌-◌, ◌++◌, List, ℕ, map, Some, sym, ap, ◌∙◌, arith}
use Rattle.std.specs.List.{filter_map, range_with_len}
use Rattle.std.proofs.lemmas.Bool.Decides.{nat_tests}
use Rattle.std.proofs.lemmas.Result.{IfOk-weaker}
use Rattle.odb_model.specs.Table.{place_in}
use Rattle.odb_catalog.proofs.Rows.{key_more}
use Rattle.odb_catalog.proofs.described.+put_key.Goals as goal

pub returns-in_ok-push-in-Some : goal.returns-in_ok-push-in-Some
returns-in_ok-push-in-Some t c =
    let places : List ℕ = map (λ d. d.key_place) c.args.columns.now in
    let from = c.args.from in
    let count = c.args.count in
    let rest : List ℕ = filter_map (place_in places) (range_with_len (from + 1) (count - 1)) in
    let some : 0 < count = grind (arith, nat_tests) in
    let found : place_in places from ≡ Some c.in-Some.place = sym c.place_with.ensures.place ∙ c.in-Some.is in
    let more : c.push.new.self.items ++ rest ≡ c.args.key.now.items ++ filter_map (place_in places) (range_with_len from count) =
    ap (λ (ys : List ℕ). ys ++ rest) c.in_ok-push-in-Some.ensures.items ∙ key_more (place_in places) c.args.key.now.items from count c.in-Some.place some found in
    IfOk-weaker c.put_key-in-Some.result (λ _. c.put_key-in-Some.new.key.items ≡ c.push.new.self.items ++ rest)
    (λ _. c.put_key-in-Some.new.key.items ≡ c.args.key.now.items ++ filter_map (place_in places) (range_with_len from count))
    (λ _ e. e ∙ more) c.put_key-in-Some.ensures
