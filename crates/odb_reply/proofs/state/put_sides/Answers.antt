use Rattle.std.proofs.Common.{◌≡◌, ℕ, List, [], ◌∷◌, ◌++◌, ◌∙◌, ap, codes, string_bytes, decimal, append_assoc}
use Rattle.std.proofs.lemmas.Result.{on_ok_weaker}
use Rattle.odb_model.specs.Print.{head_text, side_text}
use Rattle.odb_reply.proofs.state.put_sides.Goals as goal

abbrev words_of : List ℕ → List ℕ → List ℕ → List ℕ
words_of active other first = codes " TRANSDB " ++ (active ++ (codes " " ++ (other ++ (codes " " ++ (first ++ (10 ∷ []))))))

joined : (out head active other first : List ℕ)
    → (out ++ head) ++ words_of active other first ≡ out ++ (head ++ codes " " ++ (codes "TRANSDB " ++ active ++ codes " " ++ other ++ codes " " ++ first) ++ 10 ∷ [])
joined out head active other first = simp append_assoc

pub returns : goal.returns
returns c =
    let state = c.args.state.now in
    let active = decimal state.active in
    let first = decimal state.first in
    on_ok_weaker {P = string_bytes c.writeln.new.self ≡ string_bytes c.put_head.new.out ++ words_of active c.side_name-other.result.now first} c.writeln.result
    (λ written. written ∙ ap (λ o. string_bytes c.put_head.new.out ++ words_of active o first) c.side_name-other.ensures
    ∙ ap (λ b. b ++ words_of active (side_text state.other) first) c.in_ok-put_head.ensures
    ∙ joined (string_bytes c.args.out.now) (head_text c.args.head) active (side_text state.other) first) c.writeln.ensures.bytes
