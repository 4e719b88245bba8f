use Rattle.std.proofs.Common.{◌≡◌, ℕ, List, [], ◌∷◌, ◌++◌, ◌∙◌, ap, codes, string_bytes, decimal, append_assoc}
use Rattle.std.proofs.lemmas.Result.{on_ok_weaker}
use Rattle.odb_model.specs.Print.{head_text}
use Rattle.odb_reply.proofs.print.put_two_numbers.Goals as goal

joined : (out head words first second : List ℕ)
    → (out ++ head) ++ (codes " " ++ (words ++ (first ++ (codes " " ++ (second ++ (10 ∷ [])))))) ≡ out ++ (head ++ codes " " ++ (words ++ first ++ codes " " ++ second) ++ 10 ∷ [])
joined out head words first second = simp append_assoc

pub returns : goal.returns
returns c =
    let words = codes " " ++ (c.args.words.now ++ (decimal c.args.first ++ (codes " " ++ (decimal c.args.second ++ (10 ∷ []))))) in
    on_ok_weaker {P = string_bytes c.writeln.new.self ≡ string_bytes c.put_head.new.out ++ words} c.writeln.result
    (λ written. written ∙ ap (λ b. b ++ words) c.in_ok-put_head.ensures ∙ joined (string_bytes c.args.out.now) (head_text c.args.head) c.args.words.now (decimal c.args.first) (decimal c.args.second)) c.writeln.ensures.bytes
