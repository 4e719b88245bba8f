use Rattle.std.proofs.Common.{◌≡◌, ℕ, List, [], ◌∷◌, ◌++◌, ◌∙◌, ap, codes, string_bytes, decimal, append_assoc}
use Rattle.std.proofs.lemmas.Result.{on_ok_weaker}
use Rattle.odb_model.specs.Print.{head_text, phase_text}
use Rattle.odb_reply.proofs.print.put_phase.Goals as goal

joined : (out head file name : List ℕ)
    → (out ++ head) ++ (codes " REFUSED PHASE " ++ (file ++ (codes " " ++ (name ++ (10 ∷ []))))) ≡ out ++ (head ++ codes " " ++ (codes "REFUSED PHASE " ++ file ++ codes " " ++ name) ++ 10 ∷ [])
joined out head file name = simp append_assoc

abbrev words_of : List ℕ → List ℕ → List ℕ
words_of file name = codes " REFUSED PHASE " ++ (file ++ (codes " " ++ (name ++ (10 ∷ []))))

pub returns : goal.returns
returns c =
    let file = decimal c.args.file in
    on_ok_weaker {P = string_bytes c.writeln.new.self ≡ string_bytes c.put_head.new.out ++ words_of file c.phase_name-name.result.now} c.writeln.result
    (λ written. written ∙ ap (λ n. string_bytes c.put_head.new.out ++ words_of file n) c.phase_name-name.ensures
    ∙ ap (λ b. b ++ words_of file (phase_text c.args.name)) c.in_ok-put_head.ensures
    ∙ joined (string_bytes c.args.out.now) (head_text c.args.head) file (phase_text c.args.name)) c.writeln.ensures.bytes
