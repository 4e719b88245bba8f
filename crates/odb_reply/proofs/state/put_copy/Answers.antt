use Rattle.std.proofs.Common.{◌≡◌, ℕ, List, [], ◌∷◌, ◌++◌, ◌∙◌, codes, string_bytes, decimal, append_assoc}
use Rattle.std.proofs.lemmas.Result.{on_ok_weaker}
use Rattle.odb_model.specs.Print.{head_text, mark_text, phase_text}
use Rattle.odb_reply.proofs.state.put_copy.Goals as goal

abbrev words_of : List ℕ → List ℕ → List ℕ
words_of file bank = codes " FILE " ++ (file ++ (codes " BANK " ++ (bank ++ codes " MARK ")))

joined : (out head file bank mark phase : List ℕ)
    → (((out ++ head) ++ words_of file bank) ++ mark) ++ (codes " " ++ (phase ++ (10 ∷ [])))
    ≡ out ++ (head ++ codes " " ++ (codes "FILE " ++ file ++ codes " BANK " ++ bank ++ codes " MARK " ++ mark ++ codes " " ++ phase) ++ 10 ∷ [])
joined out head file bank mark phase = simp append_assoc

whole : (all marked filed headed name out head file bank mark phase : List ℕ) → all ≡ marked ++ (codes " " ++ (name ++ (10 ∷ []))) → marked ≡ filed ++ mark → filed ≡ headed ++ words_of file bank
    → headed ≡ out ++ head → name ≡ phase → all ≡ out ++ (head ++ codes " " ++ (codes "FILE " ++ file ++ codes " BANK " ++ bank ++ codes " MARK " ++ mark ++ codes " " ++ phase) ++ 10 ∷ [])
whole all marked filed headed name out head file bank mark phase e f g h i =
    let parts : all ≡ (((out ++ head) ++ words_of file bank) ++ mark) ++ (codes " " ++ (phase ++ (10 ∷ []))) = cc in
    parts ∙ joined out head file bank mark phase

pub returns : goal.returns
returns c =
    let copy = c.args.copy.now in
    on_ok_weaker {P = string_bytes c.writeln.new.self ≡ string_bytes c.put_mark.new.out ++ (codes " " ++ (c.phase_name-phase.result.now ++ (10 ∷ [])))} c.writeln.result
    (λ written. whole (string_bytes c.writeln.new.self) (string_bytes c.put_mark.new.out) (string_bytes c.write.new.self) (string_bytes c.put_head.new.out) c.phase_name-phase.result.now
    (string_bytes c.args.out.now) (head_text c.args.head) (decimal copy.file) (decimal copy.bank) (mark_text copy.mark) (phase_text copy.phase)
    written c.in_ok-put_mark.ensures c.in_ok-write.ensures.bytes c.in_ok-put_head.ensures c.phase_name-phase.ensures) c.writeln.ensures.bytes
