use Rattle.std.proofs.Common.{◌≡◌, ℕ, List, ◌++◌, ◌∙◌, ap, codes, string_bytes, decimal, flat_map, append_assoc}
use Rattle.std.proofs.lemmas.Result.{on_ok_weaker}
use Rattle.odb_model.specs.declared.phase.CopyLine.{CopyLine}
use Rattle.odb_model.specs.Print.{line_of, sides_words, log_words, copy_words}
use Rattle.odb_reply.proofs.state.put_state.Goals as goal

joined : (out number sides log copies : List ℕ) → (((out ++ number) ++ sides) ++ log) ++ copies ≡ out ++ (number ++ sides ++ log ++ copies)
joined out number sides log copies = simp append_assoc

whole : (all logged sided numbered out number sides log copies : List ℕ) → all ≡ logged ++ copies → logged ≡ sided ++ log → sided ≡ numbered ++ sides → numbered ≡ out ++ number
    → all ≡ out ++ (number ++ sides ++ log ++ copies)
whole all logged sided numbered out number sides log copies e f g h =
    let parts : all ≡ (((out ++ number) ++ sides) ++ log) ++ copies = cc in
    parts ∙ joined out number sides log copies

pub returns : goal.returns
returns c =
    let state = c.args.state.now in
    let head = c.args.head in
    let lines = λ (copies : List CopyLine). flat_map (λ x. line_of head (copy_words x)) copies in
    on_ok_weaker {P = string_bytes c.put_copies.new.out ≡ string_bytes c.put_log.new.out ++ lines c.as_slice.result.now} c.put_copies.result
    (λ written. whole (string_bytes c.put_copies.new.out) (string_bytes c.put_log.new.out) (string_bytes c.put_sides.new.out) (string_bytes c.put_number_line.new.out) (string_bytes c.args.out.now)
    (line_of head (codes "NUMBER " ++ decimal state.number)) (line_of head (sides_words state)) (line_of head (log_words state.log)) (lines state.copies)
    (written ∙ ap (λ copies. string_bytes c.put_log.new.out ++ lines copies) c.as_slice.ensures)
    c.in_ok-put_log.ensures c.in_ok-put_sides.ensures c.in_ok-put_number_line.ensures) c.put_copies.ensures
