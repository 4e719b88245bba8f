use Rattle.std.proofs.Common.{◌≡◌, ℕ, ◌+◌, ◌<◌, List, ◌∙◌, ◌++◌, [], ◌∷◌, length, take, flat_map, get_or, string_bytes, ap, sym}
use Rattle.std.proofs.lemmas.List.{take_more, flat_map_more}
use Rattle.odb_model.specs.declared.phase.CopyLine.{CopyLine}
use Rattle.odb_model.specs.Print.{line_of, copy_words}
use Rattle.odb_reply.proofs.state.put_copies.Goals as goal

-- with the line of the next copy
one_more : (line : CopyLine → List ℕ) (out before new : List ℕ) (copies : List CopyLine) (i : ℕ) (d : CopyLine) → i < length copies → before ≡ out ++ flat_map line (take i copies)
    → new ≡ before ++ line (get_or copies i d) → new ≡ out ++ flat_map line (take (i + 1) copies)
one_more line out before new copies i d low so e =
    e ∙ ap (λ b. b ++ line (get_or copies i d)) so ∙ flat_map_more line out (take i copies) (get_or copies i d)
    ∙ ap (λ xs. out ++ flat_map line xs) (sym (take_more copies i d low))

pub loop-copy-preserved : goal.loop-copy-preserved
loop-copy-preserved c =
    one_more (λ x. line_of c.args.head (copy_words x)) (string_bytes c.args.out.now) _ _ c.args.copies.now c.loop-copy.copy-index _ c.loop-copy-test.true c.loop-copy.invariant c.in_ok-put_copy.ensures
