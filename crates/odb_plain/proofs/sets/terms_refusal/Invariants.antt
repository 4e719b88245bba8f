use Rattle.std.proofs.Common.{◌≡◌, drop, map, option_map}
use Rattle.odb_model.specs.Binding.{first_refusal, term_refusal}
use Rattle.odb_plain.specs.Kinds.{kind_in}
use Rattle.odb_plain.proofs.sets.terms_refusal.Given as goal

-- the first refusal is that of the terms that are left
abbrev pub invariant-loop-term : goal.invariant-loop-term
invariant-loop-term l =
    first_refusal (term_refusal l.table.columns l.among_several (option_map kind_in l.kind)) (map (λ term. term.operand) (drop l.term-index l.terms))
    ≡ first_refusal (term_refusal l.table.columns l.among_several (option_map kind_in l.kind)) (map (λ term. term.operand) l.terms)
