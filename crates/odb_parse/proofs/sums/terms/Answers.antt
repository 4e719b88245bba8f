use Rattle.std.proofs.Common.{◌≡◌, ◌≢◌, Bool, Some, None, ◌∙◌, rules, ◌-◌, suc, length, sym, ap, arith}
use Rattle.std.proofs.lemmas.Grind.{common_steps}
use Rattle.odb_parse.specs.Sums.{adds, terms, terms_from}
use Rattle.odb_parse.specs.declared.kind.Kind.{Kind}
use Rattle.odb_parse.specs.declared.kind.Kind.TheVariants as kind
use Rattle.odb_parse.proofs.Shorter.{one_turn}
use Rattle.odb_parse.proofs.sums.terms.Goals as goal

pub more-init : goal.more-init
unfolding terms
more-init c =
    let t = c.args.tokens.now in
    (suc (length t), omega arith, omega arith, ap (λ vs. terms_from (suc (length t)) vs t) (sym c.new-terms.ensures.items))

pub returns-in_err-skip : goal.returns-in_err-skip
unfolding terms_from
returns-in_err-skip c =
    let inv = c.more.invariant in
    let e = one_turn (λ n. terms_from n c.more.terms.items c.more.tokens) _ inv.0 (length c.more.tokens) inv.1 inv.3 in
    first_of (search rules, grind (arith, common_steps))

pub returns-in_err-operand : goal.returns-in_err-operand
unfolding terms_from
returns-in_err-operand c =
    let inv = c.more.invariant in
    let e = one_turn (λ n. terms_from n c.more.terms.items c.more.tokens) _ inv.0 (length c.more.tokens) inv.1 inv.3 in
    first_of (search rules, grind (arith, common_steps))

pub returns : goal.returns
unfolding terms_from
returns c =
    let inv = c.more.invariant in
    let e = one_turn (λ n. terms_from n c.more.terms.items c.more.tokens) _ inv.0 (length c.more.tokens) inv.1 inv.3 in
    record { reads = (first_of (search rules, grind (arith, common_steps)), inv.2) }

adds_some : (k : Kind) (minus : Bool) → adds k ≡ Some minus → k ≢ kind.Nothing
adds_some k minus e = λ is. let none : None ≡ Some minus = sym (ap adds is) ∙ e in cc

pub more-preserved : goal.more-preserved
unfolding terms_from
more-preserved c =
    let a = c.in_ok-operand.ensures.reads.1 in
    let b = c.in_ok-skip.ensures.shorter in
    let less = b.fewer (adds_some _ _ (ap adds (sym c.peek.ensures) ∙ sym c.adds.ensures ∙ c.in-Some.is)) in
    let inv = c.more.invariant in
    let e = one_turn (λ n. terms_from n c.more.terms.items c.more.tokens) _ inv.0 (length c.more.tokens) inv.1 inv.3 in
    (inv.0 - 1, omega (arith, less), omega (arith, b.most), first_of (search rules, grind (arith, common_steps)))
