use Rattle.std.proofs.Common.{rules, ◌≡◌, ◌-◌, length, arith}
use Rattle.std.proofs.lemmas.Grind.{common_steps}
use Rattle.odb_parse.specs.Predicates.{negation, conjunction, ands_from, ors_from}
use Rattle.odb_parse.specs.Items.{kind_in}
use Rattle.odb_parse.specs.declared.kind.Kind.TheVariants as kind
use Rattle.odb_model.specs.declared.sign.Sign.TheVariants as s
use Rattle.odb_parse.proofs.Rooms.{negation_some, negation_opens}
use Rattle.odb_parse.proofs.Shorter.{one_turn, word_eaten}
use Rattle.odb_parse.proofs.predicates.+predicate.Goals as goal

pub conjunction-returns-in_err-eat_word : goal.conjunction-returns-in_err-eat_word
unfolding ands_from
conjunction-returns-in_err-eat_word t c =
    let inv = c.ands.invariant in
    let e = one_turn (λ n. ands_from (negation c.args.room) n c.ands.all c.ands.tokens) _ inv.0 (length c.ands.tokens) inv.1 inv.3 in
    first_of (search rules, grind (arith, common_steps))

pub conjunction-returns-in_err-negation : goal.conjunction-returns-in_err-negation
unfolding ands_from
conjunction-returns-in_err-negation t c =
    let inv = c.ands.invariant in
    let e = one_turn (λ n. ands_from (negation c.args.room) n c.ands.all c.ands.tokens) _ inv.0 (length c.ands.tokens) inv.1 inv.3 in
    first_of (search rules, grind (arith, common_steps))

pub conjunction-returns : goal.conjunction-returns
unfolding ands_from
conjunction-returns t c =
    let inv = c.ands.invariant in
    let e = one_turn (λ n. ands_from (negation c.args.room) n c.ands.all c.ands.tokens) _ inv.0 (length c.ands.tokens) inv.1 inv.3 in
    let last = c.in_ok-eat_word.ensures.reads.1 in
    let before = inv.2 in
    record { reads = (first_of (search rules, grind (arith, common_steps)), omega arith) }

pub conjunction-ands-smaller : goal.conjunction-ands-smaller
conjunction-ands-smaller t c =
    let a = c.in_ok-negation.ensures.reads.1 in
    let b = word_eaten _ _ _ _ c.if-branch.true c.in_ok-eat_word.ensures.reads.0 in
    omega arith

pub conjunction-ands-preserved : goal.conjunction-ands-preserved
unfolding ands_from
conjunction-ands-preserved t c =
    let a = c.in_ok-negation.ensures.reads.1 in
    let b = word_eaten _ _ _ _ c.if-branch.true c.in_ok-eat_word.ensures.reads.0 in
    let inv = c.ands.invariant in
    let e = one_turn (λ n. ands_from (negation c.args.room) n c.ands.all c.ands.tokens) _ inv.0 (length c.ands.tokens) inv.1 inv.3 in
    (inv.0 - 1, omega arith, omega arith, first_of (search rules, grind (arith, common_steps)))

pub negation-returns-in_err-inner-in-Symbol-Open : goal.negation-returns-in_err-inner-in-Symbol-Open
negation-returns-in_err-inner-in-Symbol-Open t c =
    let opens : kind_in c.args.tokens.now ≡ kind.Symbol s.Open = cc in
    let e = negation_opens c.args.room c.args.tokens.now c.if-room-eq0.false opens in
    first_of (search rules, grind (arith, common_steps))

pub negation-returns-in_err-expect_sign-in-Symbol-Open : goal.negation-returns-in_err-expect_sign-in-Symbol-Open
negation-returns-in_err-expect_sign-in-Symbol-Open t c =
    let opens : kind_in c.args.tokens.now ≡ kind.Symbol s.Open = cc in
    let e = negation_opens c.args.room c.args.tokens.now c.if-room-eq0.false opens in
    first_of (search rules, grind (arith, common_steps))

pub negation-returns-in_ok-expect_sign-in-Symbol-Open : goal.negation-returns-in_ok-expect_sign-in-Symbol-Open
negation-returns-in_ok-expect_sign-in-Symbol-Open t c =
    let opens : kind_in c.args.tokens.now ≡ kind.Symbol s.Open = cc in
    let e = negation_opens c.args.room c.args.tokens.now c.if-room-eq0.false opens in
    first_of (search rules, grind (arith, common_steps))

pub negation-returns-in_default : goal.negation-returns-in_default
negation-returns-in_default t c =
    let e = negation_some c.args.room c.args.tokens.now c.if-room-eq0.false in
    first_of (search rules, grind (arith, common_steps))

pub predicate-returns-in_err-eat_word : goal.predicate-returns-in_err-eat_word
unfolding ors_from
predicate-returns-in_err-eat_word t c =
    let inv = c.ors.invariant in
    let e = one_turn (λ n. ors_from (conjunction c.args.room) n c.ors.all c.ors.tokens) _ inv.0 (length c.ors.tokens) inv.1 inv.3 in
    first_of (search rules, grind (arith, common_steps))

pub predicate-returns-in_err-conjunction : goal.predicate-returns-in_err-conjunction
unfolding ors_from
predicate-returns-in_err-conjunction t c =
    let inv = c.ors.invariant in
    let e = one_turn (λ n. ors_from (conjunction c.args.room) n c.ors.all c.ors.tokens) _ inv.0 (length c.ors.tokens) inv.1 inv.3 in
    first_of (search rules, grind (arith, common_steps))

pub predicate-returns : goal.predicate-returns
unfolding ors_from
predicate-returns t c =
    let inv = c.ors.invariant in
    let e = one_turn (λ n. ors_from (conjunction c.args.room) n c.ors.all c.ors.tokens) _ inv.0 (length c.ors.tokens) inv.1 inv.3 in
    let last = c.in_ok-eat_word.ensures.reads.1 in
    let before = inv.2 in
    record { reads = (first_of (search rules, grind (arith, common_steps)), omega arith) }

pub predicate-ors-smaller : goal.predicate-ors-smaller
predicate-ors-smaller t c =
    let a = c.in_ok-conjunction.ensures.reads.1 in
    let b = word_eaten _ _ _ _ c.if-branch.true c.in_ok-eat_word.ensures.reads.0 in
    omega arith

pub predicate-ors-preserved : goal.predicate-ors-preserved
unfolding ors_from
predicate-ors-preserved t c =
    let a = c.in_ok-conjunction.ensures.reads.1 in
    let b = word_eaten _ _ _ _ c.if-branch.true c.in_ok-eat_word.ensures.reads.0 in
    let inv = c.ors.invariant in
    let e = one_turn (λ n. ors_from (conjunction c.args.room) n c.ors.all c.ors.tokens) _ inv.0 (length c.ors.tokens) inv.1 inv.3 in
    (inv.0 - 1, omega arith, omega arith, first_of (search rules, grind (arith, common_steps)))
