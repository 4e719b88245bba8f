use Rattle.std.proofs.Common.{rules, ◌-◌, suc, length, sym, ap, arith}
use Rattle.std.proofs.lemmas.Grind.{common_steps}
use Rattle.odb_parse.specs.Statements.{columns, columns_from}
use Rattle.odb_parse.proofs.Shorter.{one_turn, sign_expected}
use Rattle.odb_parse.proofs.columns.columns.Goals as goal

pub more-init : goal.more-init
unfolding columns
more-init c =
    let t = c.args.tokens.now in
    (suc (length t), omega arith, omega arith, ap (λ vs. columns_from (suc (length t)) vs t) (sym c.new-columns.ensures.items))

pub returns-in_err-column : goal.returns-in_err-column
unfolding columns_from
returns-in_err-column c =
    let inv = c.more.invariant in
    let e = one_turn (λ n. columns_from n c.more.columns.items c.more.tokens) _ inv.0 (length c.more.tokens) inv.1 inv.3 in
    first_of (search rules, grind (arith, common_steps))

pub returns-in_err-expect_sign : goal.returns-in_err-expect_sign
unfolding columns_from
returns-in_err-expect_sign c =
    let inv = c.more.invariant in
    let e = one_turn (λ n. columns_from n c.more.columns.items c.more.tokens) _ inv.0 (length c.more.tokens) inv.1 inv.3 in
    first_of (search rules, grind (arith, common_steps))

pub returns-in_err-eat_word : goal.returns-in_err-eat_word
unfolding columns_from
returns-in_err-eat_word c =
    let inv = c.more.invariant in
    let e = one_turn (λ n. columns_from n c.more.columns.items c.more.tokens) _ inv.0 (length c.more.tokens) inv.1 inv.3 in
    first_of (search rules, grind (arith, common_steps))

pub returns-then-branch : goal.returns-then-branch
unfolding columns_from
returns-then-branch c =
    let inv = c.more.invariant in
    let e = one_turn (λ n. columns_from n c.more.columns.items c.more.tokens) _ inv.0 (length c.more.tokens) inv.1 inv.3 in
    let a = c.in_ok-column.ensures.reads.1 in
    let b = c.in_ok-expect_sign.ensures.reads.1 in
    let d = c.in_ok-eat_word.ensures.reads.1 in
    let before = inv.2 in
    record { reads = (first_of (search rules, grind (arith, common_steps)), omega arith) }

pub more-smaller : goal.more-smaller
more-smaller c =
    let a = c.in_ok-column.ensures.reads.1 in
    let b = sign_expected _ _ _ _ c.in_ok-expect_sign.ensures.reads.0 in
    let d = c.in_ok-eat_word.ensures.reads.1 in
    omega arith

pub more-preserved : goal.more-preserved
unfolding columns_from
more-preserved c =
    let a = c.in_ok-column.ensures.reads.1 in
    let b = sign_expected _ _ _ _ c.in_ok-expect_sign.ensures.reads.0 in
    let d = c.in_ok-eat_word.ensures.reads.1 in
    let inv = c.more.invariant in
    let e = one_turn (λ n. columns_from n c.more.columns.items c.more.tokens) _ inv.0 (length c.more.tokens) inv.1 inv.3 in
    (inv.0 - 1, omega arith, omega arith, first_of (search rules, grind (arith, common_steps)))
