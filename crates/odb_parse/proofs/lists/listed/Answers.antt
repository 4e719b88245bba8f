use Rattle.std.proofs.Common.{rules, ◌-◌, suc, length, sym, ap, arith}
use Rattle.std.proofs.lemmas.Grind.{common_steps}
use Rattle.odb_parse.specs.Sums.{listed, listed_from}
use Rattle.odb_parse.proofs.Shorter.{one_turn, sign_eaten}
use Rattle.odb_parse.proofs.lists.listed.Goals as goal

pub more-init : goal.more-init
unfolding listed
more-init g c =
    let t = c.args.tokens.now in
    (suc (length t), omega arith, omega arith, ap (λ vs. listed_from g.T.ListItem.reader (suc (length t)) vs t) (sym c.new-items.ensures.items))

pub returns-in_err-read : goal.returns-in_err-read
unfolding listed_from
returns-in_err-read g c =
    let inv = c.more.invariant in
    let e = one_turn (λ n. listed_from g.T.ListItem.reader n c.more.items.items c.more.tokens) _ inv.0 (length c.more.tokens) inv.1 inv.3 in
    first_of (search rules, grind (arith, common_steps))

pub returns-in_err-eat_sign : goal.returns-in_err-eat_sign
unfolding listed_from
returns-in_err-eat_sign g c =
    let inv = c.more.invariant in
    let e = one_turn (λ n. listed_from g.T.ListItem.reader n c.more.items.items c.more.tokens) _ inv.0 (length c.more.tokens) inv.1 inv.3 in
    first_of (search rules, grind (arith, common_steps))

pub returns-then-not-branch : goal.returns-then-not-branch
unfolding listed_from
returns-then-not-branch g c =
    let inv = c.more.invariant in
    let e = one_turn (λ n. listed_from g.T.ListItem.reader n c.more.items.items c.more.tokens) _ inv.0 (length c.more.tokens) inv.1 inv.3 in
    let a = c.in_ok-read.ensures.reads.1 in
    let b = c.in_ok-eat_sign.ensures.reads.1 in
    let before = inv.2 in
    record { reads = (first_of (search rules, grind (arith, common_steps)), omega arith) }

pub more-smaller : goal.more-smaller
more-smaller g c =
    let a = c.in_ok-read.ensures.reads.1 in
    let b = sign_eaten _ _ _ _ c.if-not-branch.false c.in_ok-eat_sign.ensures.reads.0 in
    omega arith

pub more-preserved : goal.more-preserved
unfolding listed_from
more-preserved g c =
    let a = c.in_ok-read.ensures.reads.1 in
    let b = sign_eaten _ _ _ _ c.if-not-branch.false c.in_ok-eat_sign.ensures.reads.0 in
    let inv = c.more.invariant in
    let e = one_turn (λ n. listed_from g.T.ListItem.reader n c.more.items.items c.more.tokens) _ inv.0 (length c.more.tokens) inv.1 inv.3 in
    (inv.0 - 1, omega arith, omega arith, first_of (search rules, grind (arith, common_steps)))
