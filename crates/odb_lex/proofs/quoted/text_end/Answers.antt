use Rattle.std.proofs.Common.{◌+◌, ◌-◌, sym, ap, ◌∙◌, arith}
use Rattle.odb_lex.specs.Quoted.{text_end}
use Rattle.odb_lex.proofs.Pieces.{goes_on, wrong_on, wrong_last, open_last, end_last}
use Rattle.odb_lex.proofs.quoted.text_end.Goals as goal

pub returns-in-Some-first_wrong : goal.returns-in-Some-first_wrong
returns-in-Some-first_wrong c =
    sym (wrong_on c.args.first c.loop-len.most c.loop-len.place c.in-Some.len c.in-Some-first_wrong.wrong c.loop-len.rest.now (sym c.in-Some.ensures.pair) c.in-Some-first_wrong.ensures)
    ∙ c.loop-len.invariant.same

pub loop-len-preserved : goal.loop-len-preserved
loop-len-preserved c =
    let on = goes_on c.args.first c.loop-len.most c.loop-len.place c.in-Some.len c.loop-len.rest.now (sym c.in-Some.ensures.pair) c.in_default-first_wrong.ensures in
    record {
      left = omega arith;
      same = ap (text_end c.args.first (c.loop-len.most - (c.in-Some.len + 1)) (c.loop-len.place + (c.in-Some.len + 2))) c.split_at.ensures.back ∙ on.same ∙ c.loop-len.invariant.same;
    }

pub returns-in-Some-first_wrong-2 : goal.returns-in-Some-first_wrong-2
returns-in-Some-first_wrong-2 c =
    sym (wrong_last c.args.first c.loop-len.most c.loop-len.place c.unquoted_len-len.result c.in-Some-first_wrong-2.wrong c.loop-len.rest.now (sym c.in_default.ensures.pair) c.unquoted_len-len.ensures.len c.in-Some-first_wrong-2.ensures)
    ∙ c.loop-len.invariant.same

pub returns-then-len-rest : goal.returns-then-len-rest
returns-then-len-rest c =
    sym (open_last c.args.first c.loop-len.most c.loop-len.place c.unquoted_len-len.result c.loop-len.rest.now (sym c.in_default.ensures.pair) c.unquoted_len-len.ensures.len c.in_default-first_wrong-2.ensures c.if-len-rest.true)
    ∙ c.loop-len.invariant.same

pub returns : goal.returns
returns c =
    sym (end_last c.args.first c.loop-len.most c.loop-len.place c.unquoted_len-len.result c.loop-len.rest.now (sym c.in_default.ensures.pair) c.unquoted_len-len.ensures.len c.in_default-first_wrong-2.ensures c.if-len-rest.false)
    ∙ c.loop-len.invariant.same
