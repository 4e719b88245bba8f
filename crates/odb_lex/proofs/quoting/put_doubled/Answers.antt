use Rattle.std.proofs.Common.{lit<, rules, arith}
use Rattle.std.proofs.lemmas.Grind.{common_steps}
use Rattle.std.proofs.lemmas.Str.Pattern.{split_parts}
use Rattle.odb_lex.proofs.Pieces.{doubled_none}
use Rattle.odb_lex.proofs.Doubling.{doubled_goes_on}
use Rattle.odb_lex.proofs.quoting.put_doubled.Goals as goal

pub loop-piece-preserved : goal.loop-piece-preserved
loop-piece-preserved c =
    let parts = split_parts 39 c.loop-piece.rest.now c.split_once.result c.split_once.ensures.cases (lit< tt) in
    let cut = rw c.in-Some.is at parts in
    let on = doubled_goes_on _ _ c.loop-piece.rest.now c.in-Some.piece.now c.in-Some.after.now c.loop-piece.invariant.1 cut.0 cut.1 in
    (search rules, cc (on, c.in_ok-push_str.ensures.bytes, c.in_ok-push_str-2.ensures.bytes))

pub returns : goal.returns
returns c =
    let parts = split_parts 39 c.loop-piece.rest.now c.split_once.result c.split_once.ensures.cases (lit< tt) in
    let none = rw c.in_default.is at parts in
    let same = doubled_none c.loop-piece.rest.now none in
    grind (arith, common_steps, c.loop-piece.invariant.1, same)
