use Rattle.std.proofs.Common.{refl}
use Rattle.std.proofs.lemmas.Bool.{false≢true}
use Rattle.odb_play.proofs.Digits.{number_found, number_none}
use Rattle.odb_play.proofs.number.number_at_front.Goals as goal

pub returns-then-not-is_short-clause-none : goal.returns-then-not-is_short-clause-none
returns-then-not-is_short-clause-none c =
    number_none c.args.bytes.now c.digit_count.result c.digit_count.ensures.digits c.digit_count.ensures.ends
    (λ short. absurd (false≢true (c.if-not-is_short.ensures.1 (rw c.split_at.ensures.front short))))

pub returns-clause-found : goal.returns-clause-found
returns-clause-found c =
    let short = c.if-not-is_short.ensures.0 refl in
    let found = number_found c.args.bytes.now c.digit_count.result c.digit_count.ensures.digits c.digit_count.ensures.ends (rw c.split_at.ensures.front at short) in
    rw (c.value_of.ensures, c.split_at.ensures.front, c.split_at.ensures.back) found
