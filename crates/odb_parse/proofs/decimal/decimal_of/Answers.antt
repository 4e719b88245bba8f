use Rattle.std.proofs.Common.{refl}
use Rattle.std.proofs.lemmas.Bool.{false≢true}
use Rattle.odb_parse.proofs.Digits.{trimmed, found_of, none_of}
use Rattle.odb_parse.proofs.decimal.decimal_of.Goals as goal

pub returns-then-is_trimmed-clause-found : goal.returns-then-is_trimmed-clause-found
returns-then-is_trimmed-clause-found c =
    found_of c.args.bytes.now c.value_of.result (c.if-is_trimmed.ensures.0 refl) c.value_of.ensures.found

pub returns-then-is_trimmed-clause-none : goal.returns-then-is_trimmed-clause-none
returns-then-is_trimmed-clause-none c = none_of c.args.bytes.now c.value_of.result c.value_of.ensures.none

pub returns-else-is_trimmed-clause-none : goal.returns-else-is_trimmed-clause-none
returns-else-is_trimmed-clause-none c n few is = absurd (false≢true (c.if-is_trimmed.ensures.1 (trimmed c.args.bytes.now n few is)))
