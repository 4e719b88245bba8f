use Rattle.odb_lex.proofs.Stretches.{digits_at}
use Rattle.odb_lex.proofs.next.number_at.Goals as goal

pub capped_value-requires : goal.capped_value-requires
capped_value-requires c = digits_at c.args.text.now c.args.from c.digit_len.result c.digit_len.ensures.len
