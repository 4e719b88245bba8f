use Rattle.std.proofs.Common.{string_bytes, sym}
use Rattle.odb_lex.specs.Token.{value_in}
use Rattle.odb_lex.proofs.Spellings.{starts_reading, reads_piece, reads_last}
use Rattle.odb_lex.proofs.meaning.text_of.Goals as goal

pub loop-len-init : goal.loop-len-init
loop-len-init c = rw c.new-value.ensures.bytes (starts_reading c.args.token.now c.requires).start

pub utf8-requires : goal.utf8-requires
utf8-requires c =
    (reads_piece (value_in c.args.token.now) (string_bytes c.loop-len.value) c.loop-len.rest.now c.in-Some.len c.loop-len.invariant (sym c.in-Some.ensures.pair)).utf8

pub loop-len-preserved : goal.loop-len-preserved
loop-len-preserved c =
    rw (c.in_ok-push_str.ensures.bytes, c.utf8-2.ensures, c.split_at.ensures.back)
    (reads_piece (value_in c.args.token.now) (string_bytes c.loop-len.value) c.loop-len.rest.now c.in-Some.len c.loop-len.invariant (sym c.in-Some.ensures.pair)).after

pub utf8-requires-2 : goal.utf8-requires-2
utf8-requires-2 c =
    (reads_last (value_in c.args.token.now) (string_bytes c.loop-len.value) c.loop-len.rest.now c.loop-len.invariant (sym c.in_default.ensures.pair)).utf8

pub returns : goal.returns
returns c =
    rw (c.in_ok-push_str-2.ensures.bytes, c.utf8-2.ensures)
    (reads_last (value_in c.args.token.now) (string_bytes c.loop-len.value) c.loop-len.rest.now c.loop-len.invariant (sym c.in_default.ensures.pair)).all
