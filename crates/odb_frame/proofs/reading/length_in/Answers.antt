use Rattle.std.proofs.Common.{sym, ◌∙◌, ap, arith}
use Rattle.byteorder.specs.Endian.{big_bytes}
use Rattle.odb_frame.proofs.Answering.{head_is}
use Rattle.odb_frame.proofs.reading.length_in.Goals as goal

pub returns : goal.returns
returns c = sym (ap (big_bytes 4) c.read_u32.ensures ∙ head_is c.args.head.now c.requires (λ i. omega (arith, c.type_inv.head i)))
