use Rattle.std.proofs.Common.{◌≡◌, rules}
use Rattle.odb_model.specs.Print.{reply_text}
use Rattle.odb_reply.proofs.Telling.{told_front}
use Rattle.odb_reply.proofs.print.print_reply.Goals as goal

pub returns-clause-tells : goal.returns-clause-tells
returns-clause-tells c front rest k cut told =
    let text : c.from_vec.result ≡ reply_text c.args.head c.args.reply.now = search rules in
    told_front c.args.head c.args.reply.now c.from_vec.result front rest k c.in_ok-put_reply.ensures.tellable text cut told
