use Rattle.std.proofs.Common.{◌≡◌, ◌∙◌, ap, sym, subst}
use Rattle.odb_lex.specs.Written.{Appends}
use Rattle.odb_model.specs.declared.reply.Reply.{Reply}
use Rattle.odb_model.specs.declared.reply.Reply.TheVariants.{Limit}
use Rattle.odb_model.specs.Print.{reply_text}
use Rattle.odb_reply.proofs.print.put_reply.Goals as goal

pub returns-in-Full-clause-text : goal.returns-in-Full-clause-text
returns-in-Full-clause-text c =
    subst (λ (r : Reply). Appends c.put_two_numbers-in-Full.result c.args.out.now c.put_two_numbers-in-Full.new.out (reply_text c.args.head r)) (sym c.in-Full.is) c.put_two_numbers-in-Full.ensures

pub returns-in-NotClean-clause-text : goal.returns-in-NotClean-clause-text
returns-in-NotClean-clause-text c =
    subst (λ (r : Reply). Appends c.put_line-in-NotClean.result c.args.out.now c.put_line-in-NotClean.new.out (reply_text c.args.head r)) (sym c.in-NotClean.is) c.put_line-in-NotClean.ensures

pub returns-in-Held-clause-text : goal.returns-in-Held-clause-text
returns-in-Held-clause-text c =
    subst (λ (r : Reply). Appends c.put_two_numbers-in-Held.result c.args.out.now c.put_two_numbers-in-Held.new.out (reply_text c.args.head r)) (sym c.in-Held.is) c.put_two_numbers-in-Held.ensures

pub returns-in-LogFull-clause-text : goal.returns-in-LogFull-clause-text
returns-in-LogFull-clause-text c =
    subst (λ (r : Reply). Appends c.put_two_numbers-in-LogFull.result c.args.out.now c.put_two_numbers-in-LogFull.new.out (reply_text c.args.head r)) (sym c.in-LogFull.is) c.put_two_numbers-in-LogFull.ensures

pub returns-in-NotHeld-clause-text : goal.returns-in-NotHeld-clause-text
returns-in-NotHeld-clause-text c =
    subst (λ (r : Reply). Appends c.put_two_numbers-in-NotHeld.result c.args.out.now c.put_two_numbers-in-NotHeld.new.out (reply_text c.args.head r)) (sym c.in-NotHeld.is) c.put_two_numbers-in-NotHeld.ensures

pub returns-in-Limit-clause-text : goal.returns-in-Limit-clause-text
returns-in-Limit-clause-text c =
    let told : Appends c.put_number_line-in-Limit.result c.args.out.now c.put_number_line-in-Limit.new.out (reply_text c.args.head (Limit c.from-in-Limit.result)) = c.put_number_line-in-Limit.ensures in
    let same : Limit c.from-in-Limit.result ≡ c.args.reply.now = ap Limit c.from-in-Limit.ensures ∙ sym c.in-Limit.is in
    subst (λ (r : Reply). Appends c.put_number_line-in-Limit.result c.args.out.now c.put_number_line-in-Limit.new.out (reply_text c.args.head r)) same told
