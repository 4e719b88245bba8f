use Rattle.std.proofs.Common.{◌≡◌, ◌∙◌, ◌+◌, ◌++◌, [], ◌∷◌, List, drop, ap, sym, rules}
use Rattle.odb_model.specs.declared.write.Write.{Write}
use Rattle.odb_model.specs.declared.reply.Reply.{Reply}
use Rattle.odb_model.specs.State.{State, after_writes, replay}
use Rattle.odb_model.specs.Meaning.{meaning}
use Rattle.odb_model.specs.Transaction.{table_keys, meaning_over, alone_replies, alone_writes}
use Rattle.odb_plain.proofs.Making.{after_writes-append}
use Rattle.odb_plain.proofs.Running.{replies-more, writes-more}
use Rattle.odb_plain.proofs.serial.alone.Goals as goal

pub loop-statement-preserved : goal.loop-statement-preserved
loop-statement-preserved c =
    let s = replay c.args.history.now in
    let sts = c.args.statements.now in
    let i = c.loop-statement.statement-index in
    let st = c.statement-item.result in
    let format = c.args.format in
    let ws : List Write = c.loop-statement.write_set.items in
    let told : List Reply = c.loop-statement.replies.items in
    let reply = c.in_ok-reply.reply in
    let writes : List Write = c.in_ok-reply.writes in
    let here : reply ≡ (meaning st c.loop-statement.rows (table_keys c.as_slice.result.now) format).reply = search rules in
    let made : writes ≡ (meaning st c.loop-statement.rows (table_keys c.as_slice.result.now) format).writes = search rules in
    let answered : reply ≡ (meaning_over st s ws format).reply =
    here ∙ ap (λ (x : State). (meaning st x (table_keys c.as_slice.result.now) format).reply) c.loop-statement.invariant.rows
    ∙ ap (λ (k : List Write). (meaning st (after_writes s ws) (table_keys k) format).reply) c.as_slice.ensures in
    let wrote : writes ≡ (meaning_over st s ws format).writes =
    made ∙ ap (λ (x : State). (meaning st x (table_keys c.as_slice.result.now) format).writes) c.loop-statement.invariant.rows
    ∙ ap (λ (k : List Write). (meaning st (after_writes s ws) (table_keys k) format).writes) c.as_slice.ensures in
    let replies : c.push.new.self.items ≡ told ++ reply ∷ [] = search rules in
    let set : c.append.new.self.items ≡ ws ++ writes = search rules in
    let rows : c.put_all.new.rows ≡ after_writes c.loop-statement.rows writes = search rules in
    record {
      rows = rows ∙ ap (λ (x : State). after_writes x writes) c.loop-statement.invariant.rows ∙ sym (ap (after_writes s) set ∙ after_writes-append s ws writes);
      replies = ap (λ (l : List Reply). l ++ alone_replies s c.append.new.self.items (drop (i + 1) sts) format) replies
          ∙ ap (λ (l : List Write). (told ++ reply ∷ []) ++ alone_replies s l (drop (i + 1) sts) format) set
          ∙ replies-more s format sts i st c.loop-statement-test.true c.statement-item.is ws writes wrote told (alone_replies s [] sts format) reply answered c.loop-statement.invariant.replies;
      writes = ap (λ (l : List Write). alone_writes s l (drop (i + 1) sts) format) set
          ∙ writes-more s format sts i st c.loop-statement-test.true c.statement-item.is ws writes wrote (alone_writes s [] sts format) c.loop-statement.invariant.writes;
      none_spare = search rules;
    }
