use Rattle.std.proofs.Common.{◌≡◌, ◌≤◌, List, Bool, length, sym, ap, subst, ◌∙◌}
use Rattle.std.specs.List.{All}
use Rattle.odb_model.specs.declared.outcome.Read.{Read}
use Rattle.odb_model.specs.declared.intention.Intention.{Intention}
use Rattle.odb_model.specs.declared.table_key.TableKey.{TableKey}
use Rattle.odb_model.specs.Transaction.{read_at}
use Rattle.odb_model.specs.Meaning.{most_writes}
use Rattle.odb_rowsource.specs.Intentions.{AreIntentions, put_all}
use Rattle.odb_txn.specs.ReadSet.{AreOrdered, keep_all}
use Rattle.odb_txn.specs.Transaction.{Kept, writes_found_rows, own_with}
use Rattle.odb_txn.proofs.Keeping.{AreOrdered-keep_all}
use Rattle.odb_txn.proofs.Nets.{HasNarrowWrite, narrow-put_all, AreAscending-put_all}
use Rattle.odb_txn.proofs.transaction.Transaction.add.Goals as goal

pub invariant_of-self-2 : goal.invariant_of-self-2
invariant_of-self-2 c =
    let reads : c.put_all.new.self.items ≡ keep_all c.self.inside.reads.items (read_at c.args.number c.args.outcome.reads) =
    ap (λ p. p.items) c.put_all.ensures
    ∙ ap (λ (rs : List Read). keep_all rs (read_at c.args.number c.args.outcome.reads)) (ap (λ p. p.items) c.in_ok-reserve.ensures.ok) in
    let there : TableKey → Bool = λ _. writes_found_rows c.args.statement.now in
    let own : c.put_all-2.new.self.items ≡ put_all c.self.inside.own.items c.args.outcome.writes there =
    ap (λ p. p.items) c.put_all-2.ensures
    ∙ ap (λ (is : List Intention). put_all is c.args.outcome.writes (λ _. c.writes_found_rows.result)) (ap (λ p. p.items) c.in_ok-reserve-2.ensures.ok)
    ∙ ap (λ (b : Bool). put_all c.self.inside.own.items c.args.outcome.writes (λ _. b)) c.writes_found_rows.ensures in
    record {
      session = c.self.invariant.session;
      ordered = subst (λ (rs : List Read). AreOrdered rs) (sym reads)
          (AreOrdered-keep_all (read_at c.args.number c.args.outcome.reads) c.self.inside.reads.items c.self.invariant.ordered);
      intentions = subst (λ (is : List Intention). AreIntentions is) (sym own) (record {
        ascending = AreAscending-put_all c.args.outcome.writes c.self.inside.own.items there c.self.invariant.intentions.ascending;
        few = subst (λ (kept : Kept). length (own_with kept c.args.statement.now c.args.outcome) ≤ most_writes) (sym c.self.view_is) c.requires.few;
      });
      narrow = subst (λ (is : List Intention). All HasNarrowWrite is) (sym own)
          (narrow-put_all c.args.outcome.writes c.self.inside.own.items there c.requires.narrow c.self.invariant.narrow);
    }
